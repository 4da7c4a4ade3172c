-- How far values with Q have come at a place, by the flush plan's marks.
use Rattle.std.specs.Prelude.{◌≡◌, ◌≤◌, ℕ, All, List}
use Rattle.disk_model.specs.Durability.{OnlyLeaves, OnlyLeavesOrDropped, OnlyLeavesOrOvertaken}
use Rattle.disk_model.specs.Steps.{Record}
use Rattle.flush_plan.specs.Plans.{Plan, marks_of}
use Rattle.flush_plan.specs.declared.records.Flush.{Flush}

-- a write of values with Q has completed well as the k-th of the plan, and each value that a crash may leave has Q or its
-- write was overtaken: a flush in flight that serves the k-th write drops those, and once one has completed well none are left
pub record Comes (plan : Plan) (told : Record) (pv sector k : ℕ) (Q : List ℕ → Type 0) : Type 0 where
  pub overtaken : OnlyLeavesOrOvertaken told pv sector Q
  pub dropped : All (λ (f : Flush). f.pv ≡ pv → k ≤ f.after → OnlyLeavesOrDropped told f.tag pv sector Q) plan.flushes
  pub stable : k ≤ (marks_of plan pv).stable → OnlyLeaves told pv sector Q
