-- How a plan orders the completions of a shelf in memory, holds some back, and fails them.
use Rattle.std.specs.Prelude.{◌≡◌, ◌<◌, ℕ, ◌+◌, ◌%◌, nat_le, nat_lt, Bool, true, false, not, ◌==◌, ◌&&◌, if◌then◌else◌, List, [], ◌∷◌}
use Rattle.std.specs.Prelude.{length, drop, filter, replicate, slice_index, AllPairs, Option, Some, None, is_none, unwrap_or, option_map}
use Rattle.std.specs.List.{list_any}
use Rattle.disk_model.specs.declared.ops.Done.{Done}
use Rattle.dev_shelf.specs.declared.plan.Fail.{Fail}
use Rattle.dev_shelf.specs.declared.plan.Hold.{Hold}
use Rattle.dev_shelf.specs.declared.plan.ShelfPlan.{ShelfPlan}
use Rattle.disk_model.specs.Brought.{writes}
use Rattle.disk_model.specs.Record.{Operation}
use Rattle.disk_model.specs.Steps.{Work, Reading, Writing, Flushing, Step, Submitted, Completed, Record, step_on}
use Rattle.disk_model.specs.Operations.{work_of}
use Rattle.disk_model.specs.State.{State, tags_of}

-- what is left of a plan: the picks to come, the operations that fail, what is held back, and what was let go of that
pub record PlanLeft : Type 0 where
  pub picks : List ℕ
  pub fails : List Fail
  pub holds : List Hold
  pub limit : ℕ
  -- how many vain answers there were in a row
  pub vain : ℕ
  -- the operations with a tag below it are let go: it is always the oldest that is held, so all before it were ready
  pub let_go : ℕ
  -- how many were let go
  pub forced : ℕ

-- a whole plan, before the first call
abbrev pub whole_plan : ShelfPlan → PlanLeft
whole_plan plan =
    record {
      picks = plan.picks.items;
      fails = plan.fails.items;
      holds = plan.holds.items;
      limit = plan.limit;
      vain = 0;
      let_go = 0;
      forced = 0;
    }

-- the tags of the operations of this kind that completed well
abbrev pub done_well : (Work → Bool) → List Step → List ℕ
done_well kind [] = []
done_well kind (Submitted tag work ∷ steps) = done_well kind steps
done_well kind (Completed tag work well fresh ∷ steps) = if well && kind work then tag ∷ done_well kind steps else done_well kind steps

-- whether the work is a flush of the disk
abbrev pub flushes : ℕ → Work → Bool
flushes pv (Reading span) = false
flushes pv (Writing span sectors) = false
flushes pv (Flushing disk) = disk == pv

-- what the hold waits for has come: a write of the sector and a flush of its disk have completed well, and the flush was
-- submitted after the write was, so it has the greater tag
abbrev pub has_come : List Step → Hold → Bool
has_come steps hold =
    list_any (λ write. list_any (λ flush. nat_lt write flush) (done_well (flushes hold.until_pv) steps))
    (done_well (λ work. writes work hold.until_pv hold.until) steps)

-- the hold keeps the operation back: a write of its sector, until what it waits for has come
abbrev pub keeps_back : List Step → Operation → Hold → Bool
keeps_back steps o hold = writes o.work hold.pv hold.sector && not (has_come steps hold)

-- the operation is held after these steps: it wasn't let go, and one of the holds keeps it back
abbrev pub is_held : PlanLeft → List Step → Operation → Bool
is_held plan steps o = nat_le plan.let_go o.tag && list_any (keeps_back steps o) plan.holds

-- the steps of the record, where it is told
abbrev pub steps_told : Option Record → List Step
steps_told None = []
steps_told (Some told) = told.steps

-- the state in which exactly those operations in flight are ready that aren't held, the oldest first
abbrev pub held_back : PlanLeft → State → State
held_back plan state = record state { ready = tags_of (filter (λ o. not (is_held plan (steps_told state.told) o)) state.in_flight) }

-- the plan once the operation was let go
abbrev pub letting_go : Operation → PlanLeft → PlanLeft
letting_go o plan = record plan { vain = 0; let_go = o.tag + 1; forced = plan.forced + 1 }

-- the plan after an answer `None` of `reap`, with these operations in flight, which are all held: after so many in a row the
-- oldest is let go
abbrev pub after_vain : List Operation → PlanLeft → PlanLeft
after_vain [] plan = plan
after_vain (oldest ∷ later) plan =
    if nat_le plan.limit (plan.vain + 1) then letting_go oldest plan else record plan { vain = plan.vain + 1 }

-- the plan by which `settle` completes one of these operations in flight: where none is ready the oldest is let go
abbrev pub before_settling : List ℕ → List Operation → PlanLeft → PlanLeft
before_settling [] [] plan = plan
before_settling [] (oldest ∷ later) plan = letting_go oldest plan
before_settling (tag ∷ tags) os plan = plan

-- with how many new sectors the operation with this tag is to fail, if it is; the first entry counts
abbrev pub failure_of : List Fail → ℕ → Option ℕ
failure_of [] tag = None
failure_of (fail ∷ fails) tag = if fail.tag == tag then Some fail.fresh else failure_of fails tag

-- the operation fails exactly where that is planned, and then has so many new sectors, the first ones
pub record FailsAsPlanned (old : State) (fails : List Fail) (done : Done) (new : State) : Type 0 where
  pub well : done.well ≡ is_none (failure_of fails done.tag)
  pub told : new.told ≡ option_map (step_on
      (Completed done.tag (work_of done.op) done.well (replicate (unwrap_or (failure_of fails done.tag) 0) true))) old.told

-- the completion is the next one of the plan: the ready operation number pick modulo how many are ready, the oldest
-- first, and after the last pick the oldest
pub record FollowsPlan (old : State) (plan : PlanLeft) (done : Done) (new : State) (left : PlanLeft) : Type 0 where
  pub oldest_first : AllPairs (λ a b. a < b) old.ready
  pub tag : done.tag ≡ slice_index old.ready (slice_index plan.picks 0 % length old.ready)
  pub fails : FailsAsPlanned old plan.fails done new
  pub left_so : left ≡ record plan { picks = drop 1 plan.picks; vain = 0 }

-- the completion is that of `settle`: the next one of the plan, where none is ready once the oldest was let go
abbrev pub Settles : State → PlanLeft → Done → State → PlanLeft → Type 0
Settles old plan done new left =
    FollowsPlan (held_back (before_settling old.ready old.in_flight plan) old) (before_settling old.ready old.in_flight plan) done new left
