-- How a line is answered by its rows: by the first refusal, or by its change.
use Rattle.std.specs.Prelude.{◌≡◌, List, Option, None, Result, MatchResult}
use Rattle.line_answers.specs.declared.op_refusal.OpRefusal.{OpRefusal}
use Rattle.group_plan.specs.Judging.{IsRefusedBy, first_refusal}
use Rattle.group_plan.specs.declared.refusal.PlanRefusal.{PlanRefusal}
use Rattle.group_plan.specs.declared.state.Change.{Change}

-- the change is this one, where no row refuses, or the first refusal of the rows is answered
abbrev pub Plans : List (Option OpRefusal) → Change → Result Change PlanRefusal → Type 0
Plans rows wanted result = MatchResult result (λ change. (first_refusal rows ≡ None) × (change ≡ wanted)) (IsRefusedBy (first_refusal rows))
