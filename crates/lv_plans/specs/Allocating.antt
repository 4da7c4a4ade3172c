-- The extents that a line takes of the physical volumes of its group.
--
-- Any free extents may be given that meet what the allocator promises. So rows and changes are functions of what was given.
use Rattle.std.specs.Prelude.{◌≡◌, ℕ, ◌+◌, nat_lt, List, [], slice_index, Option, None, Some, option_and_then, Result, Err}
use Rattle.line_answers.specs.declared.op_refusal.OpRefusal.{OpRefusal}
use Rattle.line_answers.specs.declared.op_refusal.OpRefusal.TheVariants.{NoRun, NoSpace, NotAllocatable, TooFewPvs, TooMany}
use Rattle.meta_model.specs.declared.group.Group.{Group}
use Rattle.extent_alloc.specs.Few.{AreFew}
use Rattle.extent_alloc.specs.Giving.{IsGiven}
use Rattle.extent_alloc.specs.Refusals.{refusal_of}
use Rattle.extent_alloc.specs.declared.part.Part.{Part}
use Rattle.extent_alloc.specs.declared.refusal.AllocRefusal.{AllocRefusal}
use Rattle.extent_alloc.specs.declared.refusal.AllocRefusal.TheVariants as alloc
use Rattle.extent_alloc.specs.declared.request.Request.{Request}
use Rattle.group_edits.specs.GivenSegments.{segments_in}
use Rattle.group_plan.specs.Judging.{first_refusal, refused_if}
use Rattle.group_plan.specs.declared.state.GroupState.{GroupState}
use Rattle.group_plan.specs.Plans.{Plans}
use Rattle.group_plan.specs.declared.refusal.PlanRefusal.{PlanRefusal}
use Rattle.group_plan.specs.declared.refusal.PlanRefusal.TheVariants.{NoMemory}
use Rattle.group_plan.specs.declared.state.Change.{Change}

-- what a line asks of the allocator, and its rows up to the allocator's own
pub record Asking : Type 0 where
  pub group : Group
  pub want : Request
  pub rows : List (Option OpRefusal)

-- the line takes these parts: what it asks for is given where none of these rows refuses it, and a line that asks for nothing
-- takes none
abbrev pub Takes : Option Asking → List Part → Type 0
Takes None given = given ≡ []
Takes (Some asking) given =
    first_refusal asking.rows ≡ None → IsGiven asking.group asking.want given × AreFew asking.group asking.want given

-- the allocator's refusal as the line's, where the physical volumes are on these disks
abbrev pub shown_refusal : List ℕ → AllocRefusal → Option OpRefusal
shown_refusal disk_of alloc.NoMemory = None
shown_refusal disk_of (alloc.NotAllocatable pv) = Some (NotAllocatable (slice_index disk_of pv))
shown_refusal disk_of (alloc.NoSpace need free) = Some (NoSpace need free)
shown_refusal disk_of (alloc.NoRun need longest) = Some (NoRun need longest)
shown_refusal disk_of (alloc.TooFewPvs need fit) = Some (TooFewPvs need fit)

-- the allocator's refusal
unfoldable pub space_row : GroupState → Group → Request → Option OpRefusal
space_row state group want = option_and_then (shown_refusal state.disk_of) (refusal_of group want)

-- with so many more the group would have too many segments
unfoldable pub segments_row : Group → ℕ → Option OpRefusal
segments_row group more = refused_if (nat_lt 16384 (segments_in group + more)) (TooMany (segments_in group + more) 16384)

-- so with some parts that may be taken, where a line asks for extents, and with none where it doesn't
abbrev pub PlansWith : Option Asking → (List Part → List (Option OpRefusal)) → (List Part → Change) → Result Change PlanRefusal → Type 0
PlansWith None rows wanted result = Plans (rows []) (wanted []) result
PlansWith (Some asking) rows wanted (Err NoMemory) = Unit {0}
PlansWith (Some asking) rows wanted result = (given : List Part) × Takes (Some asking) given × Plans (rows given) (wanted given) result
