-- A batch where nothing else is in flight, between two completions.
use Rattle.std.specs.Prelude.{◌≡◌, ◌<◌, ℕ, [], length, Option, Some, None}
use Rattle.disk_model.specs.declared.ops.Done.{Done}
use Rattle.disk_model.specs.State.{State, tags_of}
use Rattle.disk_batch.specs.declared.batching.BatchStep.{BatchStep}
use Rattle.disk_batch.specs.declared.batching.BatchStep.TheVariants.{Going, Well, Lost}
use Rattle.disk_batch.specs.Views.{sectors_to_come, to_come}
use Rattle.disk_batch.specs.Batches.{Goes, view_of}
use Rattle.disk_batch.specs.Fits.{FitsOn}

-- what is in flight is the batch's
abbrev pub IsOn : BatchStep → State → Type 0
IsOn (Going next) state = (tags_of state.in_flight ≡ (view_of next).tags) × (0 < length (view_of next).tags)
IsOn Well state = state.in_flight ≡ []
IsOn (Lost pv) state = state.in_flight ≡ []

-- what it is still to submit lies in the disks, is spare, and has buffers; it flushes at least one disk
abbrev pub IsWithin : State → BatchStep → Type 0
IsWithin state (Going next) = FitsOn state (view_of next) × (0 < length (view_of next).flush)
IsWithin state Well = Unit {0}
IsWithin state (Lost pv) = Unit {0}

-- how many submissions are to come
abbrev pub steps_to_come : BatchStep → ℕ
steps_to_come (Going next) = to_come (view_of next)
steps_to_come Well = 0
steps_to_come (Lost pv) = 0

-- and how many sectors these have
abbrev pub sectors_ahead : BatchStep → ℕ
sectors_ahead (Going next) = sectors_to_come (view_of next)
sectors_ahead Well = 0
sectors_ahead (Lost pv) = 0

-- the disk of the operation that it lost
abbrev pub lost_of : BatchStep → Option ℕ
lost_of (Going next) = (view_of next).lost
lost_of Well = None
lost_of (Lost pv) = Some pv

-- what a completion leads to
abbrev pub Turns : State → BatchStep → Done → BatchStep → State → Type 0
Turns old (Going next) done step new = Goes old (view_of next) done step new
Turns old Well done step new = ⊥
Turns old (Lost pv) done step new = ⊥
