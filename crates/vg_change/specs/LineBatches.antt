-- What a line writes, as batches of writes, each lasting before the next begins.
use Rattle.std.specs.Prelude.{ℕ, List}
use Rattle.lvm_script.specs.declared.line.Line.{Line}
use Rattle.extent_alloc.specs.declared.part.Part.{Part}
use Rattle.disk_batch.specs.InTurn.{Put}
use Rattle.group_plan.specs.declared.state.GroupState.{GroupState}
use Rattle.group_ops.specs.Planning.{change_of}
use Rattle.change_batches.specs.Batches.{change_batches, clear_batches, zero_batches}

-- the zeros of the line's change, where it takes these parts
abbrev pub zeros_of : GroupState → Line → ℕ → List Part → List (List Put)
zeros_of state line now given = zero_batches (change_of state line now given)

-- the batches of the line's change at this time behind them
abbrev pub batches_of : GroupState → Line → ℕ → List Part → List (List Put)
batches_of state line now given = change_batches (change_of state line now given) state.areas now

-- and behind these, the batches that clear the disks which the group lets go
abbrev pub clears_of : GroupState → Line → ℕ → List Part → List (List Put)
clears_of state line now given = clear_batches (change_of state line now given).cleared state.disks state.areas
