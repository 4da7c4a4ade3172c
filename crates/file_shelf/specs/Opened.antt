-- What a row of files is when it has just been opened.
use Rattle.std.specs.Prelude.{◌≡◌, ◌<◌, ℕ, List, length, All}
use Rattle.disk_model.specs.State.{State}
use Rattle.op_queue.specs.Queue.{opened_state}
use Rattle.file_shelf.specs.declared.opening.OpenFault.{OpenFault}
use Rattle.file_shelf.specs.declared.opening.OpenFault.TheVariants.{NoMemory, File}
use Rattle.file_shelf.specs.Sizes.{IsSize}

-- so many disks, each of a size that a file may have, before the first step
abbrev pub IsOpened : ℕ → State → Type 0
IsOpened count state = (sizes : List ℕ) × (length sizes ≡ count) × All IsSize sizes × (state ≡ opened_state sizes)

-- a file that is at fault is one of so many
abbrev pub NamesFile : ℕ → OpenFault → Type 0
NamesFile count NoMemory = Unit {0}
NamesFile count (File number cause) = number < count
