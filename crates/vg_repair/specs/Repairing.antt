-- What is promised of a repair.
use Rattle.std.specs.Prelude.{◌≡◌, ◌<◌, true, false, List, None, Some, Result, Ok, Err}
use Rattle.disk_batch.specs.InTurn.{Put, WritesInTurn}
use Rattle.disk_model.specs.Faults.{HasSameFaults}
use Rattle.disk_model.specs.State.{State}
use Rattle.disk_model.specs.Steps.{Record}
use Rattle.vg_found.specs.declared.found.Found.{Found}
use Rattle.vg_repair.specs.declared.fault.RepairFault.{RepairFault}
use Rattle.vg_repair.specs.declared.fault.RepairFault.TheVariants.{NoMemory, Pv, TooLarge}
use Rattle.vg_repair.specs.Repaired.{repaired_of}
use Rattle.vg_repair.specs.Stale.{too_large}

-- why it ended: an operation failed on the disk; or of the first stale area that can't take the text these are the numbers
abbrev pub IsFault : Found → State → State → RepairFault → Type 0
IsFault found old new NoMemory = HasSameFaults old new
IsFault found old new (Pv pv) = (too_large found ≡ None) × (old.faults pv < new.faults pv)
IsFault found old new (TooLarge pv need room) = HasSameFaults old new × (too_large found ≡ Some (pv, need, room))

-- it went well: each stale area could take the text, and this is what is found now
pub record IsRepaired (found : Found) (old new : State) (repaired : Found) : Type 0 where
  pub faults : HasSameFaults old new
  pub fits : too_large found ≡ None
  pub now : repaired ≡ repaired_of found

-- the batches were begun
abbrev pub HasBegun : Result Found RepairFault → Type 0
HasBegun (Ok repaired) = Unit {0}
HasBegun (Err (Pv pv)) = Unit {0}
HasBegun (Err _) = ⊥

-- the batches were carried out; where an operation failed a front of them; and else none, and no operation was submitted
abbrev pub Repairs : List (List Put) → Result Found RepairFault → Record → Record → Type 0
Repairs batches (Ok repaired) old new = WritesInTurn old batches true new
Repairs batches (Err (Pv pv)) old new = WritesInTurn old batches false new
Repairs batches (Err _) old new = new ≡ old
