-- Why it isn't known whether a disk is in use.
use Rattle.std.specs.Prelude.{◌≡◌, ◌<◌, true}
use Rattle.std.specs.FinSet as set
use Rattle.std.specs.Ordering.{nat_cmp}
use Rattle.disk_model.specs.State.{State}
use Rattle.disk_contents.specs.declared.read_refusal.ReadRefusal.{ReadRefusal}
use Rattle.disk_contents.specs.declared.read_refusal.ReadRefusal.TheVariants as reading
use Rattle.disk_use.specs.declared.use_refusal.UseRefusal.{UseRefusal}
use Rattle.disk_use.specs.declared.use_refusal.UseRefusal.TheVariants.{NoMemory, ReadFailed}

-- the refusal of a read, as it is handed on
abbrev pub refusal_of : ReadRefusal → UseRefusal
refusal_of reading.NoMemory = NoMemory
refusal_of (reading.ReadFailed fault) = ReadFailed fault.pv

-- memory was wanting
abbrev pub wanting : UseRefusal
wanting = NoMemory

-- a read of the named disk failed; of want of memory nothing more is said
abbrev pub IsUseFault : State → State → UseRefusal → Type 0
IsUseFault old new NoMemory = Unit {0}
IsUseFault old new (ReadFailed pv) = old.faults pv < new.faults pv

-- the named disk is one of the unread ones
abbrev pub IsUnreadFault : set.FinSet nat_cmp → UseRefusal → Type 0
IsUnreadFault unread NoMemory = Unit {0}
IsUnreadFault unread (ReadFailed pv) = set.contains unread pv ≡ true
