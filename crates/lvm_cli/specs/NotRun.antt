-- How the program ends where nothing ran.
use Rattle.std.specs.Prelude.{ℕ}
use Rattle.disk_use.specs.declared.use_refusal.UseRefusal.TheVariants.{ReadFailed, NoMemory}
use Rattle.lvm_run.specs.declared.not_run.NotRun.{NotRun}
use Rattle.lvm_run.specs.declared.not_run.NotRun.TheVariants.{InUse, Untold}

-- the exit status: 5 for a disk in use, 6 for one that can't be read, and 2 for want of memory
abbrev pub status_not_run : NotRun → ℕ
status_not_run (InUse used) = 5
status_not_run (Untold (ReadFailed pv)) = 6
status_not_run (Untold NoMemory) = 2
