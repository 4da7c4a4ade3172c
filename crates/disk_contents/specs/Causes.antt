-- Why what stands on a disk wasn't found.
use Rattle.std.specs.Prelude.{◌≡◌, ℕ}
use Rattle.sector_base.specs.declared.spans.Span.{Span}
use Rattle.disk_model.specs.Faults.{HasSameFaults, IsLastFault}
use Rattle.disk_model.specs.State.{State}
use Rattle.disk_model.specs.Steps.{Reading}
use Rattle.disk_contents.specs.declared.read_refusal.ReadRefusal.{ReadRefusal}
use Rattle.disk_contents.specs.declared.read_refusal.ReadRefusal.TheVariants.{NoMemory, ReadFailed}

-- why what stands on the disk wasn't found: where memory was wanting no operation had failed, and a read that failed was of
-- this disk, and the last step
abbrev pub IsReadCause : ℕ → State → State → ReadRefusal → Type 0
IsReadCause pv old new NoMemory = HasSameFaults old new
IsReadCause pv old new (ReadFailed fault) = (fault.pv ≡ pv) × ((span : Span) × IsLastFault old new pv (Reading span))
