-- A repair leaves the disks as many and as large as they are.
use Rattle.std.proofs.Common.{◌≡◌, length, refl}
use Rattle.vg_found.specs.declared.disk.Disk.{Disk}
use Rattle.vg_found.specs.declared.found.Found.{Found}
use Rattle.change_batches.specs.Sound.{sizes_of}
use Rattle.vg_repair.specs.Repaired.{repaired_disk, repaired_of}
use Rattle.vg_repair.specs.Stale.{text_of}
use Rattle.vg_repair.proofs.Numbered.{mapped_length, mapped_same}

pub repaired_sizes : (found : Found) → sizes_of (repaired_of found).disks ≡ sizes_of found.disks
repaired_sizes found =
    mapped_same (repaired_disk found.stale found.strays found.old (text_of found)) (λ (disk : Disk). disk.sectors)
    (λ (disk : Disk). disk.sectors)
    (λ number disk. refl) 0 found.disks

pub repaired_count : (found : Found) → length (repaired_of found).disks ≡ length found.disks
repaired_count found = mapped_length (repaired_disk found.stale found.strays found.old (text_of found)) found.disks
