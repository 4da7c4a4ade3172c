-- Of disks that were scanned, those that a group uses which wasn't found.
use Rattle.std.specs.Prelude.{◌≡◌, ℕ, Bool, true, false, slice_get}
use Rattle.std.specs.Option.{option_map_or}
use Rattle.disk_contents.specs.declared.contents.PvFound.{PvFound}
use Rattle.disk_contents.specs.declared.contents.PvFound.TheVariants.{NoLabel, NoHeader, Whole}
use Rattle.vg_found.specs.declared.disk.Disk.{Disk}
use Rattle.vg_found.specs.declared.found.Found.{Found}
use Rattle.disk_use.specs.Uses.{IsAmong, is_marked}

-- whether what stands on a disk says that a group uses it
abbrev pub is_marked_with : PvFound → Bool
is_marked_with (NoLabel refusal) = false
is_marked_with (NoHeader label refusal) = false
is_marked_with (Whole label header areas) = is_marked header

-- the same of a disk that was scanned, and of the one with this number
abbrev pub is_marked_disk : Disk → Bool
is_marked_disk disk = option_map_or is_marked_with disk.contents false

abbrev pub is_marked_at : Found → ℕ → Bool
is_marked_at found pv = option_map_or is_marked_disk (slice_get found.disks pv) false

-- the disk is used by a group, and none was found that lists it or whose stray it is
abbrev pub IsUnlisted : Found → ℕ → Type 0
IsUnlisted found pv = (is_marked_at found pv ≡ true) × ¬ IsAmong found pv

-- none is
abbrev pub AreListed : Found → Type 0
AreListed found = (pv : ℕ) → is_marked_at found pv ≡ true → IsAmong found pv
