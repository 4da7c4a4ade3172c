-- The disks that the words of a run name.
use Rattle.std.specs.Prelude.{◌≡◌, ◌≤◌, ℕ, ◌^◌, List, length, All, Some}
use Rattle.command_table.specs.Options.{Word}
use Rattle.lvm_words.specs.Disks.{disks_named}

-- a disk that a run takes: it has 8 to 2^40 sectors
abbrev pub IsSized : List (List ℕ) → Type 0
IsSized disk = (8 ≤ length disk) × (length disk ≤ 2 ^ 40)

-- where the words name disks, they name so many, each of a size that a run takes
abbrev pub AreNamed : List Word → List (List (List ℕ)) → Type 0
AreNamed words disks = (names : List Word) → disks_named words ≡ Some names → (length names ≡ length disks) × All IsSized disks
