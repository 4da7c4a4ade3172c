-- How a refusal of a group prints.
use Rattle.std.specs.Prelude.{ℕ, ◌&&◌, nat_le, if◌then◌else◌, List, [], ◌∷◌, map, codes}
use Rattle.sector_base.specs.Shown.{Value, number, text}
use Rattle.meta_model.specs.declared.refusal.GroupRefusal.{GroupRefusal}
use Rattle.meta_model.specs.declared.refusal.GroupRefusal.TheVariants.{NoMemory, Missing, WrongKind, UnknownStatus, UnknownSegment, Foreign}
use Rattle.meta_model.specs.declared.refusal.GroupRefusal.TheVariants.{CountDiffers, UnknownName, BadName, BadId}

-- a byte that can be printed, and a question mark in place of any other
abbrev pub printable_byte : ℕ → ℕ
printable_byte byte = if nat_le 32 byte && nat_le byte 126 then byte else 63

-- so for each byte of a text
abbrev pub printable : List ℕ → List ℕ
printable bytes = map printable_byte bytes

-- its kind and its values
abbrev pub shown_group : GroupRefusal → List ℕ × List Value
shown_group NoMemory = (codes "NoMemory", [])
shown_group (Missing key) = (codes "Missing", text (printable key) ∷ [])
shown_group (WrongKind key) = (codes "WrongKind", text (printable key) ∷ [])
shown_group (UnknownStatus word) = (codes "UnknownStatus", text (printable word) ∷ [])
shown_group (UnknownSegment type) = (codes "UnknownSegment", text (printable type) ∷ [])
shown_group (Foreign key) = (codes "Foreign", text (printable key) ∷ [])
shown_group (CountDiffers said found) = (codes "CountDiffers", number said ∷ number found ∷ [])
shown_group (UnknownName name) = (codes "UnknownName", text (printable name) ∷ [])
shown_group (BadName name) = (codes "BadName", text (printable name) ∷ [])
shown_group (BadId key) = (codes "BadId", text (printable key) ∷ [])
