-- How a refusal of a name prints.
use Rattle.std.specs.Prelude.{ℕ, List, [], ◌∷◌, codes}
use Rattle.sector_base.specs.Shown.{Value, number}
use Rattle.lvm_name.specs.declared.refusal.NameRefusal.{NameRefusal}
use Rattle.lvm_name.specs.declared.refusal.NameRefusal.TheVariants.{NoMemory, Empty, TooLong, LeadingDash, Dots, BadChar, Reserved}

-- its kind and its values
abbrev pub shown_name : NameRefusal → List ℕ × List Value
shown_name NoMemory = (codes "NoMemory", [])
shown_name Empty = (codes "Empty", [])
shown_name (TooLong bytes) = (codes "TooLong", number bytes ∷ [])
shown_name LeadingDash = (codes "LeadingDash", [])
shown_name Dots = (codes "Dots", [])
shown_name (BadChar place) = (codes "BadChar", number place ∷ [])
shown_name Reserved = (codes "Reserved", [])
