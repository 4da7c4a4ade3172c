-- How each CowRefusal is printed.
use Rattle.std.specs.Prelude.{ℕ, List, [], ◌∷◌, codes}
use Rattle.sector_base.specs.Shown.{Value}
use Rattle.sector_base.specs.Shown.Value.{number}
use Rattle.cow_store.specs.declared.refusal.CowRefusal.{CowRefusal}
use Rattle.cow_store.specs.declared.refusal.CowRefusal.TheVariants.{NoMemory, StoreTooSmall, NoHead, OtherLength, BadEntry, PastEnd, Full}
use Rattle.cow_store.specs.declared.refusal.CowRefusal.TheVariants.{Fault, Spent}

-- its kind, and its values in the order of its fields
abbrev pub shown_cow : CowRefusal → List ℕ × List Value
shown_cow NoMemory = (codes "NoMemory", [])
shown_cow (StoreTooSmall need have) = (codes "StoreTooSmall", number need ∷ number have ∷ [])
shown_cow NoHead = (codes "NoHead", [])
shown_cow (OtherLength said found) = (codes "OtherLength", number said ∷ number found ∷ [])
shown_cow (BadEntry slot value) = (codes "BadEntry", number slot ∷ number value ∷ [])
shown_cow (PastEnd end length) = (codes "PastEnd", number end ∷ number length ∷ [])
shown_cow (Full slots) = (codes "Full", number slots ∷ [])
shown_cow (Fault volume) = (codes "Fault", number volume ∷ [])
shown_cow Spent = (codes "Spent", [])
