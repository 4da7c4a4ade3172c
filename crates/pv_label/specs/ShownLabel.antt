-- How each LabelRefusal is printed.
use Rattle.std.specs.Prelude.{ℕ, List, [], ◌∷◌, codes}
use Rattle.sector_base.specs.Shown.{Value}
use Rattle.sector_base.specs.Shown.Value.{number}
use Rattle.pv_label.specs.declared.refusal.LabelRefusal.{LabelRefusal}
use Rattle.pv_label.specs.declared.refusal.LabelRefusal.TheVariants.{NoLabel, BadSum, WrongSector, BadOffset, BadType}

-- its kind, and its values in the order of its fields
abbrev pub shown_label : LabelRefusal → List ℕ × List Value
shown_label NoLabel = (codes "NoLabel", [])
shown_label (BadSum sector) = (codes "BadSum", number sector ∷ [])
shown_label (WrongSector said found) = (codes "WrongSector", number said ∷ number found ∷ [])
shown_label (BadOffset said) = (codes "BadOffset", number said ∷ [])
shown_label BadType = (codes "BadType", [])
