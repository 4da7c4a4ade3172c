-- How each IdRefusal is printed.
use Rattle.std.specs.Prelude.{ℕ, List, [], ◌∷◌, codes}
use Rattle.sector_base.specs.Shown.{Value}
use Rattle.sector_base.specs.Shown.Value.{number}
use Rattle.lvm_id.specs.declared.refusal.IdRefusal.{IdRefusal}
use Rattle.lvm_id.specs.declared.refusal.IdRefusal.TheVariants.{BadLength, BadChar, BadHyphen}

-- its kind, and its values in the order of its fields
abbrev pub shown_id : IdRefusal → List ℕ × List Value
shown_id (BadLength length) = (codes "BadLength", number length ∷ [])
shown_id (BadChar place) = (codes "BadChar", number place ∷ [])
shown_id (BadHyphen place) = (codes "BadHyphen", number place ∷ [])
