-- How each MdaRefusal is printed.
use Rattle.std.specs.Prelude.{ℕ, List, [], ◌∷◌, codes}
use Rattle.sector_base.specs.Shown.{Value}
use Rattle.sector_base.specs.Shown.Value.{number, sum}
use Rattle.mda_header.specs.declared.refusal.MdaRefusal.{MdaRefusal}
use Rattle.mda_header.specs.declared.refusal.MdaRefusal.TheVariants.{BadSum, BadMagic, BadVersion, WrongStart, SizeBad, LocnOutside}

-- its kind, and its values in the order of its fields
abbrev pub shown_mda : MdaRefusal → List ℕ × List Value
shown_mda (BadSum said found) = (codes "BadSum", sum said ∷ sum found ∷ [])
shown_mda BadMagic = (codes "BadMagic", [])
shown_mda (BadVersion version) = (codes "BadVersion", number version ∷ [])
shown_mda (WrongStart said start) = (codes "WrongStart", number said ∷ number start ∷ [])
shown_mda (SizeBad said size) = (codes "SizeBad", number said ∷ number size ∷ [])
shown_mda (LocnOutside offset size) = (codes "LocnOutside", number offset ∷ number size ∷ [])
