-- How each RingRefusal is printed.
use Rattle.std.specs.Prelude.{ℕ, List, [], ◌∷◌, codes}
use Rattle.sector_base.specs.Shown.{Value}
use Rattle.sector_base.specs.Shown.Value.{number, sum}
use Rattle.mda_ring.specs.declared.refusal.RingRefusal.{RingRefusal}
use Rattle.mda_ring.specs.declared.refusal.RingRefusal.TheVariants.{NoMemory, TooLarge, SumDiffers}

-- its kind, and its values in the order of its fields
abbrev pub shown_ring : RingRefusal → List ℕ × List Value
shown_ring NoMemory = (codes "NoMemory", [])
shown_ring (TooLarge need room) = (codes "TooLarge", number need ∷ number room ∷ [])
shown_ring (SumDiffers said found) = (codes "SumDiffers", sum said ∷ sum found ∷ [])
