-- How each PvRefusal is printed.
use Rattle.std.specs.Prelude.{ℕ, List, [], ◌∷◌, codes}
use Rattle.sector_base.specs.Shown.{Value}
use Rattle.sector_base.specs.Shown.Value.{number}
use Rattle.pv_header.specs.declared.refusal.PvRefusal.{PvRefusal}
use Rattle.pv_header.specs.declared.refusal.PvRefusal.TheVariants.{NoMemory, BadId, ListUnended, AreaOutside, AreaShape, AreasOverlap}
use Rattle.pv_header.specs.declared.refusal.PvRefusal.TheVariants.{Bootloader}

-- its kind, and its values in the order of its fields
abbrev pub shown_pv : PvRefusal → List ℕ × List Value
shown_pv NoMemory = (codes "NoMemory", [])
shown_pv (BadId place) = (codes "BadId", number place ∷ [])
shown_pv (ListUnended list) = (codes "ListUnended", number list ∷ [])
shown_pv (AreaOutside offset size disk_bytes) = (codes "AreaOutside", number offset ∷ number size ∷ number disk_bytes ∷ [])
shown_pv (AreaShape offset size) = (codes "AreaShape", number offset ∷ number size ∷ [])
shown_pv (AreasOverlap first second) = (codes "AreasOverlap", number first ∷ number second ∷ [])
shown_pv (Bootloader offset) = (codes "Bootloader", number offset ∷ [])
