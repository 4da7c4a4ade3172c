-- What the volumes of a group hold in an image of disks: the contents at the primary places.
use Rattle.std.specs.Prelude.{◌≡◌, ◌<◌, ℕ, ◌+◌, ◌*◌, if◌then◌else◌, List, [], ◌∷◌, length, map, slice_index, option_map, unwrap_or}
use Rattle.std.specs.List.{range_with_len}
use Rattle.sector_base.specs.declared.places.At.{At}
use Rattle.meta_model.specs.declared.group.Group.{Group}
use Rattle.meta_model.specs.declared.lv.Lv.{Lv}
use Rattle.volume_rules.specs.Extents.{extents_of}
use Rattle.volume_view.specs.Places.{primary}

-- the contents of each sector, by the number of its disk and its own
abbrev pub Image : Type 0
Image = ℕ → ℕ → List ℕ

-- what stands at a place; entry i of the list is the disk of physical volume i
abbrev pub at_place : Image → List ℕ → At → List ℕ
at_place image disk_of at = image (slice_index disk_of at.pv) at.sector

-- different physical volumes of the group are on different disks
abbrev pub DisksDiffer : Group → List ℕ → Type 0
DisksDiffer group disk_of =
    (pv other : ℕ) → pv < length group.pvs → other < length group.pvs → slice_index disk_of pv ≡ slice_index disk_of other → pv ≡ other

-- what a sector of a volume holds
unfoldable pub content : Image → Group → List ℕ → ℕ → ℕ → List ℕ
content image group disk_of lv sector = unwrap_or (option_map (at_place image disk_of) (primary group lv sector)) []

-- what each sector of a volume holds
abbrev pub contents : Image → Group → List ℕ → ℕ → Lv → List (List ℕ)
contents image group disk_of lv volume = map (content image group disk_of lv) (range_with_len 0 (extents_of volume * group.extent_size))

-- of these volumes, numbered from here on, the visible ones with their sectors
abbrev pub views_from : Image → Group → List ℕ → ℕ → List (List ℕ × Lv) → List (List ℕ × List (List ℕ))
views_from image group disk_of number [] = []
views_from image group disk_of number (lv ∷ lvs) =
    let later : List (List ℕ × List (List ℕ)) = views_from image group disk_of (number + 1) lvs in
    if lv.1.status.visible then (lv.0, contents image group disk_of number lv.1) ∷ later else later

-- the visible volumes in the order of the text, each with its name and its sectors
unfoldable pub view : Image → Group → List ℕ → List (List ℕ × List (List ℕ))
view image group disk_of = views_from image group disk_of 0 group.lvs
