-- The visible volumes of a version of the group, with the disk and the sector of the primary place of each of their sectors.
use Rattle.std.specs.Prelude.{ℕ, ◌+◌, ◌*◌, if◌then◌else◌, List, [], ◌∷◌, map, slice_index, Option, Some, None, option_map, unwrap_or}
use Rattle.std.specs.List.{range_with_len}
use Rattle.sector_base.specs.declared.places.At.{At}
use Rattle.disk_model.specs.Steps.{Image}
use Rattle.vg_scan.specs.Versions.{Version}
use Rattle.meta_model.specs.declared.lv.Lv.{Lv}
use Rattle.volume_rules.specs.Extents.{extents_of}
use Rattle.volume_view.specs.Places.{primary}

-- a sector of a disk
pub record Place : Type 0 where
  pub disk : ℕ
  pub sector : ℕ

-- a visible volume: its id, its name, and the primary place of each of its sectors
pub record PlacedVolume : Type 0 where
  pub id : List ℕ
  pub name : List ℕ
  pub places : List Place

-- stands for a place where there is none
abbrev pub no_place : Place
no_place = record { disk = 0; sector = 0 }

-- the place on its disk
abbrev pub on_disk : List ℕ → At → Place
on_disk disk_of at = record { disk = slice_index disk_of at.pv; sector = at.sector }

-- the primary place of a sector of the volume with this number
unfoldable pub place_of : Version → ℕ → ℕ → Place
place_of version lv sector = unwrap_or (option_map (on_disk version.disk_of) (primary version.group lv sector)) no_place

-- those of all its sectors
abbrev pub places_of : Version → ℕ → Lv → List Place
places_of version lv volume = map (place_of version lv) (range_with_len 0 (extents_of volume * version.group.extent_size))

-- of these volumes, numbered from here on, the visible ones
abbrev pub placed_from : Version → ℕ → List (List ℕ × Lv) → List PlacedVolume
placed_from version number [] = []
placed_from version number (lv ∷ lvs) =
    let later : List PlacedVolume = placed_from version (number + 1) lvs in
    if lv.1.status.visible then record { id = lv.1.id; name = lv.0; places = places_of version number lv.1 } ∷ later else later

-- the visible volumes in the order of the text; none where there is no group
unfoldable pub volumes_of : Option Version → List PlacedVolume
volumes_of None = []
volumes_of (Some version) = placed_from version 0 version.group.lvs

-- the name of the group
abbrev pub group_name : Option Version → Option (List ℕ)
group_name version = option_map (λ (v : Version). v.group.name) version

-- what stands at these places
abbrev pub values_on : Image → List Place → List (List ℕ)
values_on image places = map (λ (p : Place). image p.disk p.sector) places
