-- What a repair writes, as batches of writes, each lasting before the next begins.
use Rattle.std.specs.Prelude.{ℕ, List, [], ◌∷◌, ◌++◌, map, Option}
use Rattle.mda_header.specs.declared.header.Locn.{Locn}
use Rattle.mda_ring.specs.declared.area.Area.{Area}
use Rattle.disk_batch.specs.InTurn.{Put}
use Rattle.vg_found.specs.declared.found.Found.{Found}
use Rattle.group_plan.specs.Cleared.{cleared_areas, unused_labels, used_labels}
use Rattle.group_plan.specs.declared.state.NewLabel.{NewLabel}
use Rattle.change_batches.specs.Batches.{batch_if, clear_batches, label_put, text_batches}
use Rattle.vg_repair.specs.Stale.{stale_areas, text_of}

-- ---- stale areas

-- the three batches of a commit of the text to these areas, if there are any
abbrev pub stale_batches : List ℕ → List (Area × Option Locn) → List (List Put)
stale_batches text [] = []
stale_batches text (area ∷ areas) = text_batches text (area ∷ areas)

-- ---- old headers

-- the label sectors that are written to the old disks of a scan
abbrev pub old_labels : Found → List NewLabel
old_labels found = used_labels found.old found.disks

-- ---- strays

-- the label sectors that are written to the strays of a scan
abbrev pub stray_labels : Found → List NewLabel
stray_labels found = unused_labels found.strays found.disks

-- the areas of strays that aren't ignored
abbrev pub stray_areas : Found → List (Area × Option Locn)
stray_areas found = cleared_areas found.strays found.areas

-- ---- all of it

-- all label sectors that are written
abbrev pub new_labels : Found → List NewLabel
new_labels found = old_labels found ++ stray_labels found

-- all batches of a repair: the found text to the stale areas, byte for byte; then the labels of the old disks; then those that
-- clear the strays
abbrev pub repair_batches : Found → List (List Put)
repair_batches found =
    stale_batches (text_of found) (stale_areas found)
    ++ batch_if (map label_put (old_labels found))
    ++ clear_batches found.strays found.disks found.areas
