-- Disks whose label sectors are written again: those that a group lets go, which are in use no more and hold no text, and those
-- that it goes on using.
use Rattle.std.specs.Prelude.{ℕ, Bool, true, false, if◌then◌else◌, List, filter, Option, None, option_map}
use Rattle.std.specs.List.{enumerate_from, filter_map}
use Rattle.std.specs.Option.{option_and_then}
use Rattle.std.specs.Ordering.{nat_cmp}
use Rattle.std.specs.FinSet as set
use Rattle.pv_header.specs.declared.header.PvHeader.{PvHeader}
use Rattle.mda_header.specs.declared.header.Locn.{Locn}
use Rattle.mda_ring.specs.declared.area.Area.{Area}
use Rattle.vg_found.specs.declared.disk.Disk.{Disk}
use Rattle.group_plan.specs.Added.{pv_in}
use Rattle.group_plan.specs.Judging.{lies_on}
use Rattle.group_plan.specs.Marks.{marked}
use Rattle.group_plan.specs.declared.state.NewLabel.{NewLabel}

-- the label sector of a disk, by its number, where it is one of these and holds a physical volume: with the mark that a group
-- uses it, or without
abbrev pub marked_label : Bool → set.FinSet nat_cmp → ℕ × Disk → Option NewLabel
marked_label in_use among disk =
    if set.contains among disk.0
    then option_map (λ (pv : ℕ × PvHeader). record { disk = disk.0; sector = pv.0; header = marked in_use pv.1 })
    (option_and_then pv_in disk.1.contents)
    else None

-- the label sectors of those of the disks
abbrev pub marked_labels : Bool → set.FinSet nat_cmp → List Disk → List NewLabel
marked_labels in_use among disks = filter_map (marked_label in_use among) (enumerate_from 0 disks)

-- those of disks that the group goes on using
abbrev pub used_labels : set.FinSet nat_cmp → List Disk → List NewLabel
used_labels old disks = marked_labels true old disks

-- those of disks that it lets go
abbrev pub unused_labels : set.FinSet nat_cmp → List Disk → List NewLabel
unused_labels cleared disks = marked_labels false cleared disks

-- the areas there that aren't ignored, in which no text stands then
abbrev pub cleared_areas : set.FinSet nat_cmp → List (Area × Option Locn) → List (Area × Option Locn)
cleared_areas cleared areas = filter (lies_on cleared) areas
