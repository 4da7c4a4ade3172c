-- What a change writes, as batches of writes, each lasting before the next begins.
use Rattle.std.specs.Ordering.{nat_cmp}
use Rattle.std.specs.FinSet as set
use Rattle.std.specs.Prelude.{ℕ, ◌/◌, false, List, [], ◌∷◌, ◌++◌, map, filter, flat_map, replicate, Option, Some, None}
use Rattle.sector_base.specs.declared.spans.Span.{Span}
use Rattle.disk_model.specs.Puts.{one_sector}
use Rattle.pv_label.specs.LabelBytes.{with_label}
use Rattle.pv_header.specs.declared.extent_list.Extent.{Extent}
use Rattle.pv_header.specs.PvHeader.{header_bytes as pv_bytes}
use Rattle.mda_header.specs.declared.header.Locn.{Locn}
use Rattle.mda_header.specs.declared.header.MdaHeader.{MdaHeader}
use Rattle.mda_header.specs.HeaderBytes.{header_bytes as mda_bytes}
use Rattle.mda_ring.specs.declared.area.Area.{Area}
use Rattle.conf_text.specs.Printed.{printed}
use Rattle.meta_model.specs.declared.group.Group.{Group}
use Rattle.meta_print.specs.Layout.{tree_of}
use Rattle.disk_batch.specs.InTurn.{Put}
use Rattle.vg_found.specs.declared.disk.Disk.{Disk}
use Rattle.vg_commit.specs.Written.{area_writes, header_put, headers_of, publish_of, texts_of}
use Rattle.group_plan.specs.Cleared.{cleared_areas, unused_labels}
use Rattle.group_plan.specs.Judging.{lies_on, set_of}
use Rattle.group_plan.specs.declared.state.Change.{Change}
use Rattle.group_plan.specs.declared.state.NewLabel.{NewLabel}

-- the batch, if it has a write
abbrev pub batch_if : List Put → List (List Put)
batch_if [] = []
batch_if (put ∷ puts) = (put ∷ puts) ∷ []

-- ---- zeros

-- the write of zeros to the sectors of the span
abbrev pub zero_put : Span → Put
zero_put span = (span, replicate span.count (replicate 512 0))

-- the batch of the zeros of a change, which lasts before its commit begins
abbrev pub zero_batches : Change → List (List Put)
zero_batches change = batch_if (map zero_put change.zero)

-- ---- labels

-- a label sector: the label, and the header behind it
abbrev pub label_bytes : NewLabel → List ℕ
label_bytes label = with_label (replicate 32 0 ++ pv_bytes label.header) label.sector

-- its write
abbrev pub label_put : NewLabel → Put
label_put label = (one_sector label.disk label.sector, label_bytes label ∷ [])

-- ---- areas of a new physical volume

-- the header of a metadata area in which no text stands
abbrev pub empty_area : Extent → MdaHeader
empty_area area = record { start = area.offset; size = area.size; committed = None; precommitted = None; ignored = false }

-- its write on this disk
abbrev pub area_put : ℕ → Extent → Put
area_put disk area = (one_sector disk (area.offset / 512), mda_bytes (empty_area area) ∷ [])

-- those of all areas behind this label
abbrev pub area_puts : NewLabel → List Put
area_puts label = map (area_put label.disk) label.header.areas

-- where no group is committed the labels are those of new physical volumes, whose areas are empty
abbrev pub new_area_puts : Option Group → List NewLabel → List Put
new_area_puts None labels = flat_map area_puts labels
new_area_puts (Some group) labels = []

-- ---- the commit

-- the areas on the disks of the new group, each with the entry of its committed text
abbrev pub areas_of : Change → List (Area × Option Locn) → List (Area × Option Locn)
areas_of change areas = filter (lies_on (set_of change.disk_of)) areas

-- the three batches of the commit of a text to these areas: the texts, the headers that name them as precommitted, and the
-- headers that publish them
abbrev pub text_batches : List ℕ → List (Area × Option Locn) → List (List Put)
text_batches text areas =
    texts_of (map (area_writes text) areas) ∷ headers_of (map (area_writes text) areas) ∷ publish_of (map (area_writes text) areas) ∷ []

-- those of the group's text at this time
abbrev pub commit_batches : Option Group → ℕ → List (Area × Option Locn) → List (List Put)
commit_batches None now areas = []
commit_batches (Some group) now areas = text_batches (printed (tree_of group now)) areas

-- ---- disks that a group lets go

-- the write of the header of an area in which no text stands
abbrev pub clear_put : Area × Option Locn → Put
clear_put area = header_put area.0 None None

-- those of the disks that are cleared: their label sectors, and then the headers of their areas
abbrev pub clear_batches : set.FinSet nat_cmp → List Disk → List (Area × Option Locn) → List (List Put)
clear_batches cleared disks areas =
    batch_if (map label_put (unused_labels cleared disks)) ++ batch_if (map clear_put (cleared_areas cleared areas))

-- ---- all of it

-- all batches of a change behind its zeros, at this time, on disks with these areas
abbrev pub change_batches : Change → List (Area × Option Locn) → ℕ → List (List Put)
change_batches change areas now =
    batch_if (new_area_puts change.group change.labels)
    ++ batch_if (map label_put change.labels)
    ++ commit_batches change.group now (areas_of change areas)
