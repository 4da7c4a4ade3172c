-- The lines of a report on what was found and on what was refused. Each ends with a line feed.
use Rattle.std.specs.Prelude.{ℕ, List, ◌++◌, codes, decimal}
use Rattle.sector_base.specs.Shown.{Value, shown_text, sum_text}
use Rattle.lvm_id.specs.LvmId.{hyphen_form}
use Rattle.mda_header.specs.declared.header.Locn.{Locn}
use Rattle.pv_header.specs.declared.extent_list.Extent.{Extent}

-- in which sector the label is
abbrev pub label_line : ℕ → List ℕ
label_line sector = codes "label " ++ decimal sector ++ codes "\n"

-- the id of the physical volume, in groups with hyphens
abbrev pub id_line : List ℕ → List ℕ
id_line id = codes "id " ++ hyphen_form id ++ codes "\n"

-- the device's size in bytes
abbrev pub size_line : ℕ → List ℕ
size_line bytes = codes "size " ++ decimal bytes ++ codes "\n"

-- where a data area lies: its offset and its size in bytes
abbrev pub data_line : Extent → List ℕ
data_line area = codes "data " ++ decimal area.offset ++ codes " " ++ decimal area.size ++ codes "\n"

-- where a metadata area lies: its offset and its size in bytes
abbrev pub area_line : Extent → List ℕ
area_line area = codes "area " ++ decimal area.offset ++ codes " " ++ decimal area.size ++ codes "\n"

-- where the committed text stands in its area: its offset and its size in bytes, and its checksum
abbrev pub committed_line : Locn → List ℕ
committed_line locn =
    codes "committed " ++ decimal locn.offset ++ codes " " ++ decimal locn.size ++ codes " " ++ sum_text locn.sum ++ codes "\n"

-- where the precommitted text stands in its area: its offset and its size in bytes, and its checksum
abbrev pub precommitted_line : Locn → List ℕ
precommitted_line locn =
    codes "precommitted " ++ decimal locn.offset ++ codes " " ++ decimal locn.size ++ codes " " ++ sum_text locn.sum ++ codes "\n"

-- the version and the flags of the header's extension
abbrev pub extension_line : ℕ → ℕ → List ℕ
extension_line version flags = codes "extension " ++ decimal version ++ codes " " ++ decimal flags ++ codes "\n"

-- a refusal: its kind and its values
abbrev pub refusal_line : List ℕ × List Value → List ℕ
refusal_line shown = codes "refused " ++ shown_text shown ++ codes "\n"
