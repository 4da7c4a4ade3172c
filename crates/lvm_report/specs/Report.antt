-- The report of pvck: the lines on what stands in lvm2's sectors of a disk.
use Rattle.std.specs.Prelude.{◌≡◌, ℕ, Option, None, Some, Result, Ok, Err, List, [], ◌++◌, flat_map}
use Rattle.mda_header.specs.declared.header.Locn.{Locn}
use Rattle.mda_header.specs.declared.header.MdaHeader.{MdaHeader}
use Rattle.mda_header.specs.declared.refusal.MdaRefusal.{MdaRefusal}
use Rattle.mda_header.specs.ShownMda.{shown_mda}
use Rattle.pv_header.specs.declared.header.PvHeader.{PvHeader}
use Rattle.pv_header.specs.ShownPv.{shown_pv}
use Rattle.pv_label.specs.ShownLabel.{shown_label}
use Rattle.disk_contents.specs.declared.contents.AreaFound.{AreaFound}
use Rattle.disk_contents.specs.declared.contents.PvFound.{PvFound}
use Rattle.disk_contents.specs.declared.contents.PvFound.TheVariants.{NoLabel, NoHeader, Whole}
use Rattle.disk_contents.specs.Contents.{IsFound}
use Rattle.lvm_report.specs.Lines.{area_line, committed_line, data_line, extension_line, id_line, label_line, precommitted_line}
use Rattle.lvm_report.specs.Lines.{refusal_line, size_line}

-- the line on a text where there is one
abbrev pub locn_lines : (Locn → List ℕ) → Option Locn → List ℕ
locn_lines line None = []
locn_lines line (Some locn) = line locn

-- the texts that a metadata area's header names
abbrev pub mda_lines : MdaHeader → List ℕ
mda_lines header = locn_lines committed_line header.committed ++ locn_lines precommitted_line header.precommitted

-- what stands in a metadata area's header sector
abbrev pub mda_found_lines : Result MdaHeader MdaRefusal → List ℕ
mda_found_lines (Ok header) = mda_lines header
mda_found_lines (Err refusal) = refusal_line (shown_mda refusal)

-- a metadata area, and under it what stands in its header sector
abbrev pub area_lines : AreaFound → List ℕ
area_lines found = area_line found.area ++ mda_found_lines found.header

-- the header of a physical volume, with its data areas and its metadata areas in order
abbrev pub header_lines : PvHeader → List AreaFound → List ℕ
header_lines header areas =
    id_line header.id ++ size_line header.device_bytes ++ flat_map data_line header.data_areas ++ flat_map area_lines areas
    ++ extension_line header.version header.flags

-- the text of what was found
abbrev pub report_of : PvFound → List ℕ
report_of (NoLabel refusal) = refusal_line (shown_label refusal)
report_of (NoHeader label refusal) = label_line label ++ refusal_line (shown_pv refusal)
report_of (Whole label header areas) = label_line label ++ header_lines header areas

-- the text is the report on a disk of so many sectors, with these contents
abbrev pub IsReport : (ℕ → List ℕ) → ℕ → List ℕ → Type 0
IsReport sector_at disk text = (found : PvFound) × IsFound sector_at disk found × (text ≡ report_of found)
