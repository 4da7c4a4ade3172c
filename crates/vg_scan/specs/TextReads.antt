-- Which sectors the committed texts of areas are read from.
use Rattle.std.specs.Prelude.{ℕ, List, [], flat_map}
use Rattle.sector_base.specs.declared.spans.Span.{Span}
use Rattle.mda_header.specs.declared.entry.HeaderEntry.{HeaderEntry}
use Rattle.mda_header.specs.declared.entry.HeaderEntry.TheVariants.{Ignored, Nothing, Text, Refused}
use Rattle.mda_ring.specs.declared.area.Area.{Area}
use Rattle.disk_contents.specs.declared.contents.AreaFound.{AreaFound}
use Rattle.disk_contents.specs.Standing.{area_on}
use Rattle.vg_scan.specs.Texts.{text_spans}

-- the spans of the committed text of an area, by what its header sector says of it
abbrev pub entry_spans : Area → HeaderEntry → List Span
entry_spans area Ignored = []
entry_spans area Nothing = []
entry_spans area (Text locn) = text_spans area locn
entry_spans area (Refused refusal) = []

-- those of an area that was found
abbrev pub spans_in : ℕ → AreaFound → List Span
spans_in pv found = entry_spans (area_on pv found.area) found.entry

-- those of areas, in their order
abbrev pub text_spans_in : ℕ → List AreaFound → List Span
text_spans_in pv areas = flat_map (spans_in pv) areas
