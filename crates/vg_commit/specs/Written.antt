-- What a commit writes to a metadata area of lvm2's on-disk format: the text into free sectors of its ring, and its header
-- twice.
use Rattle.std.specs.Prelude.{ℕ, ◌+◌, ◌/◌, Bool, false, ◌||◌, List, [], ◌∷◌, ◌++◌, take, drop, map, length, Option, None, Some}
use Rattle.sector_base.specs.Checksum.{checksum, lvm_crc_start}
use Rattle.sector_base.specs.declared.spans.Span.{Span}
use Rattle.sector_base.specs.Spans.{covers}
use Rattle.disk_batch.specs.Blocks.{in_blocks}
use Rattle.mda_header.specs.declared.header.Locn.{Locn}
use Rattle.mda_header.specs.declared.header.MdaHeader.{MdaHeader}
use Rattle.mda_header.specs.HeaderBytes.{header_bytes}
use Rattle.mda_ring.specs.declared.area.Area.{Area}
use Rattle.mda_ring.specs.Ring.{need, next_offset}
use Rattle.mda_ring.specs.RingSpans.{ring_spans}
use Rattle.mda_ring.specs.Texts.{text_sectors}

-- the text as it is stored, with one final zero byte
abbrev pub stored : List ℕ → List ℕ
stored text = text ++ 0 ∷ []

-- the entry of the text in an area: behind the committed text, with the size and the checksum of what is stored
abbrev pub new_entry : List ℕ → Area × Option Locn → Locn
new_entry text area = record { offset = next_offset area.0.size area.1; size = length text + 1; sum = checksum lvm_crc_start (stored text) }

-- the areas with these entries
abbrev pub with_entries : List ℕ → List (Area × Option Locn) → List (Area × Option Locn)
with_entries text areas = map (λ (area : Area × Option Locn). (area.0, Some (new_entry text area))) areas

-- a header of the area with these two entries
abbrev pub header_of : Area → Option Locn → Option Locn → MdaHeader
header_of area committed precommitted =
    record { start = area.start; size = area.size; committed = committed; precommitted = precommitted; ignored = false }

-- the header before the text is published: the old entry is in force, and the new one stands as entry 1
abbrev pub header_before : List ℕ → Area × Option Locn → MdaHeader
header_before text area = header_of area.0 area.1 (Some (new_entry text area))

-- the header that publishes the text: the new entry is in force, and there is no entry 1
abbrev pub header_after : List ℕ → Area × Option Locn → MdaHeader
header_after text area = header_of area.0 (Some (new_entry text area)) None

-- the span of the area's header
abbrev pub header_span : Area → Span
header_span area = record { pv = area.pv; first = area.start / 512; count = 1 }

-- the write of the area's header with these two entries
abbrev pub header_put : Area → Option Locn → Option Locn → Span × List (List ℕ)
header_put area committed precommitted = (header_span area, header_bytes (header_of area committed precommitted) ∷ [])

-- the span of all sectors of the area
abbrev pub area_span : Area → Span
area_span area = record { pv = area.pv; first = area.start / 512; count = area.size / 512 }

-- whether the sector of this disk is one of the areas
abbrev pub in_areas : List (Area × Option Locn) → ℕ → ℕ → Bool
in_areas [] pv sector = false
in_areas (area ∷ areas) pv sector = covers (area_span area.0) pv sector || in_areas areas pv sector

-- the second span, if there is one, with these sectors
abbrev pub rest_put : Option Span → List (List ℕ) → List (Span × List (List ℕ))
rest_put None sectors = []
rest_put (Some span) sectors = (span, sectors) ∷ []

-- these sectors on one or two spans, one span behind the other
abbrev pub puts_on : Span × Option Span → List (List ℕ) → List (Span × List (List ℕ))
puts_on spans sectors = (spans.0, take spans.0.count sectors) ∷ rest_put spans.1 (drop spans.0.count sectors)

-- the writes of the text in an area
abbrev pub text_puts : List ℕ → Area × Option Locn → List (Span × List (List ℕ))
text_puts text area =
    puts_on (ring_spans area.0 (next_offset area.0.size area.1) (length text + 1)) (text_sectors text (need (length text + 1)))

-- what a commit writes to an area: the text's sectors, and the header before and after it is published
pub record AreaWrites : Type 0 where
  pub header : Span
  pub before : List ℕ
  pub after : List ℕ
  pub text : List (Span × List (List ℕ))

-- what the commit of this text writes to an area
abbrev pub area_writes : List ℕ → Area × Option Locn → AreaWrites
area_writes text area = record {
  header = header_span area.0;
  before = header_bytes (header_before text area);
  after = header_bytes (header_after text area);
  text = text_puts text area;
}

-- the writes of the texts, in the areas' order
abbrev pub whole_texts : List AreaWrites → List (Span × List (List ℕ))
whole_texts [] = []
whole_texts (area ∷ areas) = area.text ++ whole_texts areas

-- those of the first batch, block by block
abbrev pub texts_of : List AreaWrites → List (Span × List (List ℕ))
texts_of areas = in_blocks (whole_texts areas)

-- those of the second
abbrev pub headers_of : List AreaWrites → List (Span × List (List ℕ))
headers_of [] = []
headers_of (area ∷ areas) = (area.header, area.before ∷ []) ∷ headers_of areas

-- and of the third
abbrev pub publish_of : List AreaWrites → List (Span × List (List ℕ))
publish_of [] = []
publish_of (area ∷ areas) = (area.header, area.after ∷ []) ∷ publish_of areas
