-- The writes of a commit, while they are put together area by area.
use Rattle.std.specs.Prelude.{◌≡◌, ◌+◌, ℕ, List, [], ◌∷◌, ◌++◌, flat_map, length, map, All, Option, Some, None}
use Rattle.sector_base.specs.declared.spans.Span.{Span}
use Rattle.mda_header.specs.declared.header.Locn.{Locn}
use Rattle.mda_header.specs.Header.{IsHeader}
use Rattle.mda_header.specs.HeaderBytes.{header_bytes}
use Rattle.mda_ring.specs.declared.area.Area.{Area}
use Rattle.mda_ring.specs.Ring.{need, next_offset}
use Rattle.mda_ring.specs.RingSpans.{ring_spans}
use Rattle.mda_ring.specs.Texts.{text_sectors}
use Rattle.vg_commit.specs.declared.plan.Plan.{Plan}
use Rattle.vg_commit.specs.Written.{area_writes, header_after, header_before, header_span, headers_of, new_entry, publish_of}
use Rattle.vg_commit.specs.Written.{with_entries}
use Rattle.vg_commit.specs.TooLarge.{first_too_large}

-- the second span, if there is one, with the number of the text's sector from which it goes on
abbrev pub rest_part : Option Span → ℕ → List (Span × ℕ)
rest_part None from = []
rest_part (Some span) from = (span, from) ∷ []

-- one or two spans, one behind the other, each with the number of the text's sector from which it goes on
abbrev pub parts_on : Span × Option Span → List (Span × ℕ)
parts_on spans = (spans.0, 0) ∷ rest_part spans.1 spans.0.count

-- where the text's sectors go in an area
abbrev pub text_parts : List ℕ → Area × Option Locn → List (Span × ℕ)
text_parts text area = parts_on (ring_spans area.0 (next_offset area.0.size area.1) (length text + 1))

-- both headers that are written to the area are read again as they are
pub record HeadersRead (text : List ℕ) (area : Area × Option Locn) : Type 0 where
  pub before : IsHeader (header_bytes (header_before text area)) (header_before text area)
  pub after : IsHeader (header_bytes (header_after text area)) (header_after text area)

-- the area's writes were put behind the others; it can take the text, and its headers are read again as they are
pub record Adds (text : List ℕ) (area : Area × Option Locn) (old new : Plan) : Type 0 where
  pub sectors : new.text ≡ old.text
  pub texts : new.texts.items ≡ old.texts.items ++ text_parts text area
  pub headers : new.headers.items ≡ old.headers.items ++ (header_span area.0, header_bytes (header_before text area) ∷ []) ∷ []
  pub publish : new.publish.items ≡ old.publish.items ++ (header_span area.0, header_bytes (header_after text area) ∷ []) ∷ []
  pub entries : new.areas.items ≡ old.areas.items ++ (area.0, Some (new_entry text area)) ∷ []
  pub room : first_too_large text (area ∷ []) ≡ None
  pub read : HeadersRead text area

-- the plan has exactly the writes of these areas, each of which can take the text
pub record IsPlan (text : List ℕ) (areas : List (Area × Option Locn)) (plan : Plan) : Type 0 where
  pub sectors : plan.text ≡ text_sectors text (need (length text + 1))
  pub texts : plan.texts.items ≡ flat_map (text_parts text) areas
  pub headers : plan.headers.items ≡ headers_of (map (area_writes text) areas)
  pub publish : plan.publish.items ≡ publish_of (map (area_writes text) areas)
  pub entries : plan.areas.items ≡ with_entries text areas
  pub room : first_too_large text areas ≡ None
  pub read : All (HeadersRead text) areas
