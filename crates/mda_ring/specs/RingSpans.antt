-- The spans of the sectors of a text.
use Rattle.std.specs.Prelude.{◌≡◌, ℕ, ◌+◌, ◌-◌, ◌/◌, ◌<◌, ◌≤◌, min, Bool, false, ◌||◌, nat_lt, if◌then◌else◌, Option, None, Some}
use Rattle.std.specs.Option.{option_map_or}
use Rattle.sector_base.specs.Spans.{covers}
use Rattle.sector_base.specs.declared.spans.Span.{Span}
use Rattle.mda_ring.specs.declared.area.Area.{Area}
use Rattle.mda_ring.specs.Ring.{Touches, touched_count}

-- how many sectors there are from the first one of a text at this offset to the area's end
abbrev pub sectors_to_end : ℕ → ℕ → ℕ
sectors_to_end size offset = size / 512 - offset / 512

-- so many sectors of the area, from the one with this number in the area on, as a span of its disk
abbrev pub span_of_area : Area → ℕ → ℕ → Span
span_of_area area first count = record { pv = area.pv; first = area.start / 512 + first; count = count }

-- the sectors that so many bytes touch: those from the first byte's on to the area's end, and the rest from the ring's
-- start on
abbrev pub ring_spans : Area → ℕ → ℕ → Span × Option Span
ring_spans area offset count =
    let all : ℕ = touched_count area.size offset count in
    let to_end : ℕ = sectors_to_end area.size offset in
    (span_of_area area (offset / 512) (min all to_end), if nat_lt to_end all then Some (span_of_area area 1 (all - to_end)) else None)

-- how many sectors the spans have
abbrev pub spans_count : Span × Option Span → ℕ
spans_count spans = spans.0.count + option_map_or (λ (rest : Span). rest.count) spans.1 0

-- the sector of the disk that is number k of the spans' sectors, one span behind the other
abbrev pub nth_sector : Span × Option Span → ℕ → ℕ
nth_sector spans k =
    if nat_lt k spans.0.count then spans.0.first + k else option_map_or (λ (rest : Span). rest.first + (k - spans.0.count)) spans.1 0

-- whether one of the spans covers this sector of this disk
abbrev pub spans_cover : Span × Option Span → ℕ → ℕ → Bool
spans_cover spans pv sector = covers spans.0 pv sector || option_map_or (λ (rest : Span). covers rest pv sector) spans.1 false

-- the span has a sector, and lies in the area, behind its header
pub record IsInArea (area : Area) (span : Span) : Type 0 where
  pub pv_is : span.pv ≡ area.pv
  pub behind_header : area.start / 512 + 1 ≤ span.first
  pub has_sectors : 0 < span.count
  pub before_end : span.first + span.count ≤ (area.start + area.size) / 512

-- the sector of this disk is one of the area that so many bytes at the offset touch
pub record IsTouched (area : Area) (offset count pv sector : ℕ) : Type 0 where
  pub of_disk : pv ≡ area.pv
  pub behind_start : area.start / 512 ≤ sector
  pub touches : Touches area.size offset count (sector - area.start / 512)
