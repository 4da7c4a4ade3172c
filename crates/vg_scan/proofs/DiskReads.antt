-- The spans that are read on a disk: each is of the disk, and they are few.
use Rattle.std.proofs.Common.{◌≡◌, ◌≤◌, ℕ, ◌+◌, ◌*◌, ◌/◌, ◌++◌, List, [], ◌∷◌, All, length, Option, Some, None, IfSome}
use Rattle.std.proofs.Common.{Bool, true, false, if◌then◌else◌, refl, sym, ap, subst, ◌∙◌, arith, length-append}
use Rattle.std.specs.Option.{option_map_or}
use Rattle.std.proofs.lemmas.List.{append-nil, get_or_append_left, length-map}
use Rattle.std.proofs.lemmas.List.Elements.{All-append, All-cons, All-map, All-nil}
use Rattle.sector_base.specs.declared.spans.Span.{Span}
use Rattle.disk_model.specs.Faults.{HasSameFaults}
use Rattle.disk_model.specs.Idle.{IsIdleAgain}
use Rattle.disk_model.specs.Puts.{one_sector}
use Rattle.disk_model.specs.Since.{BetweenRecords, HoldsOfDisk, ReadsTold}
use Rattle.disk_model.specs.State.{State}
use Rattle.disk_model.specs.Steps.{Record}
use Rattle.disk_model.proofs.ReadingAlone.{holds_before, holds_both, holds_weaker}
use Rattle.mda_header.specs.declared.entry.HeaderEntry.{HeaderEntry}
use Rattle.mda_header.specs.declared.entry.HeaderEntry.TheVariants.{Ignored, Nothing, Text, Refused}
use Rattle.mda_header.specs.declared.header.Locn.{Locn}
use Rattle.mda_ring.specs.declared.area.Area.{Area}
use Rattle.mda_ring.specs.Ring.{touched_count}
use Rattle.mda_ring.specs.RingSpans.{ring_spans, sectors_to_end, span_of_area}
use Rattle.pv_header.specs.declared.extent_list.Extent.{Extent}
use Rattle.pv_label.specs.LabelSectors.{label_span}
use Rattle.disk_contents.specs.declared.contents.AreaFound.{AreaFound}
use Rattle.disk_contents.specs.declared.contents.PvFound.{PvFound}
use Rattle.disk_contents.specs.declared.contents.PvFound.TheVariants.{NoLabel, NoHeader, Whole}
use Rattle.disk_contents.specs.declared.read_refusal.ReadRefusal.{ReadRefusal}
use Rattle.disk_contents.specs.Causes.{IsReadCause}
use Rattle.disk_contents.specs.Contents.{IsFound}
use Rattle.disk_contents.specs.Parts.{ReadsAreasUntil, ReadsUntil, ReadsWell}
use Rattle.disk_contents.specs.Reads.{AreAreasOf, area_spans, areas_found}
use Rattle.disk_contents.specs.Standing.{CanStand, area_on, areas_in}
use Rattle.disk_contents.proofs.ReadingParts.{until_after, well_both}
use Rattle.disk_contents.proofs.ReadsAll.{are_areas}
use Rattle.scan_rules.specs.Decision.{Found as PvOf}
use Rattle.vg_scan.specs.Disks.{IsDiskRead, ReadsDisk}
use Rattle.vg_scan.specs.Readings.{IsPvReading}
use Rattle.vg_scan.specs.TextReads.{entry_spans, spans_in, text_spans_in}
use Rattle.vg_scan.specs.Texts.{text_spans}

abbrev IsOn : ℕ → Span → Type 0
IsOn pv span = span.pv ≡ pv

-- ---- the spans of a text

pair_own : (pv : ℕ) (first : Span) (rest : Option Span) → IsOn pv first → IfSome rest (IsOn pv)
    → All (IsOn pv) (first ∷ option_map_or (λ span. span ∷ []) rest [])
pair_own pv first None own others = All-cons (IsOn pv) first [] own (All-nil (IsOn pv))
pair_own pv first (Some rest) own others = All-cons (IsOn pv) first (rest ∷ []) own (All-cons (IsOn pv) rest [] others (All-nil (IsOn pv)))

pair_few : (first : Span) (rest : Option Span) → length (first ∷ option_map_or (λ span. span ∷ []) rest []) ≤ 2
pair_few first None = omega arith
pair_few first (Some rest) = omega arith

if_own : (pv : ℕ) (test : Bool) (span : Span) → IsOn pv span → IfSome (if test then Some span else None) (IsOn pv)
if_own pv true span own = own
if_own pv false span own = tt

text_own : (area : Area) (locn : Locn) → All (IsOn area.pv) (text_spans area locn)
text_own area locn =
    let all : ℕ = touched_count area.size locn.offset locn.size in
    let to_end : ℕ = sectors_to_end area.size locn.offset in
    pair_own area.pv (ring_spans area locn.offset locn.size).0 (ring_spans area locn.offset locn.size).1 refl
    (if_own area.pv _ (span_of_area area 1 _) refl)

entry_own : (area : Area) (entry : HeaderEntry) → All (IsOn area.pv) (entry_spans area entry)
entry_own area Ignored = All-nil (IsOn area.pv)
entry_own area Nothing = All-nil (IsOn area.pv)
entry_own area (Text locn) = text_own area locn
entry_own area (Refused refusal) = All-nil (IsOn area.pv)

entry_few : (area : Area) (entry : HeaderEntry) → length (entry_spans area entry) ≤ 2
entry_few area Ignored = omega arith
entry_few area Nothing = omega arith
entry_few area (Text locn) = pair_few (ring_spans area locn.offset locn.size).0 (ring_spans area locn.offset locn.size).1
entry_few area (Refused refusal) = omega arith

-- ---- of all areas

texts_own : (pv : ℕ) (areas : List AreaFound) → All (IsOn pv) (text_spans_in pv areas)
texts_own pv [] = All-nil (IsOn pv)
texts_own pv (found ∷ areas) =
    All-append (IsOn pv) (spans_in pv found) (text_spans_in pv areas) (entry_own (area_on pv found.area) found.entry) (texts_own pv areas)

texts_few : (pv : ℕ) (areas : List AreaFound) → length (text_spans_in pv areas) ≤ 2 * length areas
texts_few pv [] = omega arith
texts_few pv (found ∷ areas) =
    let long : length (spans_in pv found ++ text_spans_in pv areas) ≡ length (spans_in pv found) + length (text_spans_in pv areas) =
    length-append (spans_in pv found) (text_spans_in pv areas) in
    let one : length (spans_in pv found) ≤ 2 = entry_few (area_on pv found.area) found.entry in
    let more : length (text_spans_in pv areas) ≤ 2 * length areas = texts_few pv areas in
    omega arith

headers_own : (pv : ℕ) (areas : List Extent) → All (IsOn pv) (label_span pv ∷ area_spans pv areas)
headers_own pv areas =
    All-cons (IsOn pv) (label_span pv) (area_spans pv areas) refl
    (All-map (IsOn pv) (λ (area : Extent). one_sector pv (area.offset / 512)) areas (λ k d lt. refl))

headers_few : (pv : ℕ) (areas : List Extent) → length (label_span pv ∷ area_spans pv areas) ≡ 1 + length areas
headers_few pv areas =
    let long : length (area_spans pv areas) ≡ length areas = length-map areas (λ (area : Extent). one_sector pv (area.offset / 512)) in
    omega arith

-- the first so many of spans of a disk
front_own : (pv : ℕ) (read rest spans : List Span) → read ++ rest ≡ spans → All (IsOn pv) spans → All (IsOn pv) read
front_own pv read rest spans front own k d lt =
    let long : length (read ++ rest) ≡ length read + length rest = length-append read rest in
    let whole : All (IsOn pv) (read ++ rest) = subst (All (IsOn pv)) (sym front) own in
    subst (IsOn pv) (get_or_append_left read rest d k lt) (whole k d (omega arith))

front_few : (read rest spans : List Span) → read ++ rest ≡ spans → length read ≤ length spans
front_few read rest spans front =
    let long : length spans ≡ length read + length rest = sym (ap length front) ∙ length-append read rest in
    omega arith

-- ---- what is read of the disk

told_reads : (pv sectors : ℕ) (areas : List Extent) (before after : Option Record) (spans : List Span)
    → HoldsOfDisk before pv (λ sector_at. AreAreasOf sector_at sectors areas)
    → All (IsOn pv) spans → length spans ≤ 1 + 3 * length areas → ReadsTold before spans after
    → BetweenRecords (ReadsDisk pv sectors) before after
told_reads pv sectors areas before after spans are own few reads old is =
    let f = reads old is in (
      f.0,
      f.1,
      record {
        since = f.2.since;
        steps = f.2.steps;
        reads = f.2.reads;
        own = subst (All (IsOn pv)) (sym f.2.spans_are) own;
        areas = areas;
        are = subst (λ (o : Option Record). HoldsOfDisk o pv (λ sector_at. AreAreasOf sector_at sectors areas)) is are;
        few = subst (λ (l : List Span). length l ≤ 1 + 3 * length areas) (sym f.2.spans_are) few;
      },
    )

-- what a call does to the disk and leaves, where it ends so
abbrev pub ReadsSo : ℕ → ℕ → State → State → Type 0 → Type 0
ReadsSo pv sectors before after End = BetweenRecords (ReadsDisk pv sectors) before.told after.told × IsIdleAgain before after × End

-- its headers, or the first so many of them
pub headers_until : (pv sectors : ℕ) (before after : State) (refusal : ReadRefusal)
    → ReadsAreasUntil pv sectors before (λ areas. label_span pv ∷ area_spans pv areas) after refusal
    → ReadsSo pv sectors before after (IsReadCause pv before after refusal)
headers_until pv sectors before after refusal until =
    let areas : List Extent = until.0 in
    let u : ReadsUntil pv before (label_span pv ∷ area_spans pv areas) after refusal = until.2 in
    let few : length u.read ≤ length (label_span pv ∷ area_spans pv areas) =
    front_few u.read u.rest (label_span pv ∷ area_spans pv areas) u.front in
    let long : length (label_span pv ∷ area_spans pv areas) ≡ 1 + length areas = headers_few pv areas in (
      told_reads pv sectors areas before.told after.told u.read until.1
          (front_own pv u.read u.rest (label_span pv ∷ area_spans pv areas) u.front (headers_own pv areas)) (omega arith) u.reads,
      u.again,
      u.cause,
    )

as_many : (pv sectors : ℕ) (found : PvFound) → CanStand pv sectors found → length (areas_in found) ≡ length (areas_found found)
as_many pv sectors (NoLabel refusal) stands = refl
as_many pv sectors (NoHeader label refusal) stands = refl
as_many pv sectors (Whole label header areas) stands = sym (length-map areas (λ (found : AreaFound). found.area)) ∙ ap length stands.2

module _ (pv sectors : ℕ) (found : PvFound) (before there after : State) (stands : CanStand pv sectors found)
    (went : ReadsWell before (label_span pv ∷ area_spans pv (areas_found found)) there)
    (is : HoldsOfDisk before.told pv (λ sector_at. IsFound sector_at sectors found)) where
  headers : List Span
  headers = label_span pv ∷ area_spans pv (areas_found found)

  texts : List Span
  texts = text_spans_in pv (areas_in found)

  -- the first so many of its headers and of its texts
  front_read : (read rest : List Span) → read ++ rest ≡ headers ++ texts → ReadsTold before.told read after.told
      → BetweenRecords (ReadsDisk pv sectors) before.told after.told
  unfolding headers texts
  front_read read rest front reads =
      let few : length read ≤ length (headers ++ texts) = front_few read rest (headers ++ texts) front in
      let long : length (headers ++ texts) ≡ length headers + length texts = length-append headers texts in
      let heads : length headers ≡ 1 + length (areas_found found) = headers_few pv (areas_found found) in
      let least : length texts ≤ 2 * length (areas_in found) = texts_few pv (areas_in found) in
      let same : length (areas_in found) ≡ length (areas_found found) = as_many pv sectors found stands in
      told_reads pv sectors (areas_found found) before.told after.told read
      (holds_weaker before.told pv (λ sector_at. IsFound sector_at sectors found)
      (λ sector_at. AreAreasOf sector_at sectors (areas_found found)) (λ sector_at here. are_areas sector_at sectors found here) is)
      (front_own pv read rest (headers ++ texts) front
      (All-append (IsOn pv) headers texts (headers_own pv (areas_found found)) (texts_own pv (areas_in found))))
      (omega arith) reads

  -- all of them were read
  pub disk_well : ReadsWell there (text_spans_in pv (areas_in found)) after → ReadsSo pv sectors before after (HasSameFaults before after)
  unfolding headers texts
  disk_well read =
      let all : ReadsWell before (headers ++ texts) after = well_both before there after headers texts went read in
      (front_read (headers ++ texts) [] (append-nil (headers ++ texts)) all.reads, all.again, all.faults)

  -- there was no going on
  pub disk_until : (refusal : ReadRefusal) → ReadsUntil pv there (text_spans_in pv (areas_in found)) after refusal
      → ReadsSo pv sectors before after (IsReadCause pv before after refusal)
  unfolding headers texts
  disk_until refusal read =
      let all : ReadsUntil pv before (headers ++ texts) after refusal = until_after pv before there after headers texts refusal went read in
      (front_read all.read all.rest all.front all.reads, all.again, all.cause)

  -- what stands there, and how it reads
  pub disk_reads : (reading : Option PvOf) → HoldsOfDisk there.told pv (λ sector_at. IsPvReading pv sector_at (Some found) reading)
      → HoldsOfDisk before.told pv (λ sector_at. IsDiskRead pv sector_at sectors found reading)
  unfolding headers
  disk_reads reading reads =
      holds_both before.told pv (λ sector_at. IsFound sector_at sectors found) (λ sector_at. IsPvReading pv sector_at (Some found) reading)
      (λ sector_at. IsDiskRead pv sector_at sectors found reading)
      (λ sector_at a b. record { contents_is = a; pv_is = b })
      is
      (holds_before before.told there.told headers pv (λ sector_at. IsPvReading pv sector_at (Some found) reading) went.reads reads)
