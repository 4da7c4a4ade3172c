-- The three batches of a commit can be carried out in turn.
use Rattle.std.proofs.Common.{◌≡◌, ◌≤◌, ◌<◌, ℕ, ◌+◌, ◌-◌, ◌/◌, min, Bool, true, false, cond, nat_lt, List, [], ◌∷◌, ◌++◌, length, take}
use Rattle.std.proofs.Common.{drop, map, get_or, Option, None, Some, inl, inr, refl, sym, ap, subst, arith}
use Rattle.std.specs.Prelude.{All, AllPairs, flat_map}
use Rattle.std.specs.Ordering.{nat_cmp}
use Rattle.std.specs.FinSet.{FinSet}
use Rattle.std.proofs.lemmas.Bool.{false_from_ne_true, or_cases, true≢false}
use Rattle.std.proofs.lemmas.List.Elements.{All-cons, All-nil}
use Rattle.sector_base.specs.Spans.{covers}
use Rattle.disk_model.specs.InFlight.{IsAmong}
use Rattle.disk_batch.specs.Batches.{disks_of, writes_of}
use Rattle.disk_batch.specs.InTurn.{CanRun, Put, ShareNoSector}
use Rattle.disk_batch.specs.Writes.{disks_in}
use Rattle.disk_batch.specs.declared.batch.Batch.{Batch}
use Rattle.mda_header.specs.declared.header.Locn.{Locn}
use Rattle.mda_ring.specs.declared.area.Area.{Area}
use Rattle.mda_ring.specs.Areas.{CanTake, LieApart}
use Rattle.mda_ring.specs.Ring.{need, next_offset, touched_count}
use Rattle.mda_ring.specs.RingSpans.{sectors_to_end, span_of_area}
use Rattle.mda_ring.specs.Texts.{text_sectors}
use Rattle.mda_ring.proofs.SpanLaws.{covers_tells}
use Rattle.vg_commit.specs.Written.{area_span, area_writes, header_span, headers_of, publish_of, rest_put, text_puts, texts_of}
use Rattle.vg_commit.specs.Written.{whole_texts}
use Rattle.vg_commit.specs.TooLarge.{first_too_large}
use Rattle.vg_commit.specs.Commits.{written_at}
use Rattle.vg_commit.specs.Preparing.{AreCommitted, AreWithin, area_disks}
use Rattle.vg_commit.proofs.AreaPuts.{IsPlaced, is_placed, put_covers, text_put}
use Rattle.vg_commit.proofs.AreasCommit.{header_covers, one_area, rooms, written_some}
use Rattle.vg_commit.proofs.Disks.{area_disks_some, area_disks_too, flush_some, headers_on, texts_on}
use Rattle.vg_commit.proofs.Lying.{headers_lie, headers_some, publish_lie, publish_some, texts_lie, texts_some}
use Rattle.disk_batch.proofs.InBlocks.{blocks_apart, blocks_have}
use Rattle.disk_batch.proofs.WritesApart.{can_run, each_apart, each_has}

-- the two areas have no sector both
abbrev NoneShared : Area × Option Locn → Area × Option Locn → Type 0
NoneShared a b = (pv sector : ℕ) → covers (area_span a.0) pv sector ≡ true → covers (area_span b.0) pv sector ≡ true → ⊥

not_itself : (a : Area × Option Locn) → 1536 ≤ a.0.size → LieApart a a → ⊥
not_itself a big (inl other) = other refl
not_itself a big (inr (inl before)) = omega (arith, before)
not_itself a big (inr (inr behind)) = omega (arith, behind)

none_shared : (areas : List (Area × Option Locn)) → All CanTake areas → AllPairs LieApart areas → AllPairs NoneShared areas
none_shared areas take apart i j d below within pv sector in_i in_j =
    let a : Area × Option Locn = get_or areas i d in
    let here : i < length areas = omega (arith, below, within) in
    let same : get_or areas j d ≡ a = sym (one_area areas take apart d i j pv sector here within in_i in_j) in
    not_itself a (take i d here).0.has_ring (subst (LieApart a) same (apart i j d below within))

-- the texts of one area
module _ (text : List ℕ) (a : Area × Option Locn) (placed : IsPlaced text a) where
  abbrev offset : ℕ
  offset = next_offset a.0.size a.1

  abbrev all : ℕ
  all = touched_count a.0.size offset (length text + 1)

  abbrev to_end : ℕ
  to_end = sectors_to_end a.0.size offset

  -- the two spans of a text share no sector
  spans_apart : (pv sector : ℕ) → covers (span_of_area a.0 (offset / 512) (min all to_end)) pv sector ≡ true
      → covers (span_of_area a.0 1 (all - to_end)) pv sector ≡ true → ⊥
  spans_apart pv sector in_first in_second =
      let s : (a.0.pv ≡ pv) × (a.0.start / 512 + offset / 512 ≤ sector) × (sector < a.0.start / 512 + offset / 512 + min all to_end) =
      covers_tells (span_of_area a.0 (offset / 512) (min all to_end)) pv sector in_first in
      let t : (a.0.pv ≡ pv) × (a.0.start / 512 + 1 ≤ sector) × (sector < a.0.start / 512 + 1 + (all - to_end)) =
      covers_tells (span_of_area a.0 1 (all - to_end)) pv sector in_second in
      let behind : 512 ≤ offset = placed.ring.behind_header in
      let before : offset < a.0.size = placed.ring.before_end in
      omega (arith, s.1, t.2, behind, before)

  rest_apart : (b : Bool) (sectors : List (List ℕ)) (pv sector : ℕ)
      → covers (span_of_area a.0 (offset / 512) (min all to_end)) pv sector ≡ true
      → written_at (rest_put (cond b (Some (span_of_area a.0 1 (all - to_end))) None) sectors) pv sector ≡ false
  rest_apart true sectors pv sector here = false_from_ne_true _ (λ is.
      elim (or_cases (covers (span_of_area a.0 1 (all - to_end)) pv sector) false is) [
        | inl there ↦ spans_apart pv sector here there
        | inr none ↦ true≢false (sym none)
      ])
  rest_apart false sectors pv sector here = refl

  rest_alone : (b : Bool) (sectors : List (List ℕ))
      → ShareNoSector (rest_put (cond b (Some (span_of_area a.0 1 (all - to_end))) None) sectors)
  rest_alone true sectors = (λ pv sector here. refl, tt)
  rest_alone false sectors = tt

  text_apart : ShareNoSector (text_puts text a)
  text_apart = (
    rest_apart (nat_lt to_end all) (drop (min all to_end) (text_sectors text (need (length text + 1)))),
    rest_alone (nat_lt to_end all) (drop (min all to_end) (text_sectors text (need (length text + 1)))),
  )

  -- they lie in the area, and on its disk
  text_in : (pv sector : ℕ) → written_at (text_puts text a) pv sector ≡ true → covers (area_span a.0) pv sector ≡ true
  text_in pv sector is =
      let some = written_some (text_puts text a) pv sector is in put_covers text a placed pv sector some.0
      (text_put text a placed pv sector some.0 some.1)

rest_on : (disks : List ℕ) (area : Area) (first count : ℕ) (b : Bool) (sectors : List (List ℕ)) → IsAmong disks area.pv
    → All (λ (put : Put). IsAmong disks put.0.pv) (rest_put (cond b (Some (span_of_area area first count)) None) sectors)
rest_on disks area first count true sectors on =
    All-cons (λ (put : Put). IsAmong disks put.0.pv) (span_of_area area first count, sectors) [] on
    (All-nil (λ (put : Put). IsAmong disks put.0.pv))
rest_on disks area first count false sectors on = All-nil (λ (put : Put). IsAmong disks put.0.pv)

text_on : (disks text : List ℕ) (a : Area × Option Locn) → IsAmong disks a.0.pv
    → All (λ (put : Put). IsAmong disks put.0.pv) (text_puts text a)
text_on disks text a on =
    All-cons (λ (put : Put). IsAmong disks put.0.pv) _ _ on
    (rest_on disks a.0 1 (touched_count a.0.size (next_offset a.0.size a.1) (length text + 1)
    - sectors_to_end a.0.size (next_offset a.0.size a.1))
    (nat_lt (sectors_to_end a.0.size (next_offset a.0.size a.1)) (touched_count a.0.size (next_offset a.0.size a.1) (length text + 1))) _
    on)

-- one header
header_in : (a : Area × Option Locn) (value : List ℕ) → CanTake a → (pv sector : ℕ)
    → written_at ((header_span a.0, value ∷ []) ∷ []) pv sector ≡ true → covers (area_span a.0) pv sector ≡ true
header_in a value can pv sector is =
    elim (or_cases (covers (header_span a.0) pv sector) false is) [
      | inl here ↦ header_covers a.0 pv sector can.0 here
      | inr none ↦ absurd (true≢false (sym none))
    ]

-- the writes of a batch, area by area
whole_flat : (text : List ℕ) (areas : List (Area × Option Locn))
    → whole_texts (map (area_writes text) areas) ≡ flat_map (text_puts text) areas
whole_flat text [] = refl
whole_flat text (a ∷ areas) = ap (λ (l : List Put). text_puts text a ++ l) (whole_flat text areas)

abbrev header_put : List ℕ → Area × Option Locn → List Put
header_put text a = (header_span a.0, (area_writes text a).before ∷ []) ∷ []

abbrev publish_put : List ℕ → Area × Option Locn → List Put
publish_put text a = (header_span a.0, (area_writes text a).after ∷ []) ∷ []

headers_flat : (text : List ℕ) (areas : List (Area × Option Locn))
    → headers_of (map (area_writes text) areas) ≡ flat_map (header_put text) areas
headers_flat text [] = refl
headers_flat text (a ∷ areas) = ap (λ (l : List Put). header_put text a ++ l) (headers_flat text areas)

publish_flat : (text : List ℕ) (areas : List (Area × Option Locn))
    → publish_of (map (area_writes text) areas) ≡ flat_map (publish_put text) areas
publish_flat text [] = refl
publish_flat text (a ∷ areas) = ap (λ (l : List Put). publish_put text a ++ l) (publish_flat text areas)

-- the batches that flush the disks of a commit can run
module _ (text : List ℕ) (areas : List (Area × Option Locn)) (flush : FinSet nat_cmp) (committed : AreCommitted areas flush)
    (room_is : first_too_large text areas ≡ None) where
  placed : All (IsPlaced text) areas
  placed k d within = is_placed text (get_or areas k d) (committed.take k d within) (rooms text areas room_is k d within)

  alone : AllPairs NoneShared areas
  alone = none_shared areas committed.take committed.apart

  module _ (sizes : List ℕ) (inside : AreWithin sizes areas flush) (batch : Batch) where
    abbrev OnText : Put → Type 0
    OnText put = IsAmong (disks_in flush) put.0.pv

    abbrev OnHeader : Put → Type 0
    OnHeader put = IsAmong (disks_in (area_disks areas)) put.0.pv

    area_disks_within : All (λ (pv : ℕ). pv < length sizes) (disks_in (area_disks areas))
    area_disks_within = area_disks_too (λ (pv : ℕ). pv < length sizes) areas flush committed.on_disks inside.disks_are

    pub texts_can_run : writes_of batch ≡ texts_of (map (area_writes text) areas) → disks_of batch ≡ disks_in flush → CanRun sizes batch
    texts_can_run writes disks =
        let whole : List Put = whole_texts (map (area_writes text) areas) in
        can_run sizes (texts_of (map (area_writes text) areas)) (disks_in flush) batch writes disks
        (texts_some text areas committed.some placed) (flush_some areas flush committed)
        (texts_lie sizes text areas placed inside.areas_lie) inside.disks_are
        (blocks_apart whole (subst ShareNoSector (sym (whole_flat text areas))
        (each_apart (text_puts text) (IsPlaced text) NoneShared (λ a good. text_apart text a good)
        (λ a b good_a good_b none pv sector x y. none pv sector (text_in text a good_a pv sector x) (text_in text b good_b pv sector y))
        areas placed alone)))
        (blocks_have OnText (λ put on from count le. on) whole (subst (All OnText) (sym (whole_flat text areas))
        (each_has (text_puts text) OnText areas (λ k d within. text_on (disks_in flush) text (get_or areas k d)
        (texts_on areas flush committed.on_disks k d within)))))

    pub headers_can_run : writes_of batch ≡ headers_of (map (area_writes text) areas) → disks_of batch ≡ disks_in (area_disks areas)
        → CanRun sizes batch
    headers_can_run writes disks =
        can_run sizes (headers_of (map (area_writes text) areas)) (disks_in (area_disks areas)) batch writes disks
        (headers_some text areas committed.some) (area_disks_some areas flush (area_disks areas) refl committed)
        (headers_lie sizes text areas placed inside.areas_lie) area_disks_within
        (subst ShareNoSector (sym (headers_flat text areas))
        (each_apart (header_put text) CanTake NoneShared (λ a good. (λ pv sector here. refl, tt))
        (λ a b good_a good_b none pv sector x y. none pv sector (header_in a (area_writes text a).before good_a pv sector x)
        (header_in b (area_writes text b).before good_b pv sector y)) areas committed.take alone))
        (subst (All OnHeader) (sym (headers_flat text areas))
        (each_has (header_put text) OnHeader areas
        (λ k d within. All-cons OnHeader _ [] (headers_on areas flush committed.on_disks k d within) (All-nil OnHeader))))

    pub publish_can_run : writes_of batch ≡ publish_of (map (area_writes text) areas) → disks_of batch ≡ disks_in (area_disks areas)
        → CanRun sizes batch
    publish_can_run writes disks =
        can_run sizes (publish_of (map (area_writes text) areas)) (disks_in (area_disks areas)) batch writes disks
        (publish_some text areas committed.some) (area_disks_some areas flush (area_disks areas) refl committed)
        (publish_lie sizes text areas placed inside.areas_lie) area_disks_within
        (subst ShareNoSector (sym (publish_flat text areas))
        (each_apart (publish_put text) CanTake NoneShared (λ a good. (λ pv sector here. refl, tt))
        (λ a b good_a good_b none pv sector x y. none pv sector (header_in a (area_writes text a).after good_a pv sector x)
        (header_in b (area_writes text b).after good_b pv sector y)) areas committed.take alone))
        (subst (All OnHeader) (sym (publish_flat text areas))
        (each_has (publish_put text) OnHeader areas
        (λ k d within. All-cons OnHeader _ [] (headers_on areas flush committed.on_disks k d within) (All-nil OnHeader))))
