-- The writes of a commit lie in the disks of its areas.
use Rattle.std.proofs.Common.{◌≡◌, ◌≤◌, ◌<◌, ℕ, ◌+◌, ◌-◌, ◌*◌, ◌/◌, ◌%◌, min, Bool, true, false, cond, nat_lt, List, [], ◌∷◌, ◌++◌, length}
use Rattle.std.proofs.Common.{take}
use Rattle.std.proofs.Common.{drop}
use Rattle.std.proofs.Common.{map, Option, None, Some, refl, ◌∙◌, arith}
use Rattle.std.specs.Prelude.{All}
use Rattle.std.proofs.lemmas.Bool.{ltb-true}
use Rattle.std.proofs.lemmas.List.{length-drop, length-take-le}
use Rattle.std.proofs.lemmas.List.Elements.{All-append, All-cons, All-head, All-nil, All-tail}
use Rattle.std.proofs.lemmas.List.FromFn.{length-map-range_with_len}
use Rattle.sector_base.specs.declared.spans.Span.{Span}
use Rattle.disk_model.specs.Operations.{Fills, IsWithin}
use Rattle.disk_batch.specs.Writes.{LieIn}
use Rattle.disk_batch.proofs.InBlocks.{blocks_lie, blocks_some}
use Rattle.mda_header.specs.declared.header.Locn.{Locn}
use Rattle.mda_ring.specs.declared.area.Area.{Area}
use Rattle.mda_ring.specs.Areas.{IsArea}
use Rattle.mda_ring.specs.Ring.{need, next_offset, touched_count}
use Rattle.mda_ring.specs.RingSpans.{sectors_to_end, span_of_area}
use Rattle.mda_ring.specs.Texts.{text_sector, text_sectors}
use Rattle.vg_commit.specs.Written.{area_span, area_writes, header_span, headers_of, publish_of, rest_put, text_puts, texts_of}
use Rattle.vg_commit.specs.Written.{whole_texts}
use Rattle.vg_commit.proofs.AreaPuts.{IsPlaced}

module _ (sizes : List ℕ) (text : List ℕ) where
  -- the text's writes
  module _ (a : Area × Option Locn) (placed : IsPlaced text a) (inside : IsWithin sizes (area_span a.0)) where
    abbrev offset : ℕ
    offset = next_offset a.0.size a.1

    abbrev total : ℕ
    total = need (length text + 1)

    abbrev all : ℕ
    all = touched_count a.0.size offset (length text + 1)

    abbrev to_end : ℕ
    to_end = sectors_to_end a.0.size offset

    long : length (text_sectors text total) ≡ total
    long = length-map-range_with_len (text_sector text) 0 total

    first_fills : Fills sizes (span_of_area a.0 (offset / 512) (min all to_end)) (take (min all to_end) (text_sectors text total))
    first_fills =
        let same : all ≡ total = placed.touched in
        let before : offset < a.0.size = placed.ring.before_end in
        record {
          disk = inside.disk;
          within = omega (arith, inside.within, before);
          buffer = length-take-le (min all to_end) (text_sectors text total) (omega (arith, long, same));
        }

    rest_fills : (b : Bool) → nat_lt to_end all ≡ b
        → LieIn sizes (rest_put (cond b (Some (span_of_area a.0 1 (all - to_end))) None) (drop (min all to_end) (text_sectors text total)))
    rest_fills true round =
        let same : all ≡ total = placed.touched in
        let fits : 512 * total ≤ a.0.size - 512 = placed.ring.fits in
        let past : to_end < all = ltb-true to_end all round in
        All-cons (λ (put : Span × List (List ℕ)). Fills sizes put.0 put.1)
        (span_of_area a.0 1 (all - to_end), drop (min all to_end) (text_sectors text total)) []
        (record {
          disk = inside.disk;
          within = omega (arith, inside.within, same, fits, past);
          buffer = length-drop (min all to_end) (text_sectors text total) ∙ omega (arith, long, same, past);
        })
        (All-nil (λ (put : Span × List (List ℕ)). Fills sizes put.0 put.1))
    rest_fills false straight = All-nil (λ (put : Span × List (List ℕ)). Fills sizes put.0 put.1)

    text_lies : LieIn sizes (text_puts text a)
    text_lies =
        All-cons (λ (put : Span × List (List ℕ)). Fills sizes put.0 put.1)
        (span_of_area a.0 (offset / 512) (min all to_end), take (min all to_end) (text_sectors text total))
        (rest_put (cond (nat_lt to_end all) (Some (span_of_area a.0 1 (all - to_end))) None)
        (drop (min all to_end) (text_sectors text total))) first_fills (rest_fills (nat_lt to_end all) refl)

  header_fills : (a : Area × Option Locn) (value : List ℕ) → IsArea a.0 → IsWithin sizes (area_span a.0)
      → Fills sizes (header_span a.0) (value ∷ [])
  header_fills a value good inside =
      let big : 1536 ≤ a.0.size = good.has_ring in record { disk = inside.disk; within = omega (arith, inside.within); buffer = refl }

  -- of each area
  whole_lie : (areas : List (Area × Option Locn)) → All (IsPlaced text) areas
      → All (λ (a : Area × Option Locn). IsWithin sizes (area_span a.0)) areas → LieIn sizes (whole_texts (map (area_writes text) areas))
  whole_lie [] placed inside = All-nil (λ (put : Span × List (List ℕ)). Fills sizes put.0 put.1)
  whole_lie (a ∷ areas) placed inside =
      All-append (λ (put : Span × List (List ℕ)). Fills sizes put.0 put.1) (text_puts text a) (whole_texts (map (area_writes text) areas))
      (text_lies a (All-head (IsPlaced text) a areas placed)
      (All-head (λ (b : Area × Option Locn). IsWithin sizes (area_span b.0)) a areas inside))
      (whole_lie areas (All-tail (IsPlaced text) a areas placed)
      (All-tail (λ (b : Area × Option Locn). IsWithin sizes (area_span b.0)) a areas inside))

  pub texts_lie : (areas : List (Area × Option Locn)) → All (IsPlaced text) areas
      → All (λ (a : Area × Option Locn). IsWithin sizes (area_span a.0)) areas → LieIn sizes (texts_of (map (area_writes text) areas))
  texts_lie areas placed inside = blocks_lie sizes (whole_texts (map (area_writes text) areas)) (whole_lie areas placed inside)

  pub headers_lie : (areas : List (Area × Option Locn)) → All (IsPlaced text) areas
      → All (λ (a : Area × Option Locn). IsWithin sizes (area_span a.0)) areas → LieIn sizes (headers_of (map (area_writes text) areas))
  headers_lie [] placed inside = All-nil (λ (put : Span × List (List ℕ)). Fills sizes put.0 put.1)
  headers_lie (a ∷ areas) placed inside =
      All-cons (λ (put : Span × List (List ℕ)). Fills sizes put.0 put.1) (header_span a.0, (area_writes text a).before ∷ [])
      (headers_of (map (area_writes text) areas))
      (header_fills a (area_writes text a).before (All-head (IsPlaced text) a areas placed).good
      (All-head (λ (b : Area × Option Locn). IsWithin sizes (area_span b.0)) a areas inside))
      (headers_lie areas (All-tail (IsPlaced text) a areas placed)
      (All-tail (λ (b : Area × Option Locn). IsWithin sizes (area_span b.0)) a areas inside))

  pub publish_lie : (areas : List (Area × Option Locn)) → All (IsPlaced text) areas
      → All (λ (a : Area × Option Locn). IsWithin sizes (area_span a.0)) areas → LieIn sizes (publish_of (map (area_writes text) areas))
  publish_lie [] placed inside = All-nil (λ (put : Span × List (List ℕ)). Fills sizes put.0 put.1)
  publish_lie (a ∷ areas) placed inside =
      All-cons (λ (put : Span × List (List ℕ)). Fills sizes put.0 put.1) (header_span a.0, (area_writes text a).after ∷ [])
      (publish_of (map (area_writes text) areas))
      (header_fills a (area_writes text a).after (All-head (IsPlaced text) a areas placed).good
      (All-head (λ (b : Area × Option Locn). IsWithin sizes (area_span b.0)) a areas inside))
      (publish_lie areas (All-tail (IsPlaced text) a areas placed)
      (All-tail (λ (b : Area × Option Locn). IsWithin sizes (area_span b.0)) a areas inside))

-- each batch writes something
pub texts_some : (text : List ℕ) (areas : List (Area × Option Locn)) → 0 < length areas → All (IsPlaced text) areas
    → 0 < length (texts_of (map (area_writes text) areas))
texts_some text [] some placed = absurd (omega arith)
texts_some text (a ∷ areas) some placed =
    let offset : ℕ = next_offset a.0.size a.1 in
    let all : ℕ = touched_count a.0.size offset (length text + 1) in
    let to_end : ℕ = sectors_to_end a.0.size offset in
    let here : IsPlaced text a = All-head (IsPlaced text) a areas placed in
    let same : all ≡ need (length text + 1) = here.touched in
    let before : offset < a.0.size = here.ring.before_end in
    let whole : a.0.size % 512 ≡ 0 = here.good.size_is_whole in
    blocks_some (span_of_area a.0 (offset / 512) (min all to_end), take (min all to_end) (text_sectors text (need (length text + 1))))
    (rest_put (cond (nat_lt to_end all) (Some (span_of_area a.0 1 (all - to_end))) None)
    (drop (min all to_end) (text_sectors text (need (length text + 1)))) ++ whole_texts (map (area_writes text) areas))
    (omega (arith, same, before, whole))

pub headers_some : (text : List ℕ) (areas : List (Area × Option Locn)) → 0 < length areas
    → 0 < length (headers_of (map (area_writes text) areas))
headers_some text [] some = absurd (omega arith)
headers_some text (a ∷ areas) some = omega arith

pub publish_some : (text : List ℕ) (areas : List (Area × Option Locn)) → 0 < length areas
    → 0 < length (publish_of (map (area_writes text) areas))
publish_some text [] some = absurd (omega arith)
publish_some text (a ∷ areas) some = omega arith
