-- The batch of empty headers: it can run, and what it writes.
use Rattle.std.proofs.Common.{◌≡◌, ◌≤◌, ◌<◌, ℕ, zero, suc, ◌+◌, ◌/◌, true, List, [], ◌∷◌, length, map, get_or, Option, None, inl, inr}
use Rattle.std.proofs.Common.{⊎_elim, refl, sym, ap, subst, ◌∙◌, arith}
use Rattle.std.specs.Prelude.{All}
use Rattle.std.proofs.lemmas.Bool.{cases_lt, or_left, or_right, true≢false}
use Rattle.std.proofs.lemmas.List.Concat.{flat_map_single}
use Rattle.std.proofs.lemmas.List.Elements.{All-map}
use Rattle.sector_base.specs.Spans.{covers}
use Rattle.disk_model.specs.Operations.{Fills}
use Rattle.disk_model.specs.Steps.{Image}
use Rattle.disk_model.specs.Submitting.{writes_at}
use Rattle.mda_header.specs.HeaderBytes.{header_bytes}
use Rattle.mda_header.specs.declared.header.Locn.{Locn}
use Rattle.mda_ring.specs.Areas.{CanTake, LieApart}
use Rattle.mda_ring.specs.declared.area.Area.{Area}
use Rattle.disk_batch.specs.InTurn.{Put, ShareNoSector, with_writes}
use Rattle.disk_batch.specs.Writes.{IsWrittenBy, write_work}
use Rattle.disk_batch.proofs.WritesOnImages.{written_or_kept}
use Rattle.disk_batch.proofs.WritesApart.{each_apart}
use Rattle.vg_commit.specs.Commits.{written_at}
use Rattle.vg_commit.specs.Written.{header_of, header_span}
use Rattle.change_batches.proofs.DisksWritten.{AreApart}
use Rattle.change_batches.proofs.LabelBatch.{one_put}
use Rattle.change_batches.proofs.LabelPuts.{one_covers, one_tells, one_value}
use Rattle.change_batches.specs.Batches.{clear_put}
use Rattle.change_batches.specs.Building.{AreHeld, IsOnFew, LiesIn}

-- ---- it can run

apart_headers : (a b : Area × Option Locn) → CanTake a → CanTake b → LieApart a b → (pv sector : ℕ)
    → written_at (clear_put a ∷ []) pv sector ≡ true → written_at (clear_put b ∷ []) pv sector ≡ true → ⊥
apart_headers a b good_a good_b apart pv sector x y =
    let s = one_put (clear_put a) pv sector x in
    let t = one_put (clear_put b) pv sector y in
    let big_a : 1536 ≤ a.0.size = good_a.0.has_ring in
    let big_b : 1536 ≤ b.0.size = good_b.0.has_ring in
    ⊎_elim (λ other. other (s.0 ∙ sym t.0))
    (λ beside. ⊎_elim (λ (before : a.0.start + a.0.size ≤ b.0.start). omega (arith, before, s.1, s.2, t.1, t.2, big_a))
    (λ (behind : b.0.start + b.0.size ≤ a.0.start). omega (arith, behind, s.1, s.2, t.1, t.2, big_b)) beside)
    apart

pub clear_few : (areas : List (Area × Option Locn)) → AreHeld areas → All IsOnFew (map clear_put areas)
clear_few areas held = All-map IsOnFew clear_put areas held.few

pub clear_batch : (sizes : List ℕ) (areas : List (Area × Option Locn)) → AreHeld areas → All (LiesIn sizes) areas
    → AreApart sizes (map clear_put areas)
clear_batch sizes areas held lie = record {
  few = clear_few areas held;
  lie = All-map (λ (put : Put). Fills sizes put.0 put.1) clear_put areas (λ k d within.
      let l : LiesIn sizes (get_or areas k d) = lie k d within in
      let big : 1536 ≤ (get_or areas k d).0.size = (held.take k d within).0.has_ring in
      record { disk = l.disk; within = omega (arith, l.within, big); buffer = refl });
  apart =
      subst ShareNoSector (flat_map_single clear_put areas)
      (each_apart (λ (area : Area × Option Locn). clear_put area ∷ []) CanTake LieApart (λ area good. (λ pv sector here. refl, tt))
      apart_headers areas held.take held.apart);
}

-- ---- what it writes

-- the header of one of the areas
pub clear_where : (areas : List (Area × Option Locn)) (d : Area × Option Locn) (pv sector : ℕ) (value : List ℕ)
    → IsWrittenBy (map clear_put areas) pv sector value
    → (k : ℕ) × (k < length areas) × (covers (header_span (get_or areas k d).0) pv sector ≡ true)
    × (value ≡ header_bytes (header_of (get_or areas k d).0 None None))
clear_where [] d pv sector value by = absurd by
clear_where (area ∷ areas) d pv sector value (inl own) =
    let t = one_tells area.0.pv (area.0.start / 512) pv sector own.0 in
    (0, omega arith, own.0, own.1 ∙ one_value area.0.pv (area.0.start / 512) sector (header_bytes (header_of area.0 None None)) t.1)
clear_where (area ∷ areas) d pv sector value (inr more) =
    let w = clear_where areas d pv sector value more in (suc w.0, omega (arith, w.1), w.2, w.3)

-- each of them is
clear_at : (areas : List (Area × Option Locn)) (d : Area × Option Locn) (k : ℕ) → k < length areas
    → writes_at (map write_work (map clear_put areas)) (get_or areas k d).0.pv ((get_or areas k d).0.start / 512) ≡ true
clear_at [] d k within = absurd (omega arith)
clear_at (area ∷ areas) d zero within =
    or_left (covers (header_span area.0) area.0.pv (area.0.start / 512))
    (writes_at (map write_work (map clear_put areas)) area.0.pv (area.0.start / 512)) (one_covers area.0.pv (area.0.start / 512))
clear_at (area ∷ areas) d (suc k) within =
    or_right (covers (header_span area.0) (get_or areas k d).0.pv ((get_or areas k d).0.start / 512))
    (writes_at (map write_work (map clear_put areas)) (get_or areas k d).0.pv ((get_or areas k d).0.start / 512))
    (clear_at areas d k (omega arith))

-- an area's header sector is that of no other
same_area : (areas : List (Area × Option Locn)) → AreHeld areas → (d : Area × Option Locn) (j k : ℕ) → j < length areas → k < length areas
    → covers (header_span (get_or areas j d).0) (get_or areas k d).0.pv ((get_or areas k d).0.start / 512) ≡ true
    → get_or areas j d ≡ get_or areas k d
same_area areas held d j k in_j in_k here =
    let a : Area × Option Locn = get_or areas j d in
    let b : Area × Option Locn = get_or areas k d in
    let t = one_tells a.0.pv (a.0.start / 512) b.0.pv (b.0.start / 512) here in
    let big_a : 1536 ≤ a.0.size = (held.take j d in_j).0.has_ring in
    let big_b : 1536 ≤ b.0.size = (held.take k d in_k).0.has_ring in
    ⊎_elim
    (λ (below : j < k). absurd (apart a b big_a big_b t.0 t.1 (held.apart j k d below in_k)))
    (λ (from : k ≤ j).
    ⊎_elim
    (λ (above : k < j). absurd (apart b a big_b big_a (sym t.0) (sym t.1) (held.apart k j d above in_j)))
    (λ (upto : j ≤ k). ap (λ (i : ℕ). get_or areas i d) (omega (arith, from, upto)))
    (cases_lt k j))
    (cases_lt j k)
  where
    apart : (a b : Area × Option Locn) → 1536 ≤ a.0.size → 1536 ≤ b.0.size → a.0.pv ≡ b.0.pv → a.0.start / 512 ≡ b.0.start / 512
        → LieApart a b → ⊥
    apart a b big_a big_b same at (inl other) = other same
    apart a b big_a big_b same at (inr (inl before)) = omega (arith, before, at, big_a)
    apart a b big_a big_b same at (inr (inr behind)) = omega (arith, behind, at, big_b)

-- so each has its empty header once all are written
pub clear_there : (areas : List (Area × Option Locn)) (base : Image) → AreHeld areas → (k : ℕ) (d : Area × Option Locn) → k < length areas
    → with_writes (map clear_put areas) base (get_or areas k d).0.pv ((get_or areas k d).0.start / 512)
    ≡ header_bytes (header_of (get_or areas k d).0 None None)
clear_there areas base held k d within =
    let a : Area × Option Locn = get_or areas k d in
    ⊎_elim
    (λ kept. absurd (true≢false (sym (clear_at areas d k within) ∙ kept.1)))
    (λ by.
    let w = clear_where areas d a.0.pv (a.0.start / 512) (with_writes (map clear_put areas) base a.0.pv (a.0.start / 512)) by in
    w.3 ∙ ap (λ (b : Area × Option Locn). header_bytes (header_of b.0 None None)) (same_area areas held d w.0 k w.1 within w.2))
    (written_or_kept (map clear_put areas) base a.0.pv (a.0.start / 512))
