-- What the batches of a commit write: sectors of its areas, and their headers before and after the text is published.
use Rattle.std.proofs.Common.{◌≡◌, ◌≤◌, ◌<◌, ◌⊎◌, ℕ, ◌+◌, ◌/◌, IsTrue, List, [], ◌∷◌, length, map, get_or, Option, inl, inr, sym, arith}
use Rattle.std.specs.Prelude.{All}
use Rattle.sector_base.specs.Spans.{covers}
use Rattle.disk_batch.specs.Writes.{IsWrittenBy}
use Rattle.mda_header.specs.declared.header.Locn.{Locn}
use Rattle.mda_header.specs.HeaderBytes.{header_bytes}
use Rattle.mda_ring.specs.declared.area.Area.{Area}
use Rattle.mda_ring.specs.Areas.{CanTake}
use Rattle.mda_ring.specs.Ring.{need, room}
use Rattle.mda_ring.proofs.SpanLaws.{covers_tells}
use Rattle.vg_commit.specs.Written.{area_writes, header_after, header_before, header_span, headers_of, publish_of, texts_of}
use Rattle.vg_commit.proofs.AreaPuts.{IsTextPut, is_placed, text_put}
use Rattle.vg_commit.proofs.AreasCommit.{header_value, header_where, publish_where, text_where}
use Rattle.vg_commit.proofs.Disks.{no_area}
use Rattle.image_scans.proofs.Front.{AnyWrites}

-- the sector is one of the area's ring, or its header with one of these two values
abbrev pub IsRingOrHeader : List ℕ → Area × Option Locn → ℕ → List ℕ → Type 0
IsRingOrHeader text a sector value =
    (a.0.start / 512 + 1 ≤ sector) ⊎ ((sector ≡ a.0.start / 512)
    × ((value ≡ header_bytes (header_before text a)) ⊎ (value ≡ header_bytes (header_after text a))))

-- a sector of an area of the list
pub record IsAreaWrite (text : List ℕ) (areas : List (Area × Option Locn)) (pv sector : ℕ) (value : List ℕ) : Type 0 where
  pub number : ℕ
  pub among : number < length areas
  pub disk : (get_or areas number no_area).0.pv ≡ pv
  pub from : (get_or areas number no_area).0.start / 512 ≤ sector
  pub to : sector < (get_or areas number no_area).0.start / 512 + (get_or areas number no_area).0.size / 512
  pub is : IsRingOrHeader text (get_or areas number no_area) sector value

module _ (text : List ℕ) (areas : List (Area × Option Locn)) (take : All CanTake areas)
    (rooms : All (λ (a : Area × Option Locn). need (length text + 1) ≤ room a.0.size a.1) areas) where
  texts_write : (pv sector : ℕ) (value : List ℕ) → IsWrittenBy (texts_of (map (area_writes text) areas)) pv sector value
      → IsAreaWrite text areas pv sector value
  texts_write pv sector value by =
      let w = text_where text areas no_area pv sector value by in
      let a : Area × Option Locn = get_or areas w.0 no_area in
      let put : IsTextPut text a pv sector value =
      text_put text a (is_placed text a (take w.0 no_area w.1) (rooms w.0 no_area w.1)) pv sector value w.2 in
      record { number = w.0; among = w.1; disk = put.disk; from = omega (arith, put.from); to = put.to; is = inl put.from }

  header_writes : (a : Area × Option Locn) → CanTake a → (pv sector : ℕ) → IsTrue (covers (header_span a.0) pv sector)
      → (a.0.pv ≡ pv) × (a.0.start / 512 ≡ sector) × (sector < a.0.start / 512 + a.0.size / 512)
  header_writes a can pv sector inside =
      let t = covers_tells (header_span a.0) pv sector inside in
      (t.0, omega (arith, t.1, t.2), omega (arith, t.2, can.0.has_ring))

  headers_write : (pv sector : ℕ) (value : List ℕ) → IsWrittenBy (headers_of (map (area_writes text) areas)) pv sector value
      → IsAreaWrite text areas pv sector value
  headers_write pv sector value by =
      let w = header_where text areas no_area pv sector value by in
      let a : Area × Option Locn = get_or areas w.0 no_area in
      let at = header_writes a (take w.0 no_area w.1) pv sector w.2 in
      record {
        number = w.0;
        among = w.1;
        disk = at.0;
        from = omega (arith, at.1);
        to = at.2;
        is = inr (sym at.1, inl (header_value a.0 (header_bytes (header_before text a)) value sector at.1 w.3));
      }

  publish_write : (pv sector : ℕ) (value : List ℕ) → IsWrittenBy (publish_of (map (area_writes text) areas)) pv sector value
      → IsAreaWrite text areas pv sector value
  publish_write pv sector value by =
      let w = publish_where text areas no_area pv sector value by in
      let a : Area × Option Locn = get_or areas w.0 no_area in
      let at = header_writes a (take w.0 no_area w.1) pv sector w.2 in
      record {
        number = w.0;
        among = w.1;
        disk = at.0;
        from = omega (arith, at.1);
        to = at.2;
        is = inr (sym at.1, inr (header_value a.0 (header_bytes (header_after text a)) value sector at.1 w.3));
      }

  pub commit_writes : (pv sector : ℕ) (value : List ℕ)
      → AnyWrites (texts_of (map (area_writes text) areas) ∷ headers_of (map (area_writes text) areas)
      ∷ publish_of (map (area_writes text) areas) ∷ []) pv sector value → IsAreaWrite text areas pv sector value
  commit_writes pv sector value (inl by) = texts_write pv sector value by
  commit_writes pv sector value (inr (inl by)) = headers_write pv sector value by
  commit_writes pv sector value (inr (inr (inl by))) = publish_write pv sector value by
  commit_writes pv sector value (inr (inr (inr none))) = absurd none
