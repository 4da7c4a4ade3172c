-- A sector that batches write, by which of their writes, and that it is one of a list.
use Rattle.std.proofs.Common.{◌≡◌, ◌<◌, ◌⊎◌, ℕ, zero, suc, Bool, true, IsTrue, List, [], ◌∷◌, ◌++◌, length, get_or, map, Option, inl, inr}
use Rattle.std.proofs.Common.{⊎_elim, refl, sym, arith}
use Rattle.std.specs.Prelude.{flat_map}
use Rattle.std.specs.List.{list_any}
use Rattle.std.proofs.lemmas.Bool.{or_cases, or_left, or_right, true≢false}
use Rattle.sector_base.specs.Spans.{covers}
use Rattle.disk_batch.specs.InTurn.{Put}
use Rattle.disk_batch.specs.Writes.{IsWrittenBy, write_work}
use Rattle.disk_model.specs.Steps.{value_at}
use Rattle.disk_model.specs.Submitting.{writes_at}
use Rattle.mda_header.specs.declared.header.Locn.{Locn}
use Rattle.mda_ring.specs.declared.area.Area.{Area}
use Rattle.mda_ring.proofs.SpanLaws.{covers_from}
use Rattle.vg_commit.proofs.Disks.{no_area}
use Rattle.vg_commit.specs.Written.{area_span, in_areas}
use Rattle.image_scans.proofs.CommitWrites.{IsAreaWrite}
use Rattle.image_scans.proofs.Front.{AnyWrites}
use Rattle.line_history.specs.Places.{BatchesWrite}

module _ (pv sector : ℕ) where
  -- ---- which value is written

  -- a batch writes a value to the sector, or those behind it write it
  in_batch : (puts rest : List Put) → IsTrue (writes_at (map write_work (puts ++ rest)) pv sector)
      → ((value : List ℕ) × IsWrittenBy puts pv sector value) ⊎ IsTrue (writes_at (map write_work rest) pv sector)
  in_batch [] rest is = inr is
  in_batch (put ∷ puts) rest is =
      ⊎_elim
      (λ here. inl (value_at put.0 put.1 sector, inl (here, refl)))
      (λ later. ⊎_elim (λ by. inl (by.0, inr by.1)) (λ behind. inr behind) (in_batch puts rest later))
      (or_cases (covers put.0 pv sector) (writes_at (map write_work (puts ++ rest)) pv sector) is)

  pub any_writes : (batches : List (List Put)) → BatchesWrite batches pv sector → (value : List ℕ) × AnyWrites batches pv sector value
  any_writes [] is = absurd (true≢false (sym is))
  any_writes (batch ∷ batches) is =
      ⊎_elim
      (λ here. (here.0, inl here.1))
      (λ later. let w = any_writes batches later in (w.0, inr w.1))
      (in_batch batch (flat_map (λ puts. puts) batches) is)

  -- ---- of which of a list the write is

  written_append : (first more : List Put) (value : List ℕ) → IsWrittenBy (first ++ more) pv sector value
      → IsWrittenBy first pv sector value ⊎ IsWrittenBy more pv sector value
  written_append [] more value by = inr by
  written_append (put ∷ first) more value (inl here) = inl (inl here)
  written_append (put ∷ first) more value (inr later) = ⊎_elim (λ x. inl (inr x)) (λ y. inr y) (written_append first more value later)

  -- where each of a list has several
  pub written_of_flat : {X : Type 0} (puts : X → List Put) (is : X → Bool)
      → ((x : X) (value : List ℕ) → IsWrittenBy (puts x) pv sector value → is x ≡ true) → (xs : List X) (value : List ℕ)
      → IsWrittenBy (flat_map puts xs) pv sector value → list_any is xs ≡ true
  written_of_flat puts is each [] value by = absurd by
  written_of_flat puts is each (x ∷ xs) value by =
      ⊎_elim
      (λ here. or_left (is x) (list_any is xs) (each x value here))
      (λ later. or_right (is x) (list_any is xs) (written_of_flat puts is each xs value later))
      (written_append (puts x) (flat_map puts xs) value by)

  -- ---- a write of a commit

  in_one : (areas : List (Area × Option Locn)) (d : Area × Option Locn) (k : ℕ) → k < length areas
      → covers (area_span (get_or areas k d).0) pv sector ≡ true → in_areas areas pv sector ≡ true
  in_one [] d k within is = absurd (omega (arith, within))
  in_one (a ∷ areas) d zero within is = or_left (covers (area_span a.0) pv sector) (in_areas areas pv sector) is
  in_one (a ∷ areas) d (suc k) within is =
      or_right (covers (area_span a.0) pv sector) (in_areas areas pv sector) (in_one areas d k (omega (arith, within)) is)

  pub area_write : (text : List ℕ) (areas : List (Area × Option Locn)) (value : List ℕ) → IsAreaWrite text areas pv sector value
      → in_areas areas pv sector ≡ true
  area_write text areas value w =
      in_one areas no_area w.number w.among (covers_from (area_span (get_or areas w.number no_area).0) pv sector w.disk w.from w.to)
