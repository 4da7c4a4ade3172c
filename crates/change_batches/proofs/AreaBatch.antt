-- The batch of the headers of new physical volumes' areas: it can run, and what it writes.
use Rattle.std.proofs.Common.{◌≡◌, ◌≢◌, ◌<◌, ℕ, zero, suc, true, List, [], ◌∷◌, length, map, get_or, inl, inr, refl, sym, subst, ◌∙◌}
use Rattle.std.proofs.Common.{arith}
use Rattle.std.specs.Prelude.{All, AllPairs, flat_map}
use Rattle.std.proofs.lemmas.List.Concat.{flat_map_single}
use Rattle.std.proofs.lemmas.List.Elements.{All-map}
use Rattle.disk_model.specs.InFlight.{IsAmong}
use Rattle.disk_model.specs.Operations.{Fills}
use Rattle.disk_model.specs.Steps.{Image}
use Rattle.pv_header.specs.declared.extent_list.Extent.{Extent}
use Rattle.mda_header.specs.HeaderBytes.{header_bytes as mda_bytes}
use Rattle.disk_batch.specs.InTurn.{Put, ShareNoSector, with_writes}
use Rattle.disk_batch.specs.Writes.{IsWrittenBy}
use Rattle.disk_batch.proofs.WritesApart.{disk_among, each_apart, each_has}
use Rattle.disk_batch.proofs.WritesOnImages.{written_is}
use Rattle.disk_batch.proofs.WrittenBy.{written_left, written_right}
use Rattle.vg_commit.specs.Commits.{written_at}
use Rattle.group_plan.specs.declared.state.NewLabel.{NewLabel}
use Rattle.change_batches.specs.Batches.{area_put, area_puts, empty_area}
use Rattle.change_batches.specs.Building.{IsOnFew}
use Rattle.change_batches.specs.Sound.{AreasLie, CanLabel, IsOnDisk, header_sector}
use Rattle.change_batches.proofs.DisksWritten.{AreApart}
use Rattle.change_batches.proofs.LabelBatch.{one_put}
use Rattle.change_batches.proofs.LabelPuts.{one_covers, one_value}

-- ---- it can run

-- the headers on one disk stand in sectors that differ
headers_apart : (disk : ℕ) (areas : List Extent) → AllPairs (λ (a b : Extent). header_sector a ≢ header_sector b) areas
    → ShareNoSector (map (area_put disk) areas)
headers_apart disk areas differ =
    subst ShareNoSector (flat_map_single (area_put disk) areas)
    (each_apart (λ (area : Extent). area_put disk area ∷ []) (λ area. Unit {0}) (λ (a b : Extent). header_sector a ≢ header_sector b)
    (λ area good. (λ pv sector here. refl, tt))
    (λ a b good_a good_b other pv sector x y. other
    (let s = one_put (area_put disk a) pv sector x in let t = one_put (area_put disk b) pv sector y in omega
    (arith, s.1, s.2, t.1, t.2)))
    areas (λ k d within. tt) differ)

-- they are on the label's disk
on_disk : (label : NewLabel) (pv sector : ℕ) → written_at (area_puts label) pv sector ≡ true → label.disk ≡ pv
on_disk label pv sector is =
    elim (disk_among (label.disk ∷ []) (area_puts label)
    (All-map (λ (put : Put). IsAmong (label.disk ∷ []) put.0.pv) (area_put label.disk) label.header.areas (λ k d within. inl refl)) pv
    sector is) [
      | inl same ↦ same
      | inr none ↦ absurd none
    ]

pub areas_few : (labels : List NewLabel) → All CanLabel labels → All IsOnFew (flat_map area_puts labels)
areas_few labels can =
    each_has area_puts IsOnFew labels (λ k d within. All-map IsOnFew (area_put (get_or labels k d).disk) (get_or labels k d).header.areas
    (λ i e inside. (can k d within).disk_below))

areas_lie : (sizes : List ℕ) (label : NewLabel) → AreasLie sizes label → All (λ (put : Put). Fills sizes put.0 put.1) (area_puts label)
areas_lie sizes label lie =
    All-map (λ (put : Put). Fills sizes put.0 put.1) (area_put label.disk) label.header.areas
    (λ k d within.
    let l : IsOnDisk sizes label.disk (header_sector (get_or label.header.areas k d)) = lie.lie k d within in
    record { disk = l.disk; within = omega (arith, l.within); buffer = refl })

-- no two of those of all labels share a sector
share_none : (sizes : List ℕ) (labels : List NewLabel) → All (AreasLie sizes) labels
    → AllPairs (λ (a b : NewLabel). a.disk ≢ b.disk) labels → ShareNoSector (flat_map area_puts labels)
share_none sizes labels lie differ =
    each_apart area_puts (AreasLie sizes) (λ (a b : NewLabel). a.disk ≢ b.disk)
    (λ label good. headers_apart label.disk label.header.areas good.differ)
    (λ a b good_a good_b other pv sector x y. other (on_disk a pv sector x ∙ sym (on_disk b pv sector y))) labels lie differ

pub area_batch : (sizes : List ℕ) (labels : List NewLabel) → All CanLabel labels → All (AreasLie sizes) labels
    → AllPairs (λ (a b : NewLabel). a.disk ≢ b.disk) labels → AreApart sizes (flat_map area_puts labels)
area_batch sizes labels can lie differ = record {
  few = areas_few labels can;
  lie =
      each_has area_puts (λ (put : Put). Fills sizes put.0 put.1) labels
      (λ k d within. areas_lie sizes (get_or labels k d) (lie k d within));
  apart = share_none sizes labels lie differ;
}

-- ---- what it writes

-- each header on one disk
header_written : (disk : ℕ) (areas : List Extent) (k : ℕ) (d : Extent) → k < length areas
    → IsWrittenBy (map (area_put disk) areas) disk (header_sector (get_or areas k d)) (mda_bytes (empty_area (get_or areas k d)))
header_written disk [] k d within = absurd (omega (arith, within))
header_written disk (area ∷ areas) zero d within =
    inl (
      one_covers disk (header_sector area),
      sym (one_value disk (header_sector area) (header_sector area) (mda_bytes (empty_area area)) refl),
    )
header_written disk (area ∷ areas) (suc k) d within = inr (header_written disk areas k d (omega (arith, within)))

-- and those of all labels
area_written : (labels : List NewLabel) (k : ℕ) (d : NewLabel) → k < length labels → (j : ℕ) (e : Extent)
    → j < length (get_or labels k d).header.areas
    → IsWrittenBy (flat_map area_puts labels) (get_or labels k d).disk (header_sector (get_or (get_or labels k d).header.areas j e))
    (mda_bytes (empty_area (get_or (get_or labels k d).header.areas j e)))
area_written [] k d within j e inside = absurd (omega (arith, within))
area_written (label ∷ labels) zero d within j e inside =
    let area : Extent = get_or label.header.areas j e in
    written_left (area_puts label) (flat_map area_puts labels) label.disk (header_sector area) (mda_bytes (empty_area area))
    (header_written label.disk label.header.areas j e inside)
area_written (label ∷ labels) (suc k) d within j e inside =
    let later : NewLabel = get_or labels k d in
    let area : Extent = get_or later.header.areas j e in
    written_right (area_puts label) (flat_map area_puts labels) later.disk (header_sector area) (mda_bytes (empty_area area))
    (area_written labels k d (omega (arith, within)) j e inside)

-- so each has its empty header once all are written
pub areas_there : (sizes : List ℕ) (labels : List NewLabel) → All (AreasLie sizes) labels
    → AllPairs (λ (a b : NewLabel). a.disk ≢ b.disk) labels → (base : Image) (k : ℕ) (d : NewLabel) → k < length labels
    → (j : ℕ) (e : Extent) → j < length (get_or labels k d).header.areas
    → with_writes (flat_map area_puts labels) base (get_or labels k d).disk
    (header_sector (get_or (get_or labels k d).header.areas j e))
    ≡ mda_bytes (empty_area (get_or (get_or labels k d).header.areas j e))
areas_there sizes labels lie differ base k d within j e inside =
    let label : NewLabel = get_or labels k d in
    let area : Extent = get_or label.header.areas j e in
    sym (written_is (flat_map area_puts labels) base label.disk (header_sector area) (mda_bytes (empty_area area))
    (share_none sizes labels lie differ) (area_written labels k d within j e inside))
