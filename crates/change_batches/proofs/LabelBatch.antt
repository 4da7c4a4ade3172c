-- The batch of label sectors.
use Rattle.std.proofs.Common.{◌≡◌, ◌≢◌, ◌≤◌, ◌<◌, ℕ, ◌+◌, true, false, List, [], ◌∷◌, map, get_or, inl, inr, refl, sym, subst, ◌∙◌, arith}
use Rattle.std.specs.Prelude.{All, AllPairs}
use Rattle.std.proofs.lemmas.Bool.{or_cases, true≢false}
use Rattle.std.proofs.lemmas.List.Concat.{flat_map_single}
use Rattle.std.proofs.lemmas.List.Elements.{All-map}
use Rattle.sector_base.specs.Spans.{covers}
use Rattle.disk_model.specs.Operations.{Fills}
use Rattle.mda_ring.proofs.SpanLaws.{covers_tells}
use Rattle.disk_batch.specs.InTurn.{Put, ShareNoSector}
use Rattle.disk_batch.proofs.WritesApart.{each_apart}
use Rattle.vg_commit.specs.Commits.{written_at}
use Rattle.group_plan.specs.declared.state.NewLabel.{NewLabel}
use Rattle.change_batches.specs.Batches.{label_put}
use Rattle.change_batches.specs.Building.{IsOnFew}
use Rattle.change_batches.specs.Sound.{CanLabel, LabelLies}
use Rattle.change_batches.proofs.DisksWritten.{AreApart}

-- what one write writes is in its span
pub one_put : (put : Put) (pv sector : ℕ) → written_at (put ∷ []) pv sector ≡ true
    → (put.0.pv ≡ pv) × (put.0.first ≤ sector) × (sector < put.0.first + put.0.count)
one_put put pv sector is =
    elim (or_cases (covers put.0 pv sector) false is) [
      | inl here ↦ covers_tells put.0 pv sector here
      | inr none ↦ absurd (true≢false (sym none))
    ]

pub labels_few : (labels : List NewLabel) → All CanLabel labels → All IsOnFew (map label_put labels)
labels_few labels can = All-map IsOnFew label_put labels (λ k d within. (can k d within).disk_below)

-- no two labels are on one disk
labels_apart : (labels : List NewLabel) → AllPairs (λ (a b : NewLabel). a.disk ≢ b.disk) labels → ShareNoSector (map label_put labels)
labels_apart labels differ =
    subst ShareNoSector (flat_map_single label_put labels)
    (each_apart (λ (label : NewLabel). label_put label ∷ []) (λ label. Unit {0}) (λ (a b : NewLabel). a.disk ≢ b.disk)
    (λ label good. (λ pv sector here. refl, tt))
    (λ a b good_a good_b other pv sector x y. other ((one_put (label_put a) pv sector x).0 ∙ sym (one_put (label_put b) pv sector y).0))
    labels (λ k d within. tt) differ)

pub label_batch : (sizes : List ℕ) (labels : List NewLabel) → All CanLabel labels → All (LabelLies sizes) labels
    → AllPairs (λ (a b : NewLabel). a.disk ≢ b.disk) labels → AreApart sizes (map label_put labels)
label_batch sizes labels can lie differ = record {
  few = labels_few labels can;
  lie = All-map (λ (put : Put). Fills sizes put.0 put.1) label_put labels (λ k d within.
      let l : LabelLies sizes (get_or labels k d) = lie k d within in
      record { disk = l.disk; within = omega (arith, l.within); buffer = refl });
  apart = labels_apart labels differ;
}
