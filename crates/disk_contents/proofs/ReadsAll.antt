-- All sectors that a report reads are the first so many of them.
use Rattle.pv_label.specs.LabelSectors.{label_span}
use Rattle.std.proofs.Common.{ℕ, List, [], ◌∷◌, inl, inr, refl}
use Rattle.std.proofs.lemmas.List.{append-nil}
use Rattle.disk_model.specs.State.{State}
use Rattle.disk_model.proofs.ReadingAlone.{holds_weaker}
use Rattle.disk_contents.specs.declared.contents.PvFound.{PvFound}
use Rattle.disk_contents.specs.declared.contents.PvFound.TheVariants.{NoLabel, NoHeader, Whole}
use Rattle.disk_contents.specs.Contents.{IsFound}
use Rattle.disk_contents.specs.Reads.{AreAreasOf, ReadsAllOf, ReadsFirstOf, area_spans, areas_found}

pub are_areas : (sector_at : ℕ → List ℕ) (disk : ℕ) (found : PvFound) → IsFound sector_at disk found
    → AreAreasOf sector_at disk (areas_found found)
are_areas sector_at disk (NoLabel refusal) is = inl refl
are_areas sector_at disk (NoHeader label refusal) is = inl refl
are_areas sector_at disk (Whole label header areas) is = inr (label, header, is.0, is.1, refl)

pub reads_first : (pv disk : ℕ) (old new : State) → ReadsAllOf pv disk old new → ReadsFirstOf pv disk old new
reads_first pv disk old new all = record {
  areas = areas_found all.found;
  are =
      holds_weaker old.told pv (λ s. IsFound s disk all.found) (λ s. AreAreasOf s disk (areas_found all.found))
      (λ s is. are_areas s disk all.found is) all.is;
  read = label_span pv ∷ area_spans pv (areas_found all.found);
  rest = [];
  front = append-nil (label_span pv ∷ area_spans pv (areas_found all.found));
  reads = all.reads;
}
