-- A line that writes what a pvcreate may write alone.
use Rattle.std.proofs.Common.{◌≡◌, ℕ, zero, suc, ◌/◌, ◌||◌, Bool, true, false, List, [], ◌∷◌, ◌++◌, map, take, drop, sym, ap, ◌∙◌}
use Rattle.std.proofs.lemmas.Bool.{true≢false}
use Rattle.std.specs.Prelude.{flat_map}
use Rattle.std.specs.List.{AllByRecursion as Each}
use Rattle.sector_base.specs.declared.spans.Span.{Span}
use Rattle.disk_model.specs.Order.{WritesNothing}
use Rattle.disk_model.specs.Puts.{one_sector}
use Rattle.disk_model.specs.Since.{writes_submitted}
use Rattle.disk_model.specs.Steps.{Completed, Flushing, Reading, Step, Submitted, Writing}
use Rattle.pv_header.specs.declared.extent_list.Extent.{Extent}
use Rattle.disk_batch.specs.InTurn.{Put}
use Rattle.group_plan.specs.declared.state.NewLabel.{NewLabel}
use Rattle.change_batches.specs.Batches.{area_put, area_puts, batch_if, label_put}
use Rattle.volume_history.specs.Chronicles.{has_written}

module _ (own : Span → Bool) where
  -- these writes are all such
  abbrev pub AreOn : List Put → Type 0
  AreOn [] = Unit {0}
  AreOn (put ∷ puts) = (own put.0 ≡ true) × AreOn puts

  abbrev pub BatchesAreOn : List (List Put) → Type 0
  BatchesAreOn [] = Unit {0}
  BatchesAreOn (batch ∷ batches) = AreOn batch × BatchesAreOn batches

  both_on : (puts more : List Put) → AreOn puts → AreOn more → AreOn (puts ++ more)
  both_on [] more a b = b
  both_on (put ∷ puts) more a b = (a.0, both_on puts more a.1 b)

  batches_both : (batches more : List (List Put)) → BatchesAreOn batches → BatchesAreOn more → BatchesAreOn (batches ++ more)
  batches_both [] more a b = b
  batches_both (batch ∷ batches) more a b = (a.0, batches_both batches more a.1 b)

  if_on : (puts : List Put) → AreOn puts → BatchesAreOn (batch_if puts)
  if_on [] on = tt
  if_on (put ∷ puts) on = (on, tt)

  areas_on : (disk : ℕ) (areas : List Extent) → Each (λ (area : Extent). own (one_sector disk (area.offset / 512)) ≡ true) areas
      → AreOn (map (area_put disk) areas)
  areas_on disk [] each = tt
  areas_on disk (area ∷ areas) each = (each.0, areas_on disk areas each.1)

  -- those of a new physical volume, where its label and the headers of its areas are
  pub label_on : (label : NewLabel) → own (one_sector label.disk label.sector) ≡ true
      → Each (λ (area : Extent). own (one_sector label.disk (area.offset / 512)) ≡ true) label.header.areas
      → BatchesAreOn (batch_if (flat_map area_puts (label ∷ [])) ++ batch_if (map label_put (label ∷ [])) ++ [])
  label_on label on areas_are =
      let areas : AreOn (area_puts label) = areas_on label.disk label.header.areas areas_are in
      batches_both (batch_if (flat_map area_puts (label ∷ [])) ++ batch_if (map label_put (label ∷ []))) []
      (batches_both (batch_if (flat_map area_puts (label ∷ []))) (batch_if (map label_put (label ∷ [])))
      (if_on (area_puts label ++ []) (both_on (area_puts label) [] areas tt)) ((on, tt), tt))
      tt

  -- the writes of the first of the batches
  pub first_on : (n : ℕ) (batches : List (List Put)) → BatchesAreOn batches → AreOn (flat_map (λ batch. batch) (take n batches))
  first_on zero batches on = tt
  first_on (suc n) [] on = tt
  first_on (suc n) (batch ∷ batches) on = both_on batch (flat_map (λ b. b) (take n batches)) on.0 (first_on n batches on.1)

  -- ---- steps

  all_but_last : (puts : List Put) (put : Put) → AreOn (puts ++ put ∷ []) → AreOn puts
  all_but_last [] put on = tt
  all_but_last (first ∷ puts) put on = (on.0, all_but_last puts put on.1)

  the_last : (puts : List Put) (put : Put) → AreOn (puts ++ put ∷ []) → own put.0 ≡ true
  the_last [] put on = on.0
  the_last (first ∷ puts) put on = the_last puts put on.1

  older_one : (step : Step) (steps : List Step) → AreOn (writes_submitted (step ∷ steps)) → AreOn (writes_submitted steps)
  older_one (Submitted tag (Writing span sectors)) steps on = all_but_last (writes_submitted steps) (span, sectors) on
  older_one (Submitted tag (Reading span)) steps on = on
  older_one (Submitted tag (Flushing pv)) steps on = on
  older_one (Completed tag work well fresh) steps on = on

  -- the older of the steps write it alone too
  pub older_on : (k : ℕ) (steps : List Step) → AreOn (writes_submitted steps) → AreOn (writes_submitted (drop k steps))
  older_on zero steps on = on
  older_on (suc k) [] on = tt
  older_on (suc k) (step ∷ steps) on = older_on k steps (older_one step steps on)

  -- where none of them is written, none writes
  pub unwritten : (steps : List Step) → AreOn (writes_submitted steps) → has_written own steps ≡ false → WritesNothing steps
  unwritten [] on none = tt
  unwritten (Submitted tag (Writing span sectors) ∷ steps) on none =
      absurd (true≢false (sym (ap (λ (b : Bool). b || has_written own steps) (the_last (writes_submitted steps) (span, sectors) on))
      ∙ none))
  unwritten (Submitted tag (Reading span) ∷ steps) on none = unwritten steps on none
  unwritten (Submitted tag (Flushing pv) ∷ steps) on none = unwritten steps on none
  unwritten (Completed tag work well fresh ∷ steps) on none = unwritten steps on none
