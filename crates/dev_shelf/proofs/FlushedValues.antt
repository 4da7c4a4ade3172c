-- The values of a sector after a recorded flush has completed.
use Rattle.std.proofs.Common.{◌≡◌, ◌≤◌, ℕ, Bool, true, false, List, ◌∷◌, length, replicate, ⊎_elim, refl, sym, subst}
use Rattle.std.proofs.lemmas.Bool.Decides.{eqb_tells}
use Rattle.dev_shelf.specs.declared.mem_shelf.recorded.RecordedWork.{RecordedWork}
use Rattle.dev_shelf.specs.declared.mem_shelf.recorded.RecordedWork.TheVariants.{Flushes}
use Rattle.dev_shelf.specs.declared.mem_shelf.recorded.RecordedStep.{RecordedStep}
use Rattle.dev_shelf.specs.declared.mem_shelf.recorded.RecordedStep.TheVariants.{Ended}
use Rattle.disk_model.specs.Steps.{Image, Step}
use Rattle.disk_model.specs.Record.{IsRecord}
use Rattle.disk_model.specs.ValueList.{values}
use Rattle.dev_shelf.specs.DiskRow.{step_at}
use Rattle.disk_model.proofs.ValueLists.{sole_stays}

module _ (opened : Image) (written : List (List ℕ)) (earlier : List Step) (step : RecordedStep) (tag : ℕ) (work : RecordedWork)
    (disk fresh pv sector : ℕ) (well : Bool)
    (is : step ≡ Ended tag work well fresh) (flushes : work ≡ Flushes disk) where
  -- the values stay
  abbrev Stay : RecordedStep → Type 0
  Stay s = values opened (step_at written s ∷ earlier) pv sector ≡ values opened earlier pv sector

  -- a value that is alone stays
  pub flush_sole : well ≡ true → disk ≡ pv → IsRecord (step_at written step ∷ earlier) → length (values opened earlier pv sector) ≤ 1
      → Stay step
  flush_sole went here follows sole =
      let e : step ≡ Ended tag (Flushes pv) true fresh = cc in
      subst (λ (s : RecordedStep). IsRecord (step_at written s ∷ earlier) → Stay s) (sym e)
      (λ r. sole_stays opened earlier tag pv sector (replicate fresh true) r sole) follows

  -- the values of another disk stay
  pub flush_other : (disk ≡ pv → ⊥) → Stay step
  flush_other other =
      let e : step ≡ Ended tag (Flushes disk) well fresh = cc in
      subst Stay (sym e)
      ((elim well as (λ b. Stay (Ended tag (Flushes disk) b fresh)) [
        | true ↦ ⊎_elim (λ same. absurd (other same.1)) (λ no. rw no.0 (refl {a = values opened earlier pv sector})) (eqb_tells disk pv)
        | false ↦ refl
      ]))

  -- after a flush that failed the values stay
  pub flush_failed : well ≡ false → Stay step
  flush_failed failed =
      let e : step ≡ Ended tag (Flushes disk) false fresh = cc in
      subst Stay (sym e) refl
