-- What a crash may leave in the origin is a candidate, as the record goes on by one operation.
use Rattle.std.proofs.Common.{◌≡◌, ◌≤◌, ℕ, suc, ◌-◌, ◌&&◌, ◌||◌, cond, slice_index_or, Bool, true, false, List, [], ◌∷◌, ◌++◌, length, take}
use Rattle.std.proofs.Common.{drop}
use Rattle.std.proofs.Common.{Option, inl, inr, ⊎_elim, refl, sym, ap, subst, ◌∙◌, arith}
use Rattle.std.proofs.lemmas.List.{take-append-drop}
use Rattle.sector_base.specs.Spans.{covers}
use Rattle.disk_model.specs.CarriesOut.{with_operation}
use Rattle.disk_model.specs.CrashValues.{MayLeave}
use Rattle.disk_model.specs.Durability.{OnlyLeaves}
use Rattle.disk_model.specs.Steps.{Image, Work, Reading, Writing, Flushing, Step, Submitted, Completed, Record, now_after, step_on}
use Rattle.disk_model.specs.Steps.{value_at}
use Rattle.cow_store.specs.Candidates.{IsCandidate, now_at, steps_since}
use Rattle.cow_store.specs.VolStates.{AreOneByOne, WritesWell}
use Rattle.cow_store.proofs.Overtaken.{lasts_flushed}

-- what a read gives after earlier steps and later ones
now_since : (opened : Image) (newer older : List Step) (v sector : ℕ)
    → now_after (now_after opened older) newer v sector ≡ now_after opened (newer ++ older) v sector
now_since opened [] older v sector = refl
now_since opened (Submitted tag work ∷ newer) older v sector = now_since opened newer older v sector
now_since opened (Completed tag (Reading span) well fresh ∷ newer) older v sector = now_since opened newer older v sector
now_since opened (Completed tag (Flushing disk) well fresh ∷ newer) older v sector = now_since opened newer older v sector
now_since opened (Completed tag (Writing span sectors) well fresh ∷ newer) older v sector =
    ap (λ (old : List ℕ). cond (covers span v sector && (well || slice_index_or fresh (sector - span.first) false))
    (value_at span sectors sector) old) (now_since opened newer older v sector)

take_drop : (n : ℕ) (steps : List Step) → take n steps ++ drop n steps ≡ steps
take_drop n steps = take-append-drop n steps

-- what a read gives, by the steps since a moment
now_from : (start : ℕ) (told : Record) (v sector : ℕ)
    → now_after (now_at start told) (steps_since start told) v sector ≡ now_after told.opened told.steps v sector
now_from start told v sector =
    let n : ℕ = length told.steps - start in
    now_since told.opened (take n told.steps) (drop n told.steps) v sector
    ∙ ap (λ (l : List Step). now_after told.opened l v sector) (take_drop n told.steps)

-- one step more since a moment
candidate_on : (start : ℕ) (step : Step) (told : Record) (v sector : ℕ) (value : List ℕ) → start ≤ length told.steps
    → IsCandidate (now_at start told) (step ∷ steps_since start told) v sector value
    → IsCandidate (now_at start (step_on step told)) (steps_since start (step_on step told)) v sector value
candidate_on start step told v sector value le h =
    let n : ℕ = length told.steps - start in
    let more : suc (length told.steps) - start ≡ suc n = omega arith in
    let P : ℕ → Type 0 =
    λ k. IsCandidate (now_after told.opened (drop k (step ∷ told.steps))) (take k (step ∷ told.steps)) v sector value in
    subst P (sym more) h

-- the submission of an operation brings a candidate
submitted : (base : Image) (steps : List Step) (opened : Image) (older : List Step) (tag : ℕ) (work : Work) (v sector : ℕ)
    (write : Option ℕ) (value : List ℕ)
    → (MayLeave opened older v sector write value → IsCandidate base steps v sector value)
    → MayLeave opened (Submitted tag work ∷ older) v sector write value → IsCandidate base (Submitted tag work ∷ steps) v sector value
submitted base steps opened older tag (Reading span) v sector write value before may = before may
submitted base steps opened older tag (Flushing disk) v sector write value before may = before may
submitted base steps opened older tag (Writing span sectors) v sector write value before may =
    ⊎_elim (λ a. inl (before a)) (λ b. inr (b.0, b.2)) may

-- a completion leaves candidates, a flush of the volume what a read gives
completed : (base : Image) (steps : List Step) (opened : Image) (older : List Step) (tag : ℕ) (work : Work) (well : Bool)
    (fresh : List Bool) (v sector : ℕ) (write : Option ℕ) (value : List ℕ)
    → (MayLeave opened older v sector write value → IsCandidate base steps v sector value)
    → (work ≡ Flushing v → well ≡ true → value ≡ now_after base steps v sector)
    → MayLeave opened (Completed tag work well fresh ∷ older) v sector write value
    → IsCandidate base (Completed tag work well fresh ∷ steps) v sector value
completed base steps opened older tag (Reading span) well fresh v sector write value before flushed may = before may
completed base steps opened older tag (Writing span sectors) well fresh v sector write value before flushed may = before may
completed base steps opened older tag (Flushing disk) true fresh v sector write value before flushed may =
    (before may.0, λ e. flushed (ap Flushing e) refl)
completed base steps opened older tag (Flushing disk) false fresh v sector write value before flushed may = before may

module _ (start : ℕ) (v : ℕ) (Within : ℕ → Type 0) where
  -- each value that a crash may leave in such a sector of the volume is a candidate
  abbrev pub AreCandidates : Record → Type 0
  AreCandidates told =
      (sector : ℕ) → Within sector → OnlyLeaves told v sector (IsCandidate (now_at start told) (steps_since start told) v sector)

  -- so they are after an operation was submitted
  pub candidates_submitted : (told : Record) (tag : ℕ) (work : Work) → start ≤ length told.steps → AreCandidates told
      → AreCandidates (step_on (Submitted tag work) told)
  candidates_submitted told tag work le before sector within = record {
    each = λ write value may.
        candidate_on start (Submitted tag work) told v sector value le
        (submitted (now_at start told) (steps_since start told) told.opened told.steps tag work v sector write value
        ((before sector within).each write value) may);
  }

  -- and after it has completed, where each write before went well
  pub candidates_completed : (told : Record) (tag : ℕ) (work : Work) (well : Bool) (fresh : List Bool) → start ≤ length told.steps
      → AreOneByOne told.steps → WritesWell told.steps → AreCandidates told → AreCandidates (with_operation tag work well fresh told)
  candidates_completed told tag work well fresh le one wells before sector within =
      let told' = step_on (Submitted tag work) told in
      let le' : start ≤ length told'.steps = omega (arith, le) in
      record {
        each = λ write value may.
            candidate_on start (Completed tag work well fresh) told' v sector value le'
            (completed (now_at start told') (steps_since start told') told'.opened told'.steps tag work well fresh v sector write value
            ((candidates_submitted told tag work le before sector within).each write value)
            (λ is went. flushed_now told tag work well fresh sector one wells write value is went may ∙ sym (now_from start told' v sector))
            may);
      }
    where
      flushed_now : (told : Record) (tag : ℕ) (work : Work) (well : Bool) (fresh : List Bool) (sector : ℕ) → AreOneByOne told.steps
          → WritesWell told.steps → (write : Option ℕ) (value : List ℕ) → work ≡ Flushing v → well ≡ true
          → MayLeave told.opened (Completed tag work well fresh ∷ Submitted tag work ∷ told.steps) v sector write value
          → value ≡ now_after told.opened (Submitted tag work ∷ told.steps) v sector
      flushed_now told tag work well fresh sector one wells write value is went may =
          let P : Work → Bool → Type 0 =
          λ w b. MayLeave told.opened (Completed tag w b fresh ∷ Submitted tag w ∷ told.steps) v sector write value in
          (lasts_flushed told.opened v sector tag fresh told.steps one wells).each write value
          (subst (λ (b : Bool). P (Flushing v) b) went (subst (λ (w : Work). P w well) is may))
