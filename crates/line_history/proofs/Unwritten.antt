-- Steps in which nothing is written.
use Rattle.std.proofs.Common.{◌≡◌, ℕ, zero, suc, ◌-◌, Bool, false, List, [], ◌∷◌, ◌++◌, length, drop, take, refl, sym, ap, ◌∙◌, arith}
use Rattle.std.specs.Prelude.{flat_map}
use Rattle.sector_base.specs.declared.spans.Span.{Span}
use Rattle.disk_batch.specs.InTurn.{Put}
use Rattle.disk_model.specs.Order.{WritesNothing}
use Rattle.disk_model.specs.Since.{writes_submitted}
use Rattle.disk_model.specs.Steps.{Completed, Flushing, Reading, Step, Submitted, Record, Writing, steps_on}
use Rattle.volume_history.specs.Chronicles.{has_written}
use Rattle.line_history.proofs.Seen.{part_then, steps_more}

-- older steps of some that write nothing do neither
pub nothing_older : (k : ℕ) (steps : List Step) → WritesNothing steps → WritesNothing (drop k steps)
nothing_older zero steps nothing = nothing
nothing_older (suc k) [] nothing = tt
nothing_older (suc k) (Submitted tag (Writing span sectors) ∷ steps) nothing = absurd nothing
nothing_older (suc k) (Submitted tag (Reading span) ∷ steps) nothing = nothing_older k steps nothing
nothing_older (suc k) (Submitted tag (Flushing pv) ∷ steps) nothing = nothing_older k steps nothing
nothing_older (suc k) (Completed tag work well fresh ∷ steps) nothing = nothing_older k steps nothing

-- nor do newer ones
pub nothing_newer : (newer older : List Step) → WritesNothing (newer ++ older) → WritesNothing newer
nothing_newer [] older nothing = tt
nothing_newer (Submitted tag (Writing span sectors) ∷ newer) older nothing = absurd nothing
nothing_newer (Submitted tag (Reading span) ∷ newer) older nothing = nothing_newer newer older nothing
nothing_newer (Submitted tag (Flushing pv) ∷ newer) older nothing = nothing_newer newer older nothing
nothing_newer (Completed tag work well fresh ∷ newer) older nothing = nothing_newer newer older nothing

-- nor do those before
pub nothing_first : (newer older : List Step) → WritesNothing (newer ++ older) → WritesNothing older
nothing_first [] older nothing = nothing
nothing_first (Submitted tag (Writing span sectors) ∷ newer) older nothing = absurd nothing
nothing_first (Submitted tag (Reading span) ∷ newer) older nothing = nothing_first newer older nothing
nothing_first (Submitted tag (Flushing pv) ∷ newer) older nothing = nothing_first newer older nothing
nothing_first (Completed tag work well fresh ∷ newer) older nothing = nothing_first newer older nothing

-- where no write was submitted nothing was written
pub none_submitted : (steps : List Step) → writes_submitted steps ≡ [] → WritesNothing steps
none_submitted [] none = tt
none_submitted (Submitted tag (Writing span sectors) ∷ steps) none = not_none (writes_submitted steps) none
  where
    not_none : (puts : List Put) → puts ++ (span, sectors) ∷ [] ≡ [] → ⊥
    not_none [] is = cc
    not_none (put ∷ puts) is = cc
none_submitted (Submitted tag (Reading span) ∷ steps) none = none_submitted steps none
none_submitted (Submitted tag (Flushing disk) ∷ steps) none = none_submitted steps none
none_submitted (Completed tag work well fresh ∷ steps) none = none_submitted steps none

-- none of no batches is
pub nothing_of : (n : ℕ) → flat_map (λ (batch : List Put). batch) (take n []) ≡ []
nothing_of zero = refl
nothing_of (suc n) = refl

-- so no such span was
pub none_written : (own : Span → Bool) (steps : List Step) → WritesNothing steps → has_written own steps ≡ false
none_written own [] nothing = refl
none_written own (Submitted tag (Writing span sectors) ∷ steps) nothing = absurd nothing
none_written own (Submitted tag (Reading span) ∷ steps) nothing = none_written own steps nothing
none_written own (Submitted tag (Flushing disk) ∷ steps) nothing = none_written own steps nothing
none_written own (Completed tag work well fresh ∷ steps) nothing = none_written own steps nothing

-- the newest steps of a record, as many as were told since an older one, are those
pub newest : (old new : Record) (newer : List Step) → new ≡ steps_on newer old
    → take (length new.steps - length old.steps) new.steps ≡ newer
newest old new newer is =
    let more = steps_more old new newer is in
    let e : length new.steps - length new.steps ≡ 0 = omega arith in
    sym (ap (λ (n : ℕ). take (length new.steps - length old.steps) (drop n new.steps)) e)
    ∙ part_then old new newer is (length new.steps) more (omega arith)
    ∙ ap (λ (n : ℕ). drop n newer) e
