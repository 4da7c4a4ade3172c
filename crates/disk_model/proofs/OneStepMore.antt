-- What one step more changes of what a crash may leave.
use Rattle.std.proofs.Common.{◌≡◌, ℕ, true, false, List, ◌∷◌, Option, Some, None, inl, inr, ⊎_elim, sym, ◌∙◌}
use Rattle.disk_model.specs.Steps.{Image, Reading, Writing, Flushing, Step, Submitted, Completed}
use Rattle.disk_model.specs.CrashValues.{MayLeave, HasCompleted, IsOvertaken, IsDropped}
use Rattle.disk_model.specs.Brought.{brings}

-- the step submits no write
abbrev pub IsQuiet : Step → Type 0
IsQuiet (Submitted tag (Writing span sectors)) = ⊥
IsQuiet (Submitted tag (Reading span)) = Unit {0}
IsQuiet (Submitted tag (Flushing pv)) = Unit {0}
IsQuiet (Completed tag work well fresh) = Unit {0}

-- only the submission of a write brings a value
pub quiet : (opened : Image) (step : Step) (steps : List Step) (pv sector : ℕ) (write : Option ℕ) (value : List ℕ)
    → IsQuiet step → MayLeave opened (step ∷ steps) pv sector write value → MayLeave opened steps pv sector write value
quiet opened (Submitted tag (Writing span sectors)) steps pv sector write value q may = absurd q
quiet opened (Submitted tag (Reading span)) steps pv sector write value q may = may
quiet opened (Submitted tag (Flushing disk)) steps pv sector write value q may = may
quiet opened (Completed tag (Reading span) well fresh) steps pv sector write value q may = may
quiet opened (Completed tag (Writing span sectors) well fresh) steps pv sector write value q may = may
quiet opened (Completed tag (Flushing disk) true fresh) steps pv sector write value q may = may.0
quiet opened (Completed tag (Flushing disk) false fresh) steps pv sector write value q may = may

-- a step that brings no value for the sector leaves no new one
pub still : (opened : Image) (step : Step) (steps : List Step) (pv sector : ℕ) (write : Option ℕ) (value : List ℕ)
    → brings step pv sector ≡ false → MayLeave opened (step ∷ steps) pv sector write value → MayLeave opened steps pv sector write value
still opened (Submitted tag (Writing span sectors)) steps pv sector write value q may =
    ⊎_elim (λ a. a) (λ b. absurd (let e : true ≡ false = sym b.0 ∙ q in cc)) may
still opened (Submitted tag (Reading span)) steps pv sector write value q may = may
still opened (Submitted tag (Flushing disk)) steps pv sector write value q may = may
still opened (Completed tag work well fresh) steps pv sector write value q may =
    quiet opened (Completed tag work well fresh) steps pv sector write value tt may

-- what has completed has completed after one step more
pub completed_on : (step : Step) (steps : List Step) (write : Option ℕ) → HasCompleted steps write → HasCompleted (step ∷ steps) write
completed_on step steps None h = tt
completed_on (Submitted tag work) steps (Some write) h = h
completed_on (Completed tag work well fresh) steps (Some write) h = inr h

-- what is overtaken is overtaken after one step more
pub overtaken_on : (step : Step) (steps : List Step) (pv sector : ℕ) (write : Option ℕ) → IsOvertaken steps pv sector write
    → IsOvertaken (step ∷ steps) pv sector write
overtaken_on (Submitted tag work) steps pv sector write h = h
overtaken_on (Completed tag (Reading span) well fresh) steps pv sector write h = h
overtaken_on (Completed tag (Writing span sectors) true fresh) steps pv sector write h = inl h
overtaken_on (Completed tag (Writing span sectors) false fresh) steps pv sector write h = h
overtaken_on (Completed tag (Flushing disk) well fresh) steps pv sector write h = h

-- what a flush will drop it will drop after one step more
pub dropped_on : (step : Step) (steps : List Step) (flush pv sector : ℕ) (write : Option ℕ) → IsDropped steps flush pv sector write
    → IsDropped (step ∷ steps) flush pv sector write
dropped_on (Submitted tag work) steps flush pv sector write h = inl h
dropped_on (Completed tag work well fresh) steps flush pv sector write h = h
