-- The record of a row in memory at its earlier moments.
use Rattle.std.proofs.Common.{◌≡◌, ◌≤◌, ◌<◌, ℕ, ◌+◌, ◌-◌, List, [], ◌∷◌, ◌++◌, length, take, drop, get_or, refl, sym, ap, subst, ◌∙◌, arith}
use Rattle.std.proofs.Common.{append_assoc, take-append-drop}
use Rattle.std.proofs.lemmas.List.{length-drop}
use Rattle.dev_shelf.specs.declared.mem_shelf.recorded.RecordedStep.{RecordedStep}
use Rattle.disk_model.specs.Steps.{Step, Submitted, Completed}
use Rattle.disk_model.specs.Record.{IsRecord}
use Rattle.dev_shelf.specs.DiskRow.{step_at, steps_onto}
use Rattle.dev_shelf.specs.DiskRowInvariant.{AllWithin, length_onto}
use Rattle.disk_model.proofs.EveryMoment.{drop_newer}
use Rattle.dev_shelf.proofs.Recorded.{steps_more}

-- recorded steps stand on top of earlier ones
onto_split : (written : List (List ℕ)) (earlier : List Step) (rs : List RecordedStep)
    → steps_onto written earlier rs ≡ steps_onto written [] rs ++ earlier
onto_split written earlier [] = refl
onto_split written earlier (r ∷ rs) =
    onto_split written (step_at written r ∷ earlier) rs
    ∙ sym (ap (λ (l : List Step). l ++ earlier) (onto_split written (step_at written r ∷ []) rs)
    ∙ append_assoc (steps_onto written [] rs) (step_at written r ∷ []) earlier)

-- some recorded steps, and then others
onto_append : (written : List (List ℕ)) (earlier : List Step) (rs more : List RecordedStep)
    → steps_onto written earlier (rs ++ more) ≡ steps_onto written (steps_onto written earlier rs) more
onto_append written earlier [] more = refl
onto_append written earlier (r ∷ rs) more = onto_append written (step_at written r ∷ earlier) rs more

-- all steps are the later ones on top of the first so many
pub steps_split : (written : List (List ℕ)) (rs : List RecordedStep) (n : ℕ)
    → steps_onto written [] rs ≡ steps_onto written [] (drop n rs) ++ steps_onto written [] (take n rs)
steps_split written rs n =
    ap (λ (l : List RecordedStep). steps_onto written [] l) (sym (take-append-drop n rs))
    ∙ onto_append written [] (take n rs) (drop n rs)
    ∙ onto_split written (steps_onto written [] (take n rs)) (drop n rs)

-- the first so many steps are left where the later ones are dropped
pub steps_at : (written : List (List ℕ)) (rs : List RecordedStep) (n : ℕ) → n ≤ length rs
    → drop (length (steps_onto written [] rs) - n) (steps_onto written [] rs) ≡ steps_onto written [] (take n rs)
steps_at written rs n le =
    let later = steps_onto written [] (drop n rs) in
    let many : length later ≡ length rs - n = omega (arith, length_onto written [] (drop n rs), length-drop n rs) in
    let count : length (steps_onto written [] rs) - n ≡ length later + 0 = omega (arith, length_onto written [] rs) in
    ap (λ (k : ℕ). drop k (steps_onto written [] rs)) count
    ∙ ap (λ (l : List Step). drop (length later + 0) l) (steps_split written rs n)
    ∙ drop_newer later (steps_onto written [] (take n rs)) 0

-- what a record was before its newer steps is a record
pub record_before : (newer older : List Step) → IsRecord (newer ++ older) → IsRecord older
record_before [] older is = is
record_before (Submitted tag work ∷ newer) older is = record_before newer older is.1
record_before (Completed tag work well fresh ∷ newer) older is = record_before newer older is.1

-- and its writes lie in the disks
pub within_before : (sizes : List ℕ) (newer older : List Step) → AllWithin sizes (newer ++ older) → AllWithin sizes older
within_before sizes [] older all = all
within_before sizes (Submitted tag work ∷ newer) older all = within_before sizes newer older all.1
within_before sizes (Completed tag work well fresh ∷ newer) older all = within_before sizes newer older all.1

-- the first so many recorded steps are a record
pub record_at : (written : List (List ℕ)) (rs : List RecordedStep) (n : ℕ) → IsRecord (steps_onto written [] rs)
    → IsRecord (steps_onto written [] (take n rs))
record_at written rs n is = record_before (steps_onto written [] (drop n rs)) _ (subst IsRecord (steps_split written rs n) is)

-- and their writes lie in the disks
pub within_at : (sizes : List ℕ) (written : List (List ℕ)) (rs : List RecordedStep) (n : ℕ) → AllWithin sizes (steps_onto written [] rs)
    → AllWithin sizes (steps_onto written [] (take n rs))
within_at sizes written rs n all =
    within_before sizes (steps_onto written [] (drop n rs)) _ (subst (AllWithin sizes) (steps_split written rs n) all)

-- the first so many recorded steps and one more are a record
pub record_more : (written : List (List ℕ)) (rs : List RecordedStep) (i : ℕ) (r : RecordedStep) → i < length rs → r ≡ get_or rs i r
    → IsRecord (steps_onto written [] rs) → IsRecord (step_at written r ∷ steps_onto written [] (take i rs))
record_more written rs i r lt here is = subst IsRecord (steps_more written rs i r lt here) (record_at written rs (i + 1) is)
