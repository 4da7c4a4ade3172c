-- The record of a row in memory, as steps and sectors are added.
use Rattle.std.proofs.Common.{◌≡◌, ◌≤◌, ◌<◌, ℕ, ◌+◌, true, List, [], ◌∷◌, ◌++◌, length, take, drop, replicate, get_or, All, refl, sym, ap}
use Rattle.std.proofs.Common.{◌∙◌, arith}
use Rattle.std.proofs.lemmas.Grind.{common_steps}
use Rattle.std.proofs.lemmas.List.{take_more, take-append-le, drop-append-le}
use Rattle.std.proofs.lemmas.List.Elements.{All-head, All-tail}
use Rattle.dev_shelf.specs.declared.mem_shelf.recorded.RecordedWork.{RecordedWork}
use Rattle.dev_shelf.specs.declared.mem_shelf.recorded.RecordedWork.TheVariants.{Reads, Writes, Flushes}
use Rattle.dev_shelf.specs.declared.mem_shelf.recorded.RecordedStep.{RecordedStep}
use Rattle.dev_shelf.specs.declared.mem_shelf.recorded.RecordedStep.TheVariants.{Began, Ended}
use Rattle.disk_model.specs.Steps.{Work, Writing, Step, Submitted, Completed}
use Rattle.dev_shelf.specs.DiskRow.{work_at, step_at, steps_onto}
use Rattle.dev_shelf.specs.DiskRowInvariant.{IsKept, recorded_work}

-- the sectors of a write stay where more are kept
cut_kept : (written more : List (List ℕ)) (from n : ℕ) → from + n ≤ length written
    → take n (drop from (written ++ more)) ≡ take n (drop from written)
cut_kept written more from n h =
    let a : from ≤ length written = omega arith in
    let b : n ≤ length (drop from written) = grind (arith, common_steps) in
    ap (λ (l : List (List ℕ)). take n l) (drop-append-le from written more a) ∙ take-append-le n (drop from written) more b

-- what a recorded operation does stays so where more sectors are kept
pub work_kept : (written more : List (List ℕ)) (recorded : RecordedWork) → IsKept (length written) recorded
    → work_at (written ++ more) recorded ≡ work_at written recorded
work_kept written more (Reads span) h = refl
work_kept written more (Writes span from) h = ap (λ (l : List (List ℕ)). Writing span l) (cut_kept written more from span.count h)
work_kept written more (Flushes pv) h = refl

-- and a recorded step
step_kept : (written more : List (List ℕ)) (e : RecordedStep) → IsKept (length written) (recorded_work e)
    → step_at (written ++ more) e ≡ step_at written e
step_kept written more (Began tag recorded) h = ap (λ (w : Work). Submitted tag w) (work_kept written more recorded h)
step_kept written more (Ended tag recorded well fresh) h =
    ap (λ (w : Work). Completed tag w well (replicate fresh true)) (work_kept written more recorded h)

-- and the whole record
pub steps_kept : (written more : List (List ℕ)) (earlier : List Step) (es : List RecordedStep)
    → All (λ (e : RecordedStep). IsKept (length written) (recorded_work e)) es
    → steps_onto (written ++ more) earlier es ≡ steps_onto written earlier es
steps_kept written more earlier [] h = refl
steps_kept written more earlier (e ∷ es) h =
    ap (λ (s : Step). steps_onto (written ++ more) (s ∷ earlier) es)
    (step_kept written more e (All-head (λ (x : RecordedStep). IsKept (length written) (recorded_work x)) e es h))
    ∙ steps_kept written more (step_at written e ∷ earlier) es
    (All-tail (λ (x : RecordedStep). IsKept (length written) (recorded_work x)) e es h)

-- one recorded step more
pub steps_push : (written : List (List ℕ)) (earlier : List Step) (es : List RecordedStep) (e : RecordedStep)
    → steps_onto written earlier (es ++ e ∷ []) ≡ step_at written e ∷ steps_onto written earlier es
steps_push written earlier [] e = refl
steps_push written earlier (x ∷ es) e = steps_push written (step_at written x ∷ earlier) es e

-- what is kept is kept among more sectors
pub kept_more : (size size' : ℕ) (recorded : RecordedWork) → size ≤ size' → IsKept size recorded → IsKept size' recorded
kept_more size size' (Reads span) le h = tt
kept_more size size' (Writes span from) le h = omega arith
kept_more size size' (Flushes pv) le h = tt

-- the record after one recorded step more
pub steps_more : (written : List (List ℕ)) (es : List RecordedStep) (i : ℕ) (e : RecordedStep) → i < length es → e ≡ get_or es i e
    → steps_onto written [] (take (i + 1) es) ≡ step_at written e ∷ steps_onto written [] (take i es)
steps_more written es i e lt is =
    ap (λ (l : List RecordedStep). steps_onto written [] l) (take_more es i e lt)
    ∙ ap (λ (x : RecordedStep). steps_onto written [] (take i es ++ x ∷ [])) (sym is)
    ∙ steps_push written [] (take i es) e
