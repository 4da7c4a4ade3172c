-- Records of one operation after another.
use Rattle.std.proofs.Common.{◌≡◌, ℕ, not, ◌==◌, cond, Bool, IsTrue, List, [], ◌∷◌, ◌++◌, filter, refl, sym, ap, subst, ◌∙◌, eq-eqb}
use Rattle.disk_model.specs.CarriesOut.{with_operation}
use Rattle.disk_model.specs.Record.{Operation, in_flight_after}
use Rattle.disk_model.specs.Steps.{Work, Reading, Writing, Flushing, Step, Submitted, Completed, Record}
use Rattle.cow_store.specs.VolStates.{AreOneByOne, WritesWell}

-- what holds of no steps, and of one operation more, holds of all
pub by_operations : (P : List Step → Type 0) → P []
    → ((tag : ℕ) (work : Work) (well : Bool) (fresh : List Bool) (steps : List Step) → AreOneByOne steps → P steps
    → P (Completed tag work well fresh ∷ Submitted tag work ∷ steps))
    → (steps : List Step) → AreOneByOne steps → P steps
by_operations P none more [] one = none
by_operations P none more (Submitted tag work ∷ steps) one = absurd one
by_operations P none more (Completed tag work well fresh ∷ []) one = absurd one
by_operations P none more (Completed tag work well fresh ∷ Completed tag' work' well' fresh' ∷ steps) one = absurd one
by_operations P none more (Completed tag work well fresh ∷ Submitted tag' work' ∷ steps) one =
    subst (λ (t : ℕ). P (Completed tag work well fresh ∷ Submitted t work' ∷ steps)) (sym one.0)
    (subst (λ (w : Work). P (Completed tag work well fresh ∷ Submitted tag w ∷ steps)) (sym one.1)
    (more tag work well fresh steps one.2 (by_operations P none more steps one.2)))

none_left : (tag : ℕ) (work : Work) (os : List Operation) → os ≡ []
    → filter (λ (o : Operation). not (o.tag == tag)) (os ++ record { tag = tag; work = work } ∷ []) ≡ []
none_left tag work os none =
    let o : Operation = record { tag = tag; work = work } in
    ap (λ (l : List Operation). filter (λ (p : Operation). not (p.tag == tag)) (l ++ o ∷ [])) none
    ∙ ap (λ (b : Bool). cond (not b) (o ∷ []) []) (eq-eqb tag tag refl)

-- nothing is in flight after them
pub idle_one_by_one : (steps : List Step) → AreOneByOne steps → in_flight_after steps ≡ []
idle_one_by_one =
    by_operations (λ (steps : List Step). in_flight_after steps ≡ []) refl
    (λ tag work well fresh steps one idle. none_left tag work (in_flight_after steps) idle)

-- one operation more
pub one_more : (t : Record) (tag : ℕ) (work : Work) (well : Bool) (fresh : List Bool) → AreOneByOne t.steps
    → AreOneByOne (with_operation tag work well fresh t).steps
one_more t tag work well fresh one = (refl, refl, one)

-- each write went well before an operation where each did with it
pub wells_before : (tag : ℕ) (work : Work) (well : Bool) (fresh : List Bool) (steps : List Step)
    → WritesWell (Completed tag work well fresh ∷ Submitted tag work ∷ steps) → WritesWell steps
wells_before tag (Reading span) well fresh steps wells = wells
wells_before tag (Writing span sectors) well fresh steps wells = wells.1
wells_before tag (Flushing v) well fresh steps wells = wells

-- and after one that went well
pub wells_more : (tag : ℕ) (work : Work) (well : Bool) (fresh : List Bool) (t : Record) → IsTrue well → WritesWell t.steps
    → WritesWell (with_operation tag work well fresh t).steps
wells_more tag (Reading span) well fresh t went wells = wells
wells_more tag (Writing span sectors) well fresh t went wells = (went, wells)
wells_more tag (Flushing v) well fresh t went wells = wells
