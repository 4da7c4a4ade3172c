-- Writes of a sector that are in flight, and those that have completed.
use Rattle.std.proofs.Common.{◌≡◌, ◌≤◌, ◌<◌, ◌⊎◌, ℕ, Bool, true, false, not, ◌==◌, IsTrue, List, [], ◌∷◌, ◌++◌, filter, Option, Some, None}
use Rattle.std.proofs.Common.{inl, inr, ⊎_elim, sym, ap, subst, ◌∙◌, arith, All, AllPairs, Contains, get_or}
use Rattle.std.proofs.lemmas.List.{get_or_default}
use Rattle.std.proofs.lemmas.List.Elements.{All-head, All-tail}
use Rattle.std.proofs.lemmas.Bool.{cases_lt}
use Rattle.std.proofs.lemmas.Bool.Decides.{eqb_tells}
use Rattle.disk_model.specs.Steps.{Image, Work, Reading, Writing, Flushing, Step, Submitted, Completed, Record}
use Rattle.disk_model.specs.CrashValues.{MayLeave, HasCompleted}
use Rattle.disk_model.specs.Record.{Operation, in_flight_after}
use Rattle.disk_model.specs.Brought.{writes}
use Rattle.disk_model.specs.Durability.{OnlyLeavesOrCompleted}
use Rattle.disk_model.proofs.OneStepMore.{quiet, completed_on}

-- the write is of the sector and among these operations
abbrev pub IsInFlight : List Operation → ℕ → ℕ → Option ℕ → Type 0
IsInFlight [] pv sector write = ⊥
IsInFlight (f ∷ fs) pv sector write = ((write ≡ Some f.tag) × IsTrue (writes f.work pv sector)) ⊎ IsInFlight fs pv sector write

-- of the writes in flight a completion takes its own away
in_flight_on : (fs : List Operation) (tag pv sector : ℕ) (write : Option ℕ) → IsInFlight fs pv sector write
    → (write ≡ Some tag) ⊎ IsInFlight (filter (λ f. not (f.tag == tag)) fs) pv sector write
in_flight_on [] tag pv sector write h = absurd h
in_flight_on (f ∷ fs) tag pv sector write h =
    ⊎_elim
    (λ same. ⊎_elim (λ here. inl (here.0 ∙ ap Some same.1)) (λ later. rw same.0 (in_flight_on fs tag pv sector write later)) h)
    (λ other. rw other.0 (⊎_elim (λ here. inr (inl here))
    (λ later. ⊎_elim (λ a. inl a) (λ b. inr (inr b)) (in_flight_on fs tag pv sector write later)) h))
    (eqb_tells f.tag tag)

-- a write that has completed or is in flight still is so after a completion
in_flight_completed : (steps : List Step) (tag : ℕ) (work : Work) (well : Bool) (fresh : List Bool) (pv sector : ℕ) (write : Option ℕ)
    → HasCompleted steps write ⊎ IsInFlight (in_flight_after steps) pv sector write
    → HasCompleted (Completed tag work well fresh ∷ steps) write
    ⊎ IsInFlight (filter (λ f. not (f.tag == tag)) (in_flight_after steps)) pv sector write
in_flight_completed steps tag work well fresh pv sector None h = inl tt
in_flight_completed steps tag work well fresh pv sector (Some write) h =
    ⊎_elim (λ a. inl (inr a)) (λ b. ⊎_elim (λ (e : Some write ≡ Some tag). inl (inl (cc))) (λ c. inr c)
    (in_flight_on (in_flight_after steps) tag pv sector (Some write) b)) h

-- a new operation leaves the writes in flight
in_flight_older : (fs : List Operation) (f : Operation) (pv sector : ℕ) (write : Option ℕ) → IsInFlight fs pv sector write
    → IsInFlight (fs ++ f ∷ []) pv sector write
in_flight_older (g ∷ fs) f pv sector write h = ⊎_elim (λ a. inl a) (λ b. inr (in_flight_older fs f pv sector write b)) h
in_flight_older [] f pv sector write h = absurd h

-- a new write is in flight
in_flight_newest : (fs : List Operation) (f : Operation) (pv sector : ℕ) (write : Option ℕ) → write ≡ Some f.tag
    → IsTrue (writes f.work pv sector) → IsInFlight (fs ++ f ∷ []) pv sector write
in_flight_newest [] f pv sector write e w = inl (e, w)
in_flight_newest (g ∷ fs) f pv sector write e w = inr (in_flight_newest fs f pv sector write e w)

-- a write that has completed or is in flight still is so after a submission
in_flight_submitted : (steps : List Step) (tag : ℕ) (work : Work) (pv sector : ℕ) (write : Option ℕ)
    → HasCompleted steps write ⊎ IsInFlight (in_flight_after steps) pv sector write
    → HasCompleted (Submitted tag work ∷ steps) write
    ⊎ IsInFlight (in_flight_after steps ++ record { tag = tag; work = work } ∷ []) pv sector write
in_flight_submitted steps tag work pv sector write h =
    ⊎_elim (λ a. inl (completed_on (Submitted tag work) steps write a))
    (λ b. inr (in_flight_older (in_flight_after steps) _ pv sector write b)) h

-- the write of each value has completed, or is in flight
pub completed_or_in_flight : (opened : Image) (steps : List Step) (pv sector : ℕ) (write : Option ℕ) (value : List ℕ)
    → MayLeave opened steps pv sector write value
    → HasCompleted steps write ⊎ IsInFlight (in_flight_after steps) pv sector write
completed_or_in_flight opened [] pv sector write value may = inl (rw may.0 tt)
completed_or_in_flight opened (Submitted tag (Writing span sectors) ∷ steps) pv sector write value may =
    ⊎_elim
    (λ old. in_flight_submitted steps tag (Writing span sectors) pv sector write
    (completed_or_in_flight opened steps pv sector write value old))
    (λ new. inr (in_flight_newest (in_flight_after steps) _ pv sector write new.1 new.0)) may
completed_or_in_flight opened (Submitted tag (Reading span) ∷ steps) pv sector write value may =
    in_flight_submitted steps tag (Reading span) pv sector write (completed_or_in_flight opened steps pv sector write value may)
completed_or_in_flight opened (Submitted tag (Flushing disk) ∷ steps) pv sector write value may =
    in_flight_submitted steps tag (Flushing disk) pv sector write (completed_or_in_flight opened steps pv sector write value may)
completed_or_in_flight opened (Completed tag work well fresh ∷ steps) pv sector write value may =
    in_flight_completed steps tag work well fresh pv sector write
    (completed_or_in_flight opened steps pv sector write value
    (quiet opened (Completed tag work well fresh) steps pv sector write value tt may))

-- where nothing is in flight, every write has completed
pub idle_completed : (told : Record) (pv sector : ℕ) (Q : List ℕ → Type 0) → in_flight_after told.steps ≡ []
    → OnlyLeavesOrCompleted told pv sector Q
idle_completed told pv sector Q idle = record {
  each = λ write value may.
      ⊎_elim (λ a. inr a) (λ b. absurd (let P : List Operation → Type 0 = λ fs. IsInFlight fs pv sector write in subst P idle b))
      (completed_or_in_flight told.opened told.steps pv sector write value may);
}

-- where no operation in flight writes the sector, no write of it is in flight
none_in_flight : (fs : List Operation) (pv sector : ℕ) (write : Option ℕ) → All (λ (f : Operation). writes f.work pv sector ≡ false) fs
    → IsInFlight fs pv sector write → ⊥
none_in_flight [] pv sector write h fly = fly
none_in_flight (f ∷ fs) pv sector write h fly =
    ⊎_elim (λ a. let e : true ≡ false = sym a.1 ∙ All-head (λ (x : Operation). writes x.work pv sector ≡ false) f fs h in cc)
    (λ b. none_in_flight fs pv sector write (All-tail (λ (x : Operation). writes x.work pv sector ≡ false) f fs h) b) fly

-- where no operation in flight writes the sector, every write of it has completed
pub alone_completed : (told : Record) (fs : List Operation) (pv sector : ℕ) (Q : List ℕ → Type 0) → fs ≡ in_flight_after told.steps
    → All (λ (f : Operation). writes f.work pv sector ≡ false) fs → OnlyLeavesOrCompleted told pv sector Q
alone_completed told fs pv sector Q e h = record {
  each = λ write value may.
      ⊎_elim (λ a. inr a) (λ b. absurd (none_in_flight fs pv sector write h
      (subst (λ (l : List Operation). IsInFlight l pv sector write) (sym e) b)))
      (completed_or_in_flight told.opened told.steps pv sector write value may);
}

-- two operations in flight with one tag are one
pub same_operation : (fs : List Operation) (f g : Operation) → AllPairs (λ (a b : Operation). a.tag < b.tag) fs → Contains fs f
    → Contains fs g → f.tag ≡ g.tag → f ≡ g
same_operation fs f g order (i, ii, fi) (j, jj, gj) tags =
    let P : Operation → Operation → Type 0 = λ a b. a.tag < b.tag in
    let gf : get_or fs j f ≡ g = get_or_default fs j f g jj ∙ gj in
    ⊎_elim
    (λ (lt : i < j). absurd (let o : (get_or fs i f).tag < (get_or fs j f).tag = order i j f lt jj in
    let a = ap (λ (x : Operation). x.tag) fi in let b = ap (λ (x : Operation). x.tag) gf in omega arith))
    (λ (ge : j ≤ i). ⊎_elim
    (λ (lt : j < i). absurd (let o : (get_or fs j f).tag < (get_or fs i f).tag = order j i f lt ii in
    let a = ap (λ (x : Operation). x.tag) fi in let b = ap (λ (x : Operation). x.tag) gf in omega arith))
    (λ (ge' : i ≤ j). let e : i ≡ j = omega arith in sym fi ∙ ap (λ (k : ℕ). get_or fs k f) e ∙ gf)
    (cases_lt j i))
    (cases_lt i j)
