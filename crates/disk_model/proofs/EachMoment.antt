-- What holds at each moment, as a record grows.
use Rattle.std.proofs.Common.{◌≡◌, ◌≤◌, ◌<◌, ℕ, suc, ◌-◌, Bool, IsTrue, List, [], ◌∷◌, length, drop, ⊎_elim, sym, ap, subst, arith}
use Rattle.std.proofs.lemmas.Bool.{cases_lt}
use Rattle.disk_model.specs.Steps.{Step, Submitted, Record, step_on}
use Rattle.disk_model.specs.Record.{Operation}
use Rattle.disk_model.specs.Moments.{at_moment, Throughout}
use Rattle.disk_model.specs.Submitting.{submitted_on, works_of, BringAt}
use Rattle.disk_model.specs.Durability.{AllLeave}
use Rattle.disk_model.proofs.Submissions.{submitted_leaves}

-- the last moment is now
pub moment_now : (told : Record) → at_moment (length told.steps) told ≡ told
moment_now told =
    let e : length told.steps - length told.steps
    ≡ 0 = omega arith in ap (λ (k : ℕ). record { opened = told.opened; steps = drop k told.steps }) e

-- an earlier moment stays what it was
pub moment_past : (step : Step) (told : Record) (moment : ℕ) → moment ≤ length told.steps
    → at_moment moment (step_on step told) ≡ at_moment moment told
moment_past step told moment le =
    let e : suc (length told.steps) - moment ≡ suc (length told.steps - moment) = omega arith in
    ap (λ (k : ℕ). record { opened = told.opened; steps = drop k (step ∷ told.steps) }) e

-- what holds now holds throughout this moment
pub throughout_now : (told : Record) (P : Record → Type 0) → P told → Throughout (length told.steps) (length told.steps) told P
throughout_now told P now moment from until =
    let e : moment ≡ length told.steps = omega arith in subst (λ (m : ℕ). P (at_moment m told)) (sym e)
    (subst P (sym (moment_now told)) now)

-- what held throughout a part of the record did so still
pub throughout_past : (step : Step) (told : Record) (from until : ℕ) (P : Record → Type 0) → until ≤ length told.steps
    → Throughout from until told P → Throughout from until (step_on step told) P
throughout_past step told from until P le so_far moment ge upto =
    subst P (sym (moment_past step told moment (omega arith))) (so_far moment ge upto)

-- and goes on where it holds after one step more
pub throughout_step : (step : Step) (told : Record) (from : ℕ) (P : Record → Type 0) → P (step_on step told)
    → Throughout from (length told.steps) told P → Throughout from (suc (length told.steps)) (step_on step told) P
throughout_step step told from P now so_far moment ge upto =
    ⊎_elim
    (λ (new : length told.steps < moment). throughout_now (step_on step told) P now moment (omega arith) upto)
    (λ (old : moment ≤ length told.steps). throughout_past step told from (length told.steps) P (omega arith) so_far moment ge old)
    (cases_lt (length told.steps) moment)

-- a weaker property holds throughout a shorter part
pub throughout_weaken : (told : Record) (from from' until' until : ℕ) (P Q : Record → Type 0) → from ≤ from' → until' ≤ until
    → ((t : Record) → P t → Q t) → Throughout from until told P → Throughout from' until' told Q
throughout_weaken told from from' until' until P Q le ge weaker so_far moment low high =
    weaker (at_moment moment told) (so_far moment (omega arith) (omega arith))

-- submissions of writes that bring only allowed values keep these the only ones, throughout
pub leaves_throughout : (mine : ℕ → ℕ → Bool) (Now : ℕ → ℕ → List ℕ → Type 0) (os : List Operation) (told : Record) (from : ℕ)
    → ((pv sector : ℕ) → IsTrue (mine pv sector) → BringAt (works_of os) pv sector (Now pv sector)) → AllLeave mine Now told
    → Throughout from (length told.steps) told (AllLeave mine Now)
    → Throughout from (length (submitted_on os told).steps) (submitted_on os told) (AllLeave mine Now)
leaves_throughout mine Now [] told from b now so_far = so_far
leaves_throughout mine Now (o ∷ os) told from b now so_far =
    let step : Step = Submitted o.tag o.work in
    let next : AllLeave mine Now (step_on step told) =
    λ pv sector own. submitted_leaves o told pv sector (Now pv sector) (b pv sector own).0 (now pv sector own) in
    leaves_throughout mine Now os (step_on step told) from (λ pv sector own. (b pv sector own).1) next
    (throughout_step step told from (AllLeave mine Now) next so_far)
