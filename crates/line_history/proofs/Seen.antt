-- What was told of the disks by an earlier moment.
use Rattle.std.proofs.Common.{◌≡◌, ◌≤◌, ℕ, zero, suc, ◌+◌, ◌-◌, List, [], ◌∷◌, ◌++◌, length, drop, take, refl, sym, ap, subst, ◌∙◌, arith}
use Rattle.std.proofs.Common.{length-append}
use Rattle.std.proofs.lemmas.List.{length-drop}
use Rattle.disk_model.proofs.EveryMoment.{drop_newer}
use Rattle.disk_model.specs.Moments.{at_moment}
use Rattle.disk_model.specs.Record.{IsRecord}
use Rattle.disk_model.specs.Steps.{Completed, Step, Submitted, Record, now_after, steps_on}

-- a record's beginning is one
older_record : (newer older : List Step) → IsRecord (newer ++ older) → IsRecord older
older_record [] older is = is
older_record (Submitted tag work ∷ newer) older is = older_record newer older is.1
older_record (Completed tag work well fresh ∷ newer) older is = older_record newer older is.1

pub record_before : (old new : Record) (newer : List Step) → new ≡ steps_on newer old → IsRecord new.steps → IsRecord old.steps
record_before old new newer is rec = older_record newer old.steps (subst (λ (t : Record). IsRecord t.steps) is rec)

-- so is what was told by an earlier moment
pub record_drop : (k : ℕ) (steps : List Step) → IsRecord steps → IsRecord (drop k steps)
record_drop zero steps is = is
record_drop (suc k) [] is = tt
record_drop (suc k) (Submitted tag work ∷ steps) is = record_drop k steps is.1
record_drop (suc k) (Completed tag work well fresh ∷ steps) is = record_drop k steps is.1

pub steps_more : (old new : Record) (newer : List Step) → new ≡ steps_on newer old → length old.steps ≤ length new.steps
steps_more old new newer is =
    subst (λ (t : Record). length old.steps ≤ length t.steps) (sym is) (let long = length-append newer old.steps in omega (arith, long))

-- by a moment of the older record the newer one told the same
pub moment_seen : (old new : Record) (newer : List Step) → new ≡ steps_on newer old → (m : ℕ) → m ≤ length old.steps
    → at_moment m new ≡ at_moment m old
moment_seen old new newer is m le =
    let long = length-append newer old.steps in
    let e : length (newer ++ old.steps) - m ≡ length newer + (length old.steps - m) = omega (arith, long, le) in
    ap (λ (t : Record). at_moment m t) is
    ∙ ap (λ (l : List Step). record { opened = old.opened; steps = l })
    (ap (λ (n : ℕ). drop n (newer ++ old.steps)) e ∙ drop_newer newer old.steps (length old.steps - m))

-- and a read gave the same then
pub now_seen : (old new : Record) (newer : List Step) → new ≡ steps_on newer old
    → now_after new.opened (drop (length new.steps - length old.steps) new.steps) ≡ now_after old.opened old.steps
now_seen old new newer is =
    let e : length old.steps - length old.steps ≡ 0 = omega arith in
    let m : at_moment (length old.steps) new ≡ at_moment (length old.steps) old =
    moment_seen old new newer is (length old.steps) (omega arith) in
    ap (λ (t : Record). now_after t.opened t.steps) m ∙ ap (λ (n : ℕ). now_after old.opened (drop n old.steps)) e

-- ---- by a moment of the newer steps

pub drop_front : {X : Type 0} (k : ℕ) (xs ys : List X) → k ≤ length xs → drop k (xs ++ ys) ≡ drop k xs ++ ys
drop_front zero xs ys le = refl
drop_front (suc k) [] ys le = absurd (omega (arith, le))
drop_front (suc k) (x ∷ xs) ys le = drop_front k xs ys (omega (arith, le))

pub take_front : {X : Type 0} (n : ℕ) (xs ys : List X) → length xs ≡ n → take n (xs ++ ys) ≡ xs
take_front zero [] ys is = refl
take_front zero (x ∷ xs) ys is = absurd (omega (arith, is))
take_front (suc n) [] ys is = absurd (omega (arith, is))
take_front (suc n) (x ∷ xs) ys is = ap (λ l. x ∷ l) (take_front n xs ys (omega (arith, is)))

module _ (old new : Record) (newer : List Step) (is : new ≡ steps_on newer old) (m : ℕ) (ge : length old.steps ≤ m)
    (le : m ≤ length new.steps) where
  -- the newer steps by then
  abbrev pub part : List Step
  part = drop (length new.steps - m) newer

  new_steps : new.steps ≡ newer ++ old.steps
  new_steps = ap (λ (t : Record). t.steps) is

  long : length new.steps ≡ length newer + length old.steps
  long = ap length new_steps ∙ length-append newer old.steps

  pub steps_then : drop (length new.steps - m) new.steps ≡ part ++ old.steps
  steps_then =
      ap (λ (l : List Step). drop (length new.steps - m) l) new_steps
      ∙ drop_front (length new.steps - m) newer old.steps (let l = long in omega (arith, l, ge, le))

  pub part_then : take (m - length old.steps) (drop (length new.steps - m) new.steps) ≡ part
  part_then =
      ap (λ (l : List Step). take (m - length old.steps) l) steps_then
      ∙ take_front (m - length old.steps) part old.steps
      (let d = length-drop (length new.steps - m) newer in let l = long in omega (arith, d, l, ge, le))

  pub told_then : at_moment m new ≡ steps_on part old
  told_then =
      ap (λ (l : List Step). record { opened = new.opened; steps = l }) steps_then
      ∙ ap (λ (t : Record). record { opened = t.opened; steps = part ++ old.steps }) is
