-- The list of values has exactly those that a crash may leave.
use Rattle.std.proofs.Common.{arith, ◌<◌, ◌≤◌, zero, suc, length, get_or, ◌≡◌, ◌⊎◌, ℕ, Bool, true, false, not, ◌==◌, ◌&&◌, ◌||◌, cond}
use Rattle.std.proofs.Common.{IsTrue, List, [], ◌∷◌, ◌++◌, filter, Option, Some, None, inl, inr, ⊎_elim, refl, sym, ap, ◌∙◌}
use Rattle.std.proofs.lemmas.Bool.Decides.{eqb_tells}
use Rattle.sector_base.specs.Spans.{covers}
use Rattle.disk_model.specs.Steps.{Image, Reading, Writing, Flushing, Step, Submitted, Completed, value_at}
use Rattle.disk_model.specs.CrashValues.{MayLeave, HasCompleted, IsOvertaken, IsDropped}
use Rattle.disk_model.specs.Record.{IsRecord}
use Rattle.disk_model.proofs.NowStands.{now_stands}
use Rattle.disk_model.specs.ValueList.{has_completed, is_overtaken, is_dropped, values}

-- the list has this value of this write
abbrev pub InValues : List (Option ℕ × List ℕ) → Option ℕ → List ℕ → Type 0
InValues [] write value = ⊥
InValues (v ∷ vs) write value = ((write ≡ v.0) × (value ≡ v.1)) ⊎ InValues vs write value

-- one of the two is true
or_cases : (a b : Bool) → (a || b) ≡ true → (a ≡ true) ⊎ (b ≡ true)
or_cases true b h = inl refl
or_cases false b h = inr h

-- both are true
and_cases : (a b : Bool) → (a && b) ≡ true → (a ≡ true) × (b ≡ true)
and_cases true b h = (refl, h)
and_cases false b h = cc

-- the numbers are equal
eq_of : (a b : ℕ) → (a == b) ≡ true → a ≡ b
eq_of a b h = ⊎_elim (λ s. s.1) (λ o. let e : true ≡ false = sym h ∙ o.0 in cc) (eqb_tells a b)

-- what the test says has completed has
completed_of : (steps : List Step) (write : Option ℕ) → has_completed steps write ≡ true → HasCompleted steps write
completed_of steps None h = tt
completed_of [] (Some write) h = cc
completed_of (Submitted tag work ∷ steps) (Some write) h = completed_of steps (Some write) h
completed_of (Completed tag work well fresh ∷ steps) (Some write) h =
    ⊎_elim (λ a. inl (eq_of tag write a)) (λ b. inr (completed_of steps (Some write) b)) (or_cases _ _ h)

-- what the test says is overtaken is
overtaken_of : (steps : List Step) (pv sector : ℕ) (write : Option ℕ) → is_overtaken steps pv sector write ≡ true
    → IsOvertaken steps pv sector write
overtaken_of [] pv sector write h = cc
overtaken_of (Submitted tag work ∷ steps) pv sector write h = overtaken_of steps pv sector write h
overtaken_of (Completed tag (Reading span) well fresh ∷ steps) pv sector write h = overtaken_of steps pv sector write h
overtaken_of (Completed tag (Flushing disk) well fresh ∷ steps) pv sector write h = overtaken_of steps pv sector write h
overtaken_of (Completed tag (Writing span sectors) false fresh ∷ steps) pv sector write h = overtaken_of steps pv sector write h
overtaken_of (Completed tag (Writing span sectors) true fresh ∷ steps) pv sector write h =
    ⊎_elim (λ a. inl (overtaken_of steps pv sector write a)) (λ b. let p = and_cases _ _ b in inr (p.0, completed_of steps write p.1))
    (or_cases _ _ h)

-- what the test says is dropped is
dropped_of : (steps : List Step) (flush pv sector : ℕ) (write : Option ℕ) → is_dropped steps flush pv sector write ≡ true
    → IsDropped steps flush pv sector write
dropped_of [] flush pv sector write h = cc
dropped_of (Completed tag work well fresh ∷ steps) flush pv sector write h = dropped_of steps flush pv sector write h
dropped_of (Submitted tag work ∷ steps) flush pv sector write h =
    ⊎_elim (λ a. inl (dropped_of steps flush pv sector write a))
    (λ b. let p = and_cases _ _ b in inr (eq_of tag flush p.0, overtaken_of steps pv sector write p.1)) (or_cases _ _ h)

-- the first is true
or_left : (a b : Bool) → a ≡ true → (a || b) ≡ true
or_left true b h = refl
or_left false b h = cc

-- the second is true
or_right : (a b : Bool) → b ≡ true → (a || b) ≡ true
or_right true b h = refl
or_right false b h = h

-- both being true
and_both : (a b : Bool) → a ≡ true → b ≡ true → (a && b) ≡ true
and_both true b h k = k
and_both false b h k = h

-- the test of equal numbers
eq_to : (a b : ℕ) → a ≡ b → (a == b) ≡ true
eq_to a b h = ⊎_elim (λ s. s.0) (λ o. absurd (o.1 h)) (eqb_tells a b)

-- the test finds what has completed
to_completed : (steps : List Step) (write : Option ℕ) → HasCompleted steps write → has_completed steps write ≡ true
to_completed steps None h = refl
to_completed [] (Some write) h = absurd h
to_completed (Submitted tag work ∷ steps) (Some write) h = to_completed steps (Some write) h
to_completed (Completed tag work well fresh ∷ steps) (Some write) h =
    ⊎_elim (λ a. or_left _ _ (eq_to tag write a)) (λ b. or_right (tag == write) _ (to_completed steps (Some write) b)) h

-- the test finds what is overtaken
to_overtaken : (steps : List Step) (pv sector : ℕ) (write : Option ℕ) → IsOvertaken steps pv sector write
    → is_overtaken steps pv sector write ≡ true
to_overtaken [] pv sector write h = absurd h
to_overtaken (Submitted tag work ∷ steps) pv sector write h = to_overtaken steps pv sector write h
to_overtaken (Completed tag (Reading span) well fresh ∷ steps) pv sector write h = to_overtaken steps pv sector write h
to_overtaken (Completed tag (Flushing disk) well fresh ∷ steps) pv sector write h = to_overtaken steps pv sector write h
to_overtaken (Completed tag (Writing span sectors) false fresh ∷ steps) pv sector write h = to_overtaken steps pv sector write h
to_overtaken (Completed tag (Writing span sectors) true fresh ∷ steps) pv sector write h =
    ⊎_elim (λ a. or_left _ _ (to_overtaken steps pv sector write a))
    (λ b. or_right (is_overtaken steps pv sector write) _ (and_both _ _ b.0 (to_completed steps write b.1))) h

-- the test finds what is dropped
to_dropped : (steps : List Step) (flush pv sector : ℕ) (write : Option ℕ) → IsDropped steps flush pv sector write
    → is_dropped steps flush pv sector write ≡ true
to_dropped [] flush pv sector write h = absurd h
to_dropped (Completed tag work well fresh ∷ steps) flush pv sector write h = to_dropped steps flush pv sector write h
to_dropped (Submitted tag work ∷ steps) flush pv sector write h =
    ⊎_elim (λ a. or_left _ _ (to_dropped steps flush pv sector write a))
    (λ b. or_right (is_dropped steps flush pv sector write) _
    (and_both _ _ (eq_to tag flush b.0) (to_overtaken steps pv sector write b.1))) h

-- where a value stands in a list that grew or was filtered
last_values : (vs : List (Option ℕ × List ℕ)) (v : Option ℕ × List ℕ) (write : Option ℕ) (value : List ℕ)
    → InValues (vs ++ v ∷ []) write value → InValues vs write value ⊎ ((write ≡ v.0) × (value ≡ v.1))
last_values [] v write value h = ⊎_elim (λ a. inr a) (λ b. absurd b) h
last_values (u ∷ vs) v write value h =
    ⊎_elim (λ a. inl (inl a)) (λ b. ⊎_elim (λ c. inl (inr c)) (λ d. inr d) (last_values vs v write value b)) h

-- and stands in it
values_last : (vs : List (Option ℕ × List ℕ)) (v : Option ℕ × List ℕ) (write : Option ℕ) (value : List ℕ)
    → InValues vs write value ⊎ ((write ≡ v.0) × (value ≡ v.1)) → InValues (vs ++ v ∷ []) write value
values_last [] v write value h = ⊎_elim (λ a. absurd a) (λ b. inl b) h
values_last (u ∷ vs) v write value h =
    ⊎_elim (λ a. ⊎_elim (λ b. inl b) (λ c. inr (values_last vs v write value (inl c))) a) (λ d. inr (values_last vs v write value (inr d)))
    h

-- a filter by the writes
module _ (p : Option ℕ → Bool) where
  -- what is left by a filter was there and passes
  kept_in : (vs : List (Option ℕ × List ℕ)) (write : Option ℕ) (value : List ℕ)
      → InValues (filter (λ (v : Option ℕ × List ℕ). p v.0) vs) write value → InValues vs write value × (p write ≡ true)
  kept_in [] write value h = absurd h
  kept_in (v ∷ vs) write value h =
      let fs = filter (λ (u : Option ℕ × List ℕ). p u.0) vs in
      (elim (p v.0) as (λ b. p v.0 ≡ b → InValues (cond b (v ∷ fs) fs) write value → InValues (v ∷ vs) write value × (p write ≡ true)) [
        | true ↦ λ e k. ⊎_elim (λ a. (inl a, ap p a.0 ∙ e)) (λ c. let r = kept_in vs write value c in (inr r.0, r.1)) k
        | false ↦ λ e k. let r = kept_in vs write value k in (inr r.0, r.1)
      ]) refl h

  -- what was there and passes is left
  in_kept : (vs : List (Option ℕ × List ℕ)) (write : Option ℕ) (value : List ℕ) → InValues vs write value → p write ≡ true
      → InValues (filter (λ (v : Option ℕ × List ℕ). p v.0) vs) write value
  in_kept [] write value h q = absurd h
  in_kept (v ∷ vs) write value h q =
      let fs = filter (λ (u : Option ℕ × List ℕ). p u.0) vs in
      (elim (p v.0) as (λ b. p v.0 ≡ b → InValues (v ∷ vs) write value → InValues (cond b (v ∷ fs) fs) write value) [
        | true ↦ λ e k. ⊎_elim (λ a. inl a) (λ c. inr (in_kept vs write value c q)) k
        | false ↦ λ e k. ⊎_elim (λ a. absurd (let x : true ≡ false = sym q ∙ ap p a.0 ∙ e in cc)) (λ c. in_kept vs write value c q) k
      ]) refl h

-- what is not so is not so
not_true : (b : Bool) → not b ≡ true → b ≡ true → ⊥
not_true true h k = let x : true ≡ false = sym h in cc
not_true false h k = let x : true ≡ false = sym k in cc

-- what cannot be so is not so
not_of : (b : Bool) → (b ≡ true → ⊥) → not b ≡ true
not_of true h = absurd (h refl)
not_of false h = refl

-- each value of the list a crash may leave
pub may_of : (opened : Image) (steps : List Step) (pv sector : ℕ) (write : Option ℕ) (value : List ℕ)
    → InValues (values opened steps pv sector) write value → MayLeave opened steps pv sector write value
may_of opened [] pv sector write value h = ⊎_elim (λ a. a) (λ b. absurd b) h
may_of opened (Submitted tag (Writing span sectors) ∷ steps) pv sector write value h =
    let vs = values opened steps pv sector in
    (elim (covers span pv sector) as (λ b. covers span pv sector ≡ b
    → InValues (cond b (vs ++ (Some tag, value_at span sectors sector) ∷ []) vs) write value
    → MayLeave opened steps pv sector write value
    ⊎ (IsTrue (covers span pv sector) × (write ≡ Some tag) × (value ≡ value_at span sectors sector))) [
      | true ↦ λ e k. ⊎_elim (λ a. inl (may_of opened steps pv sector write value a)) (λ b. inr (e, b.0, b.1))
          (last_values vs _ write value k)
      | false ↦ λ e k. inl (may_of opened steps pv sector write value k)
    ]) refl h
may_of opened (Submitted tag (Reading span) ∷ steps) pv sector write value h = may_of opened steps pv sector write value h
may_of opened (Submitted tag (Flushing disk) ∷ steps) pv sector write value h = may_of opened steps pv sector write value h
may_of opened (Completed tag (Reading span) well fresh ∷ steps) pv sector write value h = may_of opened steps pv sector write value h
may_of opened (Completed tag (Writing span sectors) well fresh ∷ steps) pv sector write value h =
    may_of opened steps pv sector write value h
may_of opened (Completed tag (Flushing disk) false fresh ∷ steps) pv sector write value h = may_of opened steps pv sector write value h
may_of opened (Completed tag (Flushing disk) true fresh ∷ steps) pv sector write value h =
    let vs = values opened steps pv sector in
    let p : Option ℕ → Bool = λ w. not (is_dropped steps tag pv sector w) in
    ⊎_elim
    (λ same. let h' : InValues (filter (λ (v : Option ℕ × List ℕ). not (is_dropped steps tag pv sector v.0)) vs) write value = rw same.0 at
    h in
    let r = kept_in p vs write value h' in
    (may_of opened steps pv sector write value r.0, λ e drop. not_true _ r.1 (to_dropped steps tag pv sector write drop)))
    (λ other. let h' : InValues vs write value = rw other.0 at h in (may_of opened steps pv sector write value h', λ e drop. other.1 e))
    (eqb_tells disk pv)

-- each value that a crash may leave is in the list
pub of_may : (opened : Image) (steps : List Step) (pv sector : ℕ) (write : Option ℕ) (value : List ℕ)
    → MayLeave opened steps pv sector write value → InValues (values opened steps pv sector) write value
of_may opened [] pv sector write value h = inl h
of_may opened (Submitted tag (Writing span sectors) ∷ steps) pv sector write value h =
    let vs = values opened steps pv sector in
    (elim (covers span pv sector) as (λ b. covers span pv sector ≡ b
    → InValues (cond b (vs ++ (Some tag, value_at span sectors sector) ∷ []) vs) write value) [
      | true ↦ λ e. values_last vs _ write value (⊎_elim (λ a. inl (of_may opened steps pv sector write value a)) (λ b. inr (b.1, b.2)) h)
      | false ↦ λ e. ⊎_elim (λ a. of_may opened steps pv sector write value a) (λ b. absurd (let x : true ≡ false = sym b.0 ∙ e in cc)) h
    ]) refl
of_may opened (Submitted tag (Reading span) ∷ steps) pv sector write value h = of_may opened steps pv sector write value h
of_may opened (Submitted tag (Flushing disk) ∷ steps) pv sector write value h = of_may opened steps pv sector write value h
of_may opened (Completed tag (Reading span) well fresh ∷ steps) pv sector write value h = of_may opened steps pv sector write value h
of_may opened (Completed tag (Writing span sectors) well fresh ∷ steps) pv sector write value h =
    of_may opened steps pv sector write value h
of_may opened (Completed tag (Flushing disk) false fresh ∷ steps) pv sector write value h = of_may opened steps pv sector write value h
of_may opened (Completed tag (Flushing disk) true fresh ∷ steps) pv sector write value h =
    let vs = values opened steps pv sector in
    let p : Option ℕ → Bool = λ w. not (is_dropped steps tag pv sector w) in
    let old = of_may opened steps pv sector write value h.0 in
    ⊎_elim
    (λ same. rw same.0 (in_kept p vs write value old (not_of _ (λ d. h.1 same.1 (dropped_of steps tag pv sector write d)))))
    (λ other. rw other.0 old)
    (eqb_tells disk pv)

-- a value of the list has a place in it
pub place_of : (vs : List (Option ℕ × List ℕ)) (write : Option ℕ) (value : List ℕ) → InValues vs write value → 0 < length vs
place_of [] write value h = absurd h
place_of (v ∷ vs) write value h = omega arith

-- a place of the list has a value of it
pub value_in : (vs : List (Option ℕ × List ℕ)) (k : ℕ) (d : Option ℕ × List ℕ) → k < length vs
    → InValues vs (get_or vs k d).0 (get_or vs k d).1
value_in [] k d lt = absurd (omega arith)
value_in (v ∷ vs) zero d lt = inl (refl, refl)
value_in (v ∷ vs) (suc k) d lt = inr (value_in vs k d (omega arith))

-- there is a value always
pub some_value : (opened : Image) (steps : List Step) (pv sector : ℕ) → IsRecord steps → 0 < length (values opened steps pv sector)
some_value opened steps pv sector is =
    let s = now_stands opened steps pv sector is in
    place_of (values opened steps pv sector) s.write _ (of_may opened steps pv sector s.write _ s.may)

-- a filter that leaves something of one value leaves it
sole_filter : (p : Option ℕ × List ℕ → Bool) (vs : List (Option ℕ × List ℕ)) → length vs ≤ 1 → 0 < length (filter p vs) → filter p vs ≡ vs
sole_filter p [] le lt = refl
sole_filter p (v ∷ []) le lt =
    (elim (p v) as (λ b. 0 < length (cond b (v ∷ []) []) → cond b (v ∷ []) [] ≡ v ∷ []) [
      | true ↦ λ k. refl
      | false ↦ λ k. absurd (omega arith)
    ]) lt
sole_filter p (v ∷ w ∷ vs) le lt = absurd (omega arith)

-- a flush leaves a value that is alone
pub sole_stays : (opened : Image) (steps : List Step) (tag pv sector : ℕ) (fresh : List Bool)
    → IsRecord (Completed tag (Flushing pv) true fresh ∷ steps) → length (values opened steps pv sector) ≤ 1
    → values opened (Completed tag (Flushing pv) true fresh ∷ steps) pv sector ≡ values opened steps pv sector
sole_stays opened steps tag pv sector fresh is sole =
    let vs = values opened steps pv sector in
    let some : 0 < length (values opened (Completed tag (Flushing pv) true fresh ∷ steps) pv sector) =
    some_value opened (Completed tag (Flushing pv) true fresh ∷ steps) pv sector is in
    ⊎_elim
    (λ same. let some' : 0 < length (filter (λ (v : Option ℕ × List ℕ). not (is_dropped steps tag pv sector v.0)) vs) = rw same.0 at some in
    rw same.0 (sole_filter (λ (v : Option ℕ × List ℕ). not (is_dropped steps tag pv sector v.0)) vs sole some'))
    (λ other. absurd (other.1 refl))
    (eqb_tells pv pv)
