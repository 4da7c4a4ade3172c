-- The flush in flight of a disk, as flushes come and go, where no two are of one disk.
use Rattle.std.proofs.Common.{◌≡◌, ◌<◌, ℕ, zero, suc, ◌+◌, true, false, not, cond, nat_eq, nat_lt, List, [], ◌∷◌, ◌++◌, length, get_or}
use Rattle.std.proofs.Common.{Option, Some, None, ◌==◌, refl, sym, ap, ◌∙◌, arith}
use Rattle.std.specs.Prelude.{position, remove, slice_get}
use Rattle.std.specs.List.{AllByRecursion, position_or_len}
use Rattle.std.specs.Option.{option_and_then}
use Rattle.std.proofs.lemmas.Bool.{eq-eqb, eqb-false, le-ltb, lt-ltb, ltb-false, ltb-true, ne_eqb}
use Rattle.std.proofs.lemmas.List.Elements.{All-from_recursion}
use Rattle.flush_plan.specs.declared.records.Flush.{Flush}
use Rattle.list_laws.proofs.Pairs.{Pairs}

-- they are of different disks
abbrev pub Apart : Flush → Flush → Type 0
Apart f g = nat_eq f.pv g.pv ≡ false

-- the first of this disk
abbrev pub first_of : List Flush → ℕ → Option Flush
first_of [] pv = None
first_of (f ∷ fs) pv = cond (nat_eq f.pv pv) (Some f) (first_of fs pv)

-- one place further in a longer list
later : (f : Flush) (fs : List Flush) (k : ℕ)
    → option_and_then (slice_get (f ∷ fs)) (cond (nat_lt (1 + k) (length (f ∷ fs))) (Some (1 + k)) None)
    ≡ option_and_then (slice_get fs) (cond (nat_lt k (length fs)) (Some k) None)
later f fs k =
    let next : 1 + k ≡ suc k = omega arith in
    rw (next) (elim (nat_lt k (length fs)) as
    (λ b. nat_lt k (length fs) ≡ b
    → option_and_then (slice_get (f ∷ fs)) (cond (nat_lt (suc k) (length (f ∷ fs))) (Some (suc k)) None)
    ≡ option_and_then (slice_get fs) (cond b (Some k) None)) [
      | true ↦ λ t.
          let within : nat_lt (suc k) (length (f ∷ fs)) ≡ true =
          lt-ltb (suc k) (length (f ∷ fs)) (omega (arith, ltb-true k (length fs) t)) in
          rw (within) refl
      | false ↦ λ t.
          let past : nat_lt (suc k) (length (f ∷ fs)) ≡ false =
          le-ltb (suc k) (length (f ∷ fs)) (omega (arith, ltb-false k (length fs) t)) in
          rw (past) refl
    ] refl)

-- it is the one that is looked for by its place
pub flight_is : (fs : List Flush) (pv : ℕ) → option_and_then (slice_get fs) (position (λ (f : Flush). f.pv == pv) fs) ≡ first_of fs pv
flight_is [] pv = refl
flight_is (f ∷ fs) pv =
    elim (nat_eq f.pv pv) as
    (λ b. option_and_then (slice_get (f ∷ fs))
    (cond (nat_lt (cond (not b) (1 + position_or_len (λ (g : Flush). g.pv == pv) fs) 0) (length (f ∷ fs)))
    (Some (cond (not b) (1 + position_or_len (λ (g : Flush). g.pv == pv) fs) 0)) None)
    ≡ cond b (Some f) (first_of fs pv)) [
      | true ↦ rw (lt-ltb 0 (length (f ∷ fs)) (omega arith)) refl
      | false ↦ later f fs (position_or_len (λ (g : Flush). g.pv == pv) fs) ∙ flight_is fs pv
    ]

-- disks that differ do so either way
swap : (a b : ℕ) → nat_eq a b ≡ false → nat_eq b a ≡ false
swap a b h = ne_eqb b a (λ e. eqb-false a b h (sym e))

-- of a disk with none, one that was submitted
pub first_pushed : (fs : List Flush) (g : Flush) → first_of fs g.pv ≡ None → first_of (fs ++ g ∷ []) g.pv ≡ Some g
first_pushed [] g none = rw (eq-eqb g.pv g.pv refl) refl
first_pushed (f ∷ fs) g none =
    elim (nat_eq f.pv g.pv) as
    (λ b. cond b (Some f) (first_of fs g.pv) ≡ None → cond b (Some f) (first_of (fs ++ g ∷ []) g.pv) ≡ Some g) [
      | true ↦ λ h. cc
      | false ↦ λ h. first_pushed fs g h
    ] none

-- of each other disk the same
pub first_other : (fs : List Flush) (g : Flush) (pv : ℕ) → nat_eq g.pv pv ≡ false → first_of (fs ++ g ∷ []) pv ≡ first_of fs pv
first_other [] g pv other = rw (other) refl
first_other (f ∷ fs) g pv other = ap (λ (o : Option Flush). cond (nat_eq f.pv pv) (Some f) o) (first_other fs g pv other)

-- none of a disk from which all differ
none_first : (fs : List Flush) (pv : ℕ) → AllByRecursion (λ (g : Flush). nat_eq pv g.pv ≡ false) fs → first_of fs pv ≡ None
none_first [] pv all = refl
none_first (g ∷ fs) pv all = rw (swap pv g.pv all.0) (none_first fs pv all.1)

-- one differs from each later one
other_at : (f : Flush) (fs : List Flush) (at : ℕ) (d : Flush) → at < length fs → AllByRecursion (Apart f) fs
    → nat_eq f.pv (get_or fs at d).pv ≡ false
other_at f fs at d lt all = All-from_recursion (Apart f) fs all at d lt

-- each is the first of its disk
pub first_taken : (fs : List Flush) (at : ℕ) (d : Flush) → at < length fs → Pairs Apart fs
    → first_of fs (get_or fs at d).pv ≡ Some (get_or fs at d)
first_taken [] at d lt apart = absurd (omega (arith, lt))
first_taken (f ∷ fs) zero d lt apart = rw (eq-eqb f.pv f.pv refl) refl
first_taken (f ∷ fs) (suc at) d lt apart =
    rw (other_at f fs at d (omega (arith, lt)) apart.0) (first_taken fs at d (omega (arith, lt)) apart.1)

-- where it was taken out there is none of its disk
pub first_left : (fs : List Flush) (at : ℕ) (d : Flush) → at < length fs → Pairs Apart fs
    → first_of (remove fs at) (get_or fs at d).pv ≡ None
first_left [] at d lt apart = absurd (omega (arith, lt))
first_left (f ∷ fs) zero d lt apart = none_first fs f.pv apart.0
first_left (f ∷ fs) (suc at) d lt apart =
    rw (other_at f fs at d (omega (arith, lt)) apart.0) (first_left fs at d (omega (arith, lt)) apart.1)

-- and of each other disk the same
pub first_kept : (fs : List Flush) (at : ℕ) (d : Flush) → at < length fs → (pv : ℕ) → nat_eq (get_or fs at d).pv pv ≡ false
    → first_of (remove fs at) pv ≡ first_of fs pv
first_kept [] at d lt pv other = absurd (omega (arith, lt))
first_kept (f ∷ fs) zero d lt pv other = rw (other) refl
first_kept (f ∷ fs) (suc at) d lt pv other =
    ap (λ (o : Option Flush). cond (nat_eq f.pv pv) (Some f) o) (first_kept fs at d (omega (arith, lt)) pv other)
