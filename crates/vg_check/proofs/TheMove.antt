-- The one PVMOVE volume.
use Rattle.std.proofs.Common.{◌≡◌, ◌↔◌, ℕ, zero, suc, ◌+◌, ◌<◌, ◌≤◌, IsTrue, Bool, true, false, cond, List, [], ◌∷◌, length, Some, inl, inr}
use Rattle.std.proofs.Common.{refl, sym, ap, subst, ◌∙◌, arith}
use Rattle.std.specs.Prelude.{slice_get}
use Rattle.std.proofs.lemmas.Bool.{cases_eq, cases_lt, false≢true}
use Rattle.std.proofs.lemmas.Option.{same_Some, slice_get_within}
use Rattle.meta_model.specs.declared.group.Group.{Group}
use Rattle.meta_model.specs.declared.lv.Lv.{Lv}
use Rattle.volume_rules.specs.Rules.{IsLv, IsMove, IsPvmove, PvmoveIsAllowed, pvmove_number}
use Rattle.vg_check.specs.Moves.{IsMoveAt, IsUsedWhole, LooksLikeMove, MovesFromOne}

-- the first one isn't past any
none_before : (lvs : List (List ℕ × Lv)) (k : ℕ) (row : List ℕ × Lv) → slice_get lvs k ≡ Some row → row.1.status.pvmove ≡ true
    → pvmove_number lvs ≤ k
none_before [] k row is moves = cc
none_before (v ∷ lvs) zero row is moves =
    let here : v.1.status.pvmove ≡ true = ap (λ (r : List ℕ × Lv). r.1.status.pvmove) (same_Some v row is) ∙ moves in
    let none : pvmove_number (v ∷ lvs) ≡ 0 = ap (λ b. cond b 0 (pvmove_number lvs + 1)) here in omega arith
none_before (v ∷ lvs) (suc k) row is moves = by v.1.status.pvmove (none_before lvs k row is moves) where
  by : (b : Bool) → pvmove_number lvs ≤ k → cond b 0 (pvmove_number lvs + 1) ≤ suc k
  by true rest = omega arith
  by false rest = omega arith

pub at_most_all : (lvs : List (List ℕ × Lv)) → pvmove_number lvs ≤ length lvs
at_most_all [] = omega arith
at_most_all (v ∷ lvs) = by v.1.status.pvmove (at_most_all lvs) where
  by : (b : Bool) → pvmove_number lvs ≤ length lvs → cond b 0 (pvmove_number lvs + 1) ≤ length (v ∷ lvs)
  by true rest = omega arith
  by false rest = omega arith

abbrev IsMoving : List (List ℕ × Lv) → ℕ → Type 0
IsMoving lvs n = (row : List ℕ × Lv) × (slice_get lvs n ≡ Some row) × (row.1.status.pvmove ≡ true)

-- where there is one, it has PVMOVE
it_moves : (lvs : List (List ℕ × Lv)) → pvmove_number lvs < length lvs → IsMoving lvs (pvmove_number lvs)
it_moves [] lt = absurd (omega arith)
it_moves (v ∷ lvs) lt = by v.1.status.pvmove refl lt (it_moves lvs) where
  by : (b : Bool) → v.1.status.pvmove ≡ b → cond b 0 (pvmove_number lvs + 1) < length (v ∷ lvs)
      → (pvmove_number lvs < length lvs → IsMoving lvs (pvmove_number lvs)) → IsMoving (v ∷ lvs) (cond b 0 (pvmove_number lvs + 1))
  by true is less rest = (v, refl, is)
  by false is less rest =
      let there : IsMoving lvs (pvmove_number lvs) = rest (omega arith) in
      let next : suc (pvmove_number lvs) ≡ pvmove_number lvs + 1 = omega arith in
      subst (IsMoving (v ∷ lvs)) next (there.0, there.1, there.2)

pvmove_past : (group : Group) (k : ℕ) → IsPvmove group k → pvmove_number group.lvs ≤ k
pvmove_past group k is = none_before group.lvs k (is.1.0, is.0) is.1.1 is.2

-- no volume has PVMOVE
pub allowed_none : (group : Group) (n many : ℕ) → n ≡ pvmove_number group.lvs → many ≡ length group.lvs → n ≡ many → PvmoveIsAllowed group
allowed_none group n many is counted same =
    let none : (k : ℕ) → IsPvmove group k → ⊥ =
    λ k there. omega (arith, pvmove_past group k there, slice_get_within group.lvs k (there.1.0, there.0) there.1.1) in
    record {
      one = λ a b first second. absurd (none a first);
      whole = λ number name lv there moves. absurd (none number (lv, (name, there), moves));
    }

-- there are two
pub allowed_not : (group : Group) (n : ℕ) (answer : Bool) → n ≡ pvmove_number group.lvs → n < length group.lvs → answer ≡ false
    → IsTrue answer ↔ ((k : ℕ) → n + 1 ≤ k → IsPvmove group k → ⊥) → IsTrue answer ↔ PvmoveIsAllowed group
allowed_not group n answer is lt fails tells =
    let it = it_moves group.lvs (omega arith) in
    let here : IsPvmove group n = subst (IsPvmove group) (sym is) (it.0.1, (it.0.0, it.1), it.2) in (
      λ yes. absurd (false≢true (sym fails ∙ yes)),
      λ allowed. tells.1 (λ k past there. let same : k ≡ n = allowed.one k n there here in omega arith),
    )

moves_too : (group : Group) (n : ℕ) (name : List ℕ) (lv : Lv) → IsPvmove group n → slice_get group.lvs n ≡ Some (name, lv)
    → lv.status.pvmove ≡ true
moves_too group n name lv here there =
    ap (λ (row : List ℕ × Lv). row.1.status.pvmove) (same_Some (name, lv) (here.1.0, here.0) (sym there ∙ here.1.1)) ∙ here.2

-- there is one
pub allowed_one : (group : Group) (n : ℕ) (answer : Bool) → n ≡ pvmove_number group.lvs → n < length group.lvs
    → ((k : ℕ) → n + 1 ≤ k → IsPvmove group k → ⊥) → IsTrue answer ↔ IsMoveAt group n → IsTrue answer ↔ PvmoveIsAllowed group
allowed_one group n answer is lt later tells =
    let it = it_moves group.lvs (omega arith) in
    let here : IsPvmove group n = subst (IsPvmove group) (sym is) (it.0.1, (it.0.0, it.1), it.2) in
    let only : (k : ℕ) → IsPvmove group k → k ≡ n =
    λ k there. elim (cases_lt n k) [
      | inl past ↦ absurd (later k (omega arith) there)
      | inr low ↦ omega
          (arith, pvmove_past group k there)
    ] in (
      λ yes. record {
        one = λ a b first second. let left : a ≡ n = only a first in let right : b ≡ n = only b second in omega arith;
        whole =
            λ number name lv there moves. subst (λ m. IsMove group m name lv) (sym (only number (lv, (name, there), moves)))
            (tells.0 yes name lv (subst (λ m. slice_get group.lvs m ≡ Some (name, lv)) (only number (lv, (name, there), moves)) there));
      },
      λ allowed. tells.1 (λ name lv there. allowed.whole n name lv there (moves_too group n name lv here there)),
    )

-- what makes a move
pub move_tells : (group : Group) (n : ℕ) (name : List ℕ) (lv : Lv) (answer : Bool) → slice_get group.lvs n ≡ Some (name, lv)
    → LooksLikeMove name lv → MovesFromOne lv.segments → IsTrue answer ↔ IsUsedWhole group n → IsTrue answer ↔ IsMoveAt group n
move_tells group n name lv answer is looks from tells = (
  λ yes other volume there.
      subst (λ (row : List ℕ × Lv). IsMove group n row.0 row.1) (same_Some (name, lv) (other, volume) (sym is ∙ there))
      (record { hidden = looks.0; locked = looks.1; named = looks.2; from_one = from; stands_in_legs = tells.0 yes lv (name, is) }),
  λ move. tells.1 (λ volume there. (move there.0 volume there.1).stands_in_legs),
)

-- one volume more without PVMOVE
pub none_more : (group : Group) (from n : ℕ) (lv : Lv) → IsLv group n lv → lv.status.pvmove ≡ false
    → ((k : ℕ) → from ≤ k → k < n → IsPvmove group k → ⊥) → (k : ℕ) → from ≤ k → k < n + 1 → IsPvmove group k → ⊥
none_more group from n lv is stays before k past lt there =
    elim (cases_eq k n) [
      | inl same ↦
          let at : slice_get group.lvs n ≡ Some (there.1.0, there.0) = ap (slice_get group.lvs) (sym same) ∙ there.1.1 in
          false≢true (sym stays ∙ ap (λ (row : List ℕ × Lv). row.1.status.pvmove)
          (same_Some (is.0, lv) (there.1.0, there.0) (sym is.1 ∙ at)) ∙ there.2)
      | inr other ↦ before k past (omega arith) there
    ]
