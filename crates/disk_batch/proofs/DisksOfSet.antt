-- The disks of a set, as a list in order.
use Rattle.std.proofs.Common.{◌≡◌, ◌<◌, ◌≤◌, ℕ, zero, suc, ◌+◌, Bool, true, false, IsTrue, cond, List, [], ◌∷◌, ◌++◌, length, All, inl}
use Rattle.std.proofs.Common.{⊎_elim, refl, sym, ap, subst, ◌∙◌, arith}
use Rattle.std.specs.List.{filter, range_with_len}
use Rattle.std.specs.FinSet.{FinSet, contains}
use Rattle.std.specs.Ordering.{nat_cmp}
use Rattle.std.proofs.lemmas.Bool.{cases_lt}
use Rattle.std.proofs.lemmas.List.{map-id, append-nil}
use Rattle.std.proofs.lemmas.List.Elements.{All-append, All-cons, All-nil}
use Rattle.std.proofs.lemmas.List.FromFn.{filter_of_map_range_with_len_more}
use Rattle.disk_model.specs.InFlight.{IsAmong}
use Rattle.disk_model.proofs.InFlight.{is_among-left, is_among-right}
use Rattle.disk_batch.specs.Writes.{disks_in}

-- the numbers below one more
more_kept : (p : ℕ → Bool) (n : ℕ) → filter p (range_with_len 0 (n + 1)) ≡ filter p (range_with_len 0 n) ++ cond (p n) (n ∷ []) []
more_kept p n =
    ap (λ (l : List ℕ). filter p l) (sym (map-id (range_with_len 0 (n + 1))))
    ∙ filter_of_map_range_with_len_more p (λ (k : ℕ). k) 0 n n (omega arith)
    ∙ ap (λ (l : List ℕ). filter p l ++ cond (p n) (n ∷ []) []) (map-id (range_with_len 0 n))

pub kept_more : (p : ℕ → Bool) (n : ℕ) (old new : List ℕ) → p n ≡ true → old ≡ filter p (range_with_len 0 n) → new ≡ old ++ n ∷ []
    → new ≡ filter p (range_with_len 0 (n + 1))
kept_more p n old new here h e =
    e ∙ ap (λ (l : List ℕ). l ++ n ∷ []) h ∙ sym
    (more_kept p n ∙ ap (λ (b : Bool). filter p (range_with_len 0 n) ++ cond b (n ∷ []) []) here)

pub kept_not : (p : ℕ → Bool) (n : ℕ) (old : List ℕ) → p n ≡ false → old ≡ filter p (range_with_len 0 n)
    → old ≡ filter p (range_with_len 0 (n + 1))
kept_not p n old out h =
    h ∙ sym (more_kept p n ∙ ap (λ (b : Bool). filter p (range_with_len 0 n) ++ cond b (n ∷ []) []) out
    ∙ append-nil (filter p (range_with_len 0 n)))

-- each of them has what each number with the test has
last_has : (p : ℕ → Bool) (P : ℕ → Type 0) → ((k : ℕ) → IsTrue (p k) → P k) → (n : ℕ) (b : Bool) → p n ≡ b → All P (cond b (n ∷ []) [])
last_has p P has n true e = All-cons P n [] (has n e) (All-nil P)
last_has p P has n false e = All-nil P

all_kept : (p : ℕ → Bool) (P : ℕ → Type 0) → ((k : ℕ) → IsTrue (p k) → P k) → (n : ℕ) → All P (filter p (range_with_len 0 n))
all_kept p P has zero = All-nil P
all_kept p P has (suc n) =
    let e : n + 1 ≡ suc n = omega arith in
    subst (λ (m : ℕ). All P (filter p (range_with_len 0 m))) e
    (subst (All P) (sym (more_kept p n)) (All-append P (filter p (range_with_len 0 n)) (cond (p n) (n ∷ []) []) (all_kept p P has n)
    (last_has p P has n (p n) refl)))

-- a number with the test is among them
kept_among : (p : ℕ → Bool) (n k : ℕ) → k < n → IsTrue (p k) → IsAmong (filter p (range_with_len 0 n)) k
kept_among p zero k lt here = absurd (omega arith)
kept_among p (suc n) k lt here =
    let e : n + 1 ≡ suc n = omega arith in
    subst (λ (m : ℕ). IsAmong (filter p (range_with_len 0 m)) k) e
    (subst (λ (l : List ℕ). IsAmong l k) (sym (more_kept p n))
    (⊎_elim
    (λ (less : k < n). is_among-left (filter p (range_with_len 0 n)) (cond (p n) (n ∷ []) []) k (kept_among p n k less here))
    (λ (ge : n ≤ k).
    let same : k ≡ n = omega arith in
    is_among-right (filter p (range_with_len 0 n)) (cond (p n) (n ∷ []) []) k
    (subst (λ (b : Bool). IsAmong (cond b (n ∷ []) []) k) (sym (subst (λ (m : ℕ). p m ≡ true) same here)) (inl (sym same))))
    (cases_lt k n)))

-- what holds of each number of the set holds of each of its disks
pub disks_have : (set : FinSet nat_cmp) (P : ℕ → Type 0) → ((pv : ℕ) → IsTrue (contains set pv) → P pv) → All P (disks_in set)
unfolding disks_in
disks_have set P has = all_kept (contains set) P has 64

-- a number below 64 that is in the set is among its disks
pub among_disks : (set : FinSet nat_cmp) (pv : ℕ) → pv < 64 → IsTrue (contains set pv) → IsAmong (disks_in set) pv
unfolding disks_in
among_disks set pv lt here = kept_among (contains set) 64 pv lt here

among_some : (ns : List ℕ) (n : ℕ) → IsAmong ns n → 0 < length ns
among_some [] n h = absurd h
among_some (m ∷ ns) n h = omega arith

-- and so there is one
pub some_disk : (set : FinSet nat_cmp) (pv : ℕ) → pv < 64 → IsTrue (contains set pv) → 0 < length (disks_in set)
some_disk set pv lt here = among_some (disks_in set) pv (among_disks set pv lt here)
