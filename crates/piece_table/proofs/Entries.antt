-- Entries of a map under numbers: one more, and one less.
use Rattle.std.proofs.Common.{◌≡◌, ◌<◌, ℕ, suc, ◌+◌, Bool, true, false, not, cond, nat_eq, nat_lt, List, [], ◌∷◌, ◌++◌, length, get_or}
use Rattle.std.proofs.Common.{Some, None, refl, sym, ap, ◌∙◌, arith}
use Rattle.std.specs.Prelude.{count_by, swap_remove}
use Rattle.std.specs.List.{position_or_len, sum_by}
use Rattle.std.specs.Map.{keys_of, lookup}
use Rattle.std.specs.Option.{option_map_or}
use Rattle.std.proofs.lemmas.Bool.{lt-ltb}
use Rattle.std.proofs.lemmas.List.{length-map}
use Rattle.std.proofs.lemmas.List.Sums.{sum_by-swap_remove}
use Rattle.std.proofs.lemmas.Option.{same_Some}
use Rattle.indexmap.specs.IndexMap.{insert_entry, swap_remove_entry}

-- a new key is the last
pub insert_absent : {V : Type 0} (es : List (ℕ × V)) (k : ℕ) (v : V) → lookup (nat_eq k) es ≡ None
    → insert_entry nat_eq es k v ≡ es ++ (k, v) ∷ []
insert_absent [] k v none = refl
insert_absent (e ∷ es) k v none =
    elim (nat_eq k e.0) as
    (λ b. cond b (Some e.1) (lookup (nat_eq k) es) ≡ None
    → cond b ((e.0, v) ∷ es) (e ∷ insert_entry nat_eq es k v) ≡ e ∷ (es ++ (k, v) ∷ [])) [
      | true ↦ λ h. cc
      | false ↦ λ h. ap (λ l. e ∷ l) (insert_absent es k v h)
    ] none

-- where a value is found
found_at : {V : Type 0} (test : ℕ → Bool) (es : List (ℕ × V)) (v : V) (d : ℕ × V) → lookup test es ≡ Some v
    → (position_or_len test (keys_of es) < length es) × ((get_or es (position_or_len test (keys_of es)) d).1 ≡ v)
found_at test [] v d is = cc
found_at test (e ∷ es) v d is =
    elim (test e.0) as
    (λ b. cond b (Some e.1) (lookup test es) ≡ Some v
    → (cond (not b) (1 + position_or_len test (keys_of es)) 0 < length (e ∷ es))
    × ((get_or (e ∷ es) (cond (not b) (1 + position_or_len test (keys_of es)) 0) d).1 ≡ v)) [
      | true ↦ λ h. (omega arith, same_Some e.1 v h)
      | false ↦ λ h.
          let rest = found_at test es v d h in
          let next : 1 + position_or_len test (keys_of es) ≡ suc (position_or_len test (keys_of es)) = omega arith in
          rw (next) (omega (arith, rest.0), rest.1)
    ] is

-- how many values pass, where one was taken out
pub count_left : {V : Type 0} (p : V → Bool) (test : ℕ → Bool) (es : List (ℕ × V)) (v : V) → lookup test es ≡ Some v
    → count_by (λ (e : ℕ × V). p e.1) (swap_remove_entry test es) + cond (p v) 1 0 ≡ count_by (λ (e : ℕ × V). p e.1) es
count_left p test [] v is = cc
count_left {V} p test (e ∷ es) v is =
    let found = found_at test (e ∷ es) v e is in
    let long : length (keys_of (e ∷ es)) ≡ length (e ∷ es) = length-map (e ∷ es) (λ (x : ℕ × V). x.0) in
    let within : nat_lt (position_or_len test (keys_of (e ∷ es))) (length (keys_of (e ∷ es))) ≡ true =
    lt-ltb (position_or_len test (keys_of (e ∷ es))) (length (keys_of (e ∷ es))) (omega (arith, long, found.0)) in
    let taken : swap_remove_entry test (e ∷ es) ≡ swap_remove (e ∷ es) (position_or_len test (keys_of (e ∷ es))) e =
    ap (λ b. option_map_or (λ i. swap_remove (e ∷ es) i e)
    (cond b (Some (position_or_len test (keys_of (e ∷ es)))) None) (e ∷ es)) within in
    let count = sum_by-swap_remove (λ (x : ℕ × V). cond (p x.1) 1 0) (e ∷ es) (position_or_len test (keys_of (e ∷ es))) e found.0 in
    rw (taken)
    (ap (λ w. sum_by (λ (x : ℕ × V). cond (p x.1) 1 0) (swap_remove (e ∷ es) (position_or_len test (keys_of (e ∷ es))) e)
    + cond (p w) 1 0) (sym found.1) ∙ count)
