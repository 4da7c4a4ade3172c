-- The table of new numbers, as it is filled.
use Rattle.std.proofs.Common.{◌≡◌, ◌≤◌, ◌<◌, ℕ, ◌+◌, Bool, List, length, get_or, Option, Some, None, inl, inr, refl, sym, ap, ◌∙◌, arith}
use Rattle.std.proofs.Common.{length-set}
use Rattle.std.specs.Prelude.{replicate, slice_get, slice_set, IfSome}
use Rattle.std.proofs.lemmas.Bool.{cases_eq}
use Rattle.std.proofs.lemmas.List.{get_or-set_other, get_or-set_same, length-replicate}
use Rattle.std.proofs.lemmas.Option.{get_or_from_slice_get, slice_get_within}
use Rattle.group_edits.specs.Marking.{HasNumbers, unmarked}
use Rattle.group_edits.specs.Removing.{number_after}

-- the numbers of the first so many volumes stand in it
pub record IsFilled (goes : List Bool) (table : List ℕ) (n : ℕ) : Type 0 where
  pub long : length table ≡ 1024
  pub told : (lv : ℕ) → lv < n → get_or table lv 0 ≡ number_after (unmarked goes) lv

pub filled_first : (goes : List Bool) (table : List ℕ) → table ≡ replicate 1024 0 → IsFilled goes table 0
filled_first goes table none = record {
  long = ap (λ (l : List ℕ). length l) none ∙ length-replicate {A = ℕ} 1024 0;
  told = λ lv below. absurd (omega (arith, below));
}

pub filled_step : (goes : List Bool) (table : List ℕ) (n number : ℕ) → IsFilled goes table n → n < 1024
    → number ≡ number_after (unmarked goes) n → IsFilled goes (slice_set table n number) (n + 1)
filled_step goes table n number old lt is = record {
  long = length-set table n number ∙ old.long;
  told = λ lv below. elim (cases_eq lv n) [
    | inl here ↦ ap (λ (k : ℕ). get_or (slice_set table n number) k 0) here ∙ get_or-set_same table n number 0 (omega (arith, old.long, lt))
        ∙ is ∙ ap (number_after (unmarked goes)) (sym here)
    | inr other ↦ get_or-set_other table n lv number 0 other ∙ old.told lv (omega (arith, other, below))
  ];
}

-- the whole table
pub filled_all : (goes : List Bool) (table : List ℕ) (n : ℕ) → IsFilled goes table n → 1024 ≤ n → HasNumbers goes table
filled_all goes table n filled all lv = by (slice_get table lv) refl where
  by : (o : Option ℕ) → slice_get table lv ≡ o → IfSome o (λ number. number ≡ number_after (unmarked goes) lv)
  by None there = tt
  by (Some number) there =
      sym (get_or_from_slice_get table lv number 0 there)
      ∙ filled.told lv (let long = filled.long in let within = slice_get_within table lv number there in omega
      (arith, all, long, within))
