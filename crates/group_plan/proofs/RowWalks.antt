-- The first refusal of rows, one for each element of a list, along a walk.
use Rattle.std.proofs.Common.{◌≡◌, ◌≤◌, ℕ, ◌+◌, List, drop, length, map, Option, Some, None, sym, ap, ◌∙◌}
use Rattle.std.specs.Option.{option_or}
use Rattle.std.specs.Prelude.{slice_get}
use Rattle.std.proofs.lemmas.List.{drop_all}
use Rattle.list_laws.proofs.Walks.{next_got}
use Rattle.line_answers.specs.declared.op_refusal.OpRefusal.{OpRefusal}
use Rattle.group_plan.specs.Judging.{first_refusal}

module _ {X : Type 0} (row : X → Option OpRefusal) (xs : List X) (i : ℕ) (whole : Option OpRefusal)
    (so_far : first_refusal (map row (drop i xs)) ≡ whole) where
  -- the row of the element here, and those behind it
  here : (x : X) → slice_get xs i ≡ Some x → option_or (row x) (first_refusal (map row (drop (i + 1) xs))) ≡ whole
  here x got = sym (ap (λ (l : List X). first_refusal (map row l)) (next_got xs i x got)) ∙ so_far

  pub row_here : (x : X) (refusal : OpRefusal) → slice_get xs i ≡ Some x → Some refusal ≡ row x → Some refusal ≡ whole
  row_here x refusal got holds = ap (λ (o : Option OpRefusal). option_or o (first_refusal (map row (drop (i + 1) xs)))) holds ∙ here x got

  pub row_past : (x : X) → slice_get xs i ≡ Some x → None ≡ row x → first_refusal (map row (drop (i + 1) xs)) ≡ whole
  row_past x got none = ap (λ (o : Option OpRefusal). option_or o (first_refusal (map row (drop (i + 1) xs)))) none ∙ here x got

  pub rows_past : length xs ≤ i → None ≡ whole
  rows_past past = sym (ap (λ (l : List X). first_refusal (map row l)) (drop_all i xs past)) ∙ so_far
