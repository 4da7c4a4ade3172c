-- Extents that runs have.
use Rattle.std.proofs.Common.{◌≡◌, ℕ, zero, suc, ◌+◌, ◌<◌, ◌≤◌, Bool, true, false, List, [], ◌∷◌, ⊎_elim, refl, sym, subst, ◌∙◌, ◌↔◌}
use Rattle.std.proofs.Common.{IsTrue, arith}
use Rattle.std.specs.Prelude.{Contains, nat_le, nat_lt}
use Rattle.std.specs.List.{list_any}
use Rattle.std.specs.List.Sorted.{IsPermutation}
use Rattle.std.proofs.lemmas.Bool.{and_from, and_parts, or_cases, or_left, or_right, false≢true, leb-true, le-leb, ltb-true, lt-ltb}
use Rattle.std.proofs.lemmas.List.Sorted.{Contains-permutation}
use Rattle.meta_model.specs.declared.extent_span.ExtentSpan.{ExtentSpan}
use Rattle.volume_rules.proofs.LegRuns.{contains_first, contains_later}
use Rattle.extent_map.specs.Covered.{is_in}

abbrev pub Has : ExtentSpan → ℕ → Type 0
Has run extent = (run.first ≤ extent) × (extent < run.first + run.count)

-- a run has the extent
abbrev pub Cover : List ExtentSpan → ℕ → Type 0
Cover runs extent = (run : ExtentSpan) × Contains runs run × Has run extent

pub cover_first : (run : ExtentSpan) (runs : List ExtentSpan) (extent : ℕ) → Has run extent → Cover (run ∷ runs) extent
cover_first run runs extent has = (run, contains_first run runs, has)

pub cover_later : (run : ExtentSpan) (runs : List ExtentSpan) (extent : ℕ) → Cover runs extent → Cover (run ∷ runs) extent
cover_later run runs extent cover = (cover.0, contains_later run cover.0 runs cover.1, cover.2)

pub cover_cases : {P : Type 0} (run : ExtentSpan) (runs : List ExtentSpan) (extent : ℕ) → Cover (run ∷ runs) extent → (Has run extent → P)
    → (Cover runs extent → P) → P
cover_cases run runs extent (one, (zero, lt, is), has) first later = first (subst (λ (r : ExtentSpan). Has r extent) (sym is) has)
cover_cases run runs extent (one, (suc k, lt, is), has) first later = later (one, (k, omega arith, is), has)

pub cover_permuted : (xs ys : List ExtentSpan) (extent : ℕ) → IsPermutation xs ys → Cover xs extent → Cover ys extent
cover_permuted xs ys extent moved cover = (cover.0, Contains-permutation xs ys cover.0 moved cover.1, cover.2)

-- the test finds it
pub cover_from : (extent : ℕ) (runs : List ExtentSpan) → list_any (is_in extent) runs ≡ true → Cover runs extent
cover_from extent [] is = absurd (false≢true is)
cover_from extent (run ∷ runs) is =
    ⊎_elim
    (λ here. let both = and_parts (nat_le run.first extent) (nat_lt extent (run.first + run.count)) here in
    cover_first run runs extent (leb-true run.first extent both.0, ltb-true extent (run.first + run.count) both.1))
    (λ later. cover_later run runs extent (cover_from extent runs later))
    (or_cases (is_in extent run) (list_any (is_in extent) runs) is)

pub cover_found : (extent : ℕ) (runs : List ExtentSpan) → Cover runs extent → list_any (is_in extent) runs ≡ true
cover_found extent [] cover = absurd (omega (arith, cover.1.1))
cover_found extent (run ∷ runs) cover =
    cover_cases run runs extent cover
    (λ has. or_left (is_in extent run) (list_any (is_in extent) runs)
    (and_from _ _ (le-leb run.first extent has.0) (lt-ltb extent (run.first + run.count) has.1)))
    (λ later. or_right (is_in extent run) (list_any (is_in extent) runs) (cover_found extent runs later))

is_true : (b : Bool) → IsTrue b → b ≡ true
is_true true is = refl
is_true false is = grind arith

true_is : (b : Bool) → b ≡ true → IsTrue b
true_is true is = grind arith
true_is false is = absurd (false≢true is)

pub test_covers : (extent : ℕ) (runs : List ExtentSpan) (b : Bool) → b ≡ list_any (is_in extent) runs → IsTrue b ↔ Cover runs extent
test_covers extent runs b same =
    (λ is. cover_from extent runs (sym same ∙ is_true b is), λ cover. true_is b (same ∙ cover_found extent runs cover))
