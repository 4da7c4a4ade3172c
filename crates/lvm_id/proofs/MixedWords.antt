-- How the numbers of SplitMix64 follow one another.
use Rattle.std.proofs.Common.{◌≡◌, ℕ, zero, suc, ◌+◌, ◌%◌, ◌^◌, ◌∷◌, map, refl, sym, ap, ap₂, ◌∙◌, arith, add-zero, add-one}
use Rattle.std.specs.List.{range_with_len}
use Rattle.std.proofs.Math.Nat.{mod-add-mod}
use Rattle.lvm_id.specs.Words.{splitmix_output, splitmix_words, state_after}

-- two functions that agree along two ranges give the same lists
map-ranges : (f g : ℕ → ℕ) (a b n : ℕ) → ((i : ℕ) → f (a + i) ≡ g (b + i)) → map f (range_with_len a n) ≡ map g (range_with_len b n)
map-ranges f g a b zero same = refl
map-ranges f g a b (suc n) same =
    let here : f a ≡ g b = rw (← add-zero a, ← add-zero b) (same 0) in
    ap₂ ◌∷◌ here (map-ranges f g (a + 1) (b + 1) n (λ i. ap f (omega arith) ∙ same (1 + i) ∙ ap g (omega arith)))

-- one step and then more are as many in all
state_after-after : (state more : ℕ) → state_after (state_after state 1) more ≡ state_after state (1 + more)
state_after-after state more = mod-add-mod _ _ _ ∙ ap (λ x. x % 2 ^ 64) (omega arith)

-- the first number, and then the numbers of the next state
pub splitmix_words-more : (state n : ℕ) → splitmix_words state (n + 1)
    ≡ splitmix_output (state_after state 1) ∷ splitmix_words (state_after state 1) n
splitmix_words-more state n =
    rw (add-one n) (ap (λ xs. splitmix_output (state_after state 1) ∷ xs)
    (map-ranges (λ i. splitmix_output (state_after state (i + 1))) (λ i. splitmix_output (state_after (state_after state 1) (i + 1))) 1
    0 n (λ i. ap splitmix_output (ap (state_after state) (omega arith) ∙ sym (state_after-after state (0 + i + 1))))))
