-- A status has its bits, and no others.
use Rattle.std.proofs.Common.{◌≡◌, ◌<◌, ◌==◌, ◌&&◌, ℕ, zero, suc, Bool, true, inl, inr, refl, subst, arith}
use Rattle.std.proofs.lemmas.Bool.{and_parts, cases_lt, eqb-true}
use Rattle.meta_model.specs.Status.{vg_status_of, lv_status_of, vg_bits, lv_bits}

-- whether all numbers below this one pass
all_below : (ℕ → Bool) → ℕ → Bool
all_below test zero = true
all_below test (suc n) = all_below test n && test n

each_below : (test : ℕ → Bool) (n : ℕ) → all_below test n ≡ true → (k : ℕ) → k < n → test k ≡ true
unfolding all_below
each_below test zero h k l = absurd (omega (arith, l))
each_below test (suc n) h k l =
    let both = and_parts (all_below test n) (test n) h in
    elim (cases_lt k n) [
      | inl below ↦ each_below test n both.0 k below
      | inr above ↦ let e : n ≡ k = omega arith in subst (λ k. test k ≡ true) e both.1
    ]

pub vg_bits-again : (bits : ℕ) → bits < 8 → vg_bits (vg_status_of bits) ≡ bits
unfolding all_below
vg_bits-again bits h = eqb-true _ _ (each_below (λ bits. vg_bits (vg_status_of bits) == bits) 8 refl bits h)

pub lv_bits-again : (bits : ℕ) → bits < 128 → lv_bits (lv_status_of bits) ≡ bits
unfolding all_below
lv_bits-again bits h = eqb-true _ _ (each_below (λ bits. lv_bits (lv_status_of bits) == bits) 128 refl bits h)
