-- Powers of two are the numbers with one bit.
use Rattle.std.specs.Int.{is_power_of_two}
use Rattle.std.proofs.Common.{◌≡◌, ◌↔◌, Bool, true, IsTrue, eq-eqb, ℕ, zero, suc, ◌/◌, ◌%◌, ◌^◌, ◌≤◌, count_ones, refl}
use Rattle.std.proofs.Common.{sym, ap, ◌∙◌, inl, inr, arith}
use Rattle.std.proofs.lemmas.Bool.{cases_eq, eqb-true}
use Rattle.std.proofs.lemmas.Nat.{ones_le_self, zero_from_ones}
use Rattle.std.proofs.Math.Nat.{two-pow-succ}
use lib.Count.{ones_step}
use Rattle.volume_rules.specs.Rules.{IsPowerOfTwo}

one_bit : (d n : ℕ) → n ≤ d → count_ones n ≡ 1 → IsPowerOfTwo n
one_bit zero n h e = absurd (omega (arith, ones_le_self n))
one_bit (suc d) n h e =
    let step = ones_step n in
    elim (cases_eq (n % 2) 0) [
      | inl even ↦
          let half = one_bit d (n / 2) (omega arith) (omega arith) in
          (suc half.0, omega (arith, half.1, two-pow-succ half.0))
      | inr odd ↦
          let none : n / 2 ≡ 0 = zero_from_ones (n / 2) (omega arith) in
          (0, omega arith)
    ]

pub power_from_ones : (n : ℕ) → count_ones n ≡ 1 → IsPowerOfTwo n
power_from_ones n = one_bit n n (omega arith)

one_of_one : count_ones 1 ≡ 1
unfolding lib.Count.ones
one_of_one = refl

pub ones_of_power : (k : ℕ) → count_ones (2 ^ k) ≡ 1
ones_of_power zero = one_of_one
ones_of_power (suc k) =
    let step = ones_step (2 ^ suc k) in
    let double = two-pow-succ k in
    let half : 2 ^ suc k / 2 ≡ 2 ^ k = omega arith in
    omega (arith, ap count_ones half, ones_of_power k)

-- what `is_power_of_two` answers
pub decided : (n : ℕ) (result : Bool) → result ≡ is_power_of_two n → IsTrue result ↔ IsPowerOfTwo n
decided n result is =
    elim (cases_eq (count_ones n) 1) [
      | inl one ↦
          let yes : result ≡ true = is ∙ eq-eqb (count_ones n) 1 one in
          (λ _. power_from_ones n one, λ _. yes)
      | inr other ↦ (
        λ yes. absurd (other (eqb-true (count_ones n) 1 (sym is ∙ yes))),
        λ power. absurd (other (ap count_ones power.1 ∙ ones_of_power power.0)),
      )
    ]
