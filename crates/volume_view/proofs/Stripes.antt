-- The arithmetic of stripes: a sector is known from its leg and its place there, and lies within the leg.
use Rattle.std.proofs.Common.{◌≡◌, ℕ, ◌+◌, ◌*◌, ◌/◌, ◌%◌, ◌<◌, ◌≤◌, Bool, cond, inl, inr, sym, ap, subst, ◌∙◌, arith}
use Rattle.std.proofs.lemmas.Nat.{div-add-mod', div_below, mod_below, mul-add-lt, div-mul-add, mod-mul-add}
use Rattle.std.proofs.lemmas.Bool.{cases_eq, ne_eqb}
use Rattle.volume_view.specs.InSegments.{stripe_leg, stripe_offset}

-- the place of a sector in the leg of its stripe, where there is more than one leg
pub more_offset : (stripe legs l : ℕ) → (legs ≡ 1 → ⊥) → stripe_offset stripe legs l ≡ l / stripe / legs * stripe + l % stripe
more_offset stripe legs l more = ap (λ (b : Bool). cond b l (l / stripe / legs * stripe + l % stripe)) (ne_eqb legs 1 more)

-- and the leg
pub more_leg : (stripe legs l : ℕ) → (legs ≡ 1 → ⊥) → stripe_leg stripe legs l ≡ l / stripe % legs
more_leg stripe legs l more = ap (λ (b : Bool). cond b 0 (l / stripe % legs)) (ne_eqb legs 1 more)

-- a sector from its leg and its place there
back : (s n l o j : ℕ) → 0 < s → 0 < n → o ≡ l / s / n * s + l % s → j ≡ l / s % n → l ≡ (o / s * n + j) * s + o % s
back s n l o j sp np at leg =
    let whole : o / s ≡ l / s / n = ap (λ (x : ℕ). x / s) at ∙ div-mul-add (l / s / n) s (l % s) (mod_below l s sp) in
    let rest : o % s ≡ l % s = ap (λ (x : ℕ). x % s) at ∙ mod-mul-add (l / s / n) s (l % s) (mod_below l s sp) in
    let row : o / s * n + j ≡ l / s = ap (λ (x : ℕ). x * n + j) whole ∙ ap (λ (x : ℕ). l / s / n * n + x) leg ∙ div-add-mod' (l / s) n in
    sym (ap (λ (x : ℕ). x * s + o % s) row ∙ ap (λ (x : ℕ). l / s * s + x) rest ∙ div-add-mod' l s)

-- sectors in one leg and as far into it are one
pub same_stripe : (s n l l' : ℕ) → 0 < s → 0 < n → stripe_offset s n l ≡ stripe_offset s n l' → stripe_leg s n l ≡ stripe_leg s n l'
    → l ≡ l'
same_stripe s n l l' sp np at leg =
    elim (cases_eq n 1) [
      | inl one ↦
          sym (ap (λ (k : ℕ). stripe_offset s k l) one) ∙ at ∙ ap (λ (k : ℕ). stripe_offset s k l') one
      | inr more ↦
          back s n l (stripe_offset s n l) (stripe_leg s n l) sp np (more_offset s n l more) (more_leg s n l more)
          ∙ ap (λ (o : ℕ). (o / s * n + stripe_leg s n l) * s + o % s) at
          ∙ ap (λ (j : ℕ). (stripe_offset s n l' / s * n + j) * s + stripe_offset s n l' % s) leg
          ∙ sym (back s n l' (stripe_offset s n l') (stripe_leg s n l') sp np (more_offset s n l' more) (more_leg s n l' more))
    ]

-- it lies within the leg, of which an extent has t stripes
within : (s n q t l : ℕ) → 0 < s → 0 < n → l < q * n * (t * s) → l / s / n * s + l % s < q * (t * s)
within s n q t l sp np lt =
    let rows : l / s < q * t * n = div_below l s (q * t * n) sp (omega arith) in
    let row : l / s / n < q * t = div_below (l / s) n (q * t) np rows in
    let all : l / s / n * s + l % s < s * (q * t) = mul-add-lt (l / s / n) s (l % s) (q * t) row (mod_below l s sp) in
    omega arith

-- so is the place of any sector of the segment in its leg
pub within_leg : (s n count extent l : ℕ) → 1 ≤ n → count % n ≡ 0 → (1 < n → (8 ≤ s) × (extent % s ≡ 0)) → l < count * extent
    → stripe_offset s n l < count / n * extent
within_leg s n count extent l some whole stripes lt =
    let count' : count / n * n ≡ count = omega (arith, div-add-mod' count n) in
    elim (cases_eq n 1) [
      | inl one ↦
          let e : stripe_offset s n l ≡ l = ap (λ (k : ℕ). stripe_offset s k l) one in
          let c : count / n ≡ count =
          sym (Rattle.std.proofs.Math.Nat.mul-one (count / n)) ∙ ap (λ (k : ℕ). count / n * k) (sym one) ∙ count' in
          subst (λ (x : ℕ). x < count / n * extent) (sym e) (subst (λ (x : ℕ). l < x * extent) (sym c) lt)
      | inr more ↦
          let h : (8 ≤ s) × (extent % s ≡ 0) = stripes (omega arith) in
          let h0 : 8 ≤ s = h.0 in
          let h1 : extent % s ≡ 0 = h.1 in
          let extent' : extent / s * s ≡ extent = omega (arith, div-add-mod' extent s) in
          let lt' : l < count / n * n * (extent / s * s) =
          subst (λ (x : ℕ). l < x * (extent / s * s)) (sym count') (subst (λ (x : ℕ). l < count * x) (sym extent') lt) in
          subst (λ (x : ℕ). x < count / n * extent) (sym (more_offset s n l more))
          (subst (λ (x : ℕ). l / s / n * s + l % s < count / n * x) extent'
          (within s n (count / n) (extent / s) l (omega arith) (omega arith) lt'))
    ]
