-- Sectors between two multiples of 8 lie in one segment, one stripe and one region.
use Rattle.std.proofs.Common.{◌≡◌, ℕ, zero, suc, ◌+◌, ◌*◌, ◌/◌, ◌%◌, ◌^◌, ◌<◌, ◌≤◌, Bool, true, false, ◌&&◌, cond, nat_le, nat_lt, List, []}
use Rattle.std.proofs.Common.{◌∷◌, length, Option, Some, None, inl, inr, refl, sym, ap, ◌∙◌, arith}
use Rattle.std.proofs.lemmas.Nat.{div-add-mod', pow-add}
use Rattle.std.proofs.lemmas.Bool.{cases_eq, leb-true, le-leb, ltb-true, lt-ltb}
use Rattle.meta_model.specs.declared.segment.Segment.{Segment}
use Rattle.meta_model.specs.declared.segment.SegKind.{SegKind}
use Rattle.meta_model.specs.declared.segment.SegKind.TheVariants.{Striped, Mirror}
use Rattle.volume_rules.specs.Rules.{IsPowerOfTwo, IsWholeStriped, IsWholeMirror}
use Rattle.volume_view.specs.InSegments.{segment_from, has_sector, offset_in, primary_leg, stripe_leg, stripe_offset, is_finished}
use Rattle.volume_view.specs.InSegments.{region_of}
use Rattle.volume_view.proofs.Stripes.{more_leg, more_offset}

same_bool : (b c : Bool) → (b ≡ true → c ≡ true) → (c ≡ true → b ≡ true) → b ≡ c
same_bool true c there here = sym (there refl)
same_bool false true there here = here refl
same_bool false false there here = refl

-- multiples of a multiple of 8
pub eight : (a n : ℕ) → n % 8 ≡ 0 → a * n ≡ 8 * (a * (n / 8))
eight a n whole =
    let e : n ≡ 8 * (n / 8) = omega arith in
    ap (λ (x : ℕ). a * x) e ∙ omega arith

same_le : (a n x y : ℕ) → n % 8 ≡ 0 → x / 8 ≡ y / 8 → nat_le (a * n) x ≡ nat_le (a * n) y
same_le a n x y whole same =
    let e : a * n ≡ 8 * (a * (n / 8)) = eight a n whole in
    same_bool _ _
    (λ t. let h : a * n ≤ x = leb-true (a * n) x t in le-leb (a * n) y (omega arith))
    (λ t. let h : a * n ≤ y = leb-true (a * n) y t in le-leb (a * n) x (omega arith))

same_lt : (a n x y : ℕ) → n % 8 ≡ 0 → x / 8 ≡ y / 8 → nat_lt x (a * n) ≡ nat_lt y (a * n)
same_lt a n x y whole same =
    let e : a * n ≡ 8 * (a * (n / 8)) = eight a n whole in
    same_bool _ _
    (λ t. let h : x < a * n = ltb-true x (a * n) t in lt-ltb y (a * n) (omega arith))
    (λ t. let h : y < a * n = ltb-true y (a * n) t in lt-ltb x (a * n) (omega arith))

-- both are found in the same segment
pub same_found : (extent x y number : ℕ) (segments : List Segment) → extent % 8 ≡ 0 → x / 8 ≡ y / 8
    → segment_from extent x number segments ≡ segment_from extent y number segments
same_found extent x y number [] whole same = refl
same_found extent x y number (s ∷ segments) whole same =
    let test : has_sector extent x s ≡ has_sector extent y s =
    ap (λ (b : Bool). b && nat_lt x ((s.start + s.count) * extent)) (same_le s.start extent x y whole same)
    ∙ ap (λ (b : Bool). nat_le (s.start * extent) y && b) (same_lt (s.start + s.count) extent x y whole same) in
    let pair : ℕ × Segment = (number, s) in
    ap (λ (b : Bool). cond b (Some pair) (segment_from extent x (number + 1) segments)) test
    ∙ ap (λ (o : Option (ℕ × Segment)). cond (has_sector extent y s) (Some pair) o) (same_found extent x y (number + 1) segments whole same)

-- a power of two of at least 8 is a multiple of 8
whole_power : (n : ℕ) → IsPowerOfTwo n → 8 ≤ n → n % 8 ≡ 0
whole_power n (zero, is) big = absurd (omega (arith, is))
whole_power n (suc zero, is) big = absurd (omega (arith, is))
whole_power n (suc (suc zero), is) big = absurd (omega (arith, is))
whole_power n (suc (suc (suc k)), is) big = let e : 2 ^ (3 + k) ≡ 2 ^ 3 * 2 ^ k = pow-add 2 3 k in omega (arith, is)

-- quotients by a multiple of 8
same_quotient : (s x y : ℕ) → 0 < s → s % 8 ≡ 0 → x / 8 ≡ y / 8 → x / s ≡ y / s
same_quotient s x y some whole same =
    let e : s ≡ 8 * (s / 8) = omega arith in
    ap (λ (n : ℕ). x / n) e ∙ sym (Rattle.std.proofs.Math.Nat.div-div-eq-div-mul x 8 (s / 8)) ∙ ap (λ (n : ℕ). n / (s / 8)) same
    ∙ Rattle.std.proofs.Math.Nat.div-div-eq-div-mul y 8 (s / 8) ∙ ap (λ (n : ℕ). y / n) (sym e)

-- one stripe: the same leg, and side by side in it
pub record SameLeg (count : ℕ) (kind : SegKind) (l l' : ℕ) : Type 0 where
  pub leg : primary_leg count kind l ≡ primary_leg count kind l'
  pub near : offset_in kind l / 8 ≡ offset_in kind l' / 8
  pub apart : offset_in kind l + l' ≡ offset_in kind l' + l
  pub region : region_of count kind l ≡ region_of count kind l'

stripes_near : (s n l l' : ℕ) → 8 ≤ s → s % 8 ≡ 0 → (n ≡ 1 → ⊥) → l / 8 ≡ l' / 8
    → (stripe_leg s n l ≡ stripe_leg s n l') × (stripe_offset s n l / 8 ≡ stripe_offset s n l' / 8)
    × (stripe_offset s n l + l' ≡ stripe_offset s n l' + l)
stripes_near s n l l' big whole more same =
    let quotient : l / s ≡ l' / s = same_quotient s l l' (omega arith) whole same in
    let row : ℕ = l' / s / n in
    let rest : l / s * s + l % s ≡ l = div-add-mod' l s in
    let rest' : l' / s * s + l' % s ≡ l' = div-add-mod' l' s in
    let product : l / s * s ≡ l' / s * s = ap (λ (q : ℕ). q * s) quotient in
    let e : l' / s * s ≡ 8 * (l' / s * (s / 8)) = eight (l' / s) s whole in
    let f : row * s ≡ 8 * (row * (s / 8)) = eight row s whole in
    let at : stripe_offset s n l ≡ row * s + l % s = more_offset s n l more ∙ ap (λ (q : ℕ). q / n * s + l % s) quotient in
    let at' : stripe_offset s n l' ≡ row * s + l' % s = more_offset s n l' more in
    let leg : stripe_leg s n l ≡ stripe_leg s n l' = more_leg s n l more ∙ ap (λ (q : ℕ). q % n) quotient ∙ sym (more_leg s n l' more) in
    let small : (l % s) / 8 ≡ (l' % s) / 8 = omega arith in
    (leg, omega arith, omega arith)

-- sectors between two multiples of 8 are read from one leg, in one stripe and region
pub same_leg : (extent count : ℕ) (kind : SegKind) (l l' : ℕ) → IsWholeStriped extent count kind → IsWholeMirror kind → l / 8 ≡ l' / 8
    → SameLeg count kind l l'
same_leg extent count (Striped stripe legs) l l' whole mirror same =
    elim (cases_eq (length legs) 1) [
      | inl one ↦
          let at : stripe_offset stripe (length legs) l ≡ l = ap (λ (n : ℕ). stripe_offset stripe n l) one in
          let at' : stripe_offset stripe (length legs) l' ≡ l' = ap (λ (n : ℕ). stripe_offset stripe n l') one in
          record {
            leg = ap (λ (n : ℕ). stripe_leg stripe n l) one ∙ sym (ap (λ (n : ℕ). stripe_leg stripe n l') one);
            near = omega arith;
            apart = omega arith;
            region = refl;
          }
      | inr more ↦
          let some : 1 ≤ length legs = whole.0 in
          let h = whole.3 (omega arith) in
          let big : 8 ≤ stripe = h.1 in
          let near = stripes_near stripe (length legs) l l' big (whole_power stripe h.0 big) more same in
          record { leg = near.0; near = near.1; apart = near.2; region = refl }
    ]
same_leg extent count (Mirror region moved legs) l l' whole mirror same =
    let big : 8 ≤ region = mirror.3 in
    let quotient : l / region ≡ l' / region = same_quotient region l l' (omega arith) (whole_power region mirror.2 big) same in
    record { leg = refl; near = same; apart = omega arith; region = ap (λ (q : ℕ). cond (is_finished count moved) None (Some q)) quotient }
