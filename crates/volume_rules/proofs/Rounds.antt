-- Five rounds tell whether each way down from a volume has at most four volumes, and at most three that count.
use Rattle.std.proofs.Common.{◌≡◌, ℕ, zero, suc, ◌≤◌, ◌⊎◌, List, [], ◌∷◌, length, map, take, inl, inr, refl, ap, arith}
use Rattle.std.specs.Prelude.{Contains}
use Rattle.std.proofs.lemmas.Bool.{cases_lt}
use Rattle.std.proofs.lemmas.List.{length-take-le}
use Rattle.volume_rules.specs.Depths.{IsWayBy, greatest, load, height}

-- what is among them is at most the greatest
below_greatest : (h : ℕ → ℕ) (xs : List ℕ) (x : ℕ) → Contains xs x → h x ≤ greatest (map h xs)
below_greatest h [] x at = absurd (omega (arith, at.1))
below_greatest h (y ∷ xs) x (zero, lt, is) = let same : h y ≡ h x = ap h is in omega arith
below_greatest h (y ∷ xs) x (suc k, lt, is) =
    let rest : h x ≤ greatest (map h xs) = below_greatest h xs x (k, omega arith, is) in omega arith

-- the greatest is none, or that of one of them
greatest_is : (h : ℕ → ℕ) (xs : List ℕ) → (greatest (map h xs) ≡ 0) ⊎ ((x : ℕ) × Contains xs x × (greatest (map h xs) ≡ h x))
greatest_is h [] = inl refl
greatest_is h (y ∷ xs) =
    elim (cases_lt (h y) (greatest (map h xs))) [
      | inl less ↦
          elim (greatest_is h xs) [
            | inl none ↦ absurd (omega arith)
            | inr one ↦ inr (one.0, (suc one.1.0, omega (arith, one.1.1), one.1.2), omega (arith, one.2))
          ]
      | inr more ↦ inr (y, (zero, omega arith, refl), omega arith)
    ]

-- no way of at most so many volumes weighs more
pub load_below : (weight : ℕ → ℕ) (named : ℕ → List ℕ) (rounds lv : ℕ) (way : List ℕ) → IsWayBy named (lv ∷ way)
    → length (lv ∷ way) ≤ rounds → load weight (lv ∷ way) ≤ height weight named rounds lv
load_below weight named zero lv way is short = absurd (omega arith)
load_below weight named (suc rounds) lv [] is short = omega arith
load_below weight named (suc rounds) lv (below ∷ way) is short =
    let rest : load weight (below ∷ way) ≤ height weight named rounds below = load_below weight named rounds below way is.1 (omega arith) in
    let most : height weight named rounds below ≤ greatest (map (height weight named rounds) (named lv)) =
    below_greatest (height weight named rounds) (named lv) below is.0 in
    omega arith

-- one weighs as much
pub height_is : (weight : ℕ → ℕ) (named : ℕ → List ℕ) (rounds lv : ℕ)
    → (way : List ℕ) × IsWayBy named (lv ∷ way) × (height weight named (suc rounds) lv ≡ load weight (lv ∷ way))
height_is weight named zero lv =
    elim (greatest_is (height weight named zero) (named lv)) [
      | inl none ↦ ([], tt, omega arith)
      | inr one ↦ ([], tt, omega (arith, one.2))
    ]
height_is weight named (suc rounds) lv =
    elim (greatest_is (height weight named (suc rounds)) (named lv)) [
      | inl none ↦ ([], tt, omega arith)
      | inr one ↦
          let rest = height_is weight named rounds one.0 in
          (one.0 ∷ rest.0, (one.1, rest.1), omega (arith, one.2, rest.2))
    ]

-- the front of a way is one
front : (named : ℕ → List ℕ) (k : ℕ) (way : List ℕ) → IsWayBy named way → IsWayBy named (take k way)
front named zero way is = tt
front named (suc k) [] is = tt
front named (suc zero) (lv ∷ []) is = tt
front named (suc (suc k)) (lv ∷ []) is = tt
front named (suc zero) (lv ∷ below ∷ way) is = tt
front named (suc (suc k)) (lv ∷ below ∷ way) is = (is.0, front named (suc k) (below ∷ way) is.1)

one : ℕ → ℕ
one lv = 1

count_is : (way : List ℕ) → load (λ lv. 1) way ≡ length way
count_is [] = refl
count_is (lv ∷ way) = let rest = count_is way in omega arith

pub rounds_tell : (weight : ℕ → ℕ) (named : ℕ → List ℕ) (lv : ℕ) → (height (λ v. 1) named 5 lv ≤ 4) × (height weight named 5 lv ≤ 3)
    → (way : List ℕ) → IsWayBy named (lv ∷ way) → (length (lv ∷ way) ≤ 4) × (load weight (lv ∷ way) ≤ 3)
rounds_tell weight named lv h way is =
    elim (cases_lt 5 (length (lv ∷ way))) [
      | inl long ↦
          let five =
          load_below (λ v. 1) named 5 lv (take 4 way) (front named 5 (lv ∷ way) is)
          (omega (arith, length-take-le 4 way (omega arith))) in
          absurd (omega (arith, five, h.0, count_is (lv ∷ take 4 way), length-take-le 4 way (omega arith)))
      | inr short ↦ (
        omega (arith, h.0, load_below (λ v. 1) named 5 lv way is short, count_is (lv ∷ way)),
        omega (arith, h.1, load_below weight named 5 lv way is short),
      )
    ]

pub rounds_find : (weight : ℕ → ℕ) (named : ℕ → List ℕ) (lv : ℕ)
    → ((way : List ℕ) → IsWayBy named (lv ∷ way) → (length (lv ∷ way) ≤ 4) × (load weight (lv ∷ way) ≤ 3))
    → (height (λ v. 1) named 5 lv ≤ 4) × (height weight named 5 lv ≤ 3)
rounds_find weight named lv low =
    let a = height_is (λ v. 1) named 4 lv in
    let b = height_is weight named 4 lv in
    (omega (arith, a.2, count_is (lv ∷ a.0), (low a.0 a.1).0), omega (arith, b.2, (low b.0 b.1).1))
