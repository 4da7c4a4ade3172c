-- Halving the segments that may have an extent.
use Rattle.std.proofs.Common.{◌≡◌, ℕ, zero, suc, ◌+◌, ◌-◌, ◌*◌, ◌^◌, ◌<◌, ◌≤◌, List, [], ◌∷◌, length, get_or, Some, None, ◌⊎◌, inl, inr}
use Rattle.std.proofs.Common.{sym, ap, subst, ◌∙◌, arith, mul-le-mul_left}
use Rattle.std.specs.Prelude.{slice_get, sum_by}
use Rattle.std.proofs.lemmas.Option.{same_Some, slice_get_cases, slice_get_within}
use Rattle.std.proofs.lemmas.List.Sums.{sum_by-cons}
use Rattle.std.proofs.Math.Nat.{pow-succ'}
use Rattle.meta_model.specs.declared.segment.Segment.{Segment}
use Rattle.volume_rules.specs.Rules.{Follow}
use Rattle.seg_place.specs.Search.{HasExtent}

-- the segments from `low` up to `high` may have the extent: one begins there at the latest, and the other later
pub record IsBetween (segments : List Segment) (extent low high : ℕ) : Type 0 where
  pub order : low < high
  pub within : high ≤ length segments
  pub begun : (s : Segment) → slice_get segments low ≡ Some s → s.start ≤ extent
  pub ahead : (s : Segment) → slice_get segments high ≡ Some s → extent < s.start

-- so many steps have made them so few
pub record HasHalved (m low high from to : ℕ) : Type 0 where
  pub taken : from ≤ to
  pub narrow : 2 ^ (to - from) * (high - (low + 1)) + 1 ≤ m
  pub few : 2 ^ (to - from) + 1 ≤ 2 * m

power_suc : (n : ℕ) → 2 ^ (n + 1) ≡ 2 * 2 ^ n
power_suc n = ap (λ (k : ℕ). 2 ^ k) (omega arith) ∙ pow-succ' 2 n

-- one step more
power_more : (from to : ℕ) → from ≤ to → 2 ^ (to + 1 - from) ≡ 2 * 2 ^ (to - from)
power_more from to le = ap (λ (n : ℕ). 2 ^ n) (omega arith) ∙ power_suc (to - from)

halved : (p w v m : ℕ) → 2 * v ≤ w → 1 ≤ w → p * w + 1 ≤ m → (2 * p * v + 1 ≤ m) × (2 * p + 1 ≤ 2 * m)
halved p w v m small some narrow =
    let less : p * (2 * v) ≤ p * w = mul-le-mul_left p small in
    let one : p * 1 ≤ p * w = mul-le-mul_left p some in
    (omega arith, omega arith)

-- a step that leaves at most the half of them
pub halves_more : (m low high low' high' from to : ℕ) → 2 * (high' - (low' + 1)) ≤ high - (low + 1) → 1 ≤ high - (low + 1)
    → HasHalved m low high from to → HasHalved m low' high' from (to + 1)
halves_more m low high low' high' from to less some old =
    let more = halved (2 ^ (to - from)) (high - (low + 1)) (high' - (low' + 1)) m less some old.narrow in
    let twice : 2 ^ (to + 1 - from) ≡ 2 * 2 ^ (to - from) = power_more from to old.taken in
    record {
      taken = omega arith;
      narrow = subst (λ (n : ℕ). n * (high' - (low' + 1)) + 1 ≤ m) (sym twice) more.0;
      few = subst (λ (n : ℕ). n + 1 ≤ 2 * m) (sym twice) more.1;
    }

-- the first of them begins where they all do
follow_first : (at : ℕ) (segments : List Segment) (s : Segment) → Follow at segments → slice_get segments 0 ≡ Some s → s.start ≡ at
follow_first at [] s follow is = cc
follow_first at (x ∷ xs) s follow is = subst (λ (y : Segment). y.start ≡ at) (same_Some x s is) follow.0

-- each other one begins where the one before ends
follow_next : (at : ℕ) (segments : List Segment) (k : ℕ) (s t : Segment) → Follow at segments → slice_get segments k ≡ Some s
    → slice_get segments (suc k) ≡ Some t → t.start ≡ s.start + s.count
follow_next at [] k s t follow is next = cc
follow_next at (x ∷ xs) zero s t follow is next =
    let start : t.start ≡ at + x.count = follow_first (at + x.count) xs t follow.2 next in
    subst (λ (y : Segment). t.start ≡ y.start + y.count) (same_Some x s is) (omega (arith, start, follow.0))
follow_next at (x ∷ xs) (suc k) s t follow is next = follow_next (at + x.count) xs k s t follow.2 is next

-- the last one ends where they all do
follow_last : (at : ℕ) (segments : List Segment) (k : ℕ) (s : Segment) → Follow at segments → slice_get segments k ≡ Some s
    → length segments ≤ suc k → s.start + s.count ≡ at + sum_by (λ (x : Segment). x.count) segments
follow_last at [] k s follow is last = cc
follow_last at (x ∷ []) zero s follow is last =
    subst (λ (y : Segment). y.start + y.count ≡ at + sum_by (λ (z : Segment). z.count) (x ∷ [])) (same_Some x s is)
    (omega (arith, follow.0, sum_by-cons (λ (z : Segment). z.count) x []))
follow_last at (x ∷ y ∷ xs) zero s follow is last = absurd (omega arith)
follow_last at (x ∷ xs) (suc k) s follow is last =
    let rest : s.start + s.count ≡ at + x.count + sum_by (λ (z : Segment). z.count) xs =
    follow_last (at + x.count) xs k s follow.2 is (omega arith) in
    omega (arith, rest, sum_by-cons (λ (z : Segment). z.count) x xs)

-- what is there at the start
pub all_between : (segments : List Segment) (extent : ℕ) → Follow 0 segments → extent < sum_by (λ (x : Segment). x.count) segments
    → IsBetween segments extent 0 (length segments)
all_between [] extent follow within = absurd (omega arith)
all_between (x ∷ xs) extent follow within =
    record {
      order = omega arith;
      within = omega arith;
      begun = λ s is. omega (arith, follow_first 0 (x ∷ xs) s follow is);
      ahead = λ s is. absurd (omega (arith, slice_get_within (x ∷ xs) (length (x ∷ xs)) s is));
    }

pub none_halved : (m taken : ℕ) → 1 ≤ m → HasHalved m 0 m taken taken
none_halved m taken some =
    let none : taken - taken ≡ 0 = omega arith in
    let one : 2 ^ (taken - taken) ≡ 1 = ap (λ (n : ℕ). 2 ^ n) none in
    record {
      taken = omega arith;
      narrow = subst (λ (n : ℕ). n * (m - (0 + 1)) + 1 ≤ m) (sym one) (omega arith);
      few = subst (λ (n : ℕ). n + 1 ≤ 2 * m) (sym one) (omega arith);
    }

-- where the one in the middle begins at the latest, it and those behind it are left
pub halves_up : (segments : List Segment) (extent low high middle : ℕ) (x : Segment) → IsBetween segments extent low high → middle < high
    → slice_get segments middle ≡ Some x → x.start ≤ extent → IsBetween segments extent middle high
halves_up segments extent low high middle x between lt is begun =
    record {
      order = lt;
      within = between.within;
      begun = λ s there. subst (λ (y : Segment). y.start ≤ extent) (same_Some x s (sym is ∙ there)) begun;
      ahead = between.ahead;
    }

-- where it begins later, those before it are left
pub halves_down : (segments : List Segment) (extent low high middle : ℕ) (x : Segment) → IsBetween segments extent low high → low < middle
    → slice_get segments middle ≡ Some x → extent < x.start → IsBetween segments extent low middle
halves_down segments extent low high middle x between lt is later =
    record {
      order = lt;
      within = let there : middle < length segments = slice_get_within segments middle x is in omega arith;
      begun = between.begun;
      ahead = λ s there. subst (λ (y : Segment). extent < y.start) (same_Some x s (sym is ∙ there)) later;
    }

-- where they are one, it has the extent
pub one_left : (segments : List Segment) (extent low high : ℕ) → Follow 0 segments → extent < sum_by (λ (x : Segment). x.count) segments
    → IsBetween segments extent low high → high ≤ low + 1 → HasExtent segments extent low
one_left segments extent low high follow within between one = at_place (slice_get_cases segments low).1 where
  at_place : ((x : Segment) × (low < length segments) × (slice_get segments low ≡ Some x) × (get_or segments low x ≡ x))
      ⊎ ((length segments ≤ low) × (slice_get segments low ≡ None)) → HasExtent segments extent low
  at_place (inr past) = absurd (omega (arith, past.0, between.order, between.within))
  at_place (inl here) = (here.0, here.2, between.begun here.0 here.2, ends (slice_get_cases segments (suc low)).1)
    where
      ends : ((x : Segment) × (suc low < length segments) × (slice_get segments (suc low) ≡ Some x) × (get_or segments (suc low) x ≡ x))
          ⊎ ((length segments ≤ suc low) × (slice_get segments (suc low) ≡ None)) → extent < here.0.start + here.0.count
      ends (inr past) = omega (arith, follow_last 0 segments low here.0 follow here.2 past.0)
      ends (inl next) =
          let later : extent < next.0.start =
          between.ahead next.0 (subst (λ (k : ℕ). slice_get segments k ≡ Some next.0) (omega (arith, between.order)) next.2) in
          omega (arith, later, follow_next 0 segments low here.0 next.0 follow here.2 next.2)
