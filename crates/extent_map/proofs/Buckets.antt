-- Runs that are put into the buckets of their volumes.
use Rattle.std.proofs.Common.{◌≡◌, ◌≢◌, ℕ, zero, suc, ◌+◌, ◌*◌, ◌<◌, ◌≤◌, List, [], ◌∷◌, ◌++◌, length, drop, get_or, map, refl, sym, ap}
use Rattle.std.proofs.Common.{ap₂, ◌∙◌, arith, append_assoc, append-nil}
use Rattle.std.specs.Prelude.{Some, Vec, replicate, slice_get, slice_index_or, slice_set}
use Rattle.std.specs.List.{flat_map, range_with_len}
use Rattle.std.proofs.lemmas.List.{drop_all, length-map}
use Rattle.std.proofs.lemmas.Bool.{cond-false, cond-true, eq-eqb, ne_eqb}
use Rattle.std.proofs.lemmas.Option.{get_or_from_slice_get, slice_get_within}
use Rattle.meta_model.specs.declared.extent_span.ExtentSpan.{ExtentSpan}
use Rattle.meta_model.specs.declared.segment.Leg.{Leg}
use Rattle.meta_model.specs.declared.segment.On.TheVariants as on
use Rattle.extent_map.specs.ByVolume.{each_with, lists_of}
use Rattle.extent_map.specs.Covered.{is_on, leg_on}
use Rattle.list_laws.proofs.RowWalks.{flat_next}

-- where there is no more
pub each_none : (more : ℕ → List ExtentSpan) (at : ℕ) (lists : List (List ExtentSpan))
    → ((pv : ℕ) → at ≤ pv → pv < at + length lists → more pv ≡ []) → lists ≡ each_with more at lists
each_none more at [] none = refl
each_none more at (runs ∷ lists) none =
    ap₂ (λ (here : List ExtentSpan) (later : List (List ExtentSpan)). here ∷ later)
    (sym (ap (λ some. runs ++ some) (none at (omega arith) (omega arith)) ∙ append-nil runs))
    (each_none more (at + 1) lists (λ pv low high. none pv (omega (arith, low)) (omega (arith, high))))

-- where there is more in one
pub each_set : {Z : Type 0} (more : ℕ → List ExtentSpan) (at k : ℕ) (buckets : List (Vec ExtentSpan Z)) (old new : Vec ExtentSpan Z)
    → k < length buckets → old ≡ slice_index_or buckets k old
    → new.items ≡ old.items ++ more (at + k) → ((pv : ℕ) → pv ≢ at + k → more pv ≡ [])
    → lists_of (slice_set buckets k new) ≡ each_with more at (lists_of buckets)
each_set more at k [] old new lt is with_is none = absurd (omega (arith, lt))
each_set more at zero (bucket ∷ buckets) old new lt is with_is none =
    let here : at + 0 ≡ at = omega arith in
    ap₂ (λ (runs : List ExtentSpan) (later : List (List ExtentSpan)). runs ∷ later)
    (with_is ∙ ap₂ (λ (runs more : List ExtentSpan). runs ++ more) (ap (λ v. v.items) is) (ap more here))
    (each_none more (at + 1) (lists_of buckets) (λ pv low high. none pv (λ same. omega (arith, same, low))))
each_set more at (suc k) (bucket ∷ buckets) old new lt is with_is none =
    let next : at + suc k ≡ at + 1 + k = omega arith in
    ap₂ (λ (runs : List ExtentSpan) (later : List (List ExtentSpan)). runs ∷ later)
    (sym (ap (λ some. bucket.items ++ some) (none at (λ same. omega (arith, same))) ∙ append-nil bucket.items))
    (each_set more (at + 1) k buckets old new (omega (arith, lt)) is (with_is ∙ ap (λ n. old.items ++ more n) next)
    (λ pv other. none pv (λ same. other (same ∙ next))))

-- more, and then more
pub each_next : (some rest all : ℕ → List ExtentSpan) (at : ℕ) (lists : List (List ExtentSpan)) → ((pv : ℕ) → all pv ≡ some pv ++ rest pv)
    → each_with rest at (each_with some at lists) ≡ each_with all at lists
each_next some rest all at [] same = refl
each_next some rest all at (runs ∷ lists) same =
    ap₂ (λ (here : List ExtentSpan) (later : List (List ExtentSpan)). here ∷ later)
    (append_assoc runs (some at) (rest at) ∙ ap (λ more. runs ++ more) (sym (same at)))
    (each_next some rest all (at + 1) lists same)

-- what one more item of a walk gives
pub each_walked : {X : Type 0} (f : ℕ → X → List ExtentSpan) (xs : List X) (i : ℕ) (d : X) (lists next : List (List ExtentSpan))
    → i < length xs
    → next ≡ each_with (λ pv. f pv (get_or xs i d)) 0 lists
    → each_with (λ pv. flat_map (f pv) (drop (i + 1) xs)) 0 next ≡ each_with (λ pv. flat_map (f pv) (drop i xs)) 0 lists
each_walked f xs i d lists next lt is =
    ap (each_with (λ pv. flat_map (f pv) (drop (i + 1) xs)) 0) is
    ∙ each_next (λ pv. f pv (get_or xs i d)) (λ pv. flat_map (f pv) (drop (i + 1) xs)) (λ pv. flat_map (f pv) (drop i xs)) 0 lists
    (λ pv. flat_next (f pv) xs i d lt)

-- the same where the item is found by its number
pub each_row : {X : Type 0} (f : ℕ → X → List ExtentSpan) (xs : List X) (i : ℕ) (x : X) (lists next : List (List ExtentSpan))
    → slice_get xs i ≡ Some x
    → next ≡ each_with (λ pv. f pv x) 0 lists
    → each_with (λ pv. flat_map (f pv) (drop (i + 1) xs)) 0 next ≡ each_with (λ pv. flat_map (f pv) (drop i xs)) 0 lists
each_row f xs i x lists next at is =
    each_walked f xs i x lists next (slice_get_within xs i x at)
    (is ∙ ap (λ y. each_with (λ pv. f pv y) 0 lists) (sym (get_or_from_slice_get xs i x x at)))

-- and nothing once it is done
pub each_nothing : {X : Type 0} (f : ℕ → X → List ExtentSpan) (xs : List X) (i : ℕ) (lists : List (List ExtentSpan)) → length xs ≤ i
    → lists ≡ each_with (λ pv. flat_map (f pv) (drop i xs)) 0 lists
each_nothing f xs i lists le =
    each_none (λ pv. flat_map (f pv) (drop i xs)) 0 lists (λ pv low high. ap (flat_map (f pv)) (drop_all i xs le))

-- of buckets that were empty
pub each_of_empty : (more : ℕ → List ExtentSpan) (at count : ℕ)
    → each_with more at (replicate count []) ≡ map more (range_with_len at count)
each_of_empty more at zero = refl
each_of_empty more at (suc count) = ap (λ later. more at ∷ later) (each_of_empty more (at + 1) count)

-- the run of a leg lies on its volume alone
pub leg_here : (pv share : ℕ) (leg : Leg) → leg.on ≡ on.Pv pv
    → leg_on pv share leg ≡ record { on = 2 * pv; first = leg.first; count = share } ∷ []
leg_here pv share leg is = cond-true (is_on pv leg.on) _ [] (ap (is_on pv) is ∙ eq-eqb pv pv refl)

pub leg_elsewhere : (pv share other : ℕ) (leg : Leg) → leg.on ≡ on.Pv pv → other ≢ pv → leg_on other share leg ≡ []
leg_elsewhere pv share other leg is differs =
    cond-false (is_on other leg.on) _ [] (ap (is_on other) is ∙ ne_eqb pv other (λ same. differs (sym same)))

pub leg_on_lv : (lv pv share : ℕ) (leg : Leg) → leg.on ≡ on.Lv lv → leg_on pv share leg ≡ []
leg_on_lv lv pv share leg is = cond-false (is_on pv leg.on) _ [] (ap (is_on pv) is)

-- as many lists as buckets
pub lists_long : {Z : Type 0} (buckets : List (Vec ExtentSpan Z)) → length (lists_of buckets) ≡ length buckets
lists_long buckets = length-map buckets (λ bucket. bucket.items)
