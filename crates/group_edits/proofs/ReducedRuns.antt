-- A physical volume on which no leg lies, and the numbers of the others once it was taken out.
use Rattle.std.proofs.Common.{◌≡◌, ◌≢◌, ◌≤◌, ◌<◌, ℕ, zero, suc, ◌-◌, Bool, true, false, ◌||◌, cond, List, [], ◌∷◌, get_or}
use Rattle.std.proofs.Common.{Some, refl, sym, ap, subst, ◌∙◌, arith}
use Rattle.std.specs.Prelude.{nat_lt, slice_get, All}
use Rattle.std.specs.List.{list_any, remove}
use Rattle.std.proofs.lemmas.Bool.{eq-eqb, ltb-false, ltb-true, true≢false}
use Rattle.std.proofs.lemmas.List.Elements.{All-contains_itself}
use Rattle.std.proofs.lemmas.Option.{get_or_from_slice_get, slice_get_within}
use Rattle.meta_model.specs.Runs.{legs_of}
use Rattle.meta_model.specs.declared.group.Group.{Group}
use Rattle.meta_model.specs.declared.lv.Lv.{Lv}
use Rattle.meta_model.specs.declared.segment.Leg.{Leg}
use Rattle.meta_model.specs.declared.segment.On.{On}
use Rattle.meta_model.specs.declared.segment.On.TheVariants as on
use Rattle.meta_model.specs.declared.segment.Segment.{Segment}
use Rattle.volume_rules.proofs.LegRuns.{IsRunOf, run_is}
use Rattle.volume_rules.specs.Legs.{LegRun, runs_of}
use Rattle.list_laws.proofs.Inserted.{none_at, none_by}
use Rattle.group_edits.specs.ReducedGroup.{has_leg_on_pv, is_on_pv, leg_is_on_pv, lies_on_pv, number_without, segment_is_on_pv}

-- ---- no leg lies on it

abbrev pub IsElsewhere : ℕ → LegRun → Type 0
IsElsewhere removed run = run.on ≢ on.Pv removed

other_on : (removed : ℕ) (is : On) → is_on_pv removed is ≡ false → is ≢ on.Pv removed
other_on removed is other same = true≢false (sym (own removed) ∙ ap (is_on_pv removed) (sym same) ∙ other)
  where
    own : (n : ℕ) → is_on_pv n (on.Pv n) ≡ true
    own n = eq-eqb n n refl

none_got : {X : Type 0} (p : X → Bool) (xs : List X) (n : ℕ) (x : X) → list_any p xs ≡ false → slice_get xs n ≡ Some x → p x ≡ false
none_got p xs n x none is =
    subst (λ y. p y ≡ false) (get_or_from_slice_get xs n x x is) (none_at p xs n x none (slice_get_within xs n x is))

-- each leg lies elsewhere
pub leg_elsewhere : (removed : ℕ) (group : Group) → has_leg_on_pv group removed ≡ false
    → (n : ℕ) (row : List ℕ × Lv) (s : ℕ) (segment : Segment) (j : ℕ) (leg : Leg) → slice_get group.lvs n ≡ Some row
    → slice_get row.1.segments s ≡ Some segment → slice_get (legs_of segment.kind) j ≡ Some leg → leg.on ≢ on.Pv removed
leg_elsewhere removed group unused n row s segment j leg there stands is =
    let lv : lies_on_pv removed row.1 ≡ false = none_got (λ (r : List ℕ × Lv). lies_on_pv removed r.1) group.lvs n row unused there in
    let legs : segment_is_on_pv removed segment ≡ false = none_got (segment_is_on_pv removed) row.1.segments s segment lv stands in
    other_on removed leg.on (none_got (leg_is_on_pv removed) (legs_of segment.kind) j leg legs is)

-- and so does each run
pub runs_elsewhere : (removed : ℕ) (group : Group) → has_leg_on_pv group removed ≡ false → All (IsElsewhere removed) (runs_of group)
runs_elsewhere removed group unused k d within =
    let run : LegRun = get_or (runs_of group) k d in
    let is : IsRunOf group.lvs 0 run = run_is group run (All-contains_itself (runs_of group) k d within) in
    λ same. leg_elsewhere removed group unused is.nth is.volume run.segment is.segment run.leg is.leg is.is_volume is.is_segment is.is_leg
    (sym is.on_is ∙ same)

-- ---- numbers

by_tests : (a b : Bool) (removed n : ℕ) → (a ≡ true → removed < n) → (a ≡ false → n ≤ removed) → (b ≡ true → removed < n)
    → (b ≡ false → n ≤ removed) → cond a (suc n - 1) (suc n) ≡ suc (cond b (n - 1) n)
by_tests true true removed n above below above' below' = let less = above refl in omega (arith, less)
by_tests true false removed n above below above' below' = let less = above refl in let most = below' refl in omega (arith, less, most)
by_tests false true removed n above below above' below' = let most = below refl in let less = above' refl in omega (arith, less, most)
by_tests false false removed n above below above' below' = refl

number_suc : (removed n : ℕ) → number_without (suc removed) (suc n) ≡ suc (number_without removed n)
number_suc removed n =
    by_tests (nat_lt (suc removed) (suc n)) (nat_lt removed n) removed n
    (λ test. let less : suc removed < suc n = ltb-true (suc removed) (suc n) test in omega (arith, less))
    (λ test. let most : suc n ≤ suc removed = ltb-false (suc removed) (suc n) test in omega (arith, most))
    (ltb-true removed n) (ltb-false removed n)

above_test : (b : Bool) (n : ℕ) → (b ≡ false → suc n ≤ 0) → cond b (suc n - 1) (suc n) ≡ n
above_test true n below = omega arith
above_test false n below = let most = below refl in omega (arith, most)

-- behind the first one
number_above : (n : ℕ) → number_without 0 (suc n) ≡ n
number_above n = above_test (nat_lt 0 (suc n)) n (ltb-false 0 (suc n))

below_test : (b : Bool) (removed : ℕ) → (b ≡ true → suc removed < 0) → cond b (0 - 1) 0 ≡ 0
below_test true removed above = omega arith
below_test false removed above = refl

-- the first one stays
number_below : (removed : ℕ) → number_without (suc removed) 0 ≡ 0
number_below removed = below_test (nat_lt (suc removed) 0) removed (ltb-true (suc removed) 0)

-- a row that isn't the one that is taken out is found by its new number
pub get_without : {X : Type 0} (xs : List X) (removed n : ℕ) → n ≢ removed
    → slice_get (remove xs removed) (number_without removed n) ≡ slice_get xs n
get_without [] zero n other = refl
get_without [] (suc removed) n other = refl
get_without (x ∷ xs) zero zero other = absurd (other refl)
get_without (x ∷ xs) zero (suc n) other = ap (slice_get xs) (number_above n)
get_without (x ∷ xs) (suc removed) zero other = ap (slice_get (remove (x ∷ xs) (suc removed))) (number_below removed)
get_without (x ∷ xs) (suc removed) (suc n) other =
    ap (slice_get (remove (x ∷ xs) (suc removed))) (number_suc removed n) ∙ get_without xs removed n (λ same. other (ap suc same))

-- two others have different new numbers
pub number_apart : (removed m n : ℕ) → m ≢ removed → n ≢ removed → number_without removed m ≡ number_without removed n → m ≡ n
number_apart zero zero n other other' same = absurd (other refl)
number_apart zero (suc m) zero other other' same = absurd (other' refl)
number_apart zero (suc m) (suc n) other other' same = ap suc (sym (number_above m) ∙ same ∙ number_above n)
number_apart (suc removed) zero zero other other' same = refl
number_apart (suc removed) zero (suc n) other other' same =
    let e : 0 ≡ suc (number_without removed n) = sym (number_below removed) ∙ same ∙ number_suc removed n in absurd (omega (arith, e))
number_apart (suc removed) (suc m) zero other other' same =
    let e : suc (number_without removed m) ≡ 0 = sym (number_suc removed m) ∙ same ∙ number_below removed in absurd (omega (arith, e))
number_apart (suc removed) (suc m) (suc n) other other' same =
    let e : suc (number_without removed m) ≡ suc (number_without removed n) =
    sym (number_suc removed m) ∙ same ∙ number_suc removed n in
    ap suc (number_apart removed m n (λ equal. other (ap suc equal)) (λ equal. other' (ap suc equal)) (omega (arith, e)))

-- what none of a list passes, none of the others passes
pub none_without : {X : Type 0} (p : X → Bool) (xs : List X) (removed : ℕ) → list_any p xs ≡ false → list_any p (remove xs removed) ≡ false
none_without p [] zero none = refl
none_without p [] (suc removed) none = refl
none_without p (x ∷ xs) zero none = (none_by (p x) (list_any p xs) none).1
none_without p (x ∷ xs) (suc removed) none =
    let parts : (p x ≡ false) × (list_any p xs ≡ false) = none_by (p x) (list_any p xs) none in
    ap (λ (b : Bool). b || list_any p (remove xs removed)) parts.0 ∙ none_without p xs removed parts.1
