-- Numbers that grow in rounds over the legs.
use Rattle.std.proofs.Common.{◌≡◌, ℕ, zero, suc, ◌+◌, ◌<◌, ◌≤◌, ◌↔◌, IsTrue, max, nat_eq, Bool, true, false, cond, List, [], ◌∷◌, ◌++◌}
use Rattle.std.proofs.Common.{length, map, get_or, set, take, Option, inl, inr, refl, sym, ap, subst, ◌∙◌, arith}
use Rattle.std.specs.Prelude.{Contains, option_map, unwrap_or, filter_map}
use Rattle.std.specs.List.{flat_map, cons_option}
use Rattle.std.specs.Ordering.{nat_cmp, ord_max}
use Rattle.std.proofs.lemmas.Bool.Decides.{nat_tests}
use Rattle.std.proofs.lemmas.Bool.{cases_eq, cases_lt}
use Rattle.std.proofs.lemmas.List.{take_more, map-append}
use Rattle.std.proofs.lemmas.List.Elements.{All-contains}
use Rattle.std.proofs.lemmas.Option.{slice_get_within, slice_get_past}
use Rattle.meta_model.specs.declared.group.Group.{Group}
use Rattle.meta_model.specs.declared.lv.Lv.{Lv}
use Rattle.meta_model.specs.declared.extent_span.ExtentSpan.{ExtentSpan}
use Rattle.meta_model.specs.declared.segment.Leg.{Leg}
use Rattle.meta_model.specs.declared.segment.On.{On}
use Rattle.meta_model.specs.declared.segment.On.TheVariants as on
use Rattle.meta_model.specs.declared.segment.Segment.{Segment}
use Rattle.meta_model.specs.Runs.{legs_of}
use Rattle.volume_rules.specs.Depths.{greatest}
use Rattle.volume_rules.specs.Legs.{LegRun, runs_of}
use Rattle.volume_rules.specs.Moving.{has_pvmove, lv_number, named_by}
use Rattle.volume_rules.specs.Rules.{IsLv, LegsLieWithin, LiesWithin}
use Rattle.volume_rules.proofs.LegRuns.{contains_first, contains_later}
use Rattle.volume_rules.proofs.NamedVolumes.{names_to}
use Rattle.vg_check.specs.declared.climb.Climb.{Climb}
use Rattle.vg_check.specs.declared.climb.Climb.TheVariants.{Length, Load, Moves}
use Rattle.vg_check.specs.Climbing.{climbed, counted, grown, greatest_leg, greatest_segment, told, told_on, ClimbsAtMost, HasClimbed}
use Rattle.vg_check.specs.Climbing.{HasGrown}

greatest_push : (xs : List ℕ) (y : ℕ) → greatest (xs ++ y ∷ []) ≡ max (greatest xs) y
greatest_push [] y = omega arith
greatest_push (x ∷ xs) y = omega (arith, greatest_push xs y)

greatest_append : (xs ys : List ℕ) → greatest (xs ++ ys) ≡ max (greatest xs) (greatest ys)
greatest_append [] ys = omega arith
greatest_append (x ∷ xs) ys = omega (arith, greatest_append xs ys)

-- the greatest with one element more
pub greatest_more : {X : Type 0} (f : X → ℕ) (xs : List X) (n : ℕ) (d : X) → n < length xs
    → greatest (map f (take (n + 1) xs)) ≡ max (greatest (map f (take n xs))) (f (get_or xs n d))
greatest_more f xs n d lt =
    ap (λ ys. greatest (map f ys)) (take_more xs n d lt) ∙ ap greatest (map-append f (take n xs) (get_or xs n d ∷ []))
    ∙ greatest_push (map f (take n xs)) (f (get_or xs n d))

greater_is : (a b : ℕ) → ord_max nat_cmp a b ≡ max a b
greater_is a b = grind (arith, nat_tests)

-- of the legs of a segment, and of segments
pub leg_more : (numbers : List ExtentSpan) (legs : List Leg) (n : ℕ) (d : Leg) (best said result : ℕ) → n < length legs
    → best ≡ greatest_leg numbers (take n legs) → said ≡ told_on numbers (get_or legs n d).on → result ≡ ord_max nat_cmp best said
    → result ≡ greatest_leg numbers (take (n + 1) legs)
leg_more numbers legs n d best said result lt best_is said_is is =
    is ∙ greater_is best said ∙ ap (λ b. max b said) best_is ∙ ap (max (greatest_leg numbers (take n legs))) said_is
    ∙ sym (greatest_more (λ (leg : Leg). told_on numbers leg.on) legs n d lt)

pub segment_more : (numbers : List ExtentSpan) (segments : List Segment) (n : ℕ) (segment : Segment) (legs : List Leg)
    (best said result : ℕ) → n < length segments → segment ≡ get_or segments n segment → legs ≡ legs_of segment.kind
    → best ≡ greatest_segment numbers (take n segments) → said ≡ greatest_leg numbers legs → result ≡ ord_max nat_cmp best said
    → result ≡ greatest_segment numbers (take (n + 1) segments)
segment_more numbers segments n segment legs best said result lt at same best_is said_is is =
    let here : said ≡ greatest_leg numbers (legs_of (get_or segments n segment).kind) =
    said_is ∙ ap (greatest_leg numbers) same ∙ ap (λ (s : Segment). greatest_leg numbers (legs_of s.kind)) at in
    is ∙ greater_is best said ∙ ap (λ b. max b said) best_is ∙ ap (max (greatest_segment numbers (take n segments))) here
    ∙ sym (greatest_more (λ (s : Segment). greatest_leg numbers (legs_of s.kind)) segments n segment lt)

pub greatest_low : (f : ℕ → ℕ) (xs : List ℕ) (most : ℕ) → ((x : ℕ) → f x ≤ most) → greatest (map f xs) ≤ most
greatest_low f [] most low = omega arith
greatest_low f (x ∷ xs) most low = omega (arith, low x, greatest_low f xs most low)

-- the volumes that legs name
abbrev in_legs : List Leg → List ℕ
in_legs legs = filter_map (λ (leg : Leg). lv_number leg.on) legs

abbrev in_segments : List Segment → List ℕ
in_segments segments = flat_map (λ (s : Segment). in_legs (legs_of s.kind)) segments

leg_names : (numbers : List ExtentSpan) (legs : List Leg) → greatest_leg numbers legs ≡ greatest (map (told numbers) (in_legs legs))
leg_names numbers [] = refl
leg_names numbers (l ∷ legs) = by_on l.on (leg_names numbers legs) where
  by_on : (o : On) → greatest_leg numbers legs ≡ greatest (map (told numbers) (in_legs legs))
      → max (told_on numbers o) (greatest_leg numbers legs) ≡ greatest (map (told numbers) (cons_option (lv_number o) (in_legs legs)))
  by_on (on.Pv n) rest = omega (arith, rest)
  by_on (on.Lv n) rest = omega (arith, rest)

segment_names : (numbers : List ExtentSpan) (segments : List Segment)
    → greatest_segment numbers segments ≡ greatest (map (told numbers) (in_segments segments))
segment_names numbers [] = refl
segment_names numbers (s ∷ segments) =
    let here = leg_names numbers (legs_of s.kind) in
    let rest = segment_names numbers segments in
    let both =
    ap greatest (map-append (told numbers) (in_legs (legs_of s.kind)) (in_segments segments))
    ∙ greatest_append (map (told numbers) (in_legs (legs_of s.kind))) (map (told numbers) (in_segments segments)) in
    omega arith

named_of : (group : Group) (n : ℕ) (lv : Lv) → IsLv group n lv → named_by group n ≡ in_segments lv.segments
named_of group n lv is =
    ap (λ (o : Option (List ℕ × Lv)). in_segments (unwrap_or (option_map (λ (row : List ℕ × Lv). row.1.segments) o) [])) is.1

map_same : {X Y : Type 0} (f g : X → Y) (xs : List X) → ((x : X) → Contains xs x → f x ≡ g x) → map f xs ≡ map g xs
map_same f g [] same = refl
map_same f g (x ∷ xs) same =
    ap (λ y. y ∷ map f xs) (same x (contains_first x xs))
    ∙ ap (λ ys. g x ∷ ys) (map_same f g xs (λ y at. same y (contains_later x y xs at)))

-- the greatest number of those on which a volume lies
pub greatest_of : (group : Group) (n : ℕ) (lv : Lv) (segments : List Segment) (old now : List ExtentSpan) → IsLv group n lv
    → segments ≡ lv.segments → ((k : ℕ) → told now k ≡ told old k)
    → greatest_segment now segments ≡ greatest (map (told old) (named_by group n))
greatest_of group n lv segments old now is same kept =
    segment_names now segments ∙ ap greatest (map_same (told now) (told old) (in_segments segments) (λ x at. kept x))
    ∙ ap (λ (s : List Segment). greatest (map (told old) (in_segments s))) same
    ∙ ap (λ names. greatest (map (told old) names)) (sym (named_of group n lv is))

-- a number is put beside another
abbrev with_count : List ExtentSpan → ℕ → ExtentSpan → ℕ → List ExtentSpan
with_count runs n d v = set runs n (record { on = (get_or runs n d).on; first = (get_or runs n d).first; count = v })

told_kept : (runs : List ExtentSpan) (n : ℕ) (d : ExtentSpan) (v k : ℕ) → told (with_count runs n d v) k ≡ told runs k
told_kept [] n d v k = refl
told_kept (x ∷ runs) zero d v zero = refl
told_kept (x ∷ runs) zero d v (suc k) = refl
told_kept (x ∷ runs) (suc n) d v zero = refl
told_kept (x ∷ runs) (suc n) d v (suc k) = told_kept runs n d v k

counted_there : (runs : List ExtentSpan) (n : ℕ) (d : ExtentSpan) (v : ℕ) → n < length runs → counted (with_count runs n d v) n ≡ v
counted_there [] n d v lt = absurd (omega arith)
counted_there (x ∷ runs) zero d v lt = refl
counted_there (x ∷ runs) (suc n) d v lt = counted_there runs n d v (omega arith)

counted_kept : (runs : List ExtentSpan) (n : ℕ) (d : ExtentSpan) (v k : ℕ) → k < n → counted (with_count runs n d v) k ≡ counted runs k
counted_kept [] n d v k lt = refl
counted_kept (x ∷ runs) zero d v k lt = absurd (omega arith)
counted_kept (x ∷ runs) (suc n) d v zero lt = refl
counted_kept (x ∷ runs) (suc n) d v (suc k) lt = counted_kept runs n d v k (omega arith)

-- one volume more
pub grown_more : (group : Group) (climb : Climb) (old now : List ExtentSpan) (n : ℕ) (d : ExtentSpan) (lv : Lv) (segments : List Segment)
    (below result : ℕ) → HasGrown group climb old now n → n < length now → IsLv group n lv → segments ≡ lv.segments
    → below ≡ greatest_segment now segments → result ≡ grown group climb n below
    → HasGrown group climb old (with_count now n d result) (n + 1)
grown_more group climb old now n d lv segments below result has lt is same greatest_is result_is = record {
  kept = λ k. told_kept now n d result k ∙ has.kept k;
  beside = λ k less. elim (cases_eq k n) [
    | inl here ↦
        subst (λ m. counted (with_count now n d result) m ≡ grown group climb m (greatest (map (told old) (named_by group m)))) (sym here)
        (counted_there now n d result lt ∙ result_is
        ∙ ap (grown group climb n) (greatest_is ∙ greatest_of group n lv segments old now is same has.kept))
    | inr there ↦ counted_kept now n d result k (omega arith) ∙ has.beside k (omega arith)
  ];
}

-- and it is low
pub grown_low : (group : Group) (climb : Climb) (old now : List ExtentSpan) (n : ℕ) (lv : Lv) (segments : List Segment) (below many : ℕ)
    → HasGrown group climb old now many → IsLv group n lv → segments ≡ lv.segments
    → below ≡ greatest_segment now segments → ((k : ℕ) → told old k ≤ 4) → below ≤ 4
grown_low group climb old now n lv segments below many has is same greatest_is low =
    omega (arith, greatest_is, greatest_of group n lv segments old now is same has.kept, greatest_low (told old) (named_by group n) 4 low)

-- what legs name is there
pub named_within : (group : Group) (lv m : ℕ) → LegsLieWithin group → Contains (named_by group lv) m → m < length group.lvs
named_within group lv m all at =
    let lies = names_to group lv m at in
    let within : LiesWithin group lies.0.on (lies.0.first + lies.0.count) =
    All-contains (λ (run : LegRun). LiesWithin group run.on (run.first + run.count)) (runs_of group) lies.0 all lies.1 in
    let there : LiesWithin group (on.Lv m) (lies.0.first + lies.0.count) =
    subst (λ o. LiesWithin group o (lies.0.first + lies.0.count)) lies.3 within in
    slice_get_within group.lvs m (there.1.0, there.0) there.1.1

-- a round
pub climbed_more : (group : Group) (climb : Climb) (rounds : ℕ) (old between new : List ExtentSpan) → LegsLieWithin group
    → length old ≡ length group.lvs → HasClimbed group climb rounds old
    → HasGrown group climb old between (length old) → ((k : ℕ) → told new k ≡ counted between k) → HasClimbed group climb (rounds + 1) new
climbed_more group climb rounds old between new within long has grew settled lv lt =
    let here : told new lv ≡ climbed group climb (suc rounds) lv =
    settled lv ∙ grew.beside lv (omega arith)
    ∙ ap (λ xs. grown group climb lv (greatest xs))
    (map_same (told old) (climbed group climb rounds) (named_by group lv) (λ m at. has m (named_within group lv m within at))) in
    let same : suc rounds ≡ rounds + 1 = omega arith in
    subst (λ n. told new lv ≡ climbed group climb n lv) same here

weight_one : (is : Bool) → cond is 0 1 ≤ 1
weight_one true = omega arith
weight_one false = omega arith

flag_one : (is : Bool) → cond is 1 0 ≤ 1
flag_one true = omega arith
flag_one false = omega arith

-- numbers grow by one at most
grown_by_one : (group : Group) (climb : Climb) (lv below : ℕ) → grown group climb lv below ≤ below + 1
grown_by_one group Length lv below = omega arith
grown_by_one group (Load light) lv below = omega (arith, weight_one (nat_eq lv light))
grown_by_one group Moves lv below = omega (arith, flag_one (has_pvmove group lv))

climbed_low : (group : Group) (climb : Climb) (rounds lv : ℕ) → climbed group climb rounds lv ≤ rounds
climbed_low group climb zero lv = omega arith
climbed_low group climb (suc rounds) lv =
    omega (
      arith,
      grown_by_one group climb lv (greatest (map (climbed group climb rounds) (named_by group lv))),
      greatest_low (climbed group climb rounds) (named_by group lv) rounds (climbed_low group climb rounds),
    )

pub numbers_low : (group : Group) (climb : Climb) (rounds : ℕ) (numbers : List ExtentSpan) (lv : ℕ) → length numbers ≡ length group.lvs
    → HasClimbed group climb rounds numbers → rounds < 5 → told numbers lv ≤ 4
numbers_low group climb rounds numbers lv long has few =
    elim (cases_lt lv (length numbers)) [
      | inl lt ↦ omega (arith, has lv (omega arith), climbed_low group climb rounds lv)
      | inr past ↦ let none : told numbers lv ≡ 0 =
          ap (λ (o : Option ExtentSpan). unwrap_or (option_map (λ (run : ExtentSpan). run.first) o) 0)
          (slice_get_past numbers lv past) in omega arith
    ]

-- beyond the volumes nothing lies on anything
none_named : (group : Group) (lv : ℕ) → length group.lvs ≤ lv → named_by group lv ≡ []
none_named group lv past =
    ap (λ (o : Option (List ℕ × Lv)). in_segments (unwrap_or (option_map (λ (row : List ℕ × Lv). row.1.segments) o) []))
    (slice_get_past group.lvs lv past)

below_greatest : (f : ℕ → ℕ) (xs : List ℕ) (x : ℕ) → Contains xs x → f x ≤ greatest (map f xs)
below_greatest f [] x at = absurd (omega (arith, at.1))
below_greatest f (y ∷ xs) x (zero, lt, is) = let same : f y ≡ f x = ap f is in omega arith
below_greatest f (y ∷ xs) x (suc k, lt, is) =
    let rest : f x ≤ greatest (map f xs) = below_greatest f xs x (k, omega arith, is) in omega arith

greatest_within : (f : ℕ → ℕ) (xs : List ℕ) (most : ℕ) → ((x : ℕ) → Contains xs x → f x ≤ most) → greatest (map f xs) ≤ most
greatest_within f [] most low = omega arith
greatest_within f (x ∷ xs) most low =
    omega (arith, low x (contains_first x xs), greatest_within f xs most (λ y at. low y (contains_later x y xs at)))

-- what the test of the greatest numbers says
pub climbs_tell : (group : Group) (climb : Climb) (most : ℕ) (numbers : List ExtentSpan) (answer : Bool) → LegsLieWithin group
    → HasClimbed group climb 5 numbers
    → IsTrue answer ↔ ((lv : ℕ) → lv < length group.lvs → greatest (map (told numbers) (named_by group lv)) ≤ most)
    → IsTrue answer ↔ ClimbsAtMost group climb most
climbs_tell group climb most numbers answer within has tells = (
  λ is lv below named. elim (cases_lt lv (length group.lvs)) [
    | inl lt ↦ omega (
      arith,
      tells.0 is lv lt,
      below_greatest (told numbers) (named_by group lv) below named,
      has below (named_within group lv below within named),
    )
    | inr past ↦ let none : Contains [] below =
        subst (λ xs. Contains xs below) (none_named group lv past) named in absurd (omega (arith, none.1))
  ],
  λ low. tells.1 (λ lv lt. greatest_within (told numbers) (named_by group lv) most
      (λ below named. omega (arith, low lv below named, has below (named_within group lv below within named)))),
)

pub at_most_more : (group : Group) (n : ℕ) (lv : Lv) (segments : List Segment) (numbers : List ExtentSpan) (most greatest_is : ℕ)
    → IsLv group n lv → segments ≡ lv.segments → greatest_is ≡ greatest_segment numbers segments → greatest_is ≤ most
    → ((k : ℕ) → k < n → greatest (map (told numbers) (named_by group k)) ≤ most) → (k : ℕ) → k < n + 1
    → greatest (map (told numbers) (named_by group k)) ≤ most
at_most_more group n lv segments numbers most greatest_is is same tells low before k lt =
    elim (cases_eq k n) [
      | inl here ↦
          subst (λ m. greatest (map (told numbers) (named_by group m)) ≤ most) (sym here)
          (omega (arith, greatest_of group n lv segments numbers numbers is same (λ m. refl)))
      | inr there ↦ before k (omega arith)
    ]

pub at_most_fails : (group : Group) (n : ℕ) (lv : Lv) (segments : List Segment) (numbers : List ExtentSpan) (most greatest_is : ℕ)
    → IsLv group n lv → segments ≡ lv.segments → greatest_is ≡ greatest_segment numbers segments → most < greatest_is
    → ((k : ℕ) → k < length group.lvs → greatest (map (told numbers) (named_by group k)) ≤ most) → ⊥
at_most_fails group n lv segments numbers most greatest_is is same tells high low =
    omega (arith, low n (slice_get_within group.lvs n (is.0, lv) is.1), greatest_of group n lv segments numbers numbers is same (λ m. refl))
