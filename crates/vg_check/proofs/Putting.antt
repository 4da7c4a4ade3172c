-- Runs that are put one behind another.
use Rattle.std.proofs.Common.{◌≡◌, ℕ, ◌+◌, ◌<◌, ◌≤◌, List, [], ◌∷◌, ◌++◌, length, get_or, take, set, refl, sym, ap, subst, ◌∙◌}
use Rattle.std.proofs.Common.{append_assoc, append-nil, length-append, arith}
use Rattle.std.specs.List.{flat_map}
use Rattle.std.proofs.lemmas.List.{take_more_set, take_more, length-set}
use Rattle.std.proofs.lemmas.Grind.{flat_map-append}
use Rattle.std.proofs.lemmas.Option.{slice_get_within, get_or_from_slice_get}
use Rattle.std.proofs.lemmas.List.Folds.{length-flat_map-take}
use Rattle.meta_model.specs.declared.group.Group.{Group}
use Rattle.meta_model.specs.declared.lv.Lv.{Lv}
use Rattle.meta_model.specs.declared.extent_span.ExtentSpan.{ExtentSpan}
use Rattle.meta_model.specs.declared.segment.Segment.{Segment}
use Rattle.volume_rules.specs.Rules.{IsLv}
use Rattle.vg_check.specs.SortedRuns.{Puts, volume_runs, group_runs}

-- nothing was put
pub puts_none : (runs : List ExtentSpan) (count : ℕ) → Puts runs count [] runs count
puts_none runs count = record { kept = refl; counted = omega arith; front = sym (append-nil (take count runs)) }

-- one run
pub puts_one : (runs : List ExtentSpan) (count : ℕ) (run : ExtentSpan) → count < length runs
    → Puts runs count (run ∷ []) (set runs count run) (count + 1)
puts_one runs count run lt = record { kept = length-set runs count run; counted = omega arith; front = take_more_set runs count run lt }

-- some, and then others
pub puts_both : (old between new : List ExtentSpan) (count middle after : ℕ) (xs ys : List ExtentSpan) → Puts old count xs between middle
    → Puts between middle ys new after → Puts old count (xs ++ ys) new after
puts_both old between new count middle after xs ys first second = record {
  kept = second.kept ∙ first.kept;
  counted = omega (arith, first.counted, second.counted, length-append xs ys);
  front = second.front ∙ ap (λ (front : List ExtentSpan). front ++ ys) first.front ∙ append_assoc (take count old) xs ys;
}

-- what comes of one element more
front_more : {X : Type 0} (f : X → List ExtentSpan) (xs : List X) (n : ℕ) (x : X) → n < length xs → x ≡ get_or xs n x
    → flat_map f (take (n + 1) xs) ≡ flat_map f (take n xs) ++ f x
front_more f xs n x lt is =
    let step : take (n + 1) xs ≡ take n xs ++ x ∷ [] = take_more xs n x lt ∙ ap (λ y. take n xs ++ y ∷ []) (sym is) in
    ap (flat_map f) step ∙ flat_map-append f (take n xs) (x ∷ [])
    ∙ ap (λ (runs : List ExtentSpan). flat_map f (take n xs) ++ runs) (append-nil (f x))

-- those of one element more
pub puts_more : {X : Type 0} (f : X → List ExtentSpan) (xs : List X) (n : ℕ) (x : X) (old between new : List ExtentSpan)
    (count middle after : ℕ) → n < length xs → x ≡ get_or xs n x
    → Puts old count (flat_map f (take n xs)) between middle → Puts between middle (f x) new after
    → Puts old count (flat_map f (take (n + 1) xs)) new after
puts_more f xs n x old between new count middle after lt is first second =
    subst (λ put. Puts old count put new after) (sym (front_more f xs n x lt is))
    (puts_both old between new count middle after (flat_map f (take n xs)) (f x) first second)

-- there is room for them
pub room_more : {X : Type 0} (f : X → List ExtentSpan) (xs : List X) (n : ℕ) (x : X) (old between : List ExtentSpan) (count middle : ℕ)
    → n < length xs → x ≡ get_or xs n x
    → count + length (flat_map f xs) ≤ length old → Puts old count (flat_map f (take n xs)) between middle
    → middle + length (f x) ≤ length between
room_more f xs n x old between count middle lt is room first =
    let more : length (flat_map f (take n xs)) + length (f (get_or xs n x)) ≤ length (flat_map f xs) = length-flat_map-take f xs n x lt in
    let same : length (f (get_or xs n x)) ≡ length (f x) = ap (λ y. length (f y)) (sym is) in
    omega (arith, first.kept, first.counted)

-- of a row by its number
abbrev of_row : List ℕ × Lv → List ExtentSpan
of_row row = volume_runs row.1.segments

pub row_more : (group : Group) (n : ℕ) (lv : Lv) (segments : List Segment) (old between new : List ExtentSpan) (middle after : ℕ)
    → IsLv group n lv → segments ≡ lv.segments
    → Puts old 0 (flat_map of_row (take n group.lvs)) between middle → Puts between middle (volume_runs segments) new after
    → Puts old 0 (flat_map of_row (take (n + 1) group.lvs)) new after
row_more group n lv segments old between new middle after is same first second =
    puts_more of_row group.lvs n (is.0, lv) old between new 0 middle after (slice_get_within group.lvs n (is.0, lv) is.1)
    (sym (get_or_from_slice_get group.lvs n (is.0, lv) (is.0, lv) is.1))
    first (subst (λ s. Puts between middle (volume_runs s) new after) same second)

pub row_room : (group : Group) (n : ℕ) (lv : Lv) (segments : List Segment) (old between : List ExtentSpan) (middle : ℕ) → IsLv group n lv
    → segments ≡ lv.segments
    → length (group_runs group) ≤ length old → Puts old 0 (flat_map of_row (take n group.lvs)) between middle
    → middle + length (volume_runs segments) ≤ length between
row_room group n lv segments old between middle is same room first =
    subst (λ s. middle + length (volume_runs s) ≤ length between) (sym same)
    (room_more of_row group.lvs n (is.0, lv) old between 0 middle (slice_get_within group.lvs n (is.0, lv) is.1)
    (sym (get_or_from_slice_get group.lvs n (is.0, lv) (is.0, lv) is.1)) (omega arith) first)
