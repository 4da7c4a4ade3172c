-- Marks of the volumes that go, round by round, and the volumes that aren't marked.
use Rattle.std.proofs.Common.{◌≡◌, ◌≤◌, ◌<◌, ℕ, zero, suc, ◌+◌, ◌-◌, Bool, true, false, not, ◌||◌, ◌&&◌, List, [], ◌∷◌, ◌++◌, length, drop}
use Rattle.std.proofs.Common.{Option, Some, inl, inr, refl, sym, ap, ◌∙◌, append_assoc, arith, length-set}
use Rattle.std.specs.Prelude.{◌==◌, filter_map, flat_map, option_map, replicate, slice_get, slice_set, unwrap_or}
use Rattle.std.specs.List.{cons_option, list_all, list_any, range_with_len}
use Rattle.std.proofs.lemmas.Bool.{cases_eq}
use Rattle.std.proofs.lemmas.List.{get_or-set_other, get_or-set_same, length-replicate}
use Rattle.std.proofs.lemmas.List.Folds.{list_any-append}
use Rattle.std.proofs.lemmas.Option.{unwrap_or-slice_get}
use Rattle.meta_model.specs.Runs.{legs_of}
use Rattle.meta_model.specs.declared.group.Group.{Group}
use Rattle.meta_model.specs.declared.lv.Lv.{Lv}
use Rattle.meta_model.specs.declared.segment.Leg.{Leg}
use Rattle.meta_model.specs.declared.segment.On.{On}
use Rattle.meta_model.specs.declared.segment.On.TheVariants as on
use Rattle.meta_model.specs.declared.segment.Segment.{Segment}
use Rattle.list_laws.proofs.Walks.{next_got}
use Rattle.seg_place.proofs.MarkedVolumes.{none_marked}
use Rattle.seg_place.specs.Marks.{is_marked}
use Rattle.volume_rules.specs.Moving.{lv_number}
use Rattle.group_edits.proofs.Staying.{next_going, next_staying, rows_after, rows_going, rows_staying}
use Rattle.group_edits.specs.Marking.{goes_by, holds, leg_names, on_names, segment_names, unmarked}
use Rattle.group_edits.specs.Removing.{goes_with, has_leg_on, lv_numbers, number_after, on_after}
use Rattle.group_edits.specs.Renumbered.{renumbered_lv}

or_false : (b : Bool) → (b || false) ≡ b
or_false true = refl
or_false false = refl

or_assoc : (a b c : Bool) → ((a || b) || c) ≡ (a || (b || c))
or_assoc true b c = refl
or_assoc false b c = refl

set_there : (marks : List Bool) (n lv : ℕ) (mark : Bool) → n < length marks → lv ≡ n → is_marked (slice_set marks n mark) lv ≡ mark
set_there marks n lv mark lt same =
    ap (is_marked (slice_set marks n mark)) same ∙ unwrap_or-slice_get (slice_set marks n mark) n false
    ∙ get_or-set_same marks n mark false lt

set_beside : (marks : List Bool) (n lv : ℕ) (mark : Bool) → (lv ≡ n → ⊥) → is_marked (slice_set marks n mark) lv ≡ is_marked marks lv
set_beside marks n lv mark other =
    unwrap_or-slice_get (slice_set marks n mark) lv false ∙ get_or-set_other marks n lv mark false other
    ∙ sym (unwrap_or-slice_get marks lv false)

-- ---- one round

-- the first so many marks of a round
pub record IsNext (named held : List Bool) (removed : ℕ) (goes : List Bool) (n : ℕ) : Type 0 where
  pub long : length goes ≡ 1024
  pub told : (lv : ℕ) → lv < n → is_marked goes lv ≡ goes_by named held removed lv
  pub past : (lv : ℕ) → 1024 ≤ lv → is_marked goes lv ≡ false

pub next_first : (named held : List Bool) (removed : ℕ) (goes : List Bool) → goes ≡ replicate 1024 false → IsNext named held removed goes 0
next_first named held removed goes none = record {
  long = ap (λ (l : List Bool). length l) none ∙ length-replicate 1024 false;
  told = λ lv below. absurd (omega (arith, below));
  past = λ lv above. ap (λ (l : List Bool). is_marked l lv) none ∙ none_marked 1024 lv;
}

pub next_step : (named held : List Bool) (removed : ℕ) (goes : List Bool) (n : ℕ) (mark : Bool) → IsNext named held removed goes n
    → n < 1024 → mark ≡ goes_by named held removed n → IsNext named held removed (slice_set goes n mark) (n + 1)
next_step named held removed goes n mark old lt is = record {
  long = length-set goes n mark ∙ old.long;
  told = λ lv below. elim (cases_eq lv n) [
    | inl here ↦ set_there goes n lv mark (omega (arith, old.long, lt)) here ∙ is ∙ ap (goes_by named held removed) (sym here)
    | inr other ↦ set_beside goes n lv mark other ∙ old.told lv (omega (arith, other, below))
  ];
  past = λ lv above. set_beside goes n lv mark (λ here. omega (arith, here, above, lt)) ∙ old.past lv above;
}

pub next_told : (named held : List Bool) (removed : ℕ) (goes : List Bool) (n : ℕ) → IsNext named held removed goes n → 1024 ≤ n → (lv : ℕ)
    → lv < 1024 → is_marked goes lv ≡ goes_by named held removed lv
next_told named held removed goes n is all lv below = is.told lv (omega (arith, all, below))

pub next_past : (named held : List Bool) (removed : ℕ) (goes : List Bool) (n : ℕ) → IsNext named held removed goes n → (lv : ℕ) → 1024 ≤ lv
    → is_marked goes lv ≡ false
next_past named held removed goes n is = is.past

pub first_round : (none : List Bool) → none ≡ replicate 1024 false → (removed lv : ℕ) → goes_by none none removed lv ≡ (lv == removed)
first_round none is removed lv =
    ap (λ (b : Bool). (lv == removed) || (b && not (is_marked none lv))) (ap (λ (l : List Bool). is_marked l lv) is ∙ none_marked 1024 lv)
    ∙ or_false (lv == removed)

same_any : (p q : ℕ → Bool) → ((x : ℕ) → p x ≡ q x) → (xs : List ℕ) → list_any p xs ≡ list_any q xs
same_any p q same [] = refl
same_any p q same (x ∷ xs) = ap (λ (b : Bool). b || list_any p xs) (same x) ∙ ap (λ (b : Bool). q x || b) (same_any p q same xs)

none_or_all : (p q : ℕ → Bool) (a n : ℕ) → ((x : ℕ) → x < a + n → not (p x) ≡ q x)
    → not (list_any p (range_with_len a n)) ≡ list_all q (range_with_len a n)
none_or_all p q a zero same = refl
none_or_all p q a (suc n) same =
    neither (p a) (list_any p (range_with_len (a + 1) n))
    ∙ ap (λ (b : Bool). b && not (list_any p (range_with_len (a + 1) n))) (same a (omega arith))
    ∙ ap (λ (b : Bool). q a && b) (none_or_all p q (a + 1) n (λ x below. same x (omega (arith, below))))
  where
    neither : (b c : Bool) → not (b || c) ≡ (not b && not c)
    neither true c = refl
    neither false c = refl

turned : (g h : Bool) → not (not g && h) ≡ (not h || g)
turned true true = refl
turned true false = refl
turned false true = refl
turned false false = refl

-- a round more
pub next_round : (group : Group) (removed round : ℕ) (none goes named held : List Bool) → none ≡ replicate 1024 false
    → length group.lvs ≤ 1024 → ((lv : ℕ) → lv < 1024 → is_marked goes lv ≡ goes_with group removed round lv)
    → (lv : ℕ) → is_marked named lv ≡ list_any (holds group none lv) (lv_numbers group)
    → is_marked held lv ≡ list_any (holds group goes lv) (lv_numbers group)
    → goes_by named held removed lv ≡ goes_with group removed (round + 1) lv
next_round group removed round none goes named held is few old lv named_is held_is =
    ap (λ (b : Bool). (lv == removed) || (b && not (is_marked held lv)))
    (named_is ∙ same_any (holds group none lv) (has_leg_on group lv)
    (λ upper. ap (λ (b : Bool). not b && has_leg_on group lv upper)
    (ap (λ (l : List Bool). is_marked l upper) is ∙ none_marked 1024 upper)) (lv_numbers group))
    ∙ ap (λ (b : Bool). (lv == removed) || (list_any (has_leg_on group lv) (lv_numbers group) && b))
    (ap not held_is
    ∙ none_or_all (holds group goes lv) (λ upper. not (has_leg_on group lv upper) || goes_with group removed round upper) 0
    (length group.lvs)
    (λ upper below. turned (is_marked goes upper) (has_leg_on group lv upper)
    ∙ ap (λ (b : Bool). not (has_leg_on group lv upper) || b) (old upper (omega (arith, below, few)))))
    ∙ ap (λ (n : ℕ). goes_with group removed n lv) (let e : suc round ≡ round + 1 = omega arith in e)

-- ---- what legs lie on

legs_named : (x : ℕ) (legs : List Leg) → list_any (λ (below : ℕ). below == x) (filter_map (λ (leg : Leg). lv_number leg.on) legs)
    ≡ list_any (leg_names x) legs
legs_named x [] = refl
legs_named x (leg ∷ legs) = by leg.on ∙ ap (λ (b : Bool). on_names x leg.on || b) (legs_named x legs) where
  rest : List ℕ
  rest = filter_map (λ (l : Leg). lv_number l.on) legs

  by : (o : On) → list_any (λ (below : ℕ). below == x) (cons_option (lv_number o) (filter_map (λ (l : Leg). lv_number l.on) legs))
      ≡ (on_names x o || list_any (λ (below : ℕ). below == x) (filter_map (λ (l : Leg). lv_number l.on) legs))
  by (on.Pv pv) = refl
  by (on.Lv lv) = refl

segments_named : (x : ℕ) (segments : List Segment)
    → list_any (λ (below : ℕ). below == x) (flat_map (λ (s : Segment). filter_map (λ (leg : Leg). lv_number leg.on) (legs_of s.kind))
    segments) ≡ list_any (segment_names x) segments
segments_named x [] = refl
segments_named x (segment ∷ segments) =
    list_any-append (λ (below : ℕ). below == x) (filter_map (λ (leg : Leg). lv_number leg.on) (legs_of segment.kind))
    (flat_map (λ (s : Segment). filter_map (λ (leg : Leg). lv_number leg.on) (legs_of s.kind)) segments)
    ∙ ap (λ (b : Bool). b || list_any (λ (below : ℕ). below == x)
    (flat_map (λ (s : Segment). filter_map (λ (leg : Leg). lv_number leg.on) (legs_of s.kind)) segments))
    (legs_named x (legs_of segment.kind))
    ∙ ap (λ (b : Bool). segment_names x segment || b) (segments_named x segments)

named_at : (group : Group) (n x : ℕ) (row : List ℕ × Lv) → slice_get group.lvs n ≡ Some row
    → has_leg_on group x n ≡ list_any (segment_names x) row.1.segments
named_at group n x row there =
    ap (λ (o : Option (List ℕ × Lv)). list_any (λ (below : ℕ). below == x)
    (flat_map (λ (s : Segment). filter_map (λ (leg : Leg). lv_number leg.on) (legs_of s.kind))
    (unwrap_or (option_map (λ (r : List ℕ × Lv). r.1.segments) o) []))) there
    ∙ segments_named x row.1.segments

pub below_first : (group : Group) (skipped all : List Bool) → all ≡ replicate 1024 false → (lv : ℕ) → lv < 1024
    → (is_marked all lv || list_any (holds group skipped lv) (range_with_len 0 (length group.lvs - 0)))
    ≡ list_any (holds group skipped lv) (lv_numbers group)
below_first group skipped all none lv below =
    ap (λ (b : Bool). b || list_any (holds group skipped lv) (range_with_len 0 (length group.lvs - 0)))
    (ap (λ (l : List Bool). is_marked l lv) none ∙ none_marked 1024 lv)
    ∙ ap (λ (n : ℕ). list_any (holds group skipped lv) (range_with_len 0 n))
    (let e : length group.lvs - 0 ≡ length group.lvs = omega arith in e)

pub below_step : (group : Group) (skipped all later : List Bool) (n : ℕ) → n < length group.lvs
    → ((lv : ℕ) → lv < 1024 → (is_marked all lv || list_any (holds group skipped lv) (range_with_len n (length group.lvs - n)))
    ≡ list_any (holds group skipped lv) (lv_numbers group))
    → ((lv : ℕ) → lv < 1024 → is_marked later lv ≡ (is_marked all lv || holds group skipped lv n))
    → (lv : ℕ) → lv < 1024 → (is_marked later lv || list_any (holds group skipped lv) (range_with_len (n + 1) (length group.lvs - (n + 1))))
    ≡ list_any (holds group skipped lv) (lv_numbers group)
below_step group skipped all later n within old marked lv below =
    let more : suc (length group.lvs - (n + 1)) ≡ length group.lvs - n = omega (arith, within) in
    ap (λ (b : Bool). b || list_any (holds group skipped lv) (range_with_len (n + 1) (length group.lvs - (n + 1)))) (marked lv below)
    ∙ or_assoc (is_marked all lv) (holds group skipped lv n)
    (list_any (holds group skipped lv) (range_with_len (n + 1) (length group.lvs - (n + 1))))
    ∙ ap (λ (k : ℕ). is_marked all lv || list_any (holds group skipped lv) (range_with_len n k)) more
    ∙ old lv below

pub below_unmarked : (group : Group) (skipped all later made : List Bool) (n : ℕ) (row : List ℕ × Lv) → slice_get group.lvs n ≡ Some row
    → is_marked skipped n ≡ false → later ≡ made
    → (segments : List Segment) → segments ≡ row.1.segments
    → ((x : ℕ) → x < 1024 → is_marked made x ≡ (is_marked all x || list_any (segment_names x) segments))
    → (lv : ℕ) → lv < 1024 → is_marked later lv ≡ (is_marked all lv || holds group skipped lv n)
below_unmarked group skipped all later made n row there free is segments same marked lv below =
    ap (λ (l : List Bool). is_marked l lv) is ∙ marked lv below
    ∙ ap (λ (b : Bool). is_marked all lv || b)
    (ap (list_any (segment_names lv)) same ∙ sym (named_at group n lv row there)
    ∙ ap (λ (b : Bool). not b && has_leg_on group lv n) (sym free))

pub below_marked : (group : Group) (skipped all later : List Bool) (n : ℕ) → is_marked skipped n ≡ true → later ≡ all → (lv : ℕ) → lv < 1024
    → is_marked later lv ≡ (is_marked all lv || holds group skipped lv n)
below_marked group skipped all later n taken is lv below =
    ap (λ (l : List Bool). is_marked l lv) is ∙ sym (or_false (is_marked all lv))
    ∙ ap (λ (b : Bool). is_marked all lv || (not b && has_leg_on group lv n)) (sym taken)

-- ---- new numbers

pub count_more : (marks : List Bool) (n number later : ℕ) → (number ≡ number_after (unmarked marks) n) × (number ≤ n)
    → unmarked marks n ≡ true → later ≡ number + 1 → (later ≡ number_after (unmarked marks) (n + 1)) × (later ≤ n + 1)
count_more marks n number later old is made =
    let step : number_after (unmarked marks) (suc n) ≡ number_after (unmarked marks) n + 1 = next_staying (unmarked marks) n is in (
      made ∙ ap (λ (m : ℕ). m + 1) old.0 ∙ sym step ∙ ap (number_after (unmarked marks)) (let e : suc n ≡ n + 1 = omega arith in e),
      omega (arith, made, old.1),
    )

pub count_same : (marks : List Bool) (n number later : ℕ) → (number ≡ number_after (unmarked marks) n) × (number ≤ n)
    → unmarked marks n ≡ false → later ≡ number → (later ≡ number_after (unmarked marks) (n + 1)) × (later ≤ n + 1)
count_same marks n number later old is made =
    let step : number_after (unmarked marks) (suc n) ≡ number_after (unmarked marks) n = next_going (unmarked marks) n is in
    (made ∙ old.0 ∙ sym step ∙ ap (number_after (unmarked marks)) (let e : suc n ≡ n + 1 = omega arith in e), omega (arith, made, old.1))

-- ---- rows

pub rows_more : (stays : ℕ → Bool) (lvs all later : List (List ℕ × Lv)) (n : ℕ) (row : List ℕ × Lv) (name : List ℕ) (lv : Lv)
    → all ++ rows_after stays n (drop n lvs) ≡ rows_after stays 0 lvs → slice_get lvs n ≡ Some row → stays n ≡ true
    → name ≡ row.0 → lv ≡ renumbered_lv (on_after stays) row.1 → later ≡ all ++ (name, lv) ∷ []
    → later ++ rows_after stays (n + 1) (drop (n + 1) lvs) ≡ rows_after stays 0 lvs
rows_more stays lvs all later n row name lv old there is named made pushed =
    ap (λ (l : List (List ℕ × Lv)). l ++ rows_after stays (n + 1) (drop (n + 1) lvs)) pushed
    ∙ append_assoc all ((name, lv) ∷ []) (rows_after stays (n + 1) (drop (n + 1) lvs))
    ∙ ap (λ (own : List ℕ). all ++ (own, lv) ∷ rows_after stays (n + 1) (drop (n + 1) lvs)) named
    ∙ ap (λ (v : Lv). all ++ (row.0, v) ∷ rows_after stays (n + 1) (drop (n + 1) lvs)) made
    ∙ ap (λ (l : List (List ℕ × Lv)). all ++ l)
    (sym (rows_staying stays n row (drop (n + 1) lvs) is) ∙ ap (rows_after stays n) (sym (next_got lvs n row there)))
    ∙ old

pub rows_same : (stays : ℕ → Bool) (lvs all later : List (List ℕ × Lv)) (n : ℕ) (row : List ℕ × Lv)
    → all ++ rows_after stays n (drop n lvs) ≡ rows_after stays 0 lvs → slice_get lvs n ≡ Some row → stays n ≡ false
    → later ≡ all → later ++ rows_after stays (n + 1) (drop (n + 1) lvs) ≡ rows_after stays 0 lvs
rows_same stays lvs all later n row old there is same =
    ap (λ (l : List (List ℕ × Lv)). l ++ rows_after stays (n + 1) (drop (n + 1) lvs)) same
    ∙ ap (λ (l : List (List ℕ × Lv)). all ++ l)
    (sym (rows_going stays n row (drop (n + 1) lvs) is) ∙ ap (rows_after stays n) (sym (next_got lvs n row there)))
    ∙ old
