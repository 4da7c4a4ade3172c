-- The runs on a physical volume are those of the group that lie there, and what they are like where the group keeps the rules.
use Rattle.std.proofs.Common.{◌≡◌, ℕ, zero, suc, ◌+◌, ◌*◌, ◌/◌, ◌%◌, ◌<◌, ◌≤◌, ◌^◌, List, [], ◌∷◌, ◌++◌, length, get_or, map, cond, Some}
use Rattle.std.proofs.Common.{inl, inr, refl, sym, ap, subst, ◌∙◌, arith, zero-mul}
use Rattle.std.specs.Prelude.{All, AllPairs, Contains, nat_eq, slice_get}
use Rattle.std.specs.List.{filter, flat_map}
use Rattle.std.proofs.lemmas.Bool.{cases_eq, cases_lt, cond-true, cond-false, eq-eqb, ne_eqb}
use Rattle.std.proofs.lemmas.List.{map-append}
use Rattle.std.proofs.lemmas.List.Elements.{All-contains, Contains-get_or, filter-append}
use Rattle.std.proofs.lemmas.List.Kept.{AllPairs-filter}
use Rattle.std.proofs.lemmas.Nat.{div-add-mod'}
use Rattle.std.proofs.lemmas.Option.{same_Some, slice_get_within}
use Rattle.meta_model.specs.Runs.{legs_of}
use Rattle.meta_model.specs.declared.group.Group.{Group}
use Rattle.meta_model.specs.declared.lv.Lv.{Lv}
use Rattle.meta_model.specs.declared.pv.Pv.{Pv}
use Rattle.meta_model.specs.declared.extent_span.ExtentSpan.{ExtentSpan}
use Rattle.meta_model.specs.declared.segment.Leg.{Leg}
use Rattle.meta_model.specs.declared.segment.On.{On}
use Rattle.meta_model.specs.declared.segment.On.TheVariants as on
use Rattle.meta_model.specs.declared.segment.SegKind.{SegKind}
use Rattle.meta_model.specs.declared.segment.SegKind.TheVariants.{Striped, Mirror}
use Rattle.meta_model.specs.declared.segment.Segment.{Segment}
use Rattle.volume_rules.specs.Extents.{extents_of, leg_share}
use Rattle.volume_rules.specs.Legs.{LegRun, runs_of, runs_of_legs, runs_of_segments, runs_of_volumes, IsUsed}
use Rattle.volume_rules.specs.Rules.{IsAccepted, IsWholeStriped, IsWholeMirror, Follow, LiesWithin, PvIsSmall}
use Rattle.volume_rules.specs.Sorting.{CanBeSorted, NoExtentInBoth, on_number, run_to_sort}
use Rattle.volume_rules.specs.declared.rule.Rule.TheVariants.{Numbers, Volumes, Follows, Stripes, Mirrors, Within, Apart}
use Rattle.volume_rules.proofs.ApartInOrder.{apart_in_order}
use Rattle.volume_rules.proofs.LegRuns.{contains_first, contains_later, run_is, IsRunOf}
use Rattle.extent_map.specs.Covered.{EachHasLeg, HasLeg, is_on, leg_on, segment_on, lv_on, lvs_on}
use Rattle.extent_map.proofs.CoveredExtents.{Cover}
use Rattle.extent_map.proofs.RunsInOrder.{Fits}
use Rattle.list_laws.proofs.RowWalks.{all_at}

-- those that lie there
abbrev there : ℕ → List LegRun → List ExtentSpan
there pv runs = filter (λ (run : ExtentSpan). nat_eq run.on (2 * pv)) (map run_to_sort runs)

one_leg : (pv share : ℕ) (leg : Leg) (o : On) (rest : List ExtentSpan)
    → cond (is_on pv o) (record { on = 2 * pv; first = leg.first; count = share } ∷ []) [] ++ rest
    ≡ cond (nat_eq (on_number o) (2 * pv)) (record { on = on_number o; first = leg.first; count = share } ∷ rest) rest
one_leg pv share leg (on.Pv number) rest =
    elim (cases_eq number pv) [
      | inl same ↦
          ap (λ some. some ++ rest) (cond-true (nat_eq number pv) _ [] (eq-eqb number pv same))
          ∙ ap (λ (n : ℕ). let run : ExtentSpan = record { on = n; first = leg.first; count = share } in run ∷ rest)
          (ap (λ n. 2 * n) (sym same))
          ∙ sym (cond-true (nat_eq (2 * number) (2 * pv)) _ rest (eq-eqb (2 * number) (2 * pv) (ap (λ n. 2 * n) same)))
      | inr other ↦
          ap (λ some. some ++ rest) (cond-false (nat_eq number pv) _ [] (ne_eqb number pv other))
          ∙ sym (cond-false (nat_eq (2 * number) (2 * pv)) _ rest (ne_eqb (2 * number) (2 * pv) (λ same. other (omega arith))))
    ]
one_leg pv share leg (on.Lv number) rest =
    sym (cond-false (nat_eq (2 * number + 1) (2 * pv)) _ rest (ne_eqb (2 * number + 1) (2 * pv) (λ same. omega arith)))

there_append : (pv : ℕ) (a b : List LegRun) → there pv (a ++ b) ≡ there pv a ++ there pv b
there_append pv a b =
    ap (filter (λ (run : ExtentSpan). nat_eq run.on (2 * pv))) (map-append run_to_sort a b)
    ∙ filter-append (λ (run : ExtentSpan). nat_eq run.on (2 * pv)) (map run_to_sort a) (map run_to_sort b)

of_legs : (pv lv segment share number : ℕ) (legs : List Leg)
    → flat_map (leg_on pv share) legs ≡ there pv (runs_of_legs lv segment share number legs)
of_legs pv lv segment share number [] = refl
of_legs pv lv segment share number (leg ∷ legs) =
    ap (λ rest. leg_on pv share leg ++ rest) (of_legs pv lv segment share (number + 1) legs)
    ∙ one_leg pv share leg leg.on (there pv (runs_of_legs lv segment share (number + 1) legs))

of_segments : (pv lv number : ℕ) (segments : List Segment)
    → flat_map (segment_on pv) segments ≡ there pv (runs_of_segments lv number segments)
of_segments pv lv number [] = refl
of_segments pv lv number (segment ∷ segments) =
    ap (λ rest. segment_on pv segment ++ rest) (of_segments pv lv (number + 1) segments)
    ∙ ap (λ some. some ++ there pv (runs_of_segments lv (number + 1) segments))
    (of_legs pv lv number (leg_share segment.count segment.kind) 0 (legs_of segment.kind))
    ∙ sym (there_append pv (runs_of_legs lv number (leg_share segment.count segment.kind) 0 (legs_of segment.kind))
    (runs_of_segments lv (number + 1) segments))

of_volumes : (pv number : ℕ) (lvs : List (List ℕ × Lv)) → lvs_on pv lvs ≡ there pv (runs_of_volumes number lvs)
of_volumes pv number [] = refl
of_volumes pv number (lv ∷ lvs) =
    ap (λ rest. lv_on pv lv ++ rest) (of_volumes pv (number + 1) lvs)
    ∙ ap (λ some. some ++ there pv (runs_of_volumes (number + 1) lvs)) (of_segments pv number 0 lv.1.segments)
    ∙ sym (there_append pv (runs_of_segments number 0 lv.1.segments) (runs_of_volumes (number + 1) lvs))

of_group : (group : Group) (pv : ℕ) → lvs_on pv group.lvs ≡ there pv (runs_of group)
unfolding runs_of
of_group group pv = of_volumes pv 0 group.lvs

-- what lies there comes from a leg that does, and each such leg's run lies there
is_there : (o : On) (pv : ℕ) → on_number o ≡ 2 * pv → o ≡ on.Pv pv
is_there (on.Pv number) pv same = let e : number ≡ pv = omega arith in ap on.Pv e
is_there (on.Lv number) pv same = absurd (omega arith)

record IsOf (pv : ℕ) (runs : List LegRun) (run : ExtentSpan) : Type 0 where
  pub leg : LegRun
  pub listed : Contains runs leg
  pub on_is : leg.on ≡ on.Pv pv
  pub is : run_to_sort leg ≡ run

come_later : (pv : ℕ) (leg : LegRun) (runs : List LegRun) (run : ExtentSpan) → IsOf pv runs run → IsOf pv (leg ∷ runs) run
come_later pv leg runs run of = record { leg = of.leg; listed = contains_later leg of.leg runs of.listed; on_is = of.on_is; is = of.is }

come_first : (pv : ℕ) (leg : LegRun) (runs : List LegRun) (run : ExtentSpan) → on_number leg.on ≡ 2 * pv
    → (Contains (there pv runs) run → IsOf pv runs run) → Contains (run_to_sort leg ∷ there pv runs) run → IsOf pv (leg ∷ runs) run
come_first pv leg runs run same rest (zero, lt, is) =
    record { leg = leg; listed = contains_first leg runs; on_is = is_there leg.on pv same; is = is }
come_first pv leg runs run same rest (suc k, lt, is) = come_later pv leg runs run (rest (k, omega arith, is))

come_from : (pv : ℕ) (runs : List LegRun) (run : ExtentSpan) → Contains (there pv runs) run → IsOf pv runs run
come_from pv [] run at = absurd (omega (arith, at.1))
come_from pv (leg ∷ runs) run at =
    elim (cases_eq (on_number leg.on) (2 * pv)) [
      | inl same ↦ come_first pv leg runs run same (come_from pv runs run)
          (subst (λ (some : List ExtentSpan). Contains some run) (cond-true (nat_eq (on_number leg.on) (2 * pv)) _ _ (eq-eqb _ _ same)) at)
      | inr other ↦ come_later pv leg runs run
          (come_from pv runs run (subst (λ (some : List ExtentSpan). Contains some run)
          (cond-false (nat_eq (on_number leg.on) (2 * pv)) _ _ (ne_eqb _ _ other)) at))
    ]

goes_there : (pv : ℕ) (runs : List LegRun) (leg : LegRun) → Contains runs leg → leg.on ≡ on.Pv pv
    → Contains (there pv runs) (run_to_sort leg)
goes_there pv [] leg at is = absurd (omega (arith, at.1))
goes_there pv (one ∷ runs) leg (zero, lt, same) is =
    let here : on_number one.on ≡ 2 * pv = ap (λ (l : LegRun). on_number l.on) same ∙ ap on_number is in
    subst (λ (some : List ExtentSpan). Contains some (run_to_sort leg))
    (sym (cond-true (nat_eq (on_number one.on) (2 * pv)) _ _ (eq-eqb _ _ here)))
    (subst (Contains (run_to_sort one ∷ there pv runs)) (ap run_to_sort same) (contains_first (run_to_sort one) (there pv runs)))
goes_there pv (one ∷ runs) leg (suc k, lt, same) is =
    let rest : Contains (there pv runs) (run_to_sort leg) = goes_there pv runs leg (k, omega arith, same) is in
    elim (cases_eq (on_number one.on) (2 * pv)) [
      | inl here ↦ subst (λ (some : List ExtentSpan). Contains some (run_to_sort leg))
          (sym (cond-true (nat_eq (on_number one.on) (2 * pv)) _ _ (eq-eqb _ _ here)))
          (contains_later (run_to_sort one) (run_to_sort leg) (there pv runs) rest)
      | inr other ↦ subst (λ (some : List ExtentSpan). Contains some (run_to_sort leg))
          (sym (cond-false (nat_eq (on_number one.on) (2 * pv)) _ _ (ne_eqb _ _ other))) rest
    ]

-- an extent is used where the runs have it
pub used_where_covered : (group : Group) (pv extent : ℕ) → Cover (lvs_on pv group.lvs) extent → IsUsed group (on.Pv pv) extent
used_where_covered group pv extent cover =
    let of : IsOf pv (runs_of group) cover.0 =
    come_from pv (runs_of group) cover.0 (subst (λ (some : List ExtentSpan). Contains some cover.0) (of_group group pv) cover.1) in (
      of.leg,
      of.listed,
      (
        of.on_is,
        subst (λ (r : ExtentSpan). r.first ≤ extent) (sym of.is) cover.2.0,
        subst (λ (r : ExtentSpan). extent < r.first + r.count) (sym of.is) cover.2.1,
      ),
    )

pub covered_where_used : (group : Group) (pv extent : ℕ) → IsUsed group (on.Pv pv) extent → Cover (lvs_on pv group.lvs) extent
covered_where_used group pv extent used = (
  run_to_sort used.0,
  subst (λ (some : List ExtentSpan). Contains some (run_to_sort used.0)) (sym (of_group group pv))
      (goes_there pv (runs_of group) used.0 used.1 used.2.0),
  (used.2.1, used.2.2),
)

-- they lie apart
pub lie_apart_there : (group : Group) (pv : ℕ) → IsAccepted group → AllPairs NoExtentInBoth (lvs_on pv group.lvs)
lie_apart_there group pv accepted =
    subst (AllPairs NoExtentInBoth) (sym (of_group group pv))
    (AllPairs-filter NoExtentInBoth (λ (run : ExtentSpan). nat_eq run.on (2 * pv)) (map run_to_sort (runs_of group))
    ((apart_in_order group).0 (accepted Apart)))

-- each segment has a leg
leg_of_kind : (size count : ℕ) (kind : SegKind) → IsWholeStriped size count kind → IsWholeMirror kind → 1 ≤ length (legs_of kind)
leg_of_kind size count (Striped stripe legs) striped mirror = striped.0
leg_of_kind size count (Mirror region moved legs) striped mirror = omega (arith, mirror.0)

pub each_has_leg : (group : Group) → IsAccepted group → EachHasLeg group.lvs
each_has_leg group accepted k d lt j e within =
    let segment : Segment = get_or (get_or group.lvs k d).1.segments j e in
    leg_of_kind group.extent_size segment.count segment.kind (accepted Stripes k d lt j e within) (accepted Mirrors k d lt j e within)

-- each leg has an extent
share_some : (size count : ℕ) (kind : SegKind) → IsWholeStriped size count kind → 1 ≤ count → 1 ≤ leg_share count kind
share_some size count (Striped stripe legs) striped some =
    let share : ℕ = count / length legs in
    let whole : share * length legs + count % length legs ≡ count = div-add-mod' count (length legs) in
    elim (cases_lt 0 share) [
      | inl more ↦ omega arith
      | inr none ↦ let nothing : share * length legs ≡ 0 =
          ap (λ (n : ℕ). n * length legs) (let e : share ≡ 0 = omega arith in e)
          ∙ zero-mul (length legs) in absurd (omega (arith, striped.2))
    ]
share_some size count (Mirror region moved legs) striped some = some

follow_some : (at k : ℕ) (segments : List Segment) (segment : Segment) → Follow at segments → slice_get segments k ≡ Some segment
    → 1 ≤ segment.count
follow_some at k [] segment follow is = cc
follow_some at zero (one ∷ segments) segment follow is = subst (λ (s : Segment). 1 ≤ s.count) (same_Some one segment is) follow.1
follow_some at (suc k) (one ∷ segments) segment follow is = follow_some (at + one.count) k segments segment follow.2 is

run_some : (group : Group) (run : LegRun) → IsAccepted group → Contains (runs_of group) run → 1 ≤ run.count
run_some group run accepted listed =
    let of : IsRunOf group.lvs 0 run = run_is group run listed in
    let follow : Follow 0 of.volume.1.segments × (extents_of of.volume.1 * group.extent_size < 2 ^ 48) =
    all_at (λ (lv : List ℕ × Lv). Follow 0 lv.1.segments × (extents_of lv.1 * group.extent_size < 2 ^ 48)) group.lvs of.nth of.volume
    (accepted Follows) of.is_volume in
    let some : 1 ≤ of.segment.count = follow_some 0 run.segment of.volume.1.segments of.segment follow.0 of.is_segment in
    let whole : All (λ (segment : Segment). IsWholeStriped group.extent_size segment.count segment.kind) of.volume.1.segments =
    all_at (λ (lv : List ℕ × Lv). All (λ (segment : Segment). IsWholeStriped group.extent_size segment.count segment.kind) lv.1.segments)
    group.lvs of.nth of.volume (accepted Stripes) of.is_volume in
    let striped : IsWholeStriped group.extent_size of.segment.count of.segment.kind =
    all_at (λ (segment : Segment). IsWholeStriped group.extent_size segment.count segment.kind) of.volume.1.segments run.segment of.segment
    whole of.is_segment in
    subst (λ n. 1 ≤ n) (sym of.count_is) (share_some group.extent_size of.segment.count of.segment.kind striped some)

-- each lies within the volume
ends_within : (group : Group) (o : On) (pv end : ℕ) (row : List ℕ × Pv) → slice_get group.pvs pv ≡ Some row → o ≡ on.Pv pv
    → LiesWithin group o end → end ≤ row.1.pe_count
ends_within group o pv end row is same within =
    let there : LiesWithin group (on.Pv pv) end = subst (λ (x : On). LiesWithin group x end) same within in
    subst (λ (r : List ℕ × Pv). end ≤ r.1.pe_count) (same_Some (there.0, there.1) row (sym there.2 ∙ is)) there.3

pub all_fit : (group : Group) (pv : ℕ) (row : List ℕ × Pv) → IsAccepted group → slice_get group.pvs pv ≡ Some row
    → All (Fits (2 * pv) row.1.pe_count) (lvs_on pv group.lvs)
all_fit group pv row accepted is k d lt =
    let run : ExtentSpan = get_or (lvs_on pv group.lvs) k d in
    let of : IsOf pv (runs_of group) run =
    come_from pv (runs_of group) run (subst (λ (some : List ExtentSpan). Contains some run) (of_group group pv)
    (Contains-get_or (lvs_on pv group.lvs) k d lt)) in
    subst (Fits (2 * pv) row.1.pe_count) of.is (record {
      same = ap on_number of.on_is;
      some = run_some group of.leg accepted of.listed;
      within =
          ends_within group of.leg.on pv (of.leg.first + of.leg.count) row is of.on_is
          (All-contains (λ (leg : LegRun). LiesWithin group leg.on (leg.first + leg.count)) (runs_of group) of.leg (accepted Within)
          of.listed);
    })

pub extents_are_few : (group : Group) (pv : ℕ) (row : List ℕ × Pv) → IsAccepted group → slice_get group.pvs pv ≡ Some row
    → row.1.pe_count < 2 ^ 48
extents_are_few group pv row accepted is = (all_at (λ (r : List ℕ × Pv). PvIsSmall r.1) group.pvs pv row (accepted Numbers).pvs is).2

-- and can be sorted
pub can_sort : (group : Group) (pv : ℕ) (row : List ℕ × Pv) → IsAccepted group → slice_get group.pvs pv ≡ Some row
    → All CanBeSorted (lvs_on pv group.lvs)
can_sort group pv row accepted is k d lt =
    let fits : Fits (2 * pv) row.1.pe_count (get_or (lvs_on pv group.lvs) k d) = all_fit group pv row accepted is k d lt in
    let few : length group.pvs ≤ 64 = (accepted Volumes).pvs.1 in
    let here : pv < length group.pvs = slice_get_within group.pvs pv row is in
    let small : row.1.pe_count < 2 ^ 48 = extents_are_few group pv row accepted is in
    record { on = omega (arith, fits.same); first = omega (arith, fits.within, fits.some); count = (fits.some, omega (arith, fits.within)) }

-- the segments of a row have legs
pub legs_of_row : (lvs : List (List ℕ × Lv)) (number : ℕ) (row : List ℕ × Lv) (segments : List Segment) → EachHasLeg lvs
    → slice_get lvs number ≡ Some row → segments ≡ row.1.segments → All HasLeg segments
legs_of_row lvs number row segments each is same =
    subst (All HasLeg) (sym same) (all_at (λ (lv : List ℕ × Lv). All HasLeg lv.1.segments) lvs number row each is)
