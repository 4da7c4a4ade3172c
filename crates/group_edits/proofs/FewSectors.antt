-- A volume whose legs lie on physical volumes of at most 2^40 sectors each has less than 2^48.
use Rattle.std.proofs.Common.{◌≡◌, ◌≤◌, ◌<◌, ℕ, zero, suc, ◌+◌, ◌*◌, ◌^◌, Bool, true, false, cond, List, [], ◌∷◌, ◌++◌, length, map, Some}
use Rattle.std.proofs.Common.{inl, inr, refl, sym, ap, subst, ◌∙◌, arith}
use Rattle.std.specs.Prelude.{slice_get, sum_by, All, AllPairs}
use Rattle.std.specs.List.{filter}
use Rattle.std.proofs.lemmas.Bool.{cases_eq, eq-eqb}
use Rattle.std.proofs.lemmas.Bool.Decides.{nat_tests}
use Rattle.std.proofs.lemmas.List.Elements.{All-contains, All-filter, All-head, All-map, All-tail, All-weaker, filter_passes}
use Rattle.std.proofs.lemmas.List.Elements.{recursion_from_All}
use Rattle.std.proofs.lemmas.List.Kept.{AllPairs-filter}
use Rattle.std.proofs.lemmas.List.Sums.{sum_by-append, sum_by-cons}
use Rattle.std.proofs.lemmas.Nat.{div-add-mod'}
use Rattle.std.proofs.lemmas.Option.{same_Some, slice_get_cases, slice_get_within}
use Rattle.meta_model.specs.Runs.{legs_of}
use Rattle.meta_model.specs.declared.group.Group.{Group}
use Rattle.meta_model.specs.declared.pv.Pv.{Pv}
use Rattle.meta_model.specs.declared.extent_span.ExtentSpan.{ExtentSpan}
use Rattle.meta_model.specs.declared.segment.Leg.{Leg}
use Rattle.meta_model.specs.declared.segment.On.{On}
use Rattle.meta_model.specs.declared.segment.On.TheVariants as on
use Rattle.meta_model.specs.declared.segment.SegKind.{SegKind}
use Rattle.meta_model.specs.declared.segment.SegKind.TheVariants.{Striped, Mirror}
use Rattle.meta_model.specs.declared.segment.Segment.{Segment}
use Rattle.extent_map.proofs.GapExtents.{gaps_sum}
use Rattle.extent_map.proofs.RunsInOrder.{Fits, in_order}
use Rattle.extent_map.specs.Covered.{is_on}
use Rattle.volume_rules.specs.Extents.{leg_share}
use Rattle.volume_rules.specs.Legs.{LegRun, LieApart, runs_of_legs, runs_of_segments}
use Rattle.volume_rules.specs.Rules.{IsWholeMirror, IsWholeStriped, LiesWithin}
use Rattle.volume_rules.specs.Sorting.{NoExtentInBoth, on_number, run_to_sort}
use Rattle.group_edits.proofs.Selections.{contains_at, map_pairs}
use Rattle.group_edits.specs.GivenSegments.{extents_in}

-- how many extents these runs have
abbrev pub total : List LegRun → ℕ
total runs = sum_by (λ (run : LegRun). run.count) runs

pub total_both : (a b : List LegRun) → total (a ++ b) ≡ total a + total b
total_both a b = sum_by-append (λ (run : LegRun). run.count) a b

-- ---- what a volume has is no more than what its legs cover

legs_total : (lv segment share number : ℕ) (legs : List Leg) → total (runs_of_legs lv segment share number legs) ≡ share * length legs
legs_total lv segment share number [] = omega arith
legs_total lv segment share number (leg ∷ legs) =
    let run : LegRun = record { lv = lv; segment = segment; leg = number; on = leg.on; first = leg.first; count = share } in
    let later = legs_total lv segment share (number + 1) legs in
    let here = sum_by-cons (λ (run : LegRun). run.count) run (runs_of_legs lv segment share (number + 1) legs) in
    omega (arith, later, here)

segment_covered : (extent_size count : ℕ) (kind : SegKind) → IsWholeStriped extent_size count kind → IsWholeMirror kind
    → count ≤ leg_share count kind * length (legs_of kind)
segment_covered extent_size count (Striped stripe legs) striped mirror =
    let whole = div-add-mod' count (length legs) in let none = striped.2 in omega (arith, whole, none)
segment_covered extent_size count (Mirror region moved legs) striped mirror =
    times count (length legs) (let two = mirror.0 in omega (arith, two)) where
      times : (a b : ℕ) → 1 ≤ b → a ≤ a * b
      times a zero some = absurd (omega (arith, some))
      times a (suc b) some = omega arith

pub segments_covered : (extent_size lv number : ℕ) (segments : List Segment)
    → All (λ segment. IsWholeStriped extent_size segment.count segment.kind) segments → All (λ segment. IsWholeMirror segment.kind) segments
    → extents_in segments ≤ total (runs_of_segments lv number segments)
segments_covered extent_size lv number [] striped mirrors = omega arith
segments_covered extent_size lv number (segment ∷ segments) striped mirrors =
    let share : ℕ = leg_share segment.count segment.kind in
    let here =
    segment_covered extent_size segment.count segment.kind
    (All-head (λ (s : Segment). IsWholeStriped extent_size s.count s.kind) segment segments striped)
    (All-head (λ (s : Segment). IsWholeMirror s.kind) segment segments mirrors) in
    let later =
    segments_covered extent_size lv (number + 1) segments
    (All-tail (λ (s : Segment). IsWholeStriped extent_size s.count s.kind) segment segments striped)
    (All-tail (λ (s : Segment). IsWholeMirror s.kind) segment segments mirrors) in
    let first = legs_total lv number share 0 (legs_of segment.kind) in
    let both = total_both (runs_of_legs lv number share 0 (legs_of segment.kind)) (runs_of_segments lv (number + 1) segments) in
    let all = sum_by-cons (λ (s : Segment). s.count) segment segments in
    omega (arith, here, later, first, both, all)

-- ---- runs that lie on one physical volume

abbrev tests : ℕ → LegRun → Bool
tests pv run = is_on pv run.on

-- how many extents those on one volume have
abbrev total_at : ℕ → List LegRun → ℕ
total_at pv [] = 0
total_at pv (run ∷ runs) = cond (tests pv run) (run.count + total_at pv runs) (total_at pv runs)

at_sum : (pv : ℕ) (runs : List LegRun) → sum_by (λ (run : ExtentSpan). run.count) (map run_to_sort (filter (tests pv) runs))
    ≡ total_at pv runs
at_sum pv [] = refl
at_sum pv (run ∷ runs) = by (tests pv run) (at_sum pv runs) where
  by : (b : Bool) → sum_by (λ (run : ExtentSpan). run.count) (map run_to_sort (filter (tests pv) runs)) ≡ total_at pv runs
      → sum_by (λ (run : ExtentSpan). run.count) (map run_to_sort (cond b (run ∷ filter (tests pv) runs) (filter (tests pv) runs)))
      ≡ cond b (run.count + total_at pv runs) (total_at pv runs)
  by true later =
      sum_by-cons (λ (run : ExtentSpan). run.count) (run_to_sort run) (map run_to_sort (filter (tests pv) runs))
      ∙ ap (λ (n : ℕ). run.count + n) later
  by false later = later

on_it : (pv : ℕ) (is : On) → is_on pv is ≡ true → is ≡ on.Pv pv
on_it pv (on.Pv number) is = let same : number ≡ pv = grind (arith, nat_tests) in ap (λ (n : ℕ). on.Pv n) same
on_it pv (on.Lv number) is = absurd cc

-- a run on a physical volume, that has an extent and ends there
pub record IsOnVolume (group : Group) (run : LegRun) : Type 0 where
  pub pv : ℕ
  pub on_pv : run.on ≡ on.Pv pv
  pub some : 1 ≤ run.count
  pub within : LiesWithin group run.on (run.first + run.count)

module _ (group : Group) (pv : ℕ) (row : List ℕ × Pv) (there : slice_get group.pvs pv ≡ Some row) (runs : List LegRun)
    (on_volumes : All (IsOnVolume group) runs) (apart : AllPairs LieApart runs) where
  abbrev here : List LegRun
  here = filter (tests pv) runs

  are_there : All (λ (run : LegRun). run.on ≡ on.Pv pv) here
  are_there =
      All-weaker (λ (run : LegRun). tests pv run ≡ true) (λ (run : LegRun). run.on ≡ on.Pv pv) (λ run passes. on_it pv run.on passes) here
      (filter_passes (tests pv) runs)

  fits : (run : LegRun) → run.on ≡ on.Pv pv → IsOnVolume group run → Fits (2 * pv) row.1.pe_count (run_to_sort run)
  fits run is on_volume = record {
    same = ap on_number is;
    some = on_volume.some;
    within = by (subst (λ (o : On). LiesWithin group o (run.first + run.count)) is on_volume.within);
  } where
    by : LiesWithin group (on.Pv pv) (run.first + run.count) → run.first + run.count ≤ row.1.pe_count
    by lies = subst (λ (r : List ℕ × Pv). run.first + run.count ≤ r.1.pe_count) (same_Some (lies.0, lies.1) row (sym lies.2 ∙ there)) lies.3

  all_fit : All (Fits (2 * pv) row.1.pe_count) (map run_to_sort here)
  all_fit =
      All-map (Fits (2 * pv) row.1.pe_count) run_to_sort here
      (λ k d within. fits _ (are_there k d within) (All-filter (tests pv) (IsOnVolume group) runs on_volumes k d within))

  sorted_apart : AllPairs NoExtentInBoth (map run_to_sort here)
  sorted_apart =
      map_pairs LieApart NoExtentInBoth (λ (run : LegRun). run.on ≡ on.Pv pv) run_to_sort
      (λ a b is_a is_b lie extent same x y z w. lie (on.Pv pv) extent (is_a, x, y) (is_b, z, w)) here
      (recursion_from_All (λ (run : LegRun). run.on ≡ on.Pv pv) here are_there) (AllPairs-filter LieApart (tests pv) runs apart)

  -- they have no more extents than the volume
  pub at_most : total_at pv runs ≤ row.1.pe_count
  at_most =
      let ordered =
      in_order (2 * pv) row.1.pe_count (map run_to_sort here)
      (recursion_from_All (Fits (2 * pv) row.1.pe_count) (map run_to_sort here) all_fit) sorted_apart in
      let gaps = gaps_sum 0 row.1.pe_count ordered.sorted ordered.between in
      omega (arith, gaps, ordered.sum, at_sum pv runs)

-- ---- on all physical volumes

-- how many extents those on the first so many volumes have
abbrev total_below : ℕ → List LegRun → ℕ
total_below zero runs = 0
total_below (suc n) runs = total_below n runs + total_at n runs

at_more : (pv : ℕ) (run : LegRun) (runs : List LegRun) → total_at pv runs ≤ total_at pv (run ∷ runs)
at_more pv run runs = by (tests pv run) where
  by : (b : Bool) → total_at pv runs ≤ cond b (run.count + total_at pv runs) (total_at pv runs)
  by true = omega arith
  by false = omega arith

at_one : (pv : ℕ) (run : LegRun) (runs : List LegRun) → run.on ≡ on.Pv pv → total_at pv (run ∷ runs) ≡ run.count + total_at pv runs
at_one pv run runs is = ap (λ (b : Bool). cond b (run.count + total_at pv runs) (total_at pv runs)) (ap (is_on pv) is ∙ eq-eqb pv pv refl)

below_more : (n : ℕ) (run : LegRun) (runs : List LegRun) → total_below n runs ≤ total_below n (run ∷ runs)
below_more zero run runs = omega arith
below_more (suc n) run runs = omega (arith, below_more n run runs, at_more n run runs)

below_one : (n pv : ℕ) (run : LegRun) (runs : List LegRun) → run.on ≡ on.Pv pv → pv < n
    → run.count + total_below n runs ≤ total_below n (run ∷ runs)
below_one zero pv run runs is within = absurd (omega (arith, within))
below_one (suc n) pv run runs is within =
    elim (cases_eq pv n) [
      | inl same ↦ let here = at_one n run runs (is ∙ ap (λ (k : ℕ). on.Pv k) same) in omega (arith, here, below_more n run runs)
      | inr other ↦ let earlier = below_one n pv run runs is (omega (arith, within, other)) in omega (arith, earlier, at_more n run runs)
    ]

all_below : (n : ℕ) (runs : List LegRun) → All (λ (run : LegRun). (pv : ℕ) × (run.on ≡ on.Pv pv) × (pv < n)) runs
    → total runs ≤ total_below n runs
all_below n [] all = omega arith
all_below n (run ∷ runs) all =
    let first = All-head (λ (run : LegRun). (pv : ℕ) × (run.on ≡ on.Pv pv) × (pv < n)) run runs all in
    let later = all_below n runs (All-tail (λ (run : LegRun). (pv : ℕ) × (run.on ≡ on.Pv pv) × (pv < n)) run runs all) in
    let one = below_one n first.0 run runs first.1 first.2 in
    let sum = sum_by-cons (λ (run : LegRun). run.count) run runs in
    omega (arith, later, one, sum)

-- each physical volume has at most 2^40 sectors of extents
abbrev pub LieOnDisks : Group → Type 0
LieOnDisks group = All (λ (pv : List ℕ × Pv). pv.1.pe_count * group.extent_size ≤ 2 ^ 40) group.pvs

times_both : (a b s : ℕ) → (a + b) * s ≡ a * s + b * s
times_both a b s = omega arith

times_less : (a b s : ℕ) → a ≤ b → a * s ≤ b * s
times_less a b s less = grind arith

module _ (group : Group) (disks : LieOnDisks group) (runs : List LegRun) (on_volumes : All (IsOnVolume group) runs)
    (apart : AllPairs LieApart runs) where
  at_sectors : (pv : ℕ) → pv < length group.pvs → total_at pv runs * group.extent_size ≤ 2 ^ 40
  at_sectors pv within =
      elim (slice_get_cases group.pvs pv).1 [
        | inl one ↦
            let row : List ℕ × Pv = one.0 in
            let there : slice_get group.pvs pv ≡ Some row = one.2 in
            let few = times_less (total_at pv runs) row.1.pe_count group.extent_size (at_most group pv row there runs on_volumes apart) in
            let most =
            All-contains (λ (pv : List ℕ × Pv). pv.1.pe_count * group.extent_size ≤ 2 ^ 40) group.pvs row disks
            (contains_at group.pvs pv row there) in
            omega (arith, few, most)
        | inr none ↦ let past = none.0 in absurd (omega (arith, past, within))
      ]

  below_sectors : (n : ℕ) → n ≤ length group.pvs → total_below n runs * group.extent_size ≤ n * 2 ^ 40
  below_sectors zero within = omega arith
  below_sectors (suc n) within =
      let both = times_both (total_below n runs) (total_at n runs) group.extent_size in
      let earlier = below_sectors n (omega (arith, within)) in
      let last = at_sectors n (omega (arith, within)) in
      omega (arith, both, earlier, last)

  stand : All (λ (run : LegRun). (pv : ℕ) × (run.on ≡ on.Pv pv) × (pv < length group.pvs)) runs
  stand =
      All-weaker (IsOnVolume group) (λ (run : LegRun). (pv : ℕ) × (run.on ≡ on.Pv pv) × (pv < length group.pvs))
      (λ run is. (is.pv, is.on_pv, by run is (subst (λ (o : On). LiesWithin group o (run.first + run.count)) is.on_pv is.within))) runs
      on_volumes
    where
      by : (run : LegRun) (is : IsOnVolume group run) → LiesWithin group (on.Pv is.pv) (run.first + run.count) → is.pv < length group.pvs
      by run is lies = slice_get_within group.pvs is.pv (lies.0, lies.1) lies.2

  pub few_sectors : length group.pvs ≤ 64 → (n : ℕ) → n ≤ total runs → n * group.extent_size < 2 ^ 48
  few_sectors few n less =
      let all = all_below (length group.pvs) runs stand in
      let fewer : n ≤ total_below (length group.pvs) runs = omega (arith, less, all) in
      let sectors = times_less n (total_below (length group.pvs) runs) group.extent_size fewer in
      let most = below_sectors (length group.pvs) (omega arith) in
      omega (arith, sectors, most, few)
