-- In an accepted group a spot below is that of one sector of one volume, by one leg.
use Rattle.std.proofs.Common.{◌≡◌, ℕ, ◌+◌, ◌*◌, ◌/◌, ◌<◌, ◌≤◌, List, length, inl, inr, sym, ap, subst, ◌∙◌, arith}
use Rattle.std.proofs.lemmas.Nat.{div_below, le-div}
use Rattle.std.proofs.lemmas.Bool.{cases_eq}
use Rattle.std.proofs.lemmas.Option.{same_Some}
use Rattle.std.specs.Prelude.{All, Contains, slice_get}
use Rattle.meta_model.specs.declared.group.Group.{Group}
use Rattle.meta_model.specs.declared.lv.Lv.{Lv}
use Rattle.meta_model.specs.declared.segment.Segment.{Segment}
use Rattle.meta_model.specs.declared.segment.SegKind.{SegKind}
use Rattle.meta_model.specs.declared.segment.SegKind.TheVariants.{Striped, Mirror}
use Rattle.meta_model.specs.declared.segment.Leg.{Leg}
use Rattle.meta_model.specs.declared.segment.On.{On}
use Rattle.meta_model.specs.Runs.{legs_of}
use Rattle.volume_rules.specs.Extents.{leg_share}
use Rattle.volume_rules.specs.Legs.{LegRun, runs_of, IsInRun, LieApart}
use Rattle.volume_rules.specs.declared.rule.Rule.TheVariants.{Numbers, Stripes, Apart}
use Rattle.volume_rules.specs.Rules.{IsAccepted, IsWholeStriped}
use Rattle.volume_rules.proofs.LegRuns.{run_of, related_or_same}
use Rattle.volume_view.specs.InSegments.{Met, Spot, HasSectorInLeg, offset_in, stripe_offset}
use Rattle.volume_view.specs.Copies.{StandsAt}
use Rattle.volume_view.proofs.Stripes.{same_stripe, within_leg}
use Rattle.volume_view.proofs.MetSegments.{all_at, Meets, meets_is, ByLeg, by_leg}

-- it lies within the leg
pub within_share : (extent count : ℕ) (kind : SegKind) (l : ℕ) → IsWholeStriped extent count kind → l < count * extent
    → offset_in kind l < leg_share count kind * extent
within_share extent count (Striped stripe legs) l whole lt =
    within_leg stripe (length legs) count extent l whole.0 whole.2 (λ more. let h = whole.3 more in (h.1, h.2)) lt
within_share extent count (Mirror region moved legs) l whole lt = lt

-- the run in which a spot below a sector lies
pub record InRun (group : Group) (lv segment leg : ℕ) (spot : Spot) : Type 0 where
  pub run : LegRun
  pub contained : Contains (runs_of group) run
  pub same_lv : run.lv ≡ lv
  pub same_segment : run.segment ≡ segment
  pub same_leg : run.leg ≡ leg
  pub inside : IsInRun spot.on (spot.sector / group.extent_size) run

extent_inside : (extent first count offset sector : ℕ) → 0 < extent → first * extent + offset ≡ sector → offset < count * extent
    → (first ≤ sector / extent) × (sector / extent < first + count)
extent_inside extent first count offset sector some at lt =
    (le-div first sector extent some (omega arith), div_below sector extent (first + count) some (omega arith))

-- each spot below lies in such a run
pub in_run : (group : Group) (lv sector segment leg : ℕ) (spot : Spot) → IsAccepted group → StandsAt group lv sector segment leg spot
    → InRun group lv segment leg spot
in_run group lv sector segment leg spot accepted stands =
    let m : Met = stands.in_segment in
    let meets : Meets group lv sector m = meets_is group lv sector m stands.meets in
    let by : ByLeg group m leg spot = by_leg group m leg spot stands.there in
    let whole : IsWholeStriped group.extent_size m.segment.count m.segment.kind =
    all_at (λ (s : Segment). IsWholeStriped group.extent_size s.count s.kind) meets.volume.1.segments m.number m.segment
    (all_at (λ (v : List ℕ × Lv). All (λ s. IsWholeStriped group.extent_size s.count s.kind) v.1.segments) group.lvs lv meets.volume
    (accepted Stripes) meets.is_volume)
    meets.is_segment in
    let short : offset_in m.segment.kind m.at < leg_share m.segment.count m.segment.kind * group.extent_size =
    within_share _ _ _ _ whole meets.within in
    let some : 0 < group.extent_size = omega (arith, (accepted Numbers).extent_size.0) in
    let r = run_of group lv meets.volume m.number m.segment leg by.it meets.is_volume meets.is_segment by.is_leg in
    let place : (by.it.first ≤ spot.sector / group.extent_size)
    × (spot.sector / group.extent_size < by.it.first + leg_share m.segment.count m.segment.kind) =
    extent_inside group.extent_size by.it.first (leg_share m.segment.count m.segment.kind) (offset_in m.segment.kind m.at) spot.sector some
    by.at short in
    let low : by.it.first ≤ spot.sector / group.extent_size = place.0 in
    let high : spot.sector / group.extent_size < by.it.first + leg_share m.segment.count m.segment.kind = place.1 in
    record {
      run = r.0;
      contained = r.1;
      same_lv = r.2;
      same_segment = r.3 ∙ stands.number;
      same_leg = r.4;
      inside = (r.5 ∙ by.on, omega (arith, r.6), omega (arith, r.6, r.7));
    }

-- two runs with an extent in both are one
one_run : (group : Group) (a b : LegRun) (on : On) (extent : ℕ) → IsAccepted group → Contains (runs_of group) a → Contains (runs_of group) b
    → IsInRun on extent a → IsInRun on extent b → a ≡ b
one_run group a b on extent accepted in_a in_b here there =
    elim (related_or_same LieApart (runs_of group) a b (accepted Apart) in_a in_b) [
      | inl same ↦ same
      | inr other ↦
          elim other [
            | inl apart ↦ absurd (apart on extent here there)
            | inr apart ↦ absurd (apart on extent there here)
          ]
    ]

-- of one kind: the same leg and the same place there is the same sector of the segment
same_at : (extent count : ℕ) (kind : SegKind) (leg l l' : ℕ) → IsWholeStriped extent count kind → HasSectorInLeg kind l leg
    → HasSectorInLeg kind l' leg → offset_in kind l ≡ offset_in kind l' → l ≡ l'
same_at extent count (Mirror region moved legs) leg l l' whole has has' at = at
same_at extent count (Striped stripe legs) leg l l' whole has has' at =
    elim (cases_eq (length legs) 1) [
      | inl one ↦
          sym (ap (λ (k : ℕ). stripe_offset stripe k l) one) ∙ at ∙ ap (λ (k : ℕ). stripe_offset stripe k l') one
      | inr more ↦
          let some : 1 ≤ length legs = whole.0 in
          let h = whole.3 (omega arith) in
          same_stripe stripe (length legs) l l' (omega (arith, h.1)) (omega arith) at (sym has ∙ has')
    ]

-- one sector of one volume, and one leg of one segment
pub record SameAbove (lv lv' sector sector' segment segment' leg leg' : ℕ) : Type 0 where
  pub lv_is : lv ≡ lv'
  pub sector_is : sector ≡ sector'
  pub segment_is : segment ≡ segment'
  pub leg_is : leg ≡ leg'

-- a spot below is that of one sector, by one leg
pub one_above : (group : Group) (lv lv' sector sector' segment segment' leg leg' : ℕ) (spot : Spot) → IsAccepted group
    → StandsAt group lv sector segment leg spot → StandsAt group lv' sector' segment' leg' spot
    → SameAbove lv lv' sector sector' segment segment' leg leg'
one_above group lv lv' sector sector' segment segment' leg leg' spot accepted here there =
    let a : InRun group lv segment leg spot = in_run group lv sector segment leg spot accepted here in
    let b : InRun group lv' segment' leg' spot = in_run group lv' sector' segment' leg' spot accepted there in
    let run : a.run ≡ b.run =
    one_run group a.run b.run spot.on (spot.sector / group.extent_size) accepted a.contained b.contained a.inside b.inside in
    let lvs : lv ≡ lv' = sym a.same_lv ∙ ap (λ (r : LegRun). r.lv) run ∙ b.same_lv in
    let segments : segment ≡ segment' = sym a.same_segment ∙ ap (λ (r : LegRun). r.segment) run ∙ b.same_segment in
    let legs : leg ≡ leg' = sym a.same_leg ∙ ap (λ (r : LegRun). r.leg) run ∙ b.same_leg in
    let m : Met = here.in_segment in
    let n : Met = there.in_segment in
    let ma : Meets group lv sector m = meets_is group lv sector m here.meets in
    let mb : Meets group lv' sector' n = meets_is group lv' sector' n there.meets in
    let volume : ma.volume ≡ mb.volume = same_Some _ _ (sym ma.is_volume ∙ ap (λ (k : ℕ). slice_get group.lvs k) lvs ∙ mb.is_volume) in
    let number : m.number ≡ n.number = here.number ∙ segments ∙ sym there.number in
    let same : m.segment ≡ n.segment =
    same_Some _ _
    (sym ma.is_segment ∙ ap (λ (v : List ℕ × Lv). slice_get v.1.segments m.number) volume
    ∙ ap (λ (k : ℕ). slice_get mb.volume.1.segments k) number ∙ mb.is_segment) in
    let by : ByLeg group m leg spot = by_leg group m leg spot here.there in
    let by' : ByLeg group n leg' spot = by_leg group n leg' spot there.there in
    let it : by.it ≡ by'.it =
    same_Some _ _ (sym by.is_leg ∙ ap (λ (s : Segment). slice_get (legs_of s.kind) leg) same
    ∙ ap (λ (j : ℕ). slice_get (legs_of n.segment.kind) j) legs ∙ by'.is_leg) in
    let first : by.it.first * group.extent_size ≡ by'.it.first * group.extent_size = ap (λ (l : Leg). l.first * group.extent_size) it in
    let offsets : offset_in m.segment.kind m.at ≡ offset_in n.segment.kind n.at = omega (arith, by.at, by'.at) in
    let whole : IsWholeStriped group.extent_size n.segment.count n.segment.kind =
    all_at (λ (s : Segment). IsWholeStriped group.extent_size s.count s.kind) mb.volume.1.segments n.number n.segment
    (all_at (λ (v : List ℕ × Lv). All (λ s. IsWholeStriped group.extent_size s.count s.kind) v.1.segments) group.lvs lv' mb.volume
    (accepted Stripes) mb.is_volume)
    mb.is_segment in
    let ats : m.at ≡ n.at =
    same_at group.extent_size n.segment.count n.segment.kind leg' m.at n.at whole
    (subst (λ (s : Segment). HasSectorInLeg s.kind m.at leg') same (subst (HasSectorInLeg m.segment.kind m.at) legs here.in_leg))
    there.in_leg
    (ap (λ (s : Segment). offset_in s.kind m.at) (sym same) ∙ offsets) in
    let start : m.segment.start * group.extent_size ≡ n.segment.start * group.extent_size =
    ap (λ (s : Segment). s.start * group.extent_size) same in
    record {
      lv_is = lvs;
      sector_is = omega (arith, ma.at, mb.at);
      segment_is = segments;
      leg_is = legs;
    }
