-- The volumes that a volume's legs name are those on which it lies; so five rounds over legs tell the depth.
use Rattle.std.proofs.Common.{◌≡◌, ℕ, zero, suc, ◌≤◌, ◌↔◌, List, [], ◌∷◌, length, Option, Some, None, refl, sym, ap, subst, ◌∙◌, arith}
use Rattle.std.specs.Prelude.{Contains, slice_get, option_map, unwrap_or, filter_map}
use Rattle.std.specs.List.{AllByRecursion, cons_option, flat_map}
use Rattle.std.proofs.lemmas.Option.{same_Some}
use Rattle.std.proofs.lemmas.List.Elements.{Contains-append_left, Contains-append_right, All-contains, All-from_recursion}
use Rattle.meta_model.specs.declared.group.Group.{Group}
use Rattle.meta_model.specs.declared.lv.Lv.{Lv}
use Rattle.meta_model.specs.declared.segment.Segment.{Segment}
use Rattle.meta_model.specs.declared.segment.Leg.{Leg}
use Rattle.meta_model.specs.declared.segment.On.{On}
use Rattle.meta_model.specs.Runs.{legs_of}
use Rattle.meta_model.specs.declared.segment.On.TheVariants as on
use Rattle.volume_rules.specs.Legs.{LiesOn, IsWayDown}
use Rattle.volume_rules.specs.Depths.{IsWayBy, load, height}
use Rattle.volume_rules.specs.Rules.{counts}
use Rattle.volume_rules.specs.Moving.{lv_number, named_by}
use Rattle.volume_rules.proofs.LegRuns.{run_of, run_is, IsRunOf, contains_later, contains_first, join_all}
use Rattle.volume_rules.proofs.Rounds.{rounds_tell, rounds_find}

abbrev in_legs : List Leg → List ℕ
in_legs legs = filter_map (λ (leg : Leg). lv_number leg.on) legs

abbrev in_segments : List Segment → List ℕ
in_segments segments = flat_map (λ (s : Segment). in_legs (legs_of s.kind)) segments

kept : (o : Option ℕ) (xs : List ℕ) (m : ℕ) → Contains xs m → Contains (cons_option o xs) m
kept None xs m within = within
kept (Some x) xs m within = contains_later x m xs within

leg_names : (legs : List Leg) (j : ℕ) (leg : Leg) (m : ℕ) → slice_get legs j ≡ Some leg → leg.on ≡ on.Lv m → Contains (in_legs legs) m
leg_names [] j leg m is on = cc
leg_names (l ∷ legs) zero leg m is on =
    let named : lv_number l.on ≡ Some m = ap (λ (x : Leg). lv_number x.on) (same_Some l leg is) ∙ ap lv_number on in
    subst (λ (o : Option ℕ). Contains (cons_option o (in_legs legs)) m) (sym named) (contains_first m (in_legs legs))
leg_names (l ∷ legs) (suc j) leg m is on = kept (lv_number l.on) (in_legs legs) m (leg_names legs j leg m is on)

segment_names : (segments : List Segment) (k : ℕ) (s : Segment) (m : ℕ) → slice_get segments k ≡ Some s
    → Contains (in_legs (legs_of s.kind)) m → Contains (in_segments segments) m
segment_names [] k s m is within = cc
segment_names (x ∷ segments) zero s m is within =
    Contains-append_left (in_legs (legs_of x.kind)) (in_segments segments) m
    (subst (λ (y : Segment). Contains (in_legs (legs_of y.kind)) m) (sym (same_Some x s is)) within)
segment_names (x ∷ segments) (suc k) s m is within =
    Contains-append_right (in_legs (legs_of x.kind)) (in_segments segments) m (segment_names segments k s m is within)

pub names_from : (group : Group) (lv m : ℕ) → LiesOn group lv m → Contains (named_by group lv) m
names_from group lv m lies =
    let is : IsRunOf group.lvs 0 lies.0 = run_is group lies.0 lies.1 in
    let number : is.nth ≡ lv = omega (arith, is.lv_is, lies.2) in
    let volume : slice_get group.lvs lv ≡ Some is.volume = ap (λ (k : ℕ). slice_get group.lvs k) (sym number) ∙ is.is_volume in
    subst (λ (o : Option (List ℕ × Lv)). Contains (in_segments (unwrap_or (option_map (λ (v : List ℕ × Lv). v.1.segments) o) [])) m)
    (sym volume)
    (segment_names is.volume.1.segments lies.0.segment is.segment m is.is_segment
    (leg_names (legs_of is.segment.kind) lies.0.leg is.leg m is.is_leg (sym is.on_is ∙ lies.3)))

-- each that is named
each_leg : (P : ℕ → Type 0) (legs : List Leg) → ((j : ℕ) (leg : Leg) (m : ℕ) → slice_get legs j ≡ Some leg → leg.on ≡ on.Lv m → P m)
    → AllByRecursion P (in_legs legs)
each_leg P [] at = tt
each_leg P (l ∷ legs) at = by_on l.on refl (each_leg P legs (λ j leg m is on. at (suc j) leg m is on)) where
  by_on : (on : On) → l.on ≡ on → AllByRecursion P (in_legs legs) → AllByRecursion P (cons_option (lv_number on) (in_legs legs))
  by_on (on.Pv n) is rest = rest
  by_on (on.Lv n) is rest = (at zero l n refl is, rest)

each_segment : (P : ℕ → Type 0) (segments : List Segment)
    → ((k : ℕ) (s : Segment) (j : ℕ) (leg : Leg) (m : ℕ) → slice_get segments k ≡ Some s → slice_get (legs_of s.kind) j ≡ Some leg
    → leg.on ≡ on.Lv m → P m)
    → AllByRecursion P (in_segments segments)
each_segment P [] at = tt
each_segment P (s ∷ segments) at =
    join_all P (in_legs (legs_of s.kind)) (in_segments segments)
    (each_leg P (legs_of s.kind) (λ j leg m is on. at zero s j leg m refl is on))
    (each_segment P segments (λ k x j leg m here is on. at (suc k) x j leg m here is on))

pub names_to : (group : Group) (lv m : ℕ) → Contains (named_by group lv) m → LiesOn group lv m
names_to group lv m within = of_volume (slice_get group.lvs lv) refl within where
  of_volume : (o : Option (List ℕ × Lv)) → slice_get group.lvs lv ≡ o
      → Contains (in_segments (unwrap_or (option_map (λ (v : List ℕ × Lv). v.1.segments) o) [])) m → LiesOn group lv m
  of_volume None is none = absurd (omega (arith, none.1))
  of_volume (Some volume) is named =
      All-contains (LiesOn group lv) (in_segments volume.1.segments) m
      (All-from_recursion (LiesOn group lv) (in_segments volume.1.segments)
      (each_segment (LiesOn group lv) volume.1.segments
      (λ k s j leg n here there on.
      let r = run_of group lv volume k s j leg is here there in
      (r.0, r.1, r.2, r.5 ∙ on))))
      named

-- ways down are ways along the names
to_way : (group : Group) (way : List ℕ) → IsWayDown group way → IsWayBy (named_by group) way
to_way group [] is = tt
to_way group (a ∷ []) is = tt
to_way group (a ∷ b ∷ way) is = (names_from group a b is.0, to_way group (b ∷ way) is.1)

from_way : (group : Group) (way : List ℕ) → IsWayBy (named_by group) way → IsWayDown group way
from_way group [] is = tt
from_way group (a ∷ []) is = tt
from_way group (a ∷ b ∷ way) is = (names_to group a b is.0, from_way group (b ∷ way) is.1)

-- the ways below a volume are those of the volumes that its legs name
below_first : (group : Group) → ((lv below : ℕ) → Contains (named_by group lv) below
    → (height (λ v. 1) (named_by group) 5 below ≤ 4) × (height (counts group) (named_by group) 5 below ≤ 3))
    → (lv : ℕ) (way : List ℕ) → IsWayDown group (lv ∷ way) → (length way ≤ 4) × (load (counts group) way ≤ 3)
below_first group low lv [] is = (omega arith, omega arith)
below_first group low lv (b ∷ way) is =
    rounds_tell (counts group) (named_by group) b (low lv b (names_from group lv b is.0)) way (to_way group (b ∷ way) is.1)

-- how deep ways go is what five rounds over the legs give for the volumes that legs name
pub depth_by_rounds : (group : Group)
    → ((lv : ℕ) (way : List ℕ) → IsWayDown group (lv ∷ way) → (length way ≤ 4) × (load (counts group) way ≤ 3))
    ↔ ((lv below : ℕ) → Contains (named_by group lv) below
    → (height (λ v. 1) (named_by group) 5 below ≤ 4) × (height (counts group) (named_by group) 5 below ≤ 3))
depth_by_rounds group = (
  λ low lv below named. rounds_find (counts group) (named_by group) below
      (λ way is. low lv (below ∷ way) (names_to group lv below named, from_way group (below ∷ way) is)),
  below_first group,
)
