-- The places of a sector further on between two multiples of 8 are those of the first, as much further on.
use Rattle.std.proofs.Common.{◌≡◌, ℕ, zero, suc, ◌+◌, ◌-◌, ◌*◌, ◌/◌, ◌%◌, Bool, true, false, cond, List, [], ◌∷◌, map, Option, Some, None}
use Rattle.std.proofs.Common.{refl, sym, ap, subst, ◌∙◌, arith}
use Rattle.std.proofs.lemmas.Option.{same_Some}
use Rattle.std.specs.Prelude.{slice_get, option_map, unwrap_or, find, filter_map, ◌==◌}
use Rattle.std.specs.Option.{option_and_then}
use Rattle.std.specs.List.{AllByRecursion, enumerate_from, cons_option}
use Rattle.sector_base.specs.declared.places.At.{At}
use Rattle.meta_model.specs.declared.group.Group.{Group}
use Rattle.meta_model.specs.declared.pv.Pv.{Pv}
use Rattle.meta_model.specs.declared.lv.Lv.{Lv}
use Rattle.meta_model.specs.declared.segment.Segment.{Segment}
use Rattle.meta_model.specs.declared.segment.Leg.{Leg}
use Rattle.meta_model.specs.declared.segment.On.{On}
use Rattle.meta_model.specs.declared.segment.On.TheVariants as on
use Rattle.meta_model.specs.Runs.{legs_of}
use Rattle.volume_rules.specs.declared.rule.Rule.TheVariants.{Numbers}
use Rattle.volume_rules.specs.Rules.{IsAccepted}
use Rattle.volume_rules.specs.Moving.{has_pvmove, leads_to_pvmove}
use Rattle.volume_view.specs.InSegments.{Met, Spot, met, segment_from, leg_spot, spot_in, offset_in, primary_leg, primary_spot, is_mirror}
use Rattle.volume_view.specs.Places.{MirrorAt, Places, down, way, deciding, mirror_of, others_of, others_at, primary, places, at_on}
use Rattle.volume_view.specs.Places.{places_on, mark}
use Rattle.volume_view.proofs.MetSegments.{Meets, meets_is, make, ByLeg, by_leg}
use Rattle.volume_view.proofs.GoingDown.{GoesDown, goes_down, way_is, step_down}
use Rattle.volume_view.proofs.PrimariesStand.{Whole, whole_is, leg_stands}
use Rattle.volume_view.proofs.OthersApart.{PlacesAre, places_are, find_if}
use Rattle.volume_view.proofs.Pieces.{same_found, SameLeg, same_leg, eight}

-- the same segment, with a sector further on
abbrev met_on : ℕ → Met → Met
met_on d m = record { lv = m.lv; number = m.number; segment = m.segment; at = m.at + d }

-- and a spot further on
abbrev spot_on : ℕ → Spot → Spot
spot_on d s = record { on = s.on; sector = s.sector + d }

met_later : (group : Group) (lv x d : ℕ) (m : Met) → IsAccepted group → x / 8 ≡ (x + d) / 8 → met group lv x ≡ Some m
    → met group lv (x + d) ≡ Some (met_on d m)
unfolding met
met_later group lv x d m accepted same here =
    let meets : Meets group lv x m = meets_is group lv x m here in
    let found : segment_from group.extent_size (x + d) 0 meets.volume.1.segments ≡ Some (m.number, m.segment) =
    sym (same_found group.extent_size x (x + d) 0 meets.volume.1.segments (accepted Numbers).extent_size.2 same) ∙ meets.is_found in
    let at : x + d - m.segment.start * group.extent_size ≡ m.at + d = omega (arith, meets.at) in
    let whole : ℕ → ℕ → Met = λ v a. record { lv = v; number = m.number; segment = m.segment; at = a } in
    ap (λ (o : Option (List ℕ × Lv)). option_and_then
    (λ (v : List ℕ × Lv). option_map (make group lv (x + d)) (segment_from group.extent_size (x + d) 0 v.1.segments)) o) meets.is_volume
    ∙ ap (λ (o : Option (ℕ × Segment)). option_map (make group lv (x + d)) o) found
    ∙ ap (λ (v : ℕ). Some (whole v (x + d - m.segment.start * group.extent_size))) (sym meets.same_lv)
    ∙ ap (λ (a : ℕ). Some (whole m.lv a)) at

-- the sectors are as near in the segment
near_in : (group : Group) (lv x d : ℕ) (m : Met) → IsAccepted group → x / 8 ≡ (x + d) / 8 → met group lv x ≡ Some m
    → m.at / 8 ≡ (m.at + d) / 8
near_in group lv x d m accepted same here =
    let meets : Meets group lv x m = meets_is group lv x m here in
    let e : m.segment.start * group.extent_size ≡ 8 * (m.segment.start * (group.extent_size / 8)) =
    eight m.segment.start group.extent_size (accepted Numbers).extent_size.2 in
    omega (arith, meets.at)

-- so their stripe and region are the same
leg_later : (group : Group) (d : ℕ) (m : Met) → Whole group m → m.at / 8 ≡ (m.at + d) / 8
    → SameLeg m.segment.count m.segment.kind m.at (m.at + d)
leg_later group d m whole near = same_leg group.extent_size m.segment.count m.segment.kind m.at (m.at + d) whole.striped whole.mirror near

spot_later : (group : Group) (d : ℕ) (m : Met) (s : Spot) → Whole group m → m.at / 8 ≡ (m.at + d) / 8
    → primary_spot group.extent_size m ≡ Some s → primary_spot group.extent_size (met_on d m) ≡ Some (spot_on d s)
unfolding leg_spot
spot_later group d m s whole near is =
    let leg : SameLeg m.segment.count m.segment.kind m.at (m.at + d) = leg_later group d m whole near in
    let by : ByLeg group m (primary_leg m.segment.count m.segment.kind m.at) s =
    by_leg group m (primary_leg m.segment.count m.segment.kind m.at) s is in
    let offset : ℕ = offset_in m.segment.kind (m.at + d) in
    let at : by.it.first * group.extent_size + offset ≡ s.sector + d = omega (arith, by.at, leg.apart) in
    let spot : On → ℕ → Spot = λ o n. record { on = o; sector = n } in
    ap (λ (k : ℕ). option_map (spot_in group.extent_size offset) (slice_get (legs_of m.segment.kind) k)) (sym leg.leg)
    ∙ ap (λ (o : Option Leg). option_map (spot_in group.extent_size offset) o) by.is_leg
    ∙ ap (λ (o : On). Some (spot o (by.it.first * group.extent_size + offset))) by.on
    ∙ ap (λ (n : ℕ). Some (spot s.on n)) at

-- one level below the sector is as near
near_below : (extent first offset d : ℕ) → extent % 8 ≡ 0 → offset / 8 ≡ (offset + d) / 8
    → (first * extent + offset) / 8 ≡ (first * extent + offset + d) / 8
near_below extent first offset d whole near = let e : first * extent ≡ 8 * (first * (extent / 8)) = eight first extent whole in omega arith

near_spot : (group : Group) (d : ℕ) (m : Met) (s : Spot) → IsAccepted group → Whole group m → m.at / 8 ≡ (m.at + d) / 8
    → primary_spot group.extent_size m ≡ Some s → s.sector / 8 ≡ (s.sector + d) / 8
near_spot group d m s accepted whole near is =
    let leg : SameLeg m.segment.count m.segment.kind m.at (m.at + d) = leg_later group d m whole near in
    let by : ByLeg group m (primary_leg m.segment.count m.segment.kind m.at) s =
    by_leg group m (primary_leg m.segment.count m.segment.kind m.at) s is in
    let offset : offset_in m.segment.kind (m.at + d) ≡ offset_in m.segment.kind m.at + d = omega (arith, leg.apart) in
    let below =
    near_below group.extent_size by.it.first (offset_in m.segment.kind m.at) d (accepted Numbers).extent_size.2
    (leg.near ∙ ap (λ (n : ℕ). n / 8) offset) in
    subst (λ (n : ℕ). n / 8 ≡ (n + d) / 8) by.at below

pv_later : (pv x d : ℕ) (a : At) (o : Option (List ℕ × Pv))
    → option_map (λ (p : List ℕ × Pv). record { pv = pv; sector = p.1.pe_start + x }) o ≡ Some a
    → option_map (λ (p : List ℕ × Pv). record { pv = pv; sector = p.1.pe_start + (x + d) }) o ≡ Some (at_on d a)
pv_later pv x d a None here = cc
pv_later pv x d a (Some p) here =
    let at : ℕ → At = λ n. record { pv = pv; sector = n } in
    let is : at (p.1.pe_start + x) ≡ a = same_Some (at (p.1.pe_start + x)) a here in
    ap (λ (n : ℕ). Some (at n)) (omega arith) ∙ ap (λ (z : At). Some (at_on d z)) is

-- so down to a physical volume
pub down_later : (group : Group) (steps : ℕ) (on : On) (x d : ℕ) (a : At) → IsAccepted group → x / 8 ≡ (x + d) / 8
    → down group on steps x ≡ Some a → down group on steps (x + d) ≡ Some (at_on d a)
down_later group zero (on.Pv pv) x d a accepted same here = pv_later pv x d a (slice_get group.pvs pv) here
down_later group (suc steps) (on.Pv pv) x d a accepted same here = pv_later pv x d a (slice_get group.pvs pv) here
down_later group zero (on.Lv lv) x d a accepted same here = cc
down_later group (suc steps) (on.Lv lv) x d a accepted same here =
    let g : GoesDown group lv x steps a = goes_down group lv x steps a here in
    let whole : Whole group g.m = whole_is group lv x g.m accepted (meets_is group lv x g.m g.meets) in
    let near : g.m.at / 8 ≡ (g.m.at + d) / 8 = near_in group lv x d g.m accepted same g.meets in
    step_down group lv (x + d) steps (met_on d g.m) (spot_on d g.spot) (at_on d a) (met_later group lv x d g.m accepted same g.meets)
    (spot_later group d g.m g.spot whole near g.is_spot)
    (down_later group steps g.spot.on g.spot.sector d a accepted (near_spot group d g.m g.spot accepted whole near g.is_spot) g.rest)

-- and the segments on the way are the same
way_later : (group : Group) (steps : ℕ) (on : On) (x d : ℕ) (a : At) → IsAccepted group → x / 8 ≡ (x + d) / 8
    → down group on steps x ≡ Some a → way group on steps (x + d) ≡ map (met_on d) (way group on steps x)
way_later group zero (on.Pv pv) x d a accepted same here = refl
way_later group (suc steps) (on.Pv pv) x d a accepted same here = refl
way_later group zero (on.Lv lv) x d a accepted same here = cc
way_later group (suc steps) (on.Lv lv) x d a accepted same here =
    let g : GoesDown group lv x steps a = goes_down group lv x steps a here in
    let whole : Whole group g.m = whole_is group lv x g.m accepted (meets_is group lv x g.m g.meets) in
    let near : g.m.at / 8 ≡ (g.m.at + d) / 8 = near_in group lv x d g.m accepted same g.meets in
    way_is group lv (x + d) steps (met_on d g.m) (spot_on d g.spot) (met_later group lv x d g.m accepted same g.meets)
    (spot_later group d g.m g.spot whole near g.is_spot)
    ∙ ap (λ (l : List Met). met_on d g.m ∷ l)
    (way_later group steps g.spot.on g.spot.sector d a accepted (near_spot group d g.m g.spot accepted whole near g.is_spot) g.rest)
    ∙ sym (ap (λ (l : List Met). map (met_on d) l) (way_is group lv x steps g.m g.spot g.meets g.is_spot))

-- a segment on the way, and that the sector is as near there
record Near (group : Group) (d : ℕ) (m : Met) : Type 0 where
  sector : ℕ
  meets : met group m.lv sector ≡ Some m
  near : m.at / 8 ≡ (m.at + d) / 8

way_near : (group : Group) (steps : ℕ) (on : On) (x d : ℕ) (a : At) → IsAccepted group → x / 8 ≡ (x + d) / 8
    → down group on steps x ≡ Some a → AllByRecursion (Near group d) (way group on steps x)
way_near group zero (on.Pv pv) x d a accepted same here = tt
way_near group (suc steps) (on.Pv pv) x d a accepted same here = tt
way_near group zero (on.Lv lv) x d a accepted same here = tt
way_near group (suc steps) (on.Lv lv) x d a accepted same here =
    let g : GoesDown group lv x steps a = goes_down group lv x steps a here in
    let meets : Meets group lv x g.m = meets_is group lv x g.m g.meets in
    let whole : Whole group g.m = whole_is group lv x g.m accepted meets in
    let near : g.m.at / 8 ≡ (g.m.at + d) / 8 = near_in group lv x d g.m accepted same g.meets in
    let first : Near group d g.m = record { sector = x; meets = ap (λ (n : ℕ). met group n x) meets.same_lv ∙ g.meets; near = near } in
    subst (AllByRecursion (Near group d)) (sym (way_is group lv x steps g.m g.spot g.meets g.is_spot))
    (first, way_near group steps g.spot.on g.spot.sector d a accepted (near_spot group d g.m g.spot accepted whole near g.is_spot) g.rest)

-- the first that passes is the same
find_later : (d : ℕ) (test : Met → Bool) → ((m : Met) → test (met_on d m) ≡ test m) → (ms : List Met)
    → find test (map (met_on d) ms) ≡ option_map (met_on d) (find test ms)
find_later d test same [] = refl
find_later d test same (m ∷ ms) =
    ap (λ (b : Bool). cond b (Some (met_on d m)) (find test (map (met_on d) ms))) (same m)
    ∙ ap (λ (o : Option Met). cond (test m) (Some (met_on d m)) o) (find_later d test same ms)
    ∙ by_test (test m) (find test ms)
  where
    by_test : (b : Bool) (o : Option Met) → cond b (Some (met_on d m)) (option_map (met_on d) o) ≡ option_map (met_on d) (cond b (Some m) o)
    by_test true o = refl
    by_test false o = refl

find_either : (d : ℕ) (b : Bool) (test other : Met → Bool) → ((m : Met) → test (met_on d m) ≡ test m)
    → ((m : Met) → other (met_on d m) ≡ other m) → (ms : List Met)
    → cond b (find test (map (met_on d) ms)) (find other (map (met_on d) ms))
    ≡ option_map (met_on d) (cond b (find test ms) (find other ms))
find_either d true test other same same' ms = find_later d test same ms
find_either d false test other same same' ms = find_later d other same' ms

deciding_later : (group : Group) (lv x d : ℕ) (a : At) → IsAccepted group → x / 8 ≡ (x + d) / 8 → primary group lv x ≡ Some a
    → deciding group lv (x + d) ≡ option_map (met_on d) (deciding group lv x)
unfolding deciding primary
deciding_later group lv x d a accepted same here =
    let test : Met → Bool = λ m. has_pvmove group m.lv in
    let other : Met → Bool = λ m. is_mirror m.segment.kind in
    ap (λ (ms : List Met). cond (leads_to_pvmove group 4 lv) (find test ms) (find other ms))
    (way_later group 5 (on.Lv lv) x d a accepted same here)
    ∙ find_either d (leads_to_pvmove group 4 lv) test other (λ m. refl) (λ m. refl) (way group (on.Lv lv) 5 x)

-- in it the region is the same
mirror_later : (group : Group) (d : ℕ) (m : Met) → IsAccepted group → Near group d m → mirror_of (met_on d m) ≡ mirror_of m
mirror_later group d m accepted near =
    let whole : Whole group m = whole_is group m.lv near.sector m accepted (meets_is group m.lv near.sector m near.meets) in
    let make : ℕ → MirrorAt = λ k. record { lv = m.lv; segment = m.number; region = k } in
    ap (λ (o : Option ℕ). option_map make o) (sym (leg_later group d m whole near.near).region)

-- and the places of the other legs are further on
abbrev other_of : Group → Met → ℕ × Leg → Option At
other_of group m leg =
    cond (leg.0 == primary_leg m.segment.count m.segment.kind m.at) None
    (down group leg.1.on 5 (leg.1.first * group.extent_size + offset_in m.segment.kind m.at))

other_later : (group : Group) (d : ℕ) (m : Met) (n : ℕ) (leg : Leg) → IsAccepted group → Near group d m
    → slice_get (legs_of m.segment.kind) n ≡ Some leg
    → other_of group (met_on d m) (n, leg) ≡ option_map (at_on d) (other_of group m (n, leg))
other_later group d m n leg accepted near is =
    let whole : Whole group m = whole_is group m.lv near.sector m accepted (meets_is group m.lv near.sector m near.meets) in
    let same : SameLeg m.segment.count m.segment.kind m.at (m.at + d) = leg_later group d m whole near.near in
    let offset : offset_in m.segment.kind (m.at + d) ≡ offset_in m.segment.kind m.at + d = omega (arith, same.apart) in
    let below =
    near_below group.extent_size leg.first (offset_in m.segment.kind m.at) d (accepted Numbers).extent_size.2
    (same.near ∙ ap (λ (k : ℕ). k / 8) offset) in
    let place : ℕ → Option At = λ k. down group leg.on 5 k in
    let here : ℕ = leg.first * group.extent_size + offset_in m.segment.kind m.at in
    let stands = leg_stands group m.lv near.sector m n leg accepted near.meets is in
    let at : leg.first * group.extent_size + offset_in m.segment.kind (m.at + d) ≡ here + d = omega arith in
    let later : place (leg.first * group.extent_size + offset_in m.segment.kind (m.at + d)) ≡ option_map (at_on d) (place here) =
    ap place at ∙ down_later group 5 leg.on here d stands.0 accepted below stands.1
    ∙ sym (ap (λ (o : Option At). option_map (at_on d) o) stands.1) in
    ap (λ (k : ℕ). cond (n == k) None (place (leg.first * group.extent_size + offset_in m.segment.kind (m.at + d)))) (sym same.leg)
    ∙ ap (λ (o : Option At). cond (n == primary_leg m.segment.count m.segment.kind m.at) None o) later
    ∙ by_test (n == primary_leg m.segment.count m.segment.kind m.at) (place here)
  where
    by_test : (b : Bool) (o : Option At) → cond b None (option_map (at_on d) o) ≡ option_map (at_on d) (cond b None o)
    by_test true o = refl
    by_test false o = refl

each_later : (group : Group) (d : ℕ) (m : Met) (n : ℕ) (legs : List Leg) → IsAccepted group → Near group d m
    → ((k : ℕ) (leg : Leg) → slice_get legs k ≡ Some leg → slice_get (legs_of m.segment.kind) (n + k) ≡ Some leg)
    → filter_map (other_of group (met_on d m)) (enumerate_from n legs)
    ≡ map (at_on d) (filter_map (other_of group m) (enumerate_from n legs))
each_later group d m n [] accepted near at = refl
each_later group d m n (leg ∷ legs) accepted near at =
    let is : slice_get (legs_of m.segment.kind) n ≡ Some leg =
    subst (λ (i : ℕ). slice_get (legs_of m.segment.kind) i ≡ Some leg) (omega arith) (at zero leg refl) in
    let rest =
    each_later group d m (n + 1) legs accepted near
    (λ k l there. subst (λ (i : ℕ). slice_get (legs_of m.segment.kind) i ≡ Some l) (omega arith) (at (suc k) l there)) in
    ap (λ (o : Option At). cons_option o (filter_map (other_of group (met_on d m)) (enumerate_from (n + 1) legs)))
    (other_later group d m n leg accepted near is)
    ∙ ap (λ (l : List At). cons_option (option_map (at_on d) (other_of group m (n, leg))) l) rest
    ∙ by_option (other_of group m (n, leg)) (filter_map (other_of group m) (enumerate_from (n + 1) legs))
  where
    by_option : (o : Option At) (l : List At) → cons_option (option_map (at_on d) o) (map (at_on d) l) ≡ map (at_on d) (cons_option o l)
    by_option None l = refl
    by_option (Some x) l = refl

others_later : (group : Group) (d : ℕ) (m : Met) → IsAccepted group → Near group d m
    → others_of group (met_on d m) ≡ map (at_on d) (others_of group m)
others_later group d m accepted near =
    each_later group d m 0 (legs_of m.segment.kind) accepted near
    (λ k leg is. subst (λ (i : ℕ). slice_get (legs_of m.segment.kind) i ≡ Some leg) (omega arith) is)

-- both by the segment that decides, if any
region_later : (group : Group) (d : ℕ) (o : Option Met) → IsAccepted group → ((m : Met) → o ≡ Some m → Near group d m)
    → option_and_then mirror_of (option_map (met_on d) o) ≡ option_and_then mirror_of o
region_later group d None accepted near = refl
region_later group d (Some m) accepted near = mirror_later group d m accepted (near m refl)

all_later : (group : Group) (d : ℕ) (o : Option Met) → IsAccepted group → ((m : Met) → o ≡ Some m → Near group d m)
    → others_at group (option_map (met_on d) o) ≡ map (at_on d) (others_at group o)
all_later group d None accepted near = refl
all_later group d (Some m) accepted near =
    ap (λ (r : Option MirrorAt). unwrap_or (option_map (λ (k : MirrorAt). others_of group (met_on d m)) r) [])
    (mirror_later group d m accepted (near m refl))
    ∙ ap (λ (l : List At). unwrap_or (option_map (λ (k : MirrorAt). l) (mirror_of m)) []) (others_later group d m accepted (near m refl))
    ∙ by_region (mirror_of m) (others_of group m)
  where
    by_region : (r : Option MirrorAt) (l : List At)
        → unwrap_or (option_map (λ (k : MirrorAt). map (at_on d) l) r) []
        ≡ map (at_on d) (unwrap_or (option_map (λ (k : MirrorAt). l) r) [])
    by_region None l = refl
    by_region (Some k) l = refl

deciding_near : (group : Group) (lv x d : ℕ) (a : At) → IsAccepted group → x / 8 ≡ (x + d) / 8 → primary group lv x ≡ Some a → (m : Met)
    → deciding group lv x ≡ Some m → Near group d m
unfolding deciding primary
deciding_near group lv x d a accepted same here m is =
    find_if (Near group d) (leads_to_pvmove group 4 lv) (λ (n : Met). has_pvmove group n.lv) (λ (n : Met). is_mirror n.segment.kind)
    (way group (on.Lv lv) 5 x) m
    (way_near group 5 (on.Lv lv) x d a accepted same here) is

-- all places of the sector
pub places_later : (group : Group) (lv x d : ℕ) (p : Places) → IsAccepted group → x / 8 ≡ (x + d) / 8 → places group lv x ≡ Some p
    → places group lv (x + d) ≡ Some (places_on d p)
unfolding places primary
places_later group lv x d p accepted same is =
    let are : PlacesAre group lv x p = places_are group lv x p is in
    let near = deciding_near group lv x d p.primary accepted same are.is_primary in
    let decides : deciding group lv (x + d) ≡ option_map (met_on d) (deciding group lv x) =
    deciding_later group lv x d p.primary accepted same are.is_primary in
    let region : option_and_then mirror_of (deciding group lv (x + d)) ≡ p.mirror =
    ap (λ (o : Option Met). option_and_then mirror_of o) decides ∙ region_later group d (deciding group lv x) accepted near
    ∙ sym are.mirror in
    let others : others_at group (deciding group lv (x + d)) ≡ map (at_on d) p.others =
    ap (λ (o : Option Met). others_at group o) decides ∙ all_later group d (deciding group lv x) accepted near
    ∙ ap (λ (l : List At). map (at_on d) l) (sym are.others) in
    let make : Option MirrorAt → List At → At → Places = λ r l a. record { primary = a; mirror = r; others = l } in
    ap (λ (r : Option MirrorAt). option_map (make r (others_at group (deciding group lv (x + d)))) (primary group lv (x + d))) region
    ∙ ap (λ (l : List At). option_map (make p.mirror l) (primary group lv (x + d))) others
    ∙ ap (λ (o : Option At). option_map (make p.mirror (map (at_on d) p.others)) o)
    (down_later group 5 (on.Lv lv) x d p.primary accepted same are.is_primary)

-- and what the segments on the way say of it
marks_later : (group : Group) (d : ℕ) (ms : List Met) → IsAccepted group → AllByRecursion (Near group d) ms
    → map mark (map (met_on d) ms) ≡ map mark ms
marks_later group d [] accepted near = refl
marks_later group d (m ∷ ms) accepted (near, rest) =
    let whole : Whole group m = whole_is group m.lv near.sector m accepted (meets_is group m.lv near.sector m near.meets) in
    let make : Option ℕ → ℕ × ℕ × Option ℕ = λ r. (m.lv, m.number, r) in
    ap (λ (r : Option ℕ). make r ∷ map mark (map (met_on d) ms)) (sym (leg_later group d m whole near.near).region)
    ∙ ap (λ (l : List (ℕ × ℕ × Option ℕ)). mark m ∷ l) (marks_later group d ms accepted rest)

-- so the segments and regions are the same
pub way_same : (group : Group) (lv x d : ℕ) (a : At) → IsAccepted group → x / 8 ≡ (x + d) / 8 → primary group lv x ≡ Some a
    → map mark (way group (on.Lv lv) 5 (x + d)) ≡ map mark (way group (on.Lv lv) 5 x)
unfolding primary
way_same group lv x d a accepted same here =
    ap (λ (l : List Met). map mark l) (way_later group 5 (on.Lv lv) x d a accepted same here)
    ∙ marks_later group d (way group (on.Lv lv) 5 x) accepted (way_near group 5 (on.Lv lv) x d a accepted same here)
