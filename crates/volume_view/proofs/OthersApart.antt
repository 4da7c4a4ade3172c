-- The primary place of a sector is no other leg's place, of the same sector or of another.
use Rattle.std.proofs.Common.{◌≡◌, ℕ, zero, suc, ◌+◌, ◌*◌, Bool, true, false, cond, List, [], ◌∷◌, ◌++◌, length, get_or, Option, Some, None}
use Rattle.std.proofs.Common.{refl, sym, ap, subst, ◌∙◌, arith, length-append, append_assoc}
use Rattle.std.proofs.Math.Seq.{get_or-append_seam}
use Rattle.std.proofs.lemmas.Bool.{eq-eqb, false≢true}
use Rattle.std.proofs.lemmas.Option.{same_Some}
use Rattle.std.proofs.lemmas.List.Elements.{All-from_recursion, All-contains}
use Rattle.std.specs.Prelude.{Contains, slice_get, option_map, unwrap_or, find, filter_map, ◌==◌, if◌then◌else◌}
use Rattle.std.specs.Option.{option_and_then}
use Rattle.std.specs.List.{AllByRecursion, enumerate_from, cons_option}
use Rattle.sector_base.specs.declared.places.At.{At}
use Rattle.meta_model.specs.declared.group.Group.{Group}
use Rattle.meta_model.specs.declared.segment.SegKind.{SegKind}
use Rattle.meta_model.specs.declared.segment.SegKind.TheVariants.{Striped, Mirror}
use Rattle.meta_model.specs.declared.segment.Leg.{Leg}
use Rattle.meta_model.specs.Runs.{legs_of}
use Rattle.meta_model.specs.declared.segment.On.TheVariants as on
use Rattle.volume_rules.specs.Rules.{IsAccepted}
use Rattle.volume_rules.specs.Moving.{has_pvmove, leads_to_pvmove}
use Rattle.volume_view.specs.InSegments.{Spot, Met, HasSectorInLeg, primary_leg, leg_spot, spot_in, offset_in, is_mirror, region_of}
use Rattle.volume_view.specs.Places.{MirrorAt, Places, down, way, primary, deciding, mirror_of, others_of, others_at, places}
use Rattle.volume_view.specs.Copies.{StandsAt, HasCopyAt, sector_of}
use Rattle.volume_view.proofs.CopiesApart.{IsFree, SameWay, copies_apart}
use Rattle.volume_view.proofs.GoingDown.{copy_front, GoesDown, goes_down, stands_primary, down_has_copy}
use Rattle.volume_view.proofs.OnTheWay.{copy_join, OnWay, found_all, way_all}

-- the place of another leg
pub record OfOtherLeg (group : Group) (m : Met) (at : At) : Type 0 where
  pub leg : ℕ
  pub it : Leg
  pub not_primary : leg ≡ primary_leg m.segment.count m.segment.kind m.at → ⊥
  pub is_leg : slice_get (legs_of m.segment.kind) leg ≡ Some it
  pub goes : down group it.on 5 (it.first * group.extent_size + offset_in m.segment.kind m.at) ≡ Some at

abbrev other_at : Group → Met → ℕ × Leg → Option At
other_at group m leg =
    if leg.0 == primary_leg m.segment.count m.segment.kind m.at
    then None
    else down group leg.1.on 5 (leg.1.first * group.extent_size + offset_in m.segment.kind m.at)

-- each element of what is kept
other_first : (group : Group) (m : Met) (n : ℕ) (leg : Leg) (b : Bool) (o : Option At)
    → (n == primary_leg m.segment.count m.segment.kind m.at) ≡ b
    → down group leg.on 5 (leg.first * group.extent_size + offset_in m.segment.kind m.at) ≡ o
    → slice_get (legs_of m.segment.kind) n ≡ Some leg → (more : List At) → AllByRecursion (OfOtherLeg group m) more
    → AllByRecursion (OfOtherLeg group m) (cons_option (cond b None o) more)
other_first group m n leg true o test goes is more all = all
other_first group m n leg false None test goes is more all = all
other_first group m n leg false (Some at) test goes is more all = (
  record {
    leg = n;
    it = leg;
    not_primary =
        λ same. let t : (n == primary_leg m.segment.count m.segment.kind m.at)
        ≡ true = eq-eqb n (primary_leg m.segment.count m.segment.kind m.at) same in false≢true (sym test ∙ t);
    is_leg = is;
    goes = goes;
  },
  all,
)

others_all : (group : Group) (m : Met) (n : ℕ) (legs : List Leg)
    → ((k : ℕ) (leg : Leg) → slice_get legs k ≡ Some leg → slice_get (legs_of m.segment.kind) (n + k) ≡ Some leg)
    → AllByRecursion (OfOtherLeg group m) (filter_map (other_at group m) (enumerate_from n legs))
others_all group m n [] at = tt
others_all group m n (leg ∷ legs) at =
    other_first group m n leg (n == primary_leg m.segment.count m.segment.kind m.at)
    (down group leg.on 5 (leg.first * group.extent_size + offset_in m.segment.kind m.at)) refl refl
    (subst (λ (k : ℕ). slice_get (legs_of m.segment.kind) k ≡ Some leg) (omega arith) (at zero leg refl))
    (filter_map (other_at group m) (enumerate_from (n + 1) legs))
    (others_all group m (n + 1) legs (λ k l is. subst (λ (i : ℕ). slice_get (legs_of m.segment.kind) i ≡ Some l) (omega arith)
    (at (suc k) l is)))

-- each of the others is the place of another leg
pub others_are : (group : Group) (m : Met) → AllByRecursion (OfOtherLeg group m) (others_of group m)
others_are group m =
    others_all group m 0 (legs_of m.segment.kind)
    (λ k leg is. subst (λ (i : ℕ). slice_get (legs_of m.segment.kind) i ≡ Some leg) (omega arith) is)

-- a mirror segment that has a region is one of kind mirror: each of its legs has the sector
in_any_leg : (count : ℕ) (kind : SegKind) (l leg k : ℕ) → region_of count kind l ≡ Some k → HasSectorInLeg kind l leg
in_any_leg count (Striped stripe legs) l leg k is = cc
in_any_leg count (Mirror region moved legs) l leg k is = tt

-- two ways that go on differently from one place are different
parted : (p q : List (ℕ × ℕ)) (a b : ℕ × ℕ) (rest : List (ℕ × ℕ)) → p ++ (a ∷ rest) ≡ q ++ (b ∷ rest) → a ≡ b
parted p q a b rest same =
    let long : length p ≡ length q =
    omega (arith, ap (λ (l : List (ℕ × ℕ)). length l) same, length-append p (a ∷ rest), length-append q (b ∷ rest)) in
    sym (get_or-append_seam p a rest a) ∙ ap (λ (l : List (ℕ × ℕ)). get_or l (length p) a) same
    ∙ ap (λ (k : ℕ). get_or (q ++ (b ∷ rest)) k a) long ∙ get_or-append_seam q b rest a

-- the primary place of a sector that lies in no leg is no other leg's place of a sector that lies in none
pub other_apart : (group : Group) (s s' : Spot) (at at' : At) (m : Met) (k : ℕ) → IsAccepted group → IsFree group s → IsFree group s'
    → (legs : List (ℕ × ℕ)) → HasCopyAt group s legs at
    → (s ≡ s' → at ≡ at') → OnWay group s' at' m → region_of m.segment.count m.segment.kind m.at ≡ Some k → OfOtherLeg group m at → ⊥
unfolding leg_spot
other_apart group s s' at at' m k accepted free free' legs copy same on is other =
    let spot : Spot = spot_in group.extent_size (offset_in m.segment.kind m.at) other.it in
    let stands : StandsAt group m.lv on.sector m.number other.leg spot =
    record {
      in_segment = m;
      meets = on.meets;
      number = refl;
      in_leg = in_any_leg m.segment.count m.segment.kind m.at other.leg k is;
      there = ap (λ (o : Option Leg). option_map (spot_in group.extent_size (offset_in m.segment.kind m.at)) o) other.is_leg;
    } in
    let low = down_has_copy group 5 other.it.on (other.it.first * group.extent_size + offset_in m.segment.kind m.at) at other.goes in
    let from_m : HasCopyAt group (sector_of m.lv on.sector) (low.0 ++ (m.number, other.leg) ∷ []) at =
    copy_front group m.lv on.sector m.number other.leg low.0 spot at stands low.1 in
    let whole : HasCopyAt group s' ((low.0 ++ (m.number, other.leg) ∷ []) ++ on.legs) at =
    copy_join group (low.0 ++ (m.number, other.leg) ∷ []) on.legs s' (sector_of m.lv on.sector) at on.lead from_m in
    let one : SameWay s s' legs ((low.0 ++ (m.number, other.leg) ∷ []) ++ on.legs) =
    copies_apart group s s' legs ((low.0 ++ (m.number, other.leg) ∷ []) ++ on.legs) at accepted free free' copy whole in
    let g : GoesDown group m.lv on.sector on.steps at' = goes_down group m.lv on.sector on.steps at' on.goes in
    let rest = down_has_copy group on.steps g.spot.on g.spot.sector at' g.rest in
    let prim : ℕ = primary_leg g.m.segment.count g.m.segment.kind g.m.at in
    let of_primary : HasCopyAt group (sector_of m.lv on.sector) (rest.0 ++ (g.m.number, prim) ∷ []) at' =
    copy_front group m.lv on.sector g.m.number prim rest.0 g.spot at' (stands_primary group m.lv on.sector g.m g.spot g.meets g.is_spot)
    rest.1 in
    let primary_copy : HasCopyAt group s' ((rest.0 ++ (g.m.number, prim) ∷ []) ++ on.legs) at =
    subst (λ (a : At). HasCopyAt group s' ((rest.0 ++ (g.m.number, prim) ∷ []) ++ on.legs) a) (sym (same one.0))
    (copy_join group (rest.0 ++ (g.m.number, prim) ∷ []) on.legs s' (sector_of m.lv on.sector) at' on.lead of_primary) in
    let two : SameWay s' s' ((rest.0 ++ (g.m.number, prim) ∷ []) ++ on.legs) ((low.0 ++ (m.number, other.leg) ∷ []) ++ on.legs) =
    copies_apart group s' s' ((rest.0 ++ (g.m.number, prim) ∷ []) ++ on.legs) ((low.0 ++ (m.number, other.leg) ∷ []) ++ on.legs) at accepted
    free' free' primary_copy whole in
    let pair : ◌≡◌ {A = ℕ × ℕ} (g.m.number, prim) (m.number, other.leg) =
    parted rest.0 low.0 (g.m.number, prim) (m.number, other.leg) on.legs
    (sym (append_assoc rest.0 ((g.m.number, prim) ∷ []) on.legs) ∙ two.1 ∙ append_assoc low.0 ((m.number, other.leg) ∷ []) on.legs) in
    let same_m : g.m ≡ m = same_Some g.m m (sym g.meets ∙ on.meets) in
    let legs_same : prim ≡ other.leg = ap (λ (p : ℕ × ℕ). p.1) pair in
    other.not_primary (sym legs_same ∙ ap (λ (x : Met). primary_leg x.segment.count x.segment.kind x.at) same_m)

region_is : (m : Met) (o : Option ℕ) (at : At) (others : List At) → region_of m.segment.count m.segment.kind m.at ≡ o
    → Contains (unwrap_or (option_map (λ (k : MirrorAt). others)
    (option_map (λ (k : ℕ). record { lv = m.lv; segment = m.number; region = k }) o)) []) at
    → (k : ℕ) × (region_of m.segment.count m.segment.kind m.at ≡ Some k) × Contains others at
region_is m None at others is within = absurd (omega (arith, within.1))
region_is m (Some k) at others is within = (k, is, within)

deciding_is : (group : Group) (o : Option Met) (at : At) → Contains (others_at group o) at
    → (m : Met) × (o ≡ Some m) × ((k : ℕ) × (region_of m.segment.count m.segment.kind m.at ≡ Some k) × Contains (others_of group m) at)
deciding_is group None at within = absurd (omega (arith, within.1))
deciding_is group (Some m) at within =
    (m, refl, region_is m (region_of m.segment.count m.segment.kind m.at) at (others_of group m) refl within)

-- what holds of all holds of the first that passes either test
pub find_if : {X : Type 0} (P : X → Type 0) (b : Bool) (p q : X → Bool) (xs : List X) (x : X) → AllByRecursion P xs
    → (cond b (find p xs) (find q xs)) ≡ Some x → P x
find_if P true p q xs x all is = found_all P p xs x all is
find_if P false p q xs x all is = found_all P q xs x all is

deciding_on_way : (group : Group) (lv sector : ℕ) (at : At) (m : Met) → primary group lv sector ≡ Some at
    → deciding group lv sector ≡ Some m → OnWay group (sector_of lv sector) at m
unfolding deciding primary
deciding_on_way group lv sector at m here is =
    find_if (OnWay group (sector_of lv sector) at) (leads_to_pvmove group 4 lv) (λ (x : Met). has_pvmove group x.lv)
    (λ (x : Met). is_mirror x.segment.kind) (way group (on.Lv lv) 5 sector) m
    (way_all group 5 (on.Lv lv) sector at here) is

-- what stands in the places of a sector
pub record PlacesAre (group : Group) (lv sector : ℕ) (p : Places) : Type 0 where
  pub is_primary : primary group lv sector ≡ Some p.primary
  pub others : p.others ≡ others_at group (deciding group lv sector)
  pub mirror : p.mirror ≡ option_and_then mirror_of (deciding group lv sector)

places_from : (group : Group) (lv sector : ℕ) (p : Places) (o : Option At) → primary group lv sector ≡ o
    → option_map (λ (at : At). record {
      primary = at;
      mirror = option_and_then mirror_of (deciding group lv sector);
      others = others_at group (deciding group lv sector);
    }) o ≡ Some p → PlacesAre group lv sector p
places_from group lv sector p None is none = cc
places_from group lv sector p (Some at) is so =
    let made : Places =
    record {
      primary = at;
      mirror = option_and_then mirror_of (deciding group lv sector);
      others = others_at group (deciding group lv sector);
    } in
    let same : made ≡ p = same_Some made p so in
    record {
      is_primary = is ∙ ap (λ (x : Places). Some x.primary) same;
      others = sym (ap (λ (x : Places). x.others) same);
      mirror = sym (ap (λ (x : Places). x.mirror) same);
    }

-- that holds of what `places` answers
pub places_are : (group : Group) (lv sector : ℕ) (p : Places) → places group lv sector ≡ Some p → PlacesAre group lv sector p
unfolding places
places_are group lv sector p is = places_from group lv sector p (primary group lv sector) refl is

primary_same : (group : Group) (s s' : Spot) (at at' : At) → down group s.on 5 s.sector ≡ Some at → down group s'.on 5 s'.sector ≡ Some at'
    → s ≡ s' → at ≡ at'
primary_same group s s' at at' here there same = same_Some at at' (sym here ∙ ap (λ (x : Spot). down group x.on 5 x.sector) same ∙ there)

-- the primary place of a sector that lies in no leg is no place of another leg, of that sector or of another one that
-- lies in no leg
pub primary_is_no_other : (group : Group) (lv lv' sector sector' : ℕ) (at : At) (p : Places) → IsAccepted group
    → IsFree group (sector_of lv sector) → IsFree group (sector_of lv' sector')
    → primary group lv sector ≡ Some at → places group lv' sector' ≡ Some p → Contains p.others at → ⊥
unfolding primary
primary_is_no_other group lv lv' sector sector' at p accepted free free' here there within =
    let are : PlacesAre group lv' sector' p = places_are group lv' sector' p there in
    let d = deciding_is group (deciding group lv' sector') at (subst (λ (l : List At). Contains l at) are.others within) in
    let on_way : OnWay group (sector_of lv' sector') p.primary d.0 = deciding_on_way group lv' sector' p.primary d.0 are.is_primary d.1 in
    let other : OfOtherLeg group d.0 at =
    All-contains (OfOtherLeg group d.0) (others_of group d.0) at
    (All-from_recursion (OfOtherLeg group d.0) (others_of group d.0) (others_are group d.0)) d.2.2 in
    let copy = down_has_copy group 5 (on.Lv lv) sector at here in
    other_apart group (sector_of lv sector) (sector_of lv' sector') at p.primary d.0 d.2.0 accepted free free' copy.0 copy.1
    (λ same. primary_same group (sector_of lv sector) (sector_of lv' sector') at p.primary here are.is_primary same) on_way d.2.1 other
