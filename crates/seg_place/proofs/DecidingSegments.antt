-- The segment that decides the places of a sector.
use Rattle.std.proofs.Common.{◌≡◌, ℕ, zero, suc, ◌+◌, ◌-◌, ◌*◌, Bool, true, false, cond, IsTrue, List, [], ◌∷◌, Option, Some, None, refl}
use Rattle.std.proofs.Common.{sym, ap, subst, ◌∙◌, arith}
use Rattle.std.specs.Prelude.{if◌then◌else◌, IsSome, find, option_map, slice_get, unwrap_or}
use Rattle.std.specs.Option.{option_and_then}
use Rattle.sector_base.specs.declared.places.At.{At}
use Rattle.meta_model.specs.declared.group.Group.{Group}
use Rattle.meta_model.specs.declared.lv.Lv.{Lv}
use Rattle.meta_model.specs.declared.segment.On.{On}
use Rattle.meta_model.specs.declared.segment.On.TheVariants as on
use Rattle.volume_rules.specs.Legs.{LiesOn}
use Rattle.volume_rules.specs.Moving.{has_pvmove, leads_to_pvmove}
use Rattle.volume_rules.specs.declared.rule.Rule.TheVariants.{Depth}
use Rattle.volume_rules.specs.Rules.{IsAccepted, IsMoving, IsPvmove}
use Rattle.volume_rules.proofs.LegRuns.{contains_first, contains_later}
use Rattle.volume_rules.proofs.MovingVolumes.{moving_is}
use Rattle.volume_view.specs.InSegments.{Met, Spot, leg_spot, met, offset_in, primary_leg}
use Rattle.volume_view.specs.Places.{Places, deciding, down, mirror_of, others_at, places, primary, way}
use Rattle.volume_view.proofs.CopiesApart.{same_number}
use Rattle.volume_view.proofs.MetSegments.{ByLeg, Meets, by_leg, meets_is}
use Rattle.volume_view.proofs.OnTheWay.{OnWay, way_all}
use Rattle.volume_view.proofs.OthersApart.{find_if}
use Rattle.volume_view.proofs.PrimariesStand.{LeadsOn, ToLv, ToPv, leads_on}
use Rattle.seg_place.specs.CodeValues.{IsMet}
use Rattle.seg_place.specs.Sought.{is_sought}
use Rattle.seg_place.specs.declared.deciding.Sought.TheVariants.{Move, Mirror}
use Rattle.seg_place.proofs.Descending.{GoesOn, goes_on, the_some, way_by}

true_is : (b : Bool) → b ≡ true → IsTrue b
true_is true is = grind arith
true_is false is = cc

-- a volume that has PVMOVE is the PVMOVE volume
pvmove_of : (group : Group) (lv : ℕ) (o : Option (List ℕ × Lv)) → slice_get group.lvs lv ≡ o
    → unwrap_or (option_map (λ (v : List ℕ × Lv). v.1.status.pvmove) o) false ≡ true → IsPvmove group lv
pvmove_of group lv None is has = cc
pvmove_of group lv (Some v) is has = (v.1, (v.0, is), true_is v.1.status.pvmove has)

-- a leg of a segment that is met leads on
pub leads_by : (group : Group) (lv sector : ℕ) (m : Met) (j : ℕ) (spot : Spot) → IsAccepted group → met group lv sector ≡ Some m
    → leg_spot group.extent_size m j ≡ Some spot → LeadsOn group lv spot
leads_by group lv sector m j spot accepted meets there =
    let leg : ByLeg group m j spot = by_leg group m j spot there in
    let make : On → ℕ → Spot = λ o x. record { on = o; sector = x } in
    let same : make leg.it.on (leg.it.first * group.extent_size + offset_in m.segment.kind m.at) ≡ spot =
    ap (λ (o : On). make o (leg.it.first * group.extent_size + offset_in m.segment.kind m.at)) leg.on ∙ ap (make spot.on) leg.at in
    subst (LeadsOn group lv) same (leads_on group lv sector m j leg.it accepted (meets_is group lv sector m meets) leg.is_leg)

lies_by : (group : Group) (lv : ℕ) (spot : Spot) (below : ℕ) → LeadsOn group lv spot → spot.on ≡ on.Lv below → LiesOn group lv below
lies_by group lv spot below (ToPv number pv on is lt) there = cc
lies_by group lv spot below (ToLv number volume on is lt lies) there =
    subst (LiesOn group lv) (same_number number below (sym on ∙ there)) lies

-- the test of a segment of the PVMOVE volume
abbrev moves : Group → Met → Bool
moves group m = has_pvmove group m.lv

-- a volume above a moving one is moving
moving_above : (group : Group) (lv below : ℕ) → LiesOn group lv below → IsMoving group below → IsMoving group lv
moving_above group lv below lies moving =
    (below ∷ moving.0, (lies, moving.1), (moving.2.0, contains_later lv moving.2.0 (below ∷ moving.0) moving.2.1, moving.2.2))

-- what a segment first on the way says of its volume, and what the rest says
rest_moves : (group : Group) (lv : ℕ) (to : On) (most sector : ℕ) (m : Met) → ((below : ℕ) → to ≡ on.Lv below → LiesOn group lv below)
    → ((below : ℕ) → to ≡ on.Lv below → find (moves group) (way group (on.Lv below) most sector) ≡ Some m → IsMoving group below)
    → find (moves group) (way group to most sector) ≡ Some m → IsMoving group lv
rest_moves group lv (on.Pv pv) most sector m lies later is = cc
rest_moves group lv (on.Lv below) most sector m lies later is = moving_above group lv below (lies below refl) (later below refl is)

first_moves : (group : Group) (lv : ℕ) (n m : Met) (to : On) (most sector : ℕ) (b : Bool) → moves group n ≡ b → n.lv ≡ lv
    → ((below : ℕ) → to ≡ on.Lv below → LiesOn group lv below)
    → ((below : ℕ) → to ≡ on.Lv below → find (moves group) (way group (on.Lv below) most sector) ≡ Some m → IsMoving group below)
    → cond b (Some n) (find (moves group) (way group to most sector)) ≡ Some m → IsMoving group lv
first_moves group lv n m to most sector true test same lies later is =
    ([], tt, (lv, contains_first lv [], subst (IsPvmove group) same (pvmove_of group n.lv (slice_get group.lvs n.lv) refl test)))
first_moves group lv n m to most sector false test same lies later is = rest_moves group lv to most sector m lies later is

-- where the way down meets a segment of the PVMOVE volume, the volume is moving
way_moves : (group : Group) (most lv sector : ℕ) (m : Met) → IsAccepted group → IsSome (down group (on.Lv lv) most sector)
    → find (moves group) (way group (on.Lv lv) most sector) ≡ Some m → IsMoving group lv
way_moves group zero lv sector m accepted leads is = cc
way_moves group (suc most) lv sector m accepted leads is =
    let goes : GoesOn group lv sector (suc most) = goes_on group lv sector (suc most) leads in
    let less : suc most - 1 ≡ most = omega arith in
    let here : way group (on.Lv lv) (suc most) sector ≡ goes.m ∷ way group goes.spot.on most goes.spot.sector =
    way_by group lv sector (suc most) goes.m goes.spot leads goes.meets goes.is_spot
    ∙ ap (λ (n : ℕ). goes.m ∷ way group goes.spot.on n goes.spot.sector) less in
    let meets : Meets group lv sector goes.m = meets_is group lv sector goes.m goes.meets in
    let rest : IsSome (down group goes.spot.on most goes.spot.sector) =
    subst (λ (n : ℕ). IsSome (down group goes.spot.on n goes.spot.sector)) less goes.rest in
    let leg : ℕ = primary_leg goes.m.segment.count goes.m.segment.kind goes.m.at in
    let lies : LeadsOn group lv goes.spot = leads_by group lv sector goes.m leg goes.spot accepted goes.meets goes.is_spot in
    first_moves group lv goes.m m goes.spot.on most goes.spot.sector (moves group goes.m) refl meets.same_lv
    (λ below there. lies_by group lv goes.spot below lies there)
    (λ below there found. way_moves group most below goes.spot.sector m accepted
    (subst (λ (o : On). IsSome (down group o most goes.spot.sector)) there rest) found)
    (sym (ap (find (moves group)) here) ∙ is)

-- so such a segment decides
pub moving_decides : (group : Group) (lv sector : ℕ) (m : Met) → IsAccepted group → IsSome (down group (on.Lv lv) 5 sector)
    → find (is_sought group Move) (way group (on.Lv lv) 5 sector) ≡ Some m → deciding group lv sector ≡ Some m
unfolding deciding
moving_decides group lv sector m accepted leads is =
    let moving : leads_to_pvmove group 4 lv ≡ true =
    (moving_is group lv (accepted Depth)).1 (way_moves group 5 lv sector m accepted leads is) in
    ap (λ (b : Bool). cond b (find (is_sought group Move) (way group (on.Lv lv) 5 sector))
    (find (is_sought group Mirror) (way group (on.Lv lv) 5 sector))) moving ∙ is

-- where there is none, the first mirror does, unless the volume is moving
pub mirror_decides : (group : Group) (lv sector : ℕ) → find (is_sought group Move) (way group (on.Lv lv) 5 sector) ≡ None
    → (if leads_to_pvmove group 4 lv then None else find (is_sought group Mirror) (way group (on.Lv lv) 5 sector))
    ≡ deciding group lv sector
unfolding deciding
mirror_decides group lv sector none =
    ap (λ (o : Option Met). cond (leads_to_pvmove group 4 lv) o (find (is_sought group Mirror) (way group (on.Lv lv) 5 sector))) (sym none)

-- the segment that decides is met on the way
pub deciding_is_met : (group : Group) (lv sector : ℕ) (m : Met) → IsSome (down group (on.Lv lv) 5 sector)
    → deciding group lv sector ≡ Some m → IsMet group m
unfolding deciding
deciding_is_met group lv sector m leads is =
    let one = the_some (down group (on.Lv lv) 5 sector) leads in
    let on_way : OnWay group (record { on = on.Lv lv; sector = sector }) one.0 m =
    find_if (OnWay group (record { on = on.Lv lv; sector = sector }) one.0) (leads_to_pvmove group 4 lv) (is_sought group Move)
    (is_sought group Mirror) (way group (on.Lv lv) 5 sector) m
    (way_all group 5 (on.Lv lv) sector one.0 one.1) is in
    (on_way.sector, on_way.meets)

-- the places by the primary one and the segment that decides
pub places_by : (group : Group) (lv sector : ℕ) (at : At) (o : Option Met) → primary group lv sector ≡ Some at
    → deciding group lv sector ≡ o → places group lv sector
    ≡ Some (record { primary = at; others = others_at group o; mirror = option_and_then mirror_of o })
unfolding places
places_by group lv sector at o is decides =
    let make : At → Option Met → Places = λ a d. record { primary = a; others = others_at group d; mirror = option_and_then mirror_of d } in
    ap (λ (p : Option At). option_map (λ (a : At). make a (deciding group lv sector)) p) is
    ∙ ap (λ (d : Option Met). Some (make at d)) decides
