-- The segments on the way down from a sector, each with the legs that lead there.
use Rattle.std.proofs.Common.{◌≡◌, ℕ, zero, suc, Bool, true, false, cond, List, [], ◌∷◌, ◌++◌, Option, Some, sym, ap, subst, ◌∙◌}
use Rattle.std.proofs.lemmas.Option.{same_Some}
use Rattle.std.specs.Prelude.{find}
use Rattle.std.specs.List.{AllByRecursion}
use Rattle.sector_base.specs.declared.places.At.{At}
use Rattle.meta_model.specs.declared.group.Group.{Group}
use Rattle.meta_model.specs.declared.segment.On.{On}
use Rattle.meta_model.specs.declared.segment.On.TheVariants as on
use Rattle.volume_view.specs.InSegments.{Spot, Met, met, primary_leg}
use Rattle.volume_view.specs.Places.{down, way}
use Rattle.volume_view.specs.Copies.{StandsAt, Leads, HasCopyAt, sector_of}
use Rattle.volume_view.proofs.MetSegments.{Meets, meets_is}
use Rattle.volume_view.proofs.GoingDown.{leads_front, GoesDown, goes_down, stands_primary, way_is}

-- ways down join
leads_join : (group : Group) (low high : List (ℕ × ℕ)) (s mid t : Spot) → Leads group high s mid → Leads group low mid t
    → Leads group (low ++ high) s t
leads_join group [] high s mid t above below = subst (Leads group high s) below above
leads_join group (leg ∷ low) high s mid t above below =
    (below.0, below.1, leads_join group low high s mid (sector_of below.0 below.1) above below.2, below.3)

-- so a copy at the end of the lower legs is one at the end of all
pub copy_join : (group : Group) (low high : List (ℕ × ℕ)) (s mid : Spot) (at : At) → Leads group high s mid → HasCopyAt group mid low at
    → HasCopyAt group s (low ++ high) at
copy_join group low high s mid at above copy =
    record {
      into = copy.into;
      lead = leads_join group low high s mid _ above copy.lead;
      pv = copy.pv;
      is_pv = copy.is_pv;
      at_is = copy.at_is;
    }

-- a segment on the way of the primary from a spot: legs lead there, and from there on the way is the same
pub record OnWay (group : Group) (from : Spot) (at : At) (m : Met) : Type 0 where
  pub legs : List (ℕ × ℕ)
  pub sector : ℕ
  pub lead : Leads group legs from (sector_of m.lv sector)
  pub meets : met group m.lv sector ≡ Some m
  pub steps : ℕ
  pub goes : down group (on.Lv m.lv) (suc steps) sector ≡ Some at

-- what holds of the first that passes
found_first : {X : Type 0} (P : X → Type 0) (b : Bool) (y x : X) (later : Option X) → P y → (later ≡ Some x → P x)
    → cond b (Some y) later ≡ Some x → P x
found_first P true y x later here there is = subst P (same_Some y x is) here
found_first P false y x later here there is = there is

-- so what holds of all holds of the first that passes
pub found_all : {X : Type 0} (P : X → Type 0) (test : X → Bool) (xs : List X) (x : X) → AllByRecursion P xs → find test xs ≡ Some x → P x
found_all P test [] x all is = cc
found_all P test (y ∷ ys) x all is = found_first P (test y) y x (find test ys) all.0 (found_all P test ys x all.1) is

-- what is on the way from the next spot is on the way from here
above_way : (group : Group) (lv sector : ℕ) (m : Met) (spot : Spot) (at : At) (n : Met)
    → StandsAt group lv sector m.number (primary_leg m.segment.count m.segment.kind m.at) spot → OnWay group spot at n
    → OnWay group (sector_of lv sector) at n
above_way group lv sector m spot at n stands on =
    record {
      legs = on.legs ++ (m.number, primary_leg m.segment.count m.segment.kind m.at) ∷ [];
      sector = on.sector;
      lead =
          leads_front group lv sector m.number (primary_leg m.segment.count m.segment.kind m.at) on.legs spot (sector_of n.lv on.sector)
          stands on.lead;
      meets = on.meets;
      steps = on.steps;
      goes = on.goes;
    }

all_above : (group : Group) (lv sector : ℕ) (m : Met) (spot : Spot) (at : At) (ms : List Met)
    → StandsAt group lv sector m.number (primary_leg m.segment.count m.segment.kind m.at) spot → AllByRecursion (OnWay group spot at) ms
    → AllByRecursion (OnWay group (sector_of lv sector) at) ms
all_above group lv sector m spot at [] stands all = tt
all_above group lv sector m spot at (n ∷ ms) stands all =
    (above_way group lv sector m spot at n stands all.0, all_above group lv sector m spot at ms stands all.1)

-- each segment on the way is on it
pub way_all : (group : Group) (steps : ℕ) (on : On) (sector : ℕ) (at : At) → down group on steps sector ≡ Some at
    → AllByRecursion (OnWay group (record { on = on; sector = sector }) at) (way group on steps sector)
way_all group zero (on.Pv pv) sector at is = tt
way_all group (suc steps) (on.Pv pv) sector at is = tt
way_all group zero (on.Lv lv) sector at is = tt
way_all group (suc steps) (on.Lv lv) sector at is =
    let g : GoesDown group lv sector steps at = goes_down group lv sector steps at is in
    let meets : Meets group lv sector g.m = meets_is group lv sector g.m g.meets in
    let rest : AllByRecursion (OnWay group g.spot at) (way group g.spot.on steps g.spot.sector) =
    way_all group steps g.spot.on g.spot.sector at g.rest in
    let later =
    all_above group lv sector g.m g.spot at (way group g.spot.on steps g.spot.sector)
    (stands_primary group lv sector g.m g.spot g.meets g.is_spot) rest in
    let here : OnWay group (sector_of lv sector) at g.m =
    record {
      legs = [];
      sector = sector;
      lead = ap (λ (n : ℕ). sector_of n sector) (sym meets.same_lv);
      meets = ap (λ (n : ℕ). met group n sector) meets.same_lv ∙ g.meets;
      steps = steps;
      goes = ap (λ (n : ℕ). down group (on.Lv n) (suc steps) sector) meets.same_lv ∙ is;
    } in
    subst (AllByRecursion (OnWay group (sector_of lv sector) at)) (sym (way_is group lv sector steps g.m g.spot g.meets g.is_spot))
    (here, later)
