-- One step of the way down, and what it costs.
use Rattle.std.proofs.Common.{◌≡◌, ℕ, zero, suc, ◌+◌, ◌-◌, ◌*◌, ◌^◌, ◌<◌, ◌≤◌, List, [], ◌∷◌, length, Option, Some, None, refl, sym, ap}
use Rattle.std.proofs.Common.{subst, ◌∙◌, arith}
use Rattle.std.specs.Prelude.{IsSome, option_map, unwrap_or}
use Rattle.std.proofs.lemmas.Option.{same_Some}
use Rattle.sector_base.specs.declared.places.At.{At}
use Rattle.meta_model.specs.declared.group.Group.{Group}
use Rattle.meta_model.specs.declared.segment.On.{On}
use Rattle.meta_model.specs.declared.segment.On.TheVariants as on
use Rattle.volume_rules.specs.Rules.{IsAccepted}
use Rattle.volume_view.specs.InSegments.{Met, Spot, met, primary_spot}
use Rattle.volume_view.specs.Places.{down, primary, way}
use Rattle.volume_view.proofs.MetSegments.{Meets, meets_is}
use Rattle.volume_view.proofs.GoingDown.{GoesDown, goes_down, step_down, way_is}
use Rattle.volume_view.proofs.PrimariesStand.{primary_stands}
use Rattle.seg_place.specs.Cost.{TakesSteps}
use Rattle.seg_place.specs.Search.{Halves}
use Rattle.seg_place.specs.CodeValues.{IsMet}
use Rattle.seg_place.specs.Sectors.{sectors_of, segments_in}
use Rattle.seg_place.proofs.Volumes.{in_volume, lv_is_well}

-- what is there
pub the_some : {X : Type 0} (o : Option X) → IsSome o → (x : X) × (o ≡ Some x)
the_some None is = absurd (grind arith)
the_some (Some x) is = (x, refl)

pub some_is : {X : Type 0} (o : Option X) (x : X) → o ≡ Some x → IsSome o
some_is {X} o x is = subst (λ (p : Option X). IsSome p) (sym is) (grind arith)

-- a way down from a volume meets a segment of it, and goes on from the leg that is read
pub record GoesOn (group : Group) (lv sector most : ℕ) : Type 0 where
  pub some : 1 ≤ most
  pub m : Met
  pub meets : met group lv sector ≡ Some m
  pub spot : Spot
  pub is_spot : primary_spot group.extent_size m ≡ Some spot
  pub rest : IsSome (down group spot.on (most - 1) spot.sector)

goes_by : (group : Group) (lv sector most : ℕ) (at : At) → down group (on.Lv lv) most sector ≡ Some at → GoesOn group lv sector most
goes_by group lv sector zero at is = cc
goes_by group lv sector (suc steps) at is =
    let goes : GoesDown group lv sector steps at = goes_down group lv sector steps at is in
    let less : steps ≡ suc steps - 1 = omega arith in
    record {
      some = omega arith;
      m = goes.m;
      meets = goes.meets;
      spot = goes.spot;
      is_spot = goes.is_spot;
      rest =
          subst (λ (n : ℕ). IsSome (down group goes.spot.on n goes.spot.sector)) less
          (some_is (down group goes.spot.on steps goes.spot.sector) at goes.rest);
    }

pub goes_on : (group : Group) (lv sector most : ℕ) → IsSome (down group (on.Lv lv) most sector) → GoesOn group lv sector most
goes_on group lv sector most is = let one = the_some (down group (on.Lv lv) most sector) is in goes_by group lv sector most one.0 one.1

-- the segment that is met is one of the volume
pub is_met : (group : Group) (lv sector : ℕ) (m : Met) → met group lv sector ≡ Some m → IsMet group m
is_met group lv sector m is =
    let meets : Meets group lv sector m = meets_is group lv sector m is in (sector, ap (λ (n : ℕ). met group n sector) meets.same_lv ∙ is)

-- from where it has the sector the way goes on
pub goes_from : (group : Group) (lv sector most : ℕ) (m : Met) (spot : Spot) → IsSome (down group (on.Lv lv) most sector)
    → met group lv sector ≡ Some m → primary_spot group.extent_size m ≡ Some spot → IsSome (down group spot.on (most - 1) spot.sector)
goes_from group lv sector most m spot is meets there =
    let goes : GoesOn group lv sector most = goes_on group lv sector most is in
    let same : goes.m ≡ m = same_Some goes.m m (sym goes.meets ∙ meets) in
    let same' : goes.spot ≡ spot = same_Some goes.spot spot (sym goes.is_spot ∙ ap (primary_spot group.extent_size) same ∙ there) in
    subst (λ (s : Spot). IsSome (down group s.on (most - 1) s.sector)) same' goes.rest

-- to the place of the rest
pub goes_to : (group : Group) (lv sector most : ℕ) (m : Met) (spot : Spot) (at : At) → IsSome (down group (on.Lv lv) most sector)
    → met group lv sector ≡ Some m → primary_spot group.extent_size m ≡ Some spot → down group spot.on (most - 1) spot.sector ≡ Some at
    → down group (on.Lv lv) most sector ≡ Some at
goes_to group lv sector most m spot at is meets there rest =
    let some : suc (most - 1) ≡ most =
    let goes : GoesOn group lv sector most = goes_on group lv sector most is in omega (arith, goes.some) in
    ap (λ (n : ℕ). down group (on.Lv lv) n sector) (sym some) ∙ step_down group lv sector (most - 1) m spot at meets there rest

-- and meets the segment first
pub way_by : (group : Group) (lv sector most : ℕ) (m : Met) (spot : Spot) → IsSome (down group (on.Lv lv) most sector)
    → met group lv sector ≡ Some m → primary_spot group.extent_size m ≡ Some spot
    → way group (on.Lv lv) most sector ≡ m ∷ way group spot.on (most - 1) spot.sector
way_by group lv sector most m spot is meets there =
    let some : suc (most - 1) ≡ most =
    let goes : GoesOn group lv sector most = goes_on group lv sector most is in omega (arith, goes.some) in
    ap (λ (n : ℕ). way group (on.Lv lv) n sector) (sym some) ∙ way_is group lv sector (most - 1) m spot meets there

-- the steps in the volume come before those of the rest
pub takes_first : (group : Group) (lv sector : ℕ) (m : Met) (rest : List Met) (from mid to : ℕ) → met group lv sector ≡ Some m
    → Halves (segments_in group lv) from mid → TakesSteps group rest mid to → TakesSteps group (m ∷ rest) from to
takes_first group lv sector m rest from mid to meets first later =
    let is : Meets group lv sector m = meets_is group lv sector m meets in
    let sum : mid ≡ from + (mid - from) = omega (arith, first.taken) in (
      mid - from,
      subst (λ (n : ℕ). 2 ^ (mid - from) ≤ 2 * segments_in group n + 1) (sym is.same_lv) first.few,
      subst (λ (n : ℕ). TakesSteps group rest n to) sum later,
    )

-- each sector of a volume leads down to a place, and is small
pub leads_down : (group : Group) (lv sector : ℕ) → IsAccepted group → sector < sectors_of group lv → IsSome (down group (on.Lv lv) 5 sector)
unfolding primary
leads_down group lv sector accepted lt =
    let there = in_volume group lv sector lt in
    let one = primary_stands group lv sector there.0 accepted there.1 there.2 in
    some_is (down group (on.Lv lv) 5 sector) one.0 one.1

pub sector_is_small : (group : Group) (lv sector : ℕ) → IsAccepted group → sector < sectors_of group lv → sector < 2 ^ 48
sector_is_small group lv sector accepted lt =
    let there = in_volume group lv sector lt in
    omega (arith, there.2, (lv_is_well group lv there.0 accepted there.1).sectors)

-- that is the primary place
pub is_primary : (group : Group) (lv sector : ℕ) (at : At) → down group (on.Lv lv) 5 sector ≡ Some at → primary group lv sector ≡ Some at
unfolding primary
is_primary group lv sector at is = is

-- a way passes as many volumes as it may at most
way_by_spot : (group : Group) (m : Met) (steps : ℕ) (o : Option Spot) → ((s : Spot) → length (way group s.on steps s.sector) ≤ steps)
    → length (m ∷ unwrap_or (option_map (λ (s : Spot). way group s.on steps s.sector) o) []) ≤ suc steps
way_by_spot group m steps None rest = omega arith
way_by_spot group m steps (Some s) rest = omega (arith, rest s)

way_by_met : (group : Group) (steps : ℕ) (o : Option Met) → ((s : Spot) → length (way group s.on steps s.sector) ≤ steps)
    → length (unwrap_or (option_map (λ (m : Met). m
    ∷ unwrap_or (option_map (λ (s : Spot). way group s.on steps s.sector) (primary_spot group.extent_size m)) []) o) []) ≤ suc steps
way_by_met group steps None rest = omega arith
way_by_met group steps (Some m) rest = way_by_spot group m steps (primary_spot group.extent_size m) rest

pub way_is_short : (group : Group) (steps : ℕ) (to : On) (sector : ℕ) → length (way group to steps sector) ≤ steps
way_is_short group zero (on.Pv pv) sector = omega arith
way_is_short group (suc steps) (on.Pv pv) sector = omega arith
way_is_short group zero (on.Lv lv) sector = omega arith
way_is_short group (suc steps) (on.Lv lv) sector =
    way_by_met group steps (met group lv sector) (λ s. way_is_short group steps s.on s.sector)
