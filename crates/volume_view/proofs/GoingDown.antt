-- The way down by the legs that are read: one step, and the place to which it leads as a copy.
use Rattle.std.proofs.Common.{◌≡◌, ℕ, zero, suc, ◌+◌, List, [], ◌∷◌, ◌++◌, Option, Some, None, refl, sym, ap, subst, ◌∙◌}
use Rattle.std.proofs.lemmas.Option.{same_Some}
use Rattle.std.specs.Prelude.{slice_get, option_map, unwrap_or}
use Rattle.std.specs.Option.{option_and_then}
use Rattle.sector_base.specs.declared.places.At.{At}
use Rattle.meta_model.specs.declared.group.Group.{Group}
use Rattle.meta_model.specs.declared.pv.Pv.{Pv}
use Rattle.meta_model.specs.declared.segment.SegKind.{SegKind}
use Rattle.meta_model.specs.declared.segment.SegKind.TheVariants.{Striped, Mirror}
use Rattle.meta_model.specs.declared.segment.On.{On}
use Rattle.meta_model.specs.declared.segment.On.TheVariants as on
use Rattle.volume_view.specs.InSegments.{Spot, Met, HasSectorInLeg, met, primary_leg, primary_spot}
use Rattle.volume_view.specs.Places.{down, way}
use Rattle.volume_view.specs.Copies.{StandsAt, Leads, HasCopyAt, sector_of}

-- one leg more above
pub leads_front : (group : Group) (lv sector segment leg : ℕ) (legs : List (ℕ × ℕ)) (mid t : Spot)
    → StandsAt group lv sector segment leg mid → Leads group legs mid t → Leads group (legs ++ (segment, leg) ∷ []) (sector_of lv sector) t
leads_front group lv sector segment leg [] mid t stands rest = (lv, sector, refl, subst (StandsAt group lv sector segment leg) rest stands)
leads_front group lv sector segment leg (l ∷ legs) mid t stands rest =
    (rest.0, rest.1, leads_front group lv sector segment leg legs mid (sector_of rest.0 rest.1) stands rest.2, rest.3)

-- so a copy of the sector below is one of the sector above
pub copy_front : (group : Group) (lv sector segment leg : ℕ) (legs : List (ℕ × ℕ)) (mid : Spot) (at : At)
    → StandsAt group lv sector segment leg mid → HasCopyAt group mid legs at
    → HasCopyAt group (sector_of lv sector) (legs ++ (segment, leg) ∷ []) at
copy_front group lv sector segment leg legs mid at stands copy =
    record {
      into = copy.into;
      lead = leads_front group lv sector segment leg legs mid _ stands copy.lead;
      pv = copy.pv;
      is_pv = copy.is_pv;
      at_is = copy.at_is;
    }

-- the primary leg has the sector
primary_has : (count : ℕ) (kind : SegKind) (l : ℕ) → HasSectorInLeg kind l (primary_leg count kind l)
primary_has count (Striped stripe legs) l = refl
primary_has count (Mirror region moved legs) l = tt

-- one step of the way down
pub record GoesDown (group : Group) (lv sector steps : ℕ) (at : At) : Type 0 where
  pub m : Met
  pub meets : met group lv sector ≡ Some m
  pub spot : Spot
  pub is_spot : primary_spot group.extent_size m ≡ Some spot
  pub rest : down group spot.on steps spot.sector ≡ Some at

goes_to : (group : Group) (lv sector steps : ℕ) (at : At) (m : Met) (o : Option Spot) → met group lv sector ≡ Some m
    → primary_spot group.extent_size m ≡ o
    → option_and_then (λ (s : Spot). down group s.on steps s.sector) o ≡ Some at → GoesDown group lv sector steps at
goes_to group lv sector steps at m None meets is none = cc
goes_to group lv sector steps at m (Some spot) meets is rest = record { m = m; meets = meets; spot = spot; is_spot = is; rest = rest }

goes_from : (group : Group) (lv sector steps : ℕ) (at : At) (o : Option Met) → met group lv sector ≡ o
    → option_and_then (λ (m : Met). option_and_then (λ (s : Spot). down group s.on steps s.sector) (primary_spot group.extent_size m)) o
    ≡ Some at → GoesDown group lv sector steps at
goes_from group lv sector steps at None meets none = cc
goes_from group lv sector steps at (Some m) meets rest =
    goes_to group lv sector steps at m (primary_spot group.extent_size m) meets refl rest

-- each way down through a volume takes such a step
pub goes_down : (group : Group) (lv sector steps : ℕ) (at : At) → down group (on.Lv lv) (suc steps) sector ≡ Some at
    → GoesDown group lv sector steps at
goes_down group lv sector steps at is = goes_from group lv sector steps at (met group lv sector) refl is

-- by the leg that is read a sector stands where that leg has it
pub stands_primary : (group : Group) (lv sector : ℕ) (m : Met) (spot : Spot) → met group lv sector ≡ Some m
    → primary_spot group.extent_size m ≡ Some spot
    → StandsAt group lv sector m.number (primary_leg m.segment.count m.segment.kind m.at) spot
stands_primary group lv sector m spot meets is =
    record { in_segment = m; meets = meets; number = refl; in_leg = primary_has m.segment.count m.segment.kind m.at; there = is }

-- a physical volume's sector
on_pv : (group : Group) (pv sector : ℕ) (at : At) (o : Option (List ℕ × Pv)) → slice_get group.pvs pv ≡ o
    → option_map (λ (p : List ℕ × Pv). record { pv = pv; sector = p.1.pe_start + sector }) o ≡ Some at
    → HasCopyAt group (record { on = on.Pv pv; sector = sector }) [] at
on_pv group pv sector at None is none = cc
on_pv group pv sector at (Some p) is so =
    let here : ℕ → ℕ → At = λ v x. record { pv = v; sector = x } in
    let same : here pv (p.1.pe_start + sector) ≡ at = same_Some (here pv (p.1.pe_start + sector)) at so in
    let number : pv ≡ at.pv = ap (λ (a : At). a.pv) same in
    let spot : ℕ → Spot = λ v. record { on = on.Pv v; sector = sector } in
    record {
      into = sector;
      lead = ap spot number;
      pv = p;
      is_pv = ap (λ (n : ℕ). slice_get group.pvs n) (sym number) ∙ is;
      at_is = sym (ap (λ (a : At). a.sector) same);
    }

-- the place to which primaries lead has a copy, by some legs
pub down_has_copy : (group : Group) (steps : ℕ) (on : On) (sector : ℕ) (at : At) → down group on steps sector ≡ Some at
    → (legs : List (ℕ × ℕ)) × HasCopyAt group (record { on = on; sector = sector }) legs at
down_has_copy group zero (on.Pv pv) sector at is = ([], on_pv group pv sector at (slice_get group.pvs pv) refl is)
down_has_copy group (suc steps) (on.Pv pv) sector at is = ([], on_pv group pv sector at (slice_get group.pvs pv) refl is)
down_has_copy group zero (on.Lv lv) sector at is = cc
down_has_copy group (suc steps) (on.Lv lv) sector at is =
    let g : GoesDown group lv sector steps at = goes_down group lv sector steps at is in
    let rest = down_has_copy group steps g.spot.on g.spot.sector at g.rest in (
      rest.0 ++ (g.m.number, primary_leg g.m.segment.count g.m.segment.kind g.m.at) ∷ [],
      copy_front group lv sector g.m.number (primary_leg g.m.segment.count g.m.segment.kind g.m.at) rest.0 g.spot at
          (stands_primary group lv sector g.m g.spot g.meets g.is_spot) rest.1,
    )

-- the segments that a step meets first
abbrev from_spot : Group → ℕ → Option Spot → List Met
from_spot group steps o = unwrap_or (option_map (λ (s : Spot). way group s.on steps s.sector) o) []

-- on a step down from a volume
pub way_is : (group : Group) (lv sector steps : ℕ) (m : Met) (spot : Spot) → met group lv sector ≡ Some m
    → primary_spot group.extent_size m ≡ Some spot → way group (on.Lv lv) (suc steps) sector ≡ m ∷ way group spot.on steps spot.sector
way_is group lv sector steps m spot meets is =
    ap (λ (o : Option Met). unwrap_or (option_map (λ (x : Met). x ∷ from_spot group steps (primary_spot group.extent_size x)) o) []) meets
    ∙ ap (λ (o : Option Spot). m ∷ from_spot group steps o) is

-- one step down from what is known of it
pub step_down : (group : Group) (lv sector steps : ℕ) (m : Met) (spot : Spot) (at : At) → met group lv sector ≡ Some m
    → primary_spot group.extent_size m ≡ Some spot → down group spot.on steps spot.sector ≡ Some at
    → down group (on.Lv lv) (suc steps) sector ≡ Some at
step_down group lv sector steps m spot at meets is rest =
    ap (λ (o : Option Met). option_and_then (λ (x : Met). option_and_then (λ (s : Spot). down group s.on steps s.sector)
    (primary_spot group.extent_size x)) o) meets
    ∙ ap (λ (o : Option Spot). option_and_then (λ (s : Spot). down group s.on steps s.sector) o) is
    ∙ rest
