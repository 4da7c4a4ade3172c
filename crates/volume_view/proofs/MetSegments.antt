-- What is known of the segment that has a sector, and of the leg by which the sector stands one level below.
use Rattle.std.proofs.Common.{◌≡◌, ℕ, zero, suc, ◌+◌, ◌-◌, ◌*◌, ◌<◌, ◌≤◌, Bool, true, false, cond, nat_le, nat_lt, List, [], ◌∷◌, Option}
use Rattle.std.proofs.Common.{Some, None, refl, sym, ap, subst, ◌∙◌, arith}
use Rattle.std.proofs.lemmas.Bool.{and_parts, leb-true, ltb-true}
use Rattle.std.proofs.lemmas.Option.{same_Some, slice_get_within, get_or_from_slice_get}
use Rattle.std.specs.Prelude.{All, slice_get, option_map}
use Rattle.std.specs.Option.{option_and_then}
use Rattle.meta_model.specs.declared.group.Group.{Group}
use Rattle.meta_model.specs.declared.lv.Lv.{Lv}
use Rattle.meta_model.specs.declared.segment.Segment.{Segment}
use Rattle.meta_model.specs.declared.segment.Leg.{Leg}
use Rattle.meta_model.specs.Runs.{legs_of}
use Rattle.volume_view.specs.InSegments.{Met, Spot, met, segment_from, has_sector, leg_spot, spot_in, offset_in}

-- what holds of all elements holds of the one with this number
pub all_at : {X : Type 0} (P : X → Type 0) (xs : List X) (k : ℕ) (x : X) → All P xs → slice_get xs k ≡ Some x → P x
all_at P xs k x all is = subst P (get_or_from_slice_get xs k x x is) (all k x (slice_get_within xs k x is))

-- what is known of the segment that has a sector: it is one of the volume, the first that has it, and the sector stands in it
pub record Meets (group : Group) (lv sector : ℕ) (m : Met) : Type 0 where
  pub volume : List ℕ × Lv
  pub is_volume : slice_get group.lvs lv ≡ Some volume
  pub is_segment : slice_get volume.1.segments m.number ≡ Some m.segment
  pub is_found : segment_from group.extent_size sector 0 volume.1.segments ≡ Some (m.number, m.segment)
  pub same_lv : m.lv ≡ lv
  pub at : m.segment.start * group.extent_size + m.at ≡ sector
  pub within : m.at < m.segment.count * group.extent_size

-- what is found among segments
abbrev Finds : ℕ → ℕ → ℕ → List Segment → ℕ → Segment → Type 0
Finds extent sector number segments k s = (i : ℕ) × (k ≡ number + i) × (slice_get segments i ≡ Some s) × (has_sector extent sector s ≡ true)

found_if : (extent sector number : ℕ) (x : Segment) (segments : List Segment) (k : ℕ) (s : Segment) (b : Bool)
    → has_sector extent sector x ≡ b
    → (segment_from extent sector (number + 1) segments ≡ Some (k, s) → Finds extent sector (number + 1) segments k s)
    → cond b (Some (number, x)) (segment_from extent sector (number + 1) segments) ≡ Some (k, s)
    → Finds extent sector number (x ∷ segments) k s
found_if extent sector number x segments k s true has rest is =
    let pair : ◌≡◌ {A = ℕ × Segment} (number, x) (k, s) = same_Some {A = ℕ × Segment} (number, x) (k, s) is in
    let same : x ≡ s = ap (λ (p : ℕ × Segment). p.1) pair in
    let place : number ≡ k = ap (λ (p : ℕ × Segment). p.0) pair in
    (zero, omega arith, ap (λ (y : Segment). Some y) same, subst (λ (y : Segment). has_sector extent sector y ≡ true) same has)
found_if extent sector number x segments k s false has rest is =
    let later = rest is in
    (suc later.0, omega (arith, later.1), later.2, later.3)

found : (extent sector number : ℕ) (segments : List Segment) (k : ℕ) (s : Segment)
    → segment_from extent sector number segments ≡ Some (k, s) → Finds extent sector number segments k s
found extent sector number [] k s is = cc
found extent sector number (x ∷ segments) k s is =
    found_if extent sector number x segments k s (has_sector extent sector x) refl (found extent sector (number + 1) segments k s) is

-- what `met` makes of what is found
abbrev pub make : Group → ℕ → ℕ → ℕ × Segment → Met
make group lv sector f = record { lv = lv; number = f.0; segment = f.1; at = sector - f.1.start * group.extent_size }

at_segment : (group : Group) (lv sector : ℕ) (m : Met) (volume : List ℕ × Lv) → slice_get group.lvs lv ≡ Some volume
    → (o : Option (ℕ × Segment)) → segment_from group.extent_size sector 0 volume.1.segments ≡ o
    → option_map (make group lv sector) o ≡ Some m → Meets group lv sector m
at_segment group lv sector m volume here None is' none = cc
at_segment group lv sector m volume here (Some f) is' so =
    let same : make group lv sector f ≡ m = same_Some (make group lv sector f) m so in
    let place = found group.extent_size sector 0 volume.1.segments f.0 f.1 is' in
    let parts =
    and_parts (nat_le (f.1.start * group.extent_size) sector) (nat_lt sector ((f.1.start + f.1.count) * group.extent_size)) place.3 in
    let low : f.1.start * group.extent_size ≤ sector = leb-true (f.1.start * group.extent_size) sector parts.0 in
    let high : sector < (f.1.start + f.1.count) * group.extent_size =
    ltb-true sector ((f.1.start + f.1.count) * group.extent_size) parts.1 in
    let number : place.0 ≡ f.0 = omega (arith, place.1) in
    subst (Meets group lv sector) same
    (record {
      volume = volume;
      is_volume = here;
      is_segment = ap (λ (k : ℕ). slice_get volume.1.segments k) (sym number) ∙ place.2;
      is_found = is';
      same_lv = refl;
      at = omega arith;
      within = omega arith;
    })

at_volume : (group : Group) (lv sector : ℕ) (m : Met) (o : Option (List ℕ × Lv)) → slice_get group.lvs lv ≡ o
    → option_and_then (λ (volume : List ℕ × Lv). option_map (make group lv sector)
    (segment_from group.extent_size sector 0 volume.1.segments)) o ≡ Some m → Meets group lv sector m
at_volume group lv sector m None here none = cc
at_volume group lv sector m (Some volume) here so =
    at_segment group lv sector m volume here (segment_from group.extent_size sector 0 volume.1.segments) refl so

-- that holds of what `met` answers
pub meets_is : (group : Group) (lv sector : ℕ) (m : Met) → met group lv sector ≡ Some m → Meets group lv sector m
unfolding met
meets_is group lv sector m is = at_volume group lv sector m (slice_get group.lvs lv) refl is

-- the leg by which a sector stands at a spot
pub record ByLeg (group : Group) (m : Met) (leg : ℕ) (spot : Spot) : Type 0 where
  pub it : Leg
  pub is_leg : slice_get (legs_of m.segment.kind) leg ≡ Some it
  pub on : it.on ≡ spot.on
  pub at : it.first * group.extent_size + offset_in m.segment.kind m.at ≡ spot.sector

at_leg : (group : Group) (m : Met) (leg : ℕ) (spot : Spot) (o : Option Leg) → slice_get (legs_of m.segment.kind) leg ≡ o
    → option_map (spot_in group.extent_size (offset_in m.segment.kind m.at)) o ≡ Some spot → ByLeg group m leg spot
at_leg group m leg spot None here none = cc
at_leg group m leg spot (Some it) here so =
    let same : spot_in group.extent_size (offset_in m.segment.kind m.at) it ≡ spot =
    same_Some (spot_in group.extent_size (offset_in m.segment.kind m.at) it) spot so in
    record { it = it; is_leg = here; on = ap (λ (s : Spot). s.on) same; at = ap (λ (s : Spot). s.sector) same }

-- that holds of where a leg has the sector
pub by_leg : (group : Group) (m : Met) (leg : ℕ) (spot : Spot) → leg_spot group.extent_size m leg ≡ Some spot → ByLeg group m leg spot
unfolding leg_spot
by_leg group m leg spot is = at_leg group m leg spot (slice_get (legs_of m.segment.kind) leg) refl is
