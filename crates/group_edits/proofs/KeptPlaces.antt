-- Where each step down from a volume is taken in another group too, the volume keeps the primary place of each sector there.
use Rattle.std.proofs.Common.{◌≡◌, ℕ, zero, suc, ◌+◌, ◌-◌, ◌*◌, List, map, Option, Some, None, refl, sym, ap, subst, ◌∙◌, arith}
use Rattle.std.specs.Prelude.{option_map, slice_get}
use Rattle.std.specs.Option.{option_and_then}
use Rattle.std.proofs.lemmas.Option.{same_Some}
use Rattle.sector_base.specs.declared.places.At.{At}
use Rattle.meta_model.specs.Runs.{legs_of}
use Rattle.meta_model.specs.declared.group.Group.{Group}
use Rattle.meta_model.specs.declared.pv.Pv.{Pv}
use Rattle.meta_model.specs.declared.segment.Leg.{Leg}
use Rattle.meta_model.specs.declared.segment.On.{On}
use Rattle.meta_model.specs.declared.segment.On.TheVariants as on
use Rattle.meta_model.specs.declared.segment.Segment.{Segment}
use Rattle.volume_view.specs.InSegments.{Met, Spot, met, primary_leg, primary_spot, segment_from}
use Rattle.volume_view.specs.Places.{down, primary}
use Rattle.volume_view.proofs.GoingDown.{GoesDown, goes_down, step_down}
use Rattle.volume_view.proofs.MetSegments.{ByLeg, Meets, by_leg, make, meets_is}
use Rattle.group_edits.proofs.Edits.{Any, OnStays, Row, any_stays}
use Rattle.group_edits.proofs.Renumbered.{same_on, segment_is_same, unchanged}
use Rattle.group_edits.proofs.RenumberedPlaces.{found_new, met_by, segment_new, spot_by, spot_renumbered}
use Rattle.group_edits.specs.Renumbered.{renumbered_segment}

-- ---- numbers

-- a volume by its other number: the first function gives that of a physical volume, the second that of a logical one
abbrev pub on_by : (ℕ → ℕ) → (ℕ → ℕ) → On → On
on_by pv_number number (on.Pv pv) = on.Pv (pv_number pv)
on_by pv_number number (on.Lv lv) = on.Lv (number lv)

-- the same place on the physical volume by its other number
abbrev pub at_by : (ℕ → ℕ) → At → At
at_by pv_number at = record { pv = pv_number at.pv; sector = at.sector }

-- ---- what stays

-- each physical volume of the group that stays is one of the other, by its other number
abbrev pub KeepsPvs : Group → Group → (ℕ → ℕ) → (ℕ → Type 0) → Type 0
KeepsPvs group new pv_number PvStays =
    (k : ℕ) (pv : List ℕ × Pv) → PvStays k → slice_get group.pvs k ≡ Some pv → slice_get new.pvs (pv_number k) ≡ Some pv

-- the step down from a sector of the volume, which leads to this spot, is taken in the other group too, and what it leads to stays
pub record IsTaken (new : Group) (pv_number number : ℕ → ℕ) (PvStays Stays : ℕ → Type 0) (lv sector : ℕ) (spot : Spot) : Type 0 where
  pub m : Met
  pub meets : met new (number lv) sector ≡ Some m
  pub is_spot : primary_spot new.extent_size m ≡ Some (spot_by (on_by pv_number number) spot)
  pub stays : OnStays PvStays Stays spot.on

-- each step from a volume that stays
abbrev pub TakesSteps : Group → Group → (ℕ → ℕ) → (ℕ → ℕ) → (ℕ → Type 0) → (ℕ → Type 0) → Type 0
TakesSteps group new pv_number number PvStays Stays =
    (lv sector : ℕ) (m : Met) (spot : Spot) → Stays lv → met group lv sector ≡ Some m → primary_spot group.extent_size m ≡ Some spot
    → IsTaken new pv_number number PvStays Stays lv sector spot

-- ---- places

module _ (group new : Group) (pv_number number : ℕ → ℕ) (PvStays Stays : ℕ → Type 0) (kept : KeepsPvs group new pv_number PvStays)
    (taken : TakesSteps group new pv_number number PvStays Stays) where
  pv_kept : (pv sector : ℕ) (at : At) → PvStays pv → (o : Option (List ℕ × Pv)) → slice_get group.pvs pv ≡ o
      → option_map (λ (p : List ℕ × Pv). record { pv = pv; sector = p.1.pe_start + sector }) o ≡ Some at
      → down new (on.Pv (pv_number pv)) zero sector ≡ Some (at_by pv_number at)
  pv_kept pv sector at stays None there is = absurd cc
  pv_kept pv sector at stays (Some row) there is =
      ap (λ (o : Option (List ℕ × Pv)). option_map (λ (p : List ℕ × Pv). record { pv = pv_number pv; sector = p.1.pe_start + sector }) o)
      (kept pv row stays there)
      ∙ ap (λ (a : At). Some (at_by pv_number a)) (same_Some (record { pv = pv; sector = row.1.pe_start + sector }) at is)

  pub down_kept : (steps : ℕ) (is_on : On) (sector : ℕ) (at : At) → OnStays PvStays Stays is_on → down group is_on steps sector ≡ Some at
      → down new (on_by pv_number number is_on) steps sector ≡ Some (at_by pv_number at)
  down_kept zero (on.Pv pv) sector at stays is = pv_kept pv sector at stays (slice_get group.pvs pv) refl is
  down_kept (suc steps) (on.Pv pv) sector at stays is = pv_kept pv sector at stays (slice_get group.pvs pv) refl is
  down_kept zero (on.Lv lv) sector at stays is = absurd cc
  down_kept (suc steps) (on.Lv lv) sector at stays is =
      let g : GoesDown group lv sector steps at = goes_down group lv sector steps at is in
      let t : IsTaken new pv_number number PvStays Stays lv sector g.spot = taken lv sector g.m g.spot stays g.meets g.is_spot in
      step_down new (number lv) sector steps t.m (spot_by (on_by pv_number number) g.spot) (at_by pv_number at) t.meets t.is_spot
      (down_kept steps g.spot.on g.spot.sector at t.stays g.rest)

  -- a volume that stays has the primary place of each sector
  pub primary_by : (lv sector : ℕ) (at : At) → Stays lv → primary group lv sector ≡ Some at
      → primary new (number lv) sector ≡ Some (at_by pv_number at)
  unfolding primary
  primary_by lv sector at stays is = down_kept 5 (on.Lv lv) sector at stays is

-- ---- rows

-- what a sector finds among the first segments it finds among the others, by the new numbers
abbrev pub FindsIn : ℕ → (On → On) → List Segment → List Segment → Type 0
FindsIn extent number was now =
    (sector k : ℕ) (s : Segment) → segment_from extent sector 0 was ≡ Some (k, s)
    → segment_from extent sector 0 now ≡ Some (k, renumbered_segment number s)

pub finds_renumbered : (extent : ℕ) (number : On → On) (segments : List Segment)
    → FindsIn extent number segments (map (renumbered_segment number) segments)
finds_renumbered extent number segments sector k s is =
    segment_new number extent sector 0 segments ∙ ap (option_map (found_new number)) is

pub finds_same : (extent : ℕ) (segments : List Segment) → FindsIn extent same_on segments segments
finds_same extent segments sector k s is = is ∙ ap (λ (x : Segment). Some (k, x)) (sym (segment_is_same s))

-- the row is one of the other group, by its other number, with its segments
abbrev pub KeepsRow : Group → (On → On) → ℕ → Row → ℕ → Type 0
KeepsRow new number extent row m =
    (now : Row) × (slice_get new.lvs m ≡ Some now) × FindsIn extent number row.1.segments now.1.segments

-- what a leg of the volume lies on stays
abbrev pub LegsStay : Group → (ℕ → Type 0) → (ℕ → Type 0) → ℕ → Type 0
LegsStay group PvStays Stays n =
    (row : Row) (s : ℕ) (segment : Segment) (j : ℕ) (leg : Leg) → slice_get group.lvs n ≡ Some row
    → slice_get row.1.segments s ≡ Some segment → slice_get (legs_of segment.kind) j ≡ Some leg → OnStays PvStays Stays leg.on

module _ (group new : Group) (number : On → On) (pv_number lv_number : ℕ → ℕ) (PvStays Stays : ℕ → Type 0)
    (pvs : KeepsPvs group new pv_number PvStays) (size : new.extent_size ≡ group.extent_size)
    (number_is : (o : On) → number o ≡ on_by pv_number lv_number o)
    (there : (n : ℕ) (row : Row) → Stays n → slice_get group.lvs n ≡ Some row → KeepsRow new number group.extent_size row (lv_number n))
    (below : (n : ℕ) → Stays n → LegsStay group PvStays Stays n) where
  met_there : (lv sector : ℕ) (m : Met) → Stays lv → Meets group lv sector m
      → met new (lv_number lv) sector ≡ Some (met_by number (lv_number lv) m)
  unfolding met
  met_there lv sector m stays meets =
      let now = there lv meets.volume stays meets.is_volume in
      let start : m.segment.start * new.extent_size ≡ m.segment.start * group.extent_size = ap (λ (e : ℕ). m.segment.start * e) size in
      let into : sector - m.segment.start * new.extent_size ≡ m.at = omega (arith, meets.at, start) in
      ap (option_and_then (λ (r : Row). option_map (make new (lv_number lv) sector) (segment_from new.extent_size sector 0 r.1.segments)))
      now.1
      ∙ ap (λ (e : ℕ). option_map (make new (lv_number lv) sector) (segment_from e sector 0 now.0.1.segments)) size
      ∙ ap (option_map (make new (lv_number lv) sector)) (now.2 sector m.number m.segment meets.is_found)
      ∙ ap (λ (at : ℕ). Some (record {
        lv = lv_number lv;
        number = m.number;
        segment = renumbered_segment number m.segment;
        at = at;
      })) into

  pub steps_taken : TakesSteps group new pv_number lv_number PvStays Stays
  steps_taken lv sector m spot stays is is_spot =
      let meets : Meets group lv sector m = meets_is group lv sector m is in
      let j : ℕ = primary_leg m.segment.count m.segment.kind m.at in
      let leg : ByLeg group m j spot = by_leg group m j spot is_spot in
      record {
        m = met_by number (lv_number lv) m;
        meets = met_there lv sector m stays meets;
        is_spot =
            ap (λ (e : ℕ). primary_spot e (met_by number (lv_number lv) m)) size
            ∙ spot_renumbered number group.extent_size (lv_number lv) m spot is_spot
            ∙ ap (λ (o : On). Some (record { on = o; sector = spot.sector })) (number_is spot.on);
        stays =
            subst (OnStays PvStays Stays) leg.on
            (below lv stays meets.volume m.number m.segment j leg.it meets.is_volume meets.is_segment leg.is_leg);
      }

  -- a volume that stays has each primary place
  pub primary_rows : (lv sector : ℕ) (at : At) → Stays lv → primary group lv sector ≡ Some at
      → primary new (lv_number lv) sector ≡ Some (at_by pv_number at)
  primary_rows lv sector at stays is = primary_by group new pv_number lv_number PvStays Stays pvs steps_taken lv sector at stays is

-- ---- the same numbers

pub on_same : (o : On) → on_by unchanged unchanged o ≡ o
on_same (on.Pv pv) = refl
on_same (on.Lv lv) = refl

-- where each volume has its own number
pub primary_same : (group new : Group) → KeepsPvs group new unchanged Any → new.extent_size ≡ group.extent_size
    → ((n : ℕ) (row : Row) → slice_get group.lvs n ≡ Some row → KeepsRow new same_on group.extent_size row n)
    → (lv sector : ℕ) (at : At) → primary group lv sector ≡ Some at → primary new lv sector ≡ Some at
primary_same group new pvs size there lv sector at is =
    primary_rows group new same_on unchanged unchanged Any Any pvs size (λ o. sym (on_same o)) (λ n row stays at. there n row at)
    (λ n stays row s segment j leg at part leg_is. any_stays leg.on) lv sector at tt is

-- ---- more physical volumes

-- the group with this number of its version and these physical volumes
abbrev pub with_pvs : Group → ℕ → List (List ℕ × Pv) → Group
with_pvs group seqno pvs = record group { seqno = seqno; pvs = pvs }

-- a group that gets physical volumes behind its own keeps each primary place
pub primary_kept : (group : Group) (seqno : ℕ) (pvs : List (List ℕ × Pv))
    → ((k : ℕ) (pv : List ℕ × Pv) → slice_get group.pvs k ≡ Some pv → slice_get pvs k ≡ Some pv)
    → (lv sector : ℕ) (at : At) → primary group lv sector ≡ Some at → primary (with_pvs group seqno pvs) lv sector ≡ Some at
primary_kept group seqno pvs kept lv sector at is =
    primary_same group (with_pvs group seqno pvs) (λ k pv stays there. kept k pv there) refl
    (λ n row there. (row, there, finds_same group.extent_size row.1.segments)) lv sector at is
