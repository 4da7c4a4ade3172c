-- A group in which a visible volume has its first extents alone keeps each primary place of the others, and those of the volume's
-- first sectors.
use Rattle.std.proofs.Common.{◌≡◌, ◌≤◌, ◌<◌, ℕ, zero, suc, ◌+◌, ◌-◌, ◌*◌, ◌^◌, Bool, true, false, cond, nat_le, nat_lt, List, [], ◌∷◌}
use Rattle.std.proofs.Common.{Option, Some, None, inl, inr, refl, sym, ap, subst, ◌∙◌, arith}
use Rattle.std.specs.Prelude.{option_map, slice_get, sum_by, All, Contains}
use Rattle.std.specs.Option.{option_and_then}
use Rattle.std.proofs.lemmas.Bool.{and_from, cases_lt, false≢true, le-leb, lt-ltb, true≢false}
use Rattle.std.proofs.lemmas.List.Sums.{sum_by-cons}
use Rattle.std.proofs.lemmas.Nat.{mul-le}
use Rattle.std.proofs.lemmas.Option.{same_Some, slice_get-map}
use Rattle.std.specs.Str.{bytes_eq}
use Rattle.sector_base.specs.declared.places.At.{At}
use Rattle.meta_model.specs.Runs.{legs_of}
use Rattle.meta_model.specs.declared.group.Group.{Group}
use Rattle.meta_model.specs.declared.lv.Lv.{Lv}
use Rattle.meta_model.specs.declared.segment.On.{On}
use Rattle.meta_model.specs.declared.segment.On.TheVariants as on
use Rattle.meta_model.specs.declared.segment.SegKind.{SegKind}
use Rattle.meta_model.specs.declared.segment.SegKind.TheVariants.{Mirror, Striped}
use Rattle.meta_model.specs.declared.segment.Segment.{Segment}
use Rattle.meta_print.proofs.Printable.{IsPrintable}
use Rattle.volume_rules.proofs.LegRuns.{run_of}
use Rattle.volume_rules.specs.Extents.{extents_of}
use Rattle.volume_rules.specs.Rules.{Follow, IsAccepted, MovedIsAllowed}
use Rattle.volume_rules.specs.declared.rule.Rule.TheVariants.{Follows, Moved, Pvmove}
use Rattle.volume_view.specs.InSegments.{Met, Spot, has_sector, met, offset_in, primary_leg, primary_spot, leg_spot, segment_from, spot_in}
use Rattle.volume_view.specs.Places.{down, primary}
use Rattle.volume_view.proofs.GoingDown.{GoesDown, goes_down, step_down}
use Rattle.volume_view.proofs.MetSegments.{ByLeg, Meets, all_at, by_leg, make, meets_is}
use Rattle.group_edits.proofs.EditedLegs.{hidden_below, legs_allowed}
use Rattle.group_edits.proofs.Edits.{Any, OnStays}
use Rattle.group_edits.proofs.KeptPlaces.{KeepsRow, LegsStay, TakesSteps, down_kept, finds_same, on_same, primary_by, steps_taken}
use Rattle.group_edits.proofs.OneNamed.{is_this}
use Rattle.group_edits.proofs.Renumbered.{same_on, unchanged}
use Rattle.group_edits.proofs.Selections.{contains_at}
use Rattle.group_edits.proofs.ShortFront.{cut, le_by, lt_by}
use Rattle.group_edits.specs.NextVersion.{changed_if}
use Rattle.group_edits.specs.ShortenedVolume.{front_of, shortened, shortened_volume}
use Rattle.group_edits.specs.Visible.{visible_named}

abbrev Row : Type 0
Row = List ℕ × Lv

-- ---- segments

-- at most so many extents are kept
pub front_most : (segments : List Segment) (left : ℕ) → sum_by (λ (s : Segment). s.count) (front_of segments left) ≤ left
front_most [] left = omega arith
front_most (segment ∷ segments) zero = omega arith
front_most (segment ∷ segments) (suc count) =
    by (nat_le (suc count) segment.count) refl (front_most segments (suc count - segment.count)) where
      by : (b : Bool) → nat_le (suc count) segment.count ≡ b
          → sum_by (λ (s : Segment). s.count) (front_of segments (suc count - segment.count)) ≤ suc count - segment.count
          → sum_by (λ (s : Segment). s.count) (cond b (cut segment (suc count) ∷ [])
          (segment ∷ front_of segments (suc count - segment.count)))
          ≤ suc count
      by true is later = let one = sum_by-cons (λ (s : Segment). s.count) (cut segment (suc count)) [] in omega (arith, one)
      by false is later =
          let less : segment.count < suc count = lt_by (suc count) segment.count is in
          let one = sum_by-cons (λ (s : Segment). s.count) segment (front_of segments (suc count - segment.count)) in
          omega (arith, less, later, one)

module _ (extent sector : ℕ) where
  has_it : (segment : Segment) → segment.start * extent ≤ sector → sector < (segment.start + segment.count) * extent
      → has_sector extent sector segment ≡ true
  has_it segment low high =
      and_from (nat_le (segment.start * extent) sector) (nat_lt sector ((segment.start + segment.count) * extent))
      (le-leb (segment.start * extent) sector low) (lt-ltb sector ((segment.start + segment.count) * extent) high)

  -- a sector that doesn't stand in the segment stands behind it
  past : (segment : Segment) → segment.start * extent ≤ sector → has_sector extent sector segment ≡ false
      → (segment.start + segment.count) * extent ≤ sector
  past segment low none =
      elim (cases_lt sector ((segment.start + segment.count) * extent)) [
        | inl inside ↦ absurd (false≢true (sym none ∙ has_it segment low inside))
        | inr behind ↦ behind
      ]

  -- one of the first sectors stands in the same segment, whole or cut
  front_found : (number at : ℕ) (segments : List Segment) (left k : ℕ) (s : Segment) → Follow at segments → at * extent ≤ sector
      → sector < (at + left) * extent → segment_from extent sector number segments ≡ Some (k, s)
      → (count : ℕ) × (segment_from extent sector number (front_of segments left) ≡ Some (k, cut s count))
  front_found number at [] left k s follow low high found = absurd cc
  front_found number at (segment ∷ segments) zero k s follow low high found = absurd (omega (arith, low, high))
  front_found number at (segment ∷ segments) (suc count) k s follow low high found =
      by (nat_le (suc count) segment.count) (has_sector extent sector segment) refl refl found
      (λ behind inside made. front_found (number + 1) (at + segment.count) segments (suc count - segment.count) k s follow.2 behind inside
      made)
    where
      rest : List Segment
      rest = front_of segments (suc count - segment.count)

      begins : segment.start * extent ≤ sector
      begins = subst (λ (n : ℕ). n * extent ≤ sector) (sym follow.0) low

      by : (short has : Bool) → nat_le (suc count) segment.count ≡ short → has_sector extent sector segment ≡ has
          → cond has (Some (number, segment)) (segment_from extent sector (number + 1) segments) ≡ Some (k, s)
          → ((at + segment.count) * extent ≤ sector → sector < (at + segment.count + (suc count - segment.count)) * extent
          → segment_from extent sector (number + 1) segments ≡ Some (k, s)
          → (less : ℕ) × (segment_from extent sector (number + 1) rest ≡ Some (k, cut s less)))
          → (less : ℕ) × (segment_from extent sector number (cond short (cut segment (suc count) ∷ []) (segment ∷ rest))
          ≡ Some (k, cut s less))
      by true has is has_is made later =
          let ends : sector < (segment.start + suc count) * extent =
          subst (λ (n : ℕ). sector < (n + suc count) * extent) (sym follow.0) high in
          let wider : (segment.start + suc count) * extent ≤ (segment.start + segment.count) * extent =
          (let more = le_by (suc count) segment.count is in mul-le (segment.start + suc count) extent (segment.start + segment.count) extent
          (omega (arith, more)) (omega arith))
          in
          let in_cut : has_sector extent sector (cut segment (suc count)) ≡ true = has_it (cut segment (suc count)) begins ends in
          let in_whole : has_sector extent sector segment ≡ true = has_it segment begins (omega (arith, ends, wider)) in
          let same : ◌≡◌ {A = ℕ × Segment} (number, segment) (k, s) =
          same_Some {A = ℕ × Segment} (number, segment) (k, s)
          (ap (λ (b : Bool). cond b (Some (number, segment)) (segment_from extent sector (number + 1) segments)) (sym in_whole ∙ has_is)
          ∙ made)
          in (
            suc count,
            ap (λ (b : Bool). cond b (Some (number, cut segment (suc count))) None) in_cut
                ∙ ap (λ (f : ℕ × Segment). Some (f.0, cut f.1 (suc count))) same,
          )
      by false true is has_is made later =
          (s.count, ap (λ (b : Bool). cond b (Some (number, segment)) (segment_from extent sector (number + 1) rest)) has_is ∙ made)
      by false false is has_is made later =
          let over : segment.count < suc count = lt_by (suc count) segment.count is in
          let all : at + suc count ≡ at + segment.count + (suc count - segment.count) = omega (arith, over) in
          let next =
          later (subst (λ (n : ℕ). (n + segment.count) * extent ≤ sector) follow.0 (past segment begins has_is))
          (subst (λ (n : ℕ). sector < n * extent) all high) made in
          (next.0, ap (λ (b : Bool). cond b (Some (number, segment)) (segment_from extent sector (number + 1) rest)) has_is ∙ next.1)

-- the leg that is read doesn't depend on how many extents the segment has, where it isn't one of a move
leg_same : (pvmove : Bool) (count less at : ℕ) (kind : SegKind) → pvmove ≡ false → MovedIsAllowed pvmove count kind
    → primary_leg less kind at ≡ primary_leg count kind at
leg_same pvmove count less at (Striped stripe legs) not allowed = refl
leg_same pvmove count less at (Mirror region None legs) not allowed = refl
leg_same pvmove count less at (Mirror region (Some moved) legs) not allowed = absurd (true≢false (sym allowed.0 ∙ not))

-- ---- the group

module _ (group : Group) (name : List ℕ) (left : ℕ) (v : ℕ × Lv) (accepted : IsAccepted group) (can : IsPrintable group)
    (found : visible_named group name ≡ Some v) where
  abbrev other : Group
  other = shortened_volume name left group

  abbrev new : Row → Row
  new row = changed_if name (λ (r : Row). (r.0, shortened left r.1)) row

  row_there : (n : ℕ) (row : Row) (b : Bool) → slice_get group.lvs n ≡ Some row → bytes_eq row.0 name ≡ b
      → slice_get other.lvs n ≡ Some (cond b (row.0, shortened left row.1) row)
  row_there n row b there is =
      slice_get-map new group.lvs n ∙ ap (option_map new) there
      ∙ ap (λ (same : Bool). Some (cond same (row.0, shortened left row.1) row)) is

  -- the volume has another name
  abbrev pub HasOther : ℕ → Type 0
  HasOther n = (row : Row) → slice_get group.lvs n ≡ Some row → bytes_eq row.0 name ≡ false

  module _ (seen : v.1.status.visible ≡ true) where
    -- so has each hidden one
    hidden_other : (row : Row) → Contains group.lvs row → row.1.status.visible ≡ false → bytes_eq row.0 name ≡ false
    hidden_other row within hidden = by (bytes_eq row.0 name) refl where
      by : (b : Bool) → bytes_eq row.0 name ≡ b → b ≡ false
      by true same =
          absurd (true≢false (sym (ap (λ (lv : Lv). lv.status.visible) (is_this group name v can found row within same) ∙ seen) ∙ hidden))
      by false same = refl

    -- and what a leg lies on
    legs_other : (n : ℕ) → LegsStay group Any HasOther n
    legs_other n row s segment j leg there part leg_is = by leg.on refl where
      by : (o : On) → leg.on ≡ o → OnStays Any HasOther o
      by (on.Pv pv) lies = tt
      by (on.Lv m) lies =
          let r = run_of group n row s segment j leg there part leg_is in
          let below = hidden_below group (legs_allowed group accepted) r.0 m r.1 (r.5 ∙ lies) in
          λ volume is.
          let same : below.0 ≡ volume = same_Some below.0 volume (sym below.1 ∙ is) in
          subst (λ (v : Row). bytes_eq v.0 name ≡ false) same (hidden_other below.0 (contains_at group.lvs m below.0 below.1) below.2)

    row_kept : (n : ℕ) (row : Row) → HasOther n → slice_get group.lvs n ≡ Some row → KeepsRow other same_on group.extent_size row n
    row_kept n row stays there = (row, row_there n row false there (stays row there), finds_same group.extent_size row.1.segments)

    taken : TakesSteps group other unchanged unchanged Any HasOther
    taken =
        steps_taken group other same_on unchanged unchanged Any HasOther (λ k pv stays there. there) refl (λ o. sym (on_same o)) row_kept
        (λ n stays. legs_other n)

    -- a volume of another name keeps each primary place
    pub primary_others : (n sector : ℕ) (at : At) → HasOther n → primary group n sector ≡ Some at → primary other n sector ≡ Some at
    primary_others n sector at stays is =
        primary_by group other unchanged unchanged Any HasOther (λ k pv stays there. there) taken n sector at stays is

    step_other : (n sector : ℕ) (m : Met) (spot : Spot) → Meets group n sector m → primary_spot group.extent_size m ≡ Some spot
        → OnStays Any HasOther spot.on
    step_other n sector m spot meets is_spot =
        let j : ℕ = primary_leg m.segment.count m.segment.kind m.at in
        let leg : ByLeg group m j spot = by_leg group m j spot is_spot in
        subst (OnStays Any HasOther) leg.on
        (legs_other n meets.volume m.number m.segment j leg.it meets.is_volume meets.is_segment leg.is_leg)

    -- what is met in a row
    abbrev met_in : ℕ → ℕ → Row → Option Met
    met_in n sector row = option_map (make group n sector) (segment_from group.extent_size sector 0 row.1.segments)

    -- ---- the shorter one

    -- a visible volume isn't the PVMOVE volume
    not_pvmove : (n : ℕ) (row : Row) → slice_get group.lvs n ≡ Some row → row.1.status.visible ≡ true → row.1.status.pvmove ≡ false
    not_pvmove n row there visible = by row.1.status.pvmove refl where
      by : (b : Bool) → row.1.status.pvmove ≡ b → b ≡ false
      by true has = absurd (true≢false (sym visible ∙ ((accepted Pvmove).whole n row.0 row.1 there has).hidden))
      by false has = refl

    module _ (n : ℕ) (row : Row) (there : slice_get group.lvs n ≡ Some row) (same : bytes_eq row.0 name ≡ true) where
      abbrev met_cut : Met → ℕ → Met
      met_cut m count = record { lv = n; number = m.number; segment = cut m.segment count; at = m.at }

      met_front : (sector count : ℕ) (m : Met) → Meets group n sector m
          → segment_from group.extent_size sector 0 (front_of row.1.segments left) ≡ Some (m.number, cut m.segment count)
          → met other n sector ≡ Some (met_cut m count)
      unfolding met
      met_front sector count m meets is =
          let into : sector - m.segment.start * group.extent_size ≡ m.at = omega (arith, meets.at) in
          ap (option_and_then (met_in n sector)) (row_there n row true there same)
          ∙ ap (option_map (make group n sector)) is
          ∙ ap (λ (at : ℕ). Some (record { lv = n; number = m.number; segment = cut m.segment count; at = at })) into

      spot_front : (count : ℕ) (m : Met) (spot : Spot)
          → primary_leg count m.segment.kind m.at ≡ primary_leg m.segment.count m.segment.kind m.at
          → primary_spot group.extent_size m ≡ Some spot → primary_spot group.extent_size (met_cut m count) ≡ Some spot
      unfolding leg_spot
      spot_front count m spot leg is =
          ap (λ (j : ℕ). option_map (spot_in group.extent_size (offset_in m.segment.kind m.at)) (slice_get (legs_of m.segment.kind) j)) leg
          ∙ is

      visible : row.1.status.visible ≡ true
      visible = ap (λ (lv : Lv). lv.status.visible) (is_this group name v can found row (contains_at group.lvs n row there) same) ∙ seen

      down_front : (sector : ℕ) (at : At) → sector < left * group.extent_size → down group (on.Lv n) 5 sector ≡ Some at
          → down other (on.Lv n) 5 sector ≡ Some at
      down_front sector at less is =
          let g : GoesDown group n sector 4 at = goes_down group n sector 4 at is in
          let m : Met = g.m in
          let meets : Meets group n sector m = meets_is group n sector m g.meets in
          let volume : meets.volume ≡ row = same_Some meets.volume row (sym meets.is_volume ∙ there) in
          let follow : Follow 0 row.1.segments =
          (all_at (λ (r : Row). Follow 0 r.1.segments × (extents_of r.1 * group.extent_size < 2 ^ 48)) group.lvs n row
          (accepted Follows) there).0 in
          let is_found : segment_from group.extent_size sector 0 row.1.segments ≡ Some (m.number, m.segment) =
          subst (λ (r : Row). segment_from group.extent_size sector 0 r.1.segments ≡ Some (m.number, m.segment)) volume meets.is_found
          in
          let is_segment : slice_get row.1.segments m.number ≡ Some m.segment =
          subst (λ (r : Row). slice_get r.1.segments m.number ≡ Some m.segment) volume meets.is_segment in
          let front =
          front_found group.extent_size sector 0 0 row.1.segments left m.number m.segment follow (omega arith)
          (subst (λ (k : ℕ). sector < k * group.extent_size) (omega arith) less) is_found in
          let allowed : MovedIsAllowed row.1.status.pvmove m.segment.count m.segment.kind =
          all_at (λ (s : Segment). MovedIsAllowed row.1.status.pvmove s.count s.kind) row.1.segments m.number m.segment
          (all_at (λ (r : Row). All (λ (s : Segment). MovedIsAllowed r.1.status.pvmove s.count s.kind) r.1.segments) group.lvs n row
          (accepted Moved) there) is_segment
          in
          let leg : primary_leg front.0 m.segment.kind m.at ≡ primary_leg m.segment.count m.segment.kind m.at =
          leg_same row.1.status.pvmove m.segment.count front.0 m.at m.segment.kind (not_pvmove n row there visible) allowed
          in
          step_down other n sector 4 (met_cut m front.0) g.spot at (met_front sector front.0 m meets front.1)
          (spot_front front.0 m g.spot leg g.is_spot)
          (ap (λ (o : On). down other o 4 g.spot.sector) (sym (on_same g.spot.on))
          ∙ down_kept group other unchanged unchanged Any HasOther (λ k pv stays stands. stands) taken 4 g.spot.on g.spot.sector at
          (step_other n sector m g.spot meets g.is_spot) g.rest)

      -- it keeps those of its first sectors
      pub primary_front : (sector : ℕ) (at : At) → sector < left * group.extent_size → primary group n sector ≡ Some at
          → primary other n sector ≡ Some at
      unfolding primary
      primary_front sector at less is = down_front sector at less is
