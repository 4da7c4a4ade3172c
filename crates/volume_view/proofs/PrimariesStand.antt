-- In an accepted group each sector of a volume has a primary place, through at most five volumes, itself counted.
use Rattle.std.proofs.Common.{◌≡◌, ℕ, zero, suc, ◌+◌, ◌*◌, ◌/◌, ◌^◌, ◌<◌, ◌≤◌, Bool, true, false, cond, nat_le, nat_lt, List, [], ◌∷◌}
use Rattle.std.proofs.Common.{length, Option, Some, inl, inr, refl, sym, ap, subst, ◌∙◌, arith}
use Rattle.std.proofs.lemmas.Bool.{cases_lt, cases_eq, and_from, le-leb, lt-ltb, false≢true}
use Rattle.std.proofs.lemmas.Nat.{mod_below, mul-le}
use Rattle.std.proofs.lemmas.List.Elements.{All-contains}
use Rattle.std.proofs.lemmas.List.Sums.{sum_by-cons}
use Rattle.std.specs.Prelude.{All, Contains, slice_get, option_map, sum_by}
use Rattle.std.specs.Option.{option_and_then}
use Rattle.sector_base.specs.declared.places.At.{At}
use Rattle.meta_model.specs.declared.group.Group.{Group}
use Rattle.meta_model.specs.declared.pv.Pv.{Pv}
use Rattle.meta_model.specs.declared.lv.Lv.{Lv}
use Rattle.meta_model.specs.declared.segment.Segment.{Segment}
use Rattle.meta_model.specs.declared.segment.SegKind.{SegKind}
use Rattle.meta_model.specs.declared.segment.SegKind.TheVariants.{Striped, Mirror}
use Rattle.meta_model.specs.declared.segment.Leg.{Leg}
use Rattle.meta_model.specs.declared.segment.On.{On}
use Rattle.meta_model.specs.Runs.{legs_of}
use Rattle.meta_model.specs.declared.segment.On.TheVariants as on
use Rattle.volume_rules.specs.Extents.{extents_of, leg_share}
use Rattle.volume_rules.specs.Legs.{LegRun, runs_of, LiesOn, IsWayDown}
use Rattle.volume_rules.specs.declared.rule.Rule.TheVariants.{Follows, Stripes, Mirrors, Within, Depth}
use Rattle.volume_rules.specs.Rules.{IsAccepted, Follow, IsWholeStriped, IsWholeMirror, LiesWithin, DepthIsAtMostThree}
use Rattle.volume_rules.proofs.LegRuns.{run_of}
use Rattle.volume_view.specs.InSegments.{Met, Spot, met, segment_from, has_sector, leg_spot, spot_in, offset_in, primary_leg, primary_spot}
use Rattle.volume_view.specs.InSegments.{stripe_leg, is_finished}
use Rattle.volume_view.specs.Places.{down, primary}
use Rattle.volume_view.proofs.GoingDown.{step_down}
use Rattle.volume_view.proofs.MetSegments.{all_at, Meets, meets_is, make}
use Rattle.volume_view.proofs.OneAbove.{within_share}
use Rattle.volume_view.proofs.Stripes.{more_leg}

-- a sector of segments that follow each other is in one of them
abbrev IsFound : ℕ → ℕ → ℕ → List Segment → Type 0
IsFound extent sector number segments = (f : ℕ × Segment) × (segment_from extent sector number segments ≡ Some f)

found_or : (extent sector number : ℕ) (s : Segment) (segments : List Segment) (b : Bool) → has_sector extent sector s ≡ b
    → (b ≡ false → IsFound extent sector (number + 1) segments)
    → (f : ℕ × Segment) × (cond b (Some (number, s)) (segment_from extent sector (number + 1) segments) ≡ Some f)
found_or extent sector number s segments true has later = ((number, s), refl)
found_or extent sector number s segments false has later = later refl

has_one : (extent sector number at : ℕ) (segments : List Segment) → Follow at segments → at * extent ≤ sector
    → sector < (at + sum_by (λ (s : Segment). s.count) segments) * extent → IsFound extent sector number segments
has_one extent sector number at [] follow low high = absurd (omega arith)
has_one extent sector number at (s ∷ segments) follow low high =
    let start : s.start ≡ at = follow.0 in
    let low' : s.start * extent ≤ sector = subst (λ (n : ℕ). n * extent ≤ sector) (sym start) low in
    found_or extent sector number s segments (has_sector extent sector s) refl
    (λ none.
    elim (cases_lt sector ((s.start + s.count) * extent)) [
      | inl inside ↦
          let test : has_sector extent sector s ≡ true =
          and_from (nat_le (s.start * extent) sector) (nat_lt sector ((s.start + s.count) * extent))
          (le-leb (s.start * extent) sector low') (lt-ltb sector ((s.start + s.count) * extent) inside) in
          absurd (false≢true (sym none ∙ test))
      | inr past ↦
          has_one extent sector (number + 1) (at + s.count) segments follow.2
          (subst (λ (n : ℕ). (n + s.count) * extent ≤ sector) start past)
          (subst (λ (n : ℕ). sector < n * extent) (omega (arith, sum_by-cons (λ (x : Segment). x.count) s segments)) high)
    ])

-- a sector of a volume is in a segment of it
meets_one : (group : Group) (lv : ℕ) (volume : List ℕ × Lv) (sector : ℕ) → IsAccepted group → slice_get group.lvs lv ≡ Some volume
    → sector < extents_of volume.1 * group.extent_size → (m : Met) × (met group lv sector ≡ Some m)
unfolding met
meets_one group lv volume sector accepted is lt =
    let follow =
    all_at (λ (v : List ℕ × Lv). Follow 0 v.1.segments × (extents_of v.1 * group.extent_size < 2 ^ 48)) group.lvs lv volume
    (accepted Follows) is in
    let one : IsFound group.extent_size sector 0 volume.1.segments =
    has_one group.extent_size sector 0 0 volume.1.segments follow.0 (omega arith)
    (subst (λ (n : ℕ). sector < n * group.extent_size) (omega arith) lt) in (
      make group lv sector one.0,
      ap (λ (o : Option (List ℕ × Lv)). option_and_then
          (λ (v : List ℕ × Lv). option_map (make group lv sector) (segment_from group.extent_size sector 0 v.1.segments)) o) is
          ∙ ap (λ (o : Option (ℕ × Segment)). option_map (make group lv sector) o) one.1,
    )

-- the primary leg is one of the segment's
primary_is_leg : (extent count : ℕ) (kind : SegKind) (l : ℕ) → IsWholeStriped extent count kind → IsWholeMirror kind
    → primary_leg count kind l < length (legs_of kind)
primary_is_leg extent count (Striped stripe legs) l whole mirror =
    elim (cases_eq (length legs) 1) [
      | inl one ↦
          subst (λ (k : ℕ). k < length legs) (sym (ap (λ (n : ℕ). stripe_leg stripe n l) one)) (omega arith)
      | inr more ↦
          subst (λ (k : ℕ). k < length legs) (sym (more_leg stripe (length legs) l more))
          (mod_below (l / stripe) (length legs) (omega (arith, whole.0)))
    ]
primary_is_leg extent count (Mirror region moved legs) l whole mirror =
    first_or_second (is_finished count moved) (length legs) mirror.0 where
      first_or_second : (b : Bool) (n : ℕ) → 2 ≤ n → cond b 1 0 < n
      first_or_second true n two = omega arith
      first_or_second false n two = omega arith

-- what the rules say of a segment that a sector meets
pub record Whole (group : Group) (m : Met) : Type 0 where
  pub striped : IsWholeStriped group.extent_size m.segment.count m.segment.kind
  pub mirror : IsWholeMirror m.segment.kind

-- that holds in an accepted group
pub whole_is : (group : Group) (lv sector : ℕ) (m : Met) → IsAccepted group → Meets group lv sector m → Whole group m
whole_is group lv sector m accepted meets =
    record {
      striped =
          all_at (λ (s : Segment). IsWholeStriped group.extent_size s.count s.kind) meets.volume.1.segments m.number m.segment
          (all_at (λ (v : List ℕ × Lv). All (λ s. IsWholeStriped group.extent_size s.count s.kind) v.1.segments) group.lvs lv meets.volume
          (accepted Stripes) meets.is_volume)
          meets.is_segment;
      mirror =
          all_at (λ (s : Segment). IsWholeMirror s.kind) meets.volume.1.segments m.number m.segment
          (all_at (λ (v : List ℕ × Lv). All (λ s. IsWholeMirror s.kind) v.1.segments) group.lvs lv meets.volume (accepted Mirrors)
          meets.is_volume)
          meets.is_segment;
    }

-- a leg of the segment leads to a sector of a physical volume, or to one of a volume on which this one lies
pub data LeadsOn (group : Group) (lv : ℕ) (spot : Spot) : Type 0 where
  ToPv : (number : ℕ) (pv : List ℕ × Pv) → spot.on ≡ on.Pv number → slice_get group.pvs number ≡ Some pv
      → spot.sector < pv.1.pe_count * group.extent_size → LeadsOn group lv spot
  ToLv : (number : ℕ) (volume : List ℕ × Lv) → spot.on ≡ on.Lv number → slice_get group.lvs number ≡ Some volume
      → spot.sector < extents_of volume.1 * group.extent_size → LiesOn group lv number → LeadsOn group lv spot

leads_on_from : (group : Group) (lv : ℕ) (run : LegRun) (spot : Spot) (on : On) → run.on ≡ on → spot.on ≡ on → Contains (runs_of group) run
    → run.lv ≡ lv → LiesWithin group on (run.first + run.count) → spot.sector < (run.first + run.count) * group.extent_size
    → LeadsOn group lv spot
leads_on_from group lv run spot (on.Pv number) is is' in_runs same within lt =
    let short : (run.first + run.count) * group.extent_size ≤ within.1.pe_count * group.extent_size =
    mul-le (run.first + run.count) group.extent_size within.1.pe_count group.extent_size within.3 (omega arith) in
    ToPv number (within.0, within.1) is' within.2 (omega arith)
leads_on_from group lv run spot (on.Lv number) is is' in_runs same within lt =
    let short : (run.first + run.count) * group.extent_size ≤ extents_of within.0 * group.extent_size =
    mul-le (run.first + run.count) group.extent_size (extents_of within.0) group.extent_size within.2 (omega arith) in
    ToLv number (within.1.0, within.0) is' within.1.1 (omega arith) (run, in_runs, same, is)

-- each leg does in an accepted group
pub leads_on : (group : Group) (lv sector : ℕ) (m : Met) (j : ℕ) (leg : Leg) → IsAccepted group → Meets group lv sector m
    → slice_get (legs_of m.segment.kind) j ≡ Some leg → LeadsOn group lv (spot_in group.extent_size (offset_in m.segment.kind m.at) leg)
leads_on group lv sector m j leg accepted meets is =
    let whole : Whole group m = whole_is group lv sector m accepted meets in
    let r = run_of group lv meets.volume m.number m.segment j leg meets.is_volume meets.is_segment is in
    let run : LegRun = r.0 in
    let within : LiesWithin group run.on (run.first + run.count) =
    All-contains (λ (x : LegRun). LiesWithin group x.on (x.first + x.count)) (runs_of group) run (accepted Within) r.1 in
    let share : ℕ = leg_share m.segment.count m.segment.kind in
    let short : offset_in m.segment.kind m.at < share * group.extent_size =
    within_share group.extent_size m.segment.count m.segment.kind m.at whole.striped meets.within in
    let below : leg.first * group.extent_size + offset_in m.segment.kind m.at < (leg.first + share) * group.extent_size = omega arith in
    leads_on_from group lv run (spot_in group.extent_size (offset_in m.segment.kind m.at) leg) run.on refl (sym r.5) r.1 r.2 within
    (subst (λ (n : ℕ). leg.first * group.extent_size + offset_in m.segment.kind m.at < n * group.extent_size) (omega (arith, r.6, r.7))
    below)

-- the element with a number below the length
has_at : {X : Type 0} (xs : List X) (k : ℕ) → k < length xs → (x : X) × (slice_get xs k ≡ Some x)
has_at [] k lt = absurd (omega arith)
has_at (x ∷ xs) zero lt = (x, refl)
has_at (x ∷ xs) (suc k) lt = has_at xs k (omega arith)

-- the primary leg's spot
has_primary : (group : Group) (m : Met) → Whole group m
    → (leg : Leg) × (slice_get (legs_of m.segment.kind) (primary_leg m.segment.count m.segment.kind m.at) ≡ Some leg)
    × (primary_spot group.extent_size m ≡ Some (spot_in group.extent_size (offset_in m.segment.kind m.at) leg))
unfolding leg_spot
has_primary group m whole =
    let one =
    has_at (legs_of m.segment.kind) (primary_leg m.segment.count m.segment.kind m.at)
    (primary_is_leg group.extent_size m.segment.count m.segment.kind m.at whole.striped whole.mirror) in
    (one.0, one.1, ap (λ (o : Option Leg). option_map (spot_in group.extent_size (offset_in m.segment.kind m.at)) o) one.1)

-- every way down from the volume has at most so many volumes
abbrev pub IsWithin : Group → ℕ → ℕ → Type 0
IsWithin group steps lv = (way : List ℕ) → IsWayDown group (lv ∷ way) → length (lv ∷ way) ≤ steps

down_rest : (group : Group) (steps lv : ℕ) (spot : Spot) → IsAccepted group → LeadsOn group lv spot → IsWithin group (suc steps) lv
    → ((number sector : ℕ) (volume : List ℕ × Lv) → slice_get group.lvs number ≡ Some volume
    → sector < extents_of volume.1 * group.extent_size → IsWithin group steps number
    → (at : At) × (down group (on.Lv number) steps sector ≡ Some at))
    → (at : At) × (down group spot.on steps spot.sector ≡ Some at)
down_rest group steps lv spot accepted (ToPv number pv on is lt) within below =
    let at : At = record { pv = number; sector = pv.1.pe_start + spot.sector } in (
      at,
      ap (λ (o : On). down group o steps spot.sector) on
          ∙ ap (λ (o : Option (List ℕ × Pv)). option_map (λ (p : List ℕ × Pv). record { pv = number; sector = p.1.pe_start + spot.sector })
          o)
          is,
    )
down_rest group steps lv spot accepted (ToLv number volume on is lt lies) within below =
    let rest =
    below number spot.sector volume is lt (λ way down_way. let longer : length (lv ∷ number ∷ way)
    ≤ suc steps = within (number ∷ way) (lies, down_way) in omega arith) in
    (rest.0, ap (λ (o : On). down group o steps spot.sector) on ∙ rest.1)

-- such a way down comes to a physical volume, where no way is longer
pub down_stands : (group : Group) (steps lv sector : ℕ) (volume : List ℕ × Lv) → IsAccepted group → slice_get group.lvs lv ≡ Some volume
    → sector < extents_of volume.1 * group.extent_size → IsWithin group steps lv
    → (at : At) × (down group (on.Lv lv) steps sector ≡ Some at)
down_stands group zero lv sector volume accepted is lt within = let one : length (lv ∷ []) ≤ 0 = within [] tt in absurd (omega arith)
down_stands group (suc steps) lv sector volume accepted is lt within =
    let one = meets_one group lv volume sector accepted is lt in
    let meets : Meets group lv sector one.0 = meets_is group lv sector one.0 one.1 in
    let p = has_primary group one.0 (whole_is group lv sector one.0 accepted meets) in
    let spot : Spot = spot_in group.extent_size (offset_in one.0.segment.kind one.0.at) p.0 in
    let rest =
    down_rest group steps lv spot accepted (leads_on group lv sector one.0 (primary_leg one.0.segment.count one.0.segment.kind one.0.at)
    p.0 accepted meets p.1) within
    (λ number x v here below bound. down_stands group steps number x v accepted here below bound) in
    (rest.0, step_down group lv sector steps one.0 spot rest.0 one.1 p.2 rest.1)

-- no way from a volume has more than five, itself counted
pub five : (group : Group) (lv : ℕ) → DepthIsAtMostThree group → IsWithin group 5 lv
five group lv depth way is = let h : length way ≤ 4 = depth.ends lv way is in omega arith

-- each sector of a volume has a primary place
pub primary_stands : (group : Group) (lv sector : ℕ) (volume : List ℕ × Lv) → IsAccepted group → slice_get group.lvs lv ≡ Some volume
    → sector < extents_of volume.1 * group.extent_size → (at : At) × (primary group lv sector ≡ Some at)
unfolding primary
primary_stands group lv sector volume accepted is lt = down_stands group 5 lv sector volume accepted is lt (five group lv (accepted Depth))

-- each leg of a segment has a place for each sector of it
pub leg_stands : (group : Group) (lv sector : ℕ) (m : Met) (j : ℕ) (leg : Leg) → IsAccepted group → met group lv sector ≡ Some m
    → slice_get (legs_of m.segment.kind) j ≡ Some leg
    → (at : At) × (down group leg.on 5 (leg.first * group.extent_size + offset_in m.segment.kind m.at) ≡ Some at)
leg_stands group lv sector m j leg accepted meets is =
    down_rest group 5 lv (spot_in group.extent_size (offset_in m.segment.kind m.at) leg) accepted
    (leads_on group lv sector m j leg accepted (meets_is group lv sector m meets) is)
    (λ way is'. let h : length (lv ∷ way) ≤ 5 = five group lv (accepted Depth) way is' in omega arith)
    (λ number x v here below bound. down_stands group 5 number x v accepted here below bound)
