-- Where a new logical volume begins: its first eight sectors stand side by side at the first leg of its first segment, in extents
-- that were free.
use Rattle.std.proofs.Common.{◌≡◌, ◌≤◌, ◌<◌, ◌⊎◌, ℕ, ◌+◌, ◌-◌, ◌*◌, ◌/◌, ◌%◌, Bool, true, cond, nat_le, nat_lt, List, [], ◌∷◌, ◌++◌, length}
use Rattle.std.proofs.Common.{map, Option, Some, inl, inr, refl, sym, ap, subst, ◌∙◌, arith}
use Rattle.std.specs.Prelude.{option_map, slice_get, slice_index, All}
use Rattle.std.specs.Option.{option_and_then}
use Rattle.std.proofs.lemmas.Bool.{and_from, cases_eq, le-leb, lt-ltb}
use Rattle.std.proofs.lemmas.List.Elements.{All-head}
use Rattle.std.proofs.lemmas.Nat.{div-add-mod', div_below, mul-le}
use Rattle.std.proofs.lemmas.Option.{same_Some, slice_get-map}
use Rattle.sector_base.specs.declared.places.At.{At}
use Rattle.meta_model.specs.Runs.{legs_of}
use Rattle.meta_model.specs.declared.group.Group.{Group}
use Rattle.meta_model.specs.declared.lv.Lv.{Lv}
use Rattle.meta_model.specs.declared.pv.Pv.{Pv}
use Rattle.meta_model.specs.declared.segment.Leg.{Leg}
use Rattle.meta_model.specs.declared.segment.On.TheVariants as on
use Rattle.meta_model.specs.declared.segment.SegKind.{SegKind}
use Rattle.meta_model.specs.declared.segment.SegKind.TheVariants.{Mirror, Striped}
use Rattle.meta_model.specs.declared.segment.Segment.{Segment}
use Rattle.extent_alloc.specs.Giving.{covered, covered_by}
use Rattle.extent_alloc.specs.declared.part.Part.{Part}
use Rattle.extent_alloc.specs.declared.part.PartRun.{PartRun}
use Rattle.extent_alloc.specs.declared.part.PvRun.{PvRun}
use Rattle.volume_rules.specs.Rules.{Follow, IsAccepted}
use Rattle.volume_rules.specs.declared.rule.Rule.TheVariants.{Numbers}
use Rattle.volume_view.specs.InSegments.{Met, has_sector, leg_spot, met, offset_in, primary_leg, primary_spot, segment_from, spot_in}
use Rattle.volume_view.specs.InSegments.{stripe_leg, stripe_offset}
use Rattle.volume_view.specs.Places.{down, primary}
use Rattle.volume_view.specs.View.{DisksDiffer}
use Rattle.volume_view.proofs.GoingDown.{step_down}
use Rattle.volume_view.proofs.MetSegments.{all_at, make}
use Rattle.volume_view.proofs.Stripes.{more_leg, more_offset}
use Rattle.group_edits.proofs.FreePlaces.{IsBesideRun, IsUsedAt, primary_beside, primary_beside_on, used_beside}
use Rattle.group_edits.proofs.GivenRules.{legs_some, parts_follow}
use Rattle.group_edits.proofs.GivenRuns.{each_free, free_within, legs_count, legs_on}
use Rattle.group_edits.specs.GivenSegments.{IsFreeRun, MayHaveLegs, extents_by, kind_on, leg_at, legs_in, segment_of, segments_of}
use Rattle.group_edits.specs.NewVolume.{MayHave, new_lv, with_volume}

abbrev Row : Type 0
Row = List ℕ × Lv

-- ---- the first sectors of a segment

-- the first sectors of what is cut into parts of a size are in the first part
first_part : (size sector : ℕ) → sector < size → (sector / size ≡ 0) × (sector % size ≡ sector)
first_part size sector less =
    let below : sector / size < 1 = div_below sector size 1 (omega (arith, less)) (omega (arith, less)) in
    let none : sector / size ≡ 0 = omega (arith, below) in
    (none, (let all = div-add-mod' sector size in let times = ap (λ (n : ℕ). n * size) none in omega (arith, all, times)))

-- each of the first eight sectors is read from the first leg, and as far into it
pub record IsFirst (count : ℕ) (kind : SegKind) (sector : ℕ) : Type 0 where
  pub leg : primary_leg count kind sector ≡ 0
  pub offset : offset_in kind sector ≡ sector

pub first_of : (extent_size n count : ℕ) (kind : SegKind) (legs : List Leg) (sector : ℕ) → MayHaveLegs extent_size count kind
    → length legs ≡ count → sector < 8 → IsFirst n (kind_on legs kind) sector
first_of extent_size n count (Mirror region moved others) legs sector may same less = record { leg = refl; offset = refl }
first_of extent_size n count (Striped stripe others) legs sector may same less =
    elim (cases_eq (length legs) 1) [
      | inl one ↦ record {
        leg = ap (λ (k : ℕ). stripe_leg stripe k sector) one;
        offset = ap (λ (k : ℕ). stripe_offset stripe k sector) one;
      }
      | inr more ↦ by more
    ]
  where
    by : (length legs ≡ 1 → ⊥) → IsFirst n (Striped stripe legs) sector
    by more =
        let some : 1 ≤ count = may.1 in
        let least : 8 ≤ stripe = (may.3 (omega (arith, some, same, more))).1 in
        let part = first_part stripe sector (omega (arith, less, least)) in
        let row = first_part (length legs) 0 (omega (arith, some, same)) in
        record {
          leg = more_leg stripe (length legs) sector more ∙ ap (λ (k : ℕ). k % length legs) part.0 ∙ row.1;
          offset =
              more_offset stripe (length legs) sector more
              ∙ ap (λ (k : ℕ). k / length legs * stripe + sector % stripe) part.0
              ∙ ap (λ (k : ℕ). k * stripe + sector % stripe) row.0
              ∙ (let rest = part.1 in omega (arith, rest));
        }

-- ---- the beginning of the new volume

-- the sector is before or behind the eight from this one on
abbrev pub IsBesideEight : ℕ → ℕ → Type 0
IsBesideEight start sector = (sector < start) ⊎ (start + 8 ≤ sector)

-- the part of the first segment, the run of its first leg, and the physical volume on which that lies
pub record Beginning (group : Group) (given : List Part) : Type 0 where
  pub part : Part
  pub is_part : slice_get given 0 ≡ Some part
  pub run : PartRun
  pub is_run : slice_get part.runs 0 ≡ Some run
  pub pv : List ℕ × Pv
  pub is_pv : slice_get group.pvs run.pv ≡ Some pv

at_end : {X : Type 0} (xs : List X) (x : X) → slice_get (xs ++ x ∷ []) (length xs) ≡ Some x
at_end [] x = refl
at_end (y ∷ xs) x = at_end xs x

first_there : {X : Type 0} (xs : List X) → 1 ≤ length xs → (x : X) × (slice_get xs 0 ≡ Some x)
first_there [] some = absurd (omega (arith, some))
first_there (x ∷ xs) some = (x, refl)

-- the segment of the first part stands first
first_segment : (kind : SegKind) (parts : List Part) (part : Part) → slice_get parts 0 ≡ Some part
    → (rest : List Segment) × (segments_of kind 0 parts ≡ segment_of kind 0 part ∷ rest)
first_segment kind [] part is = absurd cc
first_segment kind (p ∷ parts) part is =
    let rest : List Segment = segments_of kind (0 + extents_by p.extents (kind_on (legs_in p) kind)) parts in
    (rest, ap (λ (q : Part). segment_of kind 0 q ∷ rest) (same_Some p part is))

-- what holds of all that is covered holds of the first run
first_covered : (Q : PvRun → Type 0) (parts : List Part) (part : Part) (run : PartRun) → All Q (covered parts)
    → slice_get parts 0 ≡ Some part → slice_get part.runs 0 ≡ Some run → Q (record { pv = run.pv; first = run.first; count = part.extents })
first_covered Q [] part run all is_part is_run = absurd cc
first_covered Q (p ∷ parts) part run all is_part is_run =
    by part.runs (subst (λ (q : Part). All Q (covered_by q ++ covered parts)) (same_Some p part is_part) all) is_run
  where
    cover : PartRun → PvRun
    cover r = record { pv = r.pv; first = r.first; count = part.extents }

    by : (runs : List PartRun) → All Q (map (λ (r : PartRun). record { pv = r.pv; first = r.first; count = part.extents }) runs
        ++ covered parts) → slice_get runs 0 ≡ Some run → Q (cover run)
    by [] all is = absurd cc
    by (r ∷ runs) all is =
        subst (λ (x : PartRun). Q (cover x)) (same_Some r run is)
        (All-head Q (cover r) (map (λ (r : PartRun). record { pv = r.pv; first = r.first; count = part.extents }) runs ++ covered parts)
        all)

module _ (group : Group) (name id : List ℕ) (kind : SegKind) (given : List Part) (now : ℕ) (may : MayHave group id kind given now)
    (accepted : IsAccepted group) where
  abbrev row : Row
  row = (name, new_lv id kind given now)

  abbrev next : Group
  next = with_volume row group

  some_legs : 1 ≤ may.count
  some_legs = legs_some kind group.extent_size may.count may.legs

  extent_least : 8 ≤ group.extent_size
  extent_least = (accepted Numbers).extent_size.0

  module _ (part : Part) (is_part : slice_get given 0 ≡ Some part) where
    part_is : (1 ≤ part.extents) × (length part.runs ≡ may.count)
    part_is = all_at (λ (p : Part). (1 ≤ p.extents) × (length p.runs ≡ may.count)) given 0 part may.laid.legs is_part

    module _ (run : PartRun) (is_run : slice_get part.runs 0 ≡ Some run) where
      -- the extents of the first leg
      abbrev its_run : PvRun
      its_run = record { pv = run.pv; first = run.first; count = part.extents }

      run_free : (1 ≤ part.extents) × IsFreeRun group its_run
      run_free =
          first_covered (λ (r : PvRun). (1 ≤ r.count) × IsFreeRun group r) given part run
          (each_free group may.count given may.laid some_legs) is_part is_run

      its_pv : (pv : List ℕ × Pv) × (slice_get group.pvs run.pv ≡ Some pv) × (run.first + part.extents ≤ pv.1.pe_count)
      its_pv = free_within group may.count given may.laid some_legs its_run run_free.0 run_free.1

      -- it is the first leg of the first segment of the volume
      first_leg : slice_get (legs_of (segment_of kind 0 part).kind) 0 ≡ Some (leg_at run)
      first_leg =
          ap (λ (legs : List Leg). slice_get legs 0) (legs_on (legs_in part) kind) ∙ slice_get-map leg_at part.runs 0
          ∙ ap (option_map leg_at) is_run

      pub leg_is : (segment : Segment) × (slice_get (new_lv id kind given now).segments 0 ≡ Some segment)
          × (slice_get (legs_of segment.kind) 0 ≡ Some (leg_at run))
      leg_is = (
        segment_of kind 0 part,
        ap (λ (segments : List Segment). slice_get segments 0) (first_segment kind given part is_part).1,
        first_leg,
      )

      module _ (pv : List ℕ × Pv) (is_pv : slice_get group.pvs run.pv ≡ Some pv) where
        -- the sector of the disk from which on they stand
        abbrev pub start : ℕ
        start = pv.1.pe_start + run.first * group.extent_size

        abbrev segment : Segment
        segment = segment_of kind 0 part

        module _ (sector : ℕ) (less : sector < 8) where
          abbrev m : Met
          m = record { lv = length group.lvs; number = 0; segment = segment; at = sector }

          segment_has : has_sector group.extent_size sector segment ≡ true
          segment_has =
              let first = first_segment kind given part is_part in
              let follow : Follow 0 (segment ∷ first.0) =
              subst (Follow 0) first.1 (parts_follow kind group may.count given may.legs may.laid 0) in
              let some : 1 ≤ segment.count = follow.1 in
              let extent : 1 * group.extent_size ≤ (0 + segment.count) * group.extent_size =
              mul-le 1 group.extent_size (0 + segment.count) group.extent_size (omega (arith, some)) (omega arith) in
              let least : 8 ≤ group.extent_size = extent_least in
              and_from (nat_le (0 * group.extent_size) sector) (nat_lt sector ((0 + segment.count) * group.extent_size))
              (le-leb (0 * group.extent_size) sector (omega arith))
              (lt-ltb sector ((0 + segment.count) * group.extent_size) (omega (arith, less, least, extent)))

          -- what is met in a row
          abbrev met_in : List Segment → Option Met
          met_in segments = option_map (make next (length group.lvs) sector) (segment_from group.extent_size sector 0 segments)

          meets : met next (length group.lvs) sector ≡ Some m
          unfolding met
          meets =
              let first = first_segment kind given part is_part in
              let into : sector - 0 * group.extent_size ≡ sector = omega arith in
              ap (option_and_then (λ (r : Row). met_in r.1.segments)) (at_end group.lvs row)
              ∙ ap met_in first.1
              ∙ ap (λ (b : Bool). option_map (make next (length group.lvs) sector)
              (cond b (Some (0, segment)) (segment_from group.extent_size sector (0 + 1) first.0))) segment_has
              ∙ ap (λ (at : ℕ). Some (record { lv = length group.lvs; number = 0; segment = segment; at = at })) into

          spot : primary_spot group.extent_size m ≡ Some (spot_in group.extent_size sector (leg_at run))
          unfolding leg_spot
          spot =
              let first : IsFirst segment.count segment.kind sector =
              first_of group.extent_size segment.count may.count kind (legs_in part) sector may.legs (legs_count part ∙ part_is.1)
              less in
              ap (λ (j : ℕ). option_map (spot_in group.extent_size (offset_in segment.kind sector)) (slice_get (legs_of segment.kind) j))
              first.leg
              ∙ ap (λ (offset : ℕ). option_map (spot_in group.extent_size offset) (slice_get (legs_of segment.kind) 0)) first.offset
              ∙ ap (option_map (spot_in group.extent_size sector)) first_leg

          goes : down next (on.Pv run.pv) 4 (run.first * group.extent_size + sector)
              ≡ Some (record { pv = run.pv; sector = start + sector })
          goes =
              let sum : pv.1.pe_start + (run.first * group.extent_size + sector) ≡ start + sector = omega arith in
              ap (option_map (λ (p : List ℕ × Pv). record {
                pv = run.pv;
                sector = p.1.pe_start + (run.first * group.extent_size + sector);
              })) is_pv
              ∙ ap (λ (n : ℕ). Some (record { pv = run.pv; sector = n })) sum

          -- each of the first eight sectors has its primary place there
          pub first_sectors : primary next (length group.lvs) sector ≡ Some (record { pv = run.pv; sector = start + sector })
          unfolding primary
          first_sectors =
              step_down next (length group.lvs) sector 4 m (spot_in group.extent_size sector (leg_at run))
              (record { pv = run.pv; sector = start + sector }) meets spot goes

        -- they end within the extents of the physical volume
        pub start_within : start + 8 ≤ pv.1.pe_start + pv.1.pe_count * group.extent_size
        start_within =
            let most : run.first + part.extents ≤ pv.1.pe_count =
            subst (λ (p : List ℕ × Pv). run.first + part.extents ≤ p.1.pe_count) (same_Some its_pv.0 pv (sym its_pv.1 ∙ is_pv))
            its_pv.2 in
            let some : 1 ≤ part.extents = run_free.0 in
            let within : (run.first + 1) * group.extent_size ≤ pv.1.pe_count * group.extent_size =
            mul-le (run.first + 1) group.extent_size pv.1.pe_count group.extent_size (omega (arith, most, some)) (omega arith) in
            let least : 8 ≤ group.extent_size = extent_least in
            omega (arith, within, least)

        -- what is beside the extents is beside their first sectors
        beside_eight : (sector : ℕ) → IsBesideRun group its_run pv.1 sector → IsBesideEight start sector
        beside_eight sector (inl before) = inl before
        beside_eight sector (inr behind) =
            let some : 1 ≤ part.extents = run_free.0 in
            let within : (run.first + 1) * group.extent_size ≤ (run.first + part.extents) * group.extent_size =
            mul-le (run.first + 1) group.extent_size (run.first + part.extents) group.extent_size (omega (arith, some)) (omega arith) in
            let least : 8 ≤ group.extent_size = extent_least in
            inr (omega (arith, behind, within, least))

        -- each place that was used on the physical volume is beside them
        pub used_beside_first : (at : At) → IsUsedAt group at → at.pv ≡ run.pv → IsBesideEight start at.sector
        used_beside_first at used same = beside_eight at.sector (used_beside group accepted its_run run_free.1 pv is_pv at used same)

        -- so is each primary place of the group
        pub primary_beside_first : (lv sector : ℕ) (at : At) → primary group lv sector ≡ Some at → at.pv ≡ run.pv
            → IsBesideEight start at.sector
        primary_beside_first lv sector at is same =
            beside_eight at.sector (primary_beside group accepted its_run run_free.1 pv is_pv lv sector at is same)

        -- so none of them is one
        pub first_is_new : (sector : ℕ) → sector < 8 → (lv other : ℕ)
            → primary group lv other ≡ Some (record { pv = run.pv; sector = start + sector }) → ⊥
        first_is_new sector less lv other is =
            elim (primary_beside_first lv other (record { pv = run.pv; sector = start + sector }) is refl) [
              | inl before ↦ omega (arith, before)
              | inr behind ↦ omega (arith, behind, less)
            ]

        -- and they are beside each on its disk, where different physical volumes are on different disks
        pub primary_beside_first_on : (disk_of : List ℕ) → DisksDiffer group disk_of → (lv sector : ℕ) (at : At)
            → primary group lv sector ≡ Some at → slice_index disk_of at.pv ≡ slice_index disk_of run.pv → IsBesideEight start at.sector
        primary_beside_first_on disk_of differ lv sector at is same =
            beside_eight at.sector (primary_beside_on group accepted its_run run_free.1 pv is_pv disk_of differ lv sector at is same)

  -- there are such a part, run and physical volume
  pub beginning : Beginning group given
  beginning =
      let first = first_there given may.some in
      let is : (1 ≤ first.0.extents) × (length first.0.runs ≡ may.count) = part_is first.0 first.1 in
      let many : length first.0.runs ≡ may.count = is.1 in
      let run = first_there first.0.runs (let some = some_legs in omega (arith, some, many)) in
      let pv = its_pv first.0 first.1 run.0 run.1 in
      record { part = first.0; is_part = first.1; run = run.0; is_run = run.1; pv = pv.0; is_pv = pv.1 }
