-- The segments that are made of given extents can be printed.
use Rattle.std.proofs.Common.{◌≡◌, ◌≤◌, ◌<◌, ℕ, ◌+◌, ◌^◌, List, [], length, Some, None, refl, sym, ap, subst, ◌∙◌, arith}
use Rattle.std.specs.Prelude.{slice_get, All}
use Rattle.std.specs.List.{AllByRecursion as Each}
use Rattle.std.proofs.lemmas.List.Elements.{recursion_from_All}
use Rattle.meta_model.specs.Runs.{legs_of}
use Rattle.meta_model.specs.declared.group.Group.{Group}
use Rattle.meta_model.specs.declared.pv.Pv.{Pv}
use Rattle.meta_model.specs.declared.segment.SegKind.{SegKind}
use Rattle.meta_model.specs.declared.segment.SegKind.TheVariants.{Striped, Mirror}
use Rattle.meta_model.specs.declared.segment.Segment.{Segment}
use Rattle.meta_print.proofs.Printable.{AreNames, IsKind, IsLeg, IsLegs, IsSegment}
use Rattle.extent_alloc.specs.declared.part.Part.{Part}
use Rattle.extent_alloc.specs.declared.part.PartRun.{PartRun}
use Rattle.extent_alloc.specs.declared.part.PvRun.{PvRun}
use Rattle.volume_rules.specs.Rules.{IsSmall, KindIsSmall, PvIsSmall, SegmentIsSmall}
use Rattle.group_edits.proofs.GivenRules.{each_part, first_small, legs_few, legs_some, parts_small}
use Rattle.group_edits.proofs.GivenRuns.{each_free, free_within, legs_by, legs_count, legs_on}
use Rattle.group_edits.proofs.GrownPrintable.{new_leg}
use Rattle.group_edits.proofs.PrintedNames.{pv_names}
use Rattle.group_edits.specs.GivenSegments.{IsFreeRun, MayBeLaid, MayHaveLegs, extents_in, leg_at, legs_in, segment_of, segments_of}

-- a segment whose numbers are small and whose legs can be printed
segment_prints : (group : Group) (segment : Segment) → SegmentIsSmall segment → IsLegs group (legs_of segment.kind)
    → IsSegment group segment
segment_prints group segment small legs =
    record {
      start_fits = (let s = small.0 in omega (arith, s));
      count_fits = (let s = small.1 in omega (arith, s));
      kind_is = by segment.kind small.2 legs;
    } where
      by : (kind : SegKind) → KindIsSmall kind → IsLegs group (legs_of kind) → IsKind group kind
      by (Striped stripe legs) small are = ((let s = small.0 in omega (arith, s)), are)
      by (Mirror region None legs) small are = ((let s = small.0 in omega (arith, s)), tt, are)
      by (Mirror region (Some moved) legs) small are = ((let s = small.0 in omega (arith, s)), (let s = small.1 in omega (arith, s)), are)

-- a version of the group with the same physical volumes, to which the parts belong
module _ (kind : SegKind) (group other : Group) (count : ℕ) (parts : List Part) (kinds : MayHaveLegs group.extent_size count kind)
    (may : MayBeLaid group count parts)
    (small : All (λ (pv : List ℕ × Pv). PvIsSmall pv.1) group.pvs) (pvs : other.pvs ≡ group.pvs) (names : AreNames [] (pv_names other))
  where
    leg_prints : (run : PartRun) (n : ℕ) → (1 ≤ n) × IsFreeRun group (record { pv = run.pv; first = run.first; count = n })
        → IsLeg other (leg_at run)
    leg_prints run n free =
        let covers : PvRun = record { pv = run.pv; first = run.first; count = n } in
        let inside = free_within group count parts may (legs_some kind group.extent_size count kinds) covers free.0 free.1 in
        let first : IsSmall run.first = first_small kind group count parts kinds may small covers free in
        new_leg other names (leg_at run) run.pv inside.0 refl (ap (λ (rows : List (List ℕ × Pv)). slice_get rows run.pv) pvs ∙ inside.1)
        (omega (arith, first))

    abbrev IsPrinted : Part → Type 0
    IsPrinted part = (length part.runs ≡ count) × All (IsLeg other) (legs_in part)

    each_printed : All IsPrinted parts
    each_printed k d within = (
      (may.legs k d within).1,
      legs_by (λ (run : PvRun). (1 ≤ run.count) × IsFreeRun group run) (IsLeg other) leg_prints parts
          (each_free group count parts may (legs_some kind group.extent_size count kinds)) k d within,
    )

    legs_print : (start : ℕ) (part : Part) → IsPrinted part → IsLegs other (legs_of (segment_of kind start part).kind)
    legs_print start part is =
        subst (IsLegs other) (sym (legs_on (legs_in part) kind))
        (record {
          count_fits =
              (let same = legs_count part in let as_many = is.0 in let few = legs_few kind group.extent_size count kinds in omega
              (arith, same, as_many, few));
          each = recursion_from_All (IsLeg other) (legs_in part) is.1;
        })

    -- where they end below 2^48
    pub parts_print : (start : ℕ) → start + extents_in (segments_of kind start parts) < 2 ^ 48
        → Each (IsSegment other) (segments_of kind start parts)
    parts_print start ends =
        recursion_from_All (IsSegment other) (segments_of kind start parts)
        (λ k d within. segment_prints other _ (parts_small kind group count parts kinds may small start ends k d within)
        (each_part kind IsPrinted (λ (segment : Segment). IsLegs other (legs_of segment.kind)) legs_print start parts each_printed k d
        within))
