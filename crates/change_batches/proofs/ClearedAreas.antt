-- The areas of disks that were scanned, and those of them on disks that are cleared.
use Rattle.std.proofs.Common.{◌≡◌, ◌<◌, List, Option, length, sym, subst, arith}
use Rattle.std.specs.Prelude.{All, AllPairs}
use Rattle.std.specs.Ordering.{nat_cmp}
use Rattle.std.specs.FinSet as set
use Rattle.std.proofs.lemmas.List.{length-map}
use Rattle.std.proofs.lemmas.List.Elements.{All-filter, All-weaker}
use Rattle.std.proofs.lemmas.List.Kept.{AllPairs-filter}
use Rattle.mda_header.specs.declared.header.Locn.{Locn}
use Rattle.mda_ring.specs.Areas.{CanTake, LieApart}
use Rattle.mda_ring.specs.declared.area.Area.{Area}
use Rattle.vg_found.proofs.ShapedAreas.{areas_shaped}
use Rattle.vg_found.specs.declared.disk.Disk.{Disk}
use Rattle.group_plan.specs.Cleared.{cleared_areas}
use Rattle.group_plan.specs.Judging.{lies_on}
use Rattle.group_plan.specs.State.{IsState}
use Rattle.group_plan.specs.declared.state.GroupState.{GroupState}
use Rattle.change_batches.specs.Building.{AreHeld, AreScanned, LiesIn}
use Rattle.change_batches.specs.Sound.{sizes_of}
use Rattle.change_batches.proofs.FarAreas.{IsFar, held_far}
use Rattle.change_batches.proofs.HeldInDisks.{held_lie}

-- those that a line is judged against are
pub state_scanned : (state : GroupState) → IsState state → AreScanned state.disks state.areas
state_scanned state is = record { few = is.few; each = is.disks; held = is.areas }

module _ (disks : List Disk) (areas : List (Area × Option Locn)) (scanned : AreScanned disks areas) where
  pub each_lies : All (LiesIn (sizes_of disks)) areas
  each_lies = subst (All (LiesIn (sizes_of disks))) (sym scanned.held) (held_lie disks scanned.each)

  -- on one of 64 disks
  pub each_few : All (λ (area : Area × Option Locn). area.0.pv < 64) areas
  each_few =
      All-weaker (LiesIn (sizes_of disks)) (λ (area : Area × Option Locn). area.0.pv < 64)
      (λ area lies. let count : length (sizes_of disks)
      ≡ length disks = length-map disks (λ (disk : Disk). disk.sectors) in omega (arith, lies.disk, count, scanned.few))
      areas each_lies

  pub each_far : All IsFar areas
  each_far = subst (All IsFar) (sym scanned.held) (held_far disks scanned.each)

  pub each_takes : All CanTake areas
  each_takes = subst (All CanTake) (sym scanned.held) (areas_shaped disks scanned.each).0

  all_apart : AllPairs LieApart areas
  all_apart = subst (AllPairs LieApart) (sym scanned.held) (areas_shaped disks scanned.each).1

  module _ (cleared : set.FinSet nat_cmp) where
    pub cleared_held : AreHeld (cleared_areas cleared areas)
    cleared_held = record {
      take = All-filter (lies_on cleared) CanTake areas each_takes;
      apart = AllPairs-filter LieApart (lies_on cleared) areas all_apart;
      few = All-filter (lies_on cleared) (λ (area : Area × Option Locn). area.0.pv < 64) areas each_few;
    }

    pub cleared_lie : All (LiesIn (sizes_of disks)) (cleared_areas cleared areas)
    cleared_lie = All-filter (lies_on cleared) (LiesIn (sizes_of disks)) areas each_lies

    pub cleared_far : All IsFar (cleared_areas cleared areas)
    cleared_far = All-filter (lies_on cleared) IsFar areas each_far
