-- The areas that are held, of which the stale ones are some.
use Rattle.std.proofs.Common.{◌<◌, Option, sym, subst}
use Rattle.std.specs.Prelude.{All}
use Rattle.mda_header.specs.declared.header.Locn.{Locn}
use Rattle.mda_ring.specs.Areas.{CanTake, LieApart}
use Rattle.mda_ring.specs.declared.area.Area.{Area}
use Rattle.vg_found.specs.Shape.{HasShape}
use Rattle.vg_found.specs.declared.found.Found.{Found}
use Rattle.change_batches.specs.Building.{AreHeld, AreScanned, LiesIn}
use Rattle.change_batches.specs.Sound.{sizes_of}
use Rattle.change_batches.proofs.ClearedAreas.{each_far as areas_far, each_few, each_lies}
use Rattle.change_batches.proofs.FarAreas.{IsFar}
use Rattle.vg_repair.specs.Stale.{stale_areas}
use Rattle.vg_repair.proofs.Sublists.{AreSomeOf, some_all, some_pairs, stale_some}

module _ (found : Found) (shape : HasShape found) where
  pub are_scanned : AreScanned found.disks found.areas
  are_scanned = record { few = shape.few; each = λ pv disk there. (shape.disks pv disk there).0; held = shape.areas }

  pub each_far : All IsFar found.areas
  each_far = areas_far found.disks found.areas are_scanned

  -- ---- the stale ones

  some : AreSomeOf (stale_areas found) found.areas
  some = subst (AreSomeOf (stale_areas found)) (sym shape.areas) (stale_some found.stale 0 found.disks)

  pub stale_held : AreHeld (stale_areas found)
  stale_held = record {
    take = some_all CanTake (stale_areas found) found.areas some shape.take;
    apart = some_pairs LieApart (stale_areas found) found.areas some shape.apart;
    few =
        some_all (λ (area : Area × Option Locn). area.0.pv < 64) (stale_areas found) found.areas some
        (each_few found.disks found.areas are_scanned);
  }

  pub stale_lie : All (LiesIn (sizes_of found.disks)) (stale_areas found)
  stale_lie = some_all (LiesIn (sizes_of found.disks)) (stale_areas found) found.areas some (each_lies found.disks found.areas are_scanned)

  pub stale_all : (P : Area × Option Locn → Type 0) → All P found.areas → All P (stale_areas found)
  stale_all P all = some_all P (stale_areas found) found.areas some all
