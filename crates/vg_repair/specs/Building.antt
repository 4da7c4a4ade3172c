-- The batches of a repair while they are put together.
use Rattle.std.specs.Prelude.{◌≡◌, ◌++◌, ℕ, List, map, All, Option, None}
use Rattle.mda_header.specs.declared.header.Locn.{Locn}
use Rattle.mda_ring.specs.declared.area.Area.{Area}
use Rattle.disk_batch.specs.Batches.{writes_of}
use Rattle.disk_batch.specs.InTurn.{CanRun}
use Rattle.disk_batch.specs.declared.batch.Batch.{Batch}
use Rattle.vg_found.specs.declared.found.Found.{Found}
use Rattle.vg_commit.specs.Plans.{HeadersRead}
use Rattle.change_batches.specs.Building.{LiesIn}
use Rattle.change_batches.specs.Sound.{sizes_of, FitsFields}
use Rattle.vg_repair.specs.Batches.{new_labels, repair_batches, stale_batches}
use Rattle.vg_repair.specs.Stale.{stale_areas, text_of, too_large, too_large_among}

-- the three batches of a commit of the text to these areas, if there are any, stand behind the others; each area has room, and
-- its headers are read again as they are; and where the areas lie in their disks all can run
pub record AreRewritten (text : List ℕ) (areas : List (Area × Option Locn)) (old new : List Batch) : Type 0 where
  pub writes : map writes_of new ≡ map writes_of old ++ stale_batches text areas
  pub room : too_large_among text areas ≡ None
  pub read : All (HeadersRead text) areas
  pub run : (sizes : List ℕ) → All (LiesIn sizes) areas → All (CanRun sizes) old → All (CanRun sizes) new

-- these are the batches of the repair, and can run on disks of these sizes; each stale area has room; and what is written of
-- headers is read again as it is
pub record IsMade (found : Found) (batches : List Batch) : Type 0 where
  pub writes : map writes_of batches ≡ repair_batches found
  pub run : All (CanRun (sizes_of found.disks)) batches
  pub room : too_large found ≡ None
  pub read : All (HeadersRead (text_of found)) (stale_areas found)
  pub fields : All FitsFields (new_labels found)
