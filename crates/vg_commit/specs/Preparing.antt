-- A commit that is ready to start.
use Rattle.std.specs.Prelude.{◌≡◌, ◌<◌, ◌+◌, ℕ, IsTrue, List, [], ◌∷◌, length, map, sum_by, All, AllPairs, Option, None}
use Rattle.std.specs.Ordering.{nat_cmp}
use Rattle.std.specs.FinSet as set
use Rattle.mda_header.specs.declared.header.Locn.{Locn}
use Rattle.mda_ring.specs.declared.area.Area.{Area}
use Rattle.mda_ring.specs.Areas.{CanTake, LieApart}
use Rattle.disk_batch.specs.Batches.{writes_of, disks_of}
use Rattle.disk_batch.specs.Blocks.{in_blocks}
use Rattle.disk_batch.specs.Parts.{part_put}
use Rattle.disk_batch.specs.Writes.{LieIn, disks_in, span_count}
use Rattle.disk_batch.specs.declared.batch.Batch.{Batch}
use Rattle.disk_model.specs.Operations.{IsWithin}
use Rattle.vg_commit.specs.declared.plan.Plan.{Plan}
use Rattle.vg_commit.specs.declared.prepared.Prepared.{Prepared}
use Rattle.vg_commit.specs.Written.{area_span, area_writes, headers_of, publish_of, texts_of, with_entries}
use Rattle.vg_commit.specs.TooLarge.{first_too_large}
use Rattle.vg_commit.specs.Plans.{HeadersRead}

-- the set with the disks of these areas
abbrev pub with_disks : set.FinSet nat_cmp → List (Area × Option Locn) → set.FinSet nat_cmp
with_disks disks [] = disks
with_disks disks (area ∷ areas) = with_disks (set.insert disks area.0.pv) areas

-- the disks of the areas
abbrev pub area_disks : List (Area × Option Locn) → set.FinSet nat_cmp
area_disks areas = with_disks set.empty areas

-- the area's disk is one of the first 64, and of this set
abbrev pub IsOnDiskOf : set.FinSet nat_cmp → Area × Option Locn → Type 0
IsOnDiskOf disks area = (area.0.pv < 64) × IsTrue (set.contains disks area.0.pv)

-- areas that a text can be committed to: there is one, each can take a next text, no two share a sector, and the disk of
-- each is among those that are flushed
pub record AreCommitted (areas : List (Area × Option Locn)) (flush : set.FinSet nat_cmp) : Type 0 where
  pub some : 0 < length areas
  pub take : All CanTake areas
  pub apart : AllPairs LieApart areas
  pub on_disks : All (IsOnDiskOf flush) areas

-- the commit of this text to these areas: the three batches write exactly this, in the areas' order; the first flushes
-- each of the disks, the others those of the areas
pub record IsPrepared (prepared : Prepared) (areas : List (Area × Option Locn)) (flush : set.FinSet nat_cmp) (text : List ℕ) : Type 0 where
  pub committed : AreCommitted areas flush
  pub room : first_too_large text areas ≡ None
  pub texts : writes_of prepared.texts ≡ texts_of (map (area_writes text) areas)
  pub headers : writes_of prepared.headers ≡ headers_of (map (area_writes text) areas)
  pub publish : writes_of prepared.publish ≡ publish_of (map (area_writes text) areas)
  pub text_disks : disks_of prepared.texts ≡ disks_in flush
  pub header_disks : disks_of prepared.headers ≡ disks_in (area_disks areas)
  pub publish_disks : disks_of prepared.publish ≡ disks_in (area_disks areas)
  pub entries : prepared.areas ≡ with_entries text areas
  -- a next text can be committed to the areas with their new entries
  pub again : AreCommitted prepared.areas flush
  pub read : All (HeadersRead text) areas

-- the batch writes something, and lies in disks of these sizes
pub record CanRun (sizes : List ℕ) (batch : Batch) : Type 0 where
  pub writes : 0 < length (writes_of batch)
  pub lie : LieIn sizes (writes_of batch)
  pub within : All (λ (pv : ℕ). pv < length sizes) (disks_of batch)

-- the three batches of a commit can run on disks of these sizes
pub record CanStart (sizes : List ℕ) (prepared : Prepared) : Type 0 where
  pub texts : CanRun sizes prepared.texts
  pub headers : CanRun sizes prepared.headers
  pub publish : CanRun sizes prepared.publish

-- each area lies in its disk, and each disk that is flushed is one of them
pub record AreWithin (sizes : List ℕ) (areas : List (Area × Option Locn)) (flush : set.FinSet nat_cmp) : Type 0 where
  pub areas_lie : All (λ (area : Area × Option Locn). IsWithin sizes (area_span area.0)) areas
  pub disks_are : All (λ (pv : ℕ). pv < length sizes) (disks_in flush)

-- how many operations a batch uses up
abbrev pub ops_of : Batch → ℕ
ops_of batch = length (writes_of batch) + length (disks_of batch)

-- how many sectors a batch uses up
abbrev pub sectors_in : Batch → ℕ
sectors_in batch = sum_by span_count (writes_of batch)

-- how many operations a commit uses up
abbrev pub ops_needed : Prepared → ℕ
ops_needed prepared = ops_of prepared.texts + ops_of prepared.headers + ops_of prepared.publish

-- how many sectors a commit uses up
abbrev pub sectors_needed : Prepared → ℕ
sectors_needed prepared = sectors_in prepared.texts + sectors_in prepared.headers + sectors_in prepared.publish

-- the batches are those of the plan
pub record HasBatches (plan : Plan) (flush disks : set.FinSet nat_cmp) (prepared : Prepared) : Type 0 where
  pub texts : writes_of prepared.texts ≡ in_blocks (map (part_put plan.text) plan.texts.items)
  pub headers : writes_of prepared.headers ≡ plan.headers.items
  pub publish : writes_of prepared.publish ≡ plan.publish.items
  pub text_disks : disks_of prepared.texts ≡ disks_in flush
  pub header_disks : disks_of prepared.headers ≡ disks_in disks
  pub publish_disks : disks_of prepared.publish ≡ disks_in disks
  pub entries : prepared.areas ≡ plan.areas.items
