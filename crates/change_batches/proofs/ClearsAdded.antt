-- The batches that clear disks, behind others.
use Rattle.std.proofs.Common.{◌≡◌, List, [], ◌++◌, Option, map, ap, subst, ◌∙◌}
use Rattle.std.specs.Ordering.{nat_cmp}
use Rattle.std.specs.FinSet as set
use Rattle.std.proofs.lemmas.List.{append_assoc}
use Rattle.mda_header.specs.declared.header.Locn.{Locn}
use Rattle.mda_ring.specs.declared.area.Area.{Area}
use Rattle.disk_batch.specs.Batches.{writes_of}
use Rattle.disk_batch.specs.InTurn.{Put}
use Rattle.disk_batch.specs.declared.batch.Batch.{Batch}
use Rattle.vg_found.specs.declared.disk.Disk.{Disk}
use Rattle.group_plan.specs.Cleared.{cleared_areas, unused_labels}
use Rattle.change_batches.specs.Batches.{batch_if, clear_put, label_put}
use Rattle.change_batches.specs.Building.{AreClearsAdded, AreLabelsAdded, AreScanned, IsAdded}
use Rattle.change_batches.specs.Sound.{sizes_of}
use Rattle.change_batches.proofs.Adding.{added_run, added_writes}
use Rattle.change_batches.proofs.ClearBatch.{clear_batch}
use Rattle.change_batches.proofs.ClearedAreas.{cleared_held, cleared_lie}

module _ (disks : List Disk) (areas : List (Area × Option Locn)) (scanned : AreScanned disks areas) (cleared : set.FinSet nat_cmp)
    (old middle new : List Batch) (labels : AreLabelsAdded (unused_labels cleared disks) (sizes_of disks) old middle)
    (headers : IsAdded (map clear_put (cleared_areas cleared areas)) middle new) where
  pub clears_added : AreClearsAdded cleared disks areas old new
  clears_added = record {
    writes =
        added_writes (map clear_put (cleared_areas cleared areas)) middle new headers
        ∙ ap (λ (l : List (List Put)). l ++ batch_if (map clear_put (cleared_areas cleared areas)))
        labels.writes
        ∙ append_assoc (map writes_of old) (batch_if (map label_put (unused_labels cleared disks)))
        (batch_if (map clear_put (cleared_areas cleared areas)));
    run = λ all.
        added_run (sizes_of disks) (map clear_put (cleared_areas cleared areas)) middle new headers
        (clear_batch (sizes_of disks) (cleared_areas cleared areas) (cleared_held disks areas scanned cleared)
        (cleared_lie disks areas scanned cleared))
        (labels.run all);
    fields = labels.fields;
  }

-- the same disks and areas by other names, behind no batch
pub from_none : (cleared : set.FinSet nat_cmp) (disks disks' : List Disk) (areas areas' : List (Area × Option Locn)) (old new : List Batch)
    → disks' ≡ disks → areas' ≡ areas → old ≡ [] → AreClearsAdded cleared disks' areas' old new → AreClearsAdded cleared disks areas [] new
from_none cleared disks disks' areas areas' old new same_disks same_areas none added =
    subst (λ (d : List Disk). AreClearsAdded cleared d areas [] new) same_disks
    (subst (λ (a : List (Area × Option Locn)). AreClearsAdded cleared disks' a [] new) same_areas
    (subst (λ (l : List Batch). AreClearsAdded cleared disks' areas' l new) none added))
