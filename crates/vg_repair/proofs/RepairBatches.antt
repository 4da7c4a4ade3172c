-- All batches of a repair.
use Rattle.std.proofs.Common.{◌≡◌, ℕ, List, [], ◌++◌, map, Option, ap, subst, ◌∙◌}
use Rattle.std.proofs.lemmas.List.Elements.{All-append, All-nil}
use Rattle.mda_header.specs.declared.header.Locn.{Locn}
use Rattle.mda_ring.specs.declared.area.Area.{Area}
use Rattle.disk_batch.specs.InTurn.{CanRun, Put}
use Rattle.disk_batch.specs.declared.batch.Batch.{Batch}
use Rattle.vg_found.specs.Shape.{HasShape}
use Rattle.vg_found.specs.declared.found.Found.{Found}
use Rattle.change_batches.specs.Batches.{batch_if, clear_batches, label_put}
use Rattle.change_batches.specs.Building.{AreClearsAdded, AreLabelsAdded}
use Rattle.change_batches.specs.Sound.{sizes_of, FitsFields}
use Rattle.vg_repair.specs.Batches.{old_labels, stray_labels}
use Rattle.vg_repair.specs.Building.{IsMade, AreRewritten}
use Rattle.vg_repair.specs.Stale.{stale_areas, text_of}
use Rattle.vg_repair.proofs.HeldAreas.{stale_lie}

-- they are those, and can run
pub all_made : (found : Found) → HasShape found → (first second third : List Batch)
    → AreRewritten (text_of found) (stale_areas found) [] first → AreLabelsAdded (old_labels found) (sizes_of found.disks) first second
    → AreClearsAdded found.strays found.disks found.areas second third → IsMade found third
all_made found shape first second third texts olds clears = record {
  writes =
      clears.writes
      ∙ ap (λ (l : List (List Put)). l ++ clear_batches found.strays found.disks found.areas)
      (olds.writes ∙ ap (λ (l : List (List Put)). l ++ batch_if (map label_put (old_labels found))) texts.writes);
  run = clears.run (olds.run (texts.run (sizes_of found.disks) (stale_lie found shape) (All-nil (CanRun (sizes_of found.disks)))));
  room = texts.room;
  read = texts.read;
  fields = All-append FitsFields (old_labels found) (stray_labels found) olds.fields clears.fields;
}

-- the same texts and areas by other names
pub same_rewritten : (text text' : List ℕ) (areas areas' : List (Area × Option Locn)) (old new : List Batch) → text ≡ text' → areas ≡ areas'
    → old ≡ [] → AreRewritten text areas old new → AreRewritten text' areas' [] new
same_rewritten text text' areas areas' old new same_text same_areas none added =
    subst (λ (t : List ℕ). AreRewritten t areas' [] new) same_text
    (subst (λ (a : List (Area × Option Locn)). AreRewritten text a [] new) same_areas
    (subst (λ (l : List Batch). AreRewritten text areas l new) none added))
