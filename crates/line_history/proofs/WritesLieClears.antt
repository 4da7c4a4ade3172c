-- Each write that clears a disk lies where a line may write that clears it.
use Rattle.std.proofs.Common.{ℕ, List, map, ⊎_elim}
use Rattle.std.specs.Ordering.{nat_cmp}
use Rattle.std.specs.FinSet.{FinSet}
use Rattle.lvm_script.specs.declared.line.Line.{Line}
use Rattle.extent_alloc.specs.declared.part.Part.{Part}
use Rattle.group_plan.specs.Cleared.{cleared_areas, unused_labels}
use Rattle.group_plan.specs.declared.state.GroupState.{GroupState}
use Rattle.group_ops.specs.Planning.{change_of}
use Rattle.change_batches.specs.Batches.{batch_if, clear_put, label_put}
use Rattle.vg_change.specs.LineBatches.{clears_of}
use Rattle.image_scans.proofs.Front.{any_append, any_if, written_of}
use Rattle.line_history.specs.Places.{AtCleared, AtUnused, BatchesWrite, IsClearPlace}
use Rattle.line_history.proofs.WritesLieAny.{any_writes}

pub clear_writes_lie : (state : GroupState) (line : Line) (now : ℕ) (given : List Part) (pv sector : ℕ)
    → BatchesWrite (clears_of state line now given) pv sector
    → IsClearPlace (change_of state line now given).cleared state.disks state.areas pv sector
clear_writes_lie state line now given pv sector is =
    let cleared : FinSet nat_cmp = (change_of state line now given).cleared in
    let labels = unused_labels cleared state.disks in
    let areas = cleared_areas cleared state.areas in
    let w = any_writes pv sector (clears_of state line now given) is in
    ⊎_elim
    (λ label. AtUnused (written_of pv sector label_put labels w.0 (any_if (map label_put labels) pv sector w.0 label)))
    (λ header. AtCleared (written_of pv sector clear_put areas w.0 (any_if (map clear_put areas) pv sector w.0 header)))
    (any_append (batch_if (map label_put labels)) (batch_if (map clear_put areas)) pv sector w.0 w.1)
