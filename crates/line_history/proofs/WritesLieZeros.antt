-- Each write of the zeros of a line lies in extents that no volume has.
use Rattle.std.proofs.Common.{◌≡◌, ℕ, List, Some, map, Option}
use Rattle.lvm_script.specs.declared.line.Line.{Line}
use Rattle.disk_model.specs.Steps.{Image}
use Rattle.meta_model.specs.declared.group.Group.{Group}
use Rattle.extent_alloc.specs.declared.part.Part.{Part}
use Rattle.vg_found.specs.declared.found.Found.{Found}
use Rattle.group_plan.specs.declared.state.Change.{Change}
use Rattle.group_plan.specs.declared.backup.Backup.{Backup}
use Rattle.group_ops.specs.Laws.{state_in}
use Rattle.group_ops.specs.Planning.{change_of}
use Rattle.change_batches.specs.Batches.{zero_put}
use Rattle.vg_change.specs.LineBatches.{zeros_of}
use Rattle.image_scans.specs.Laws.{CanCarryOut, IsFree}
use Rattle.image_scans.proofs.Front.{any_if, written_of}
use Rattle.image_scans.proofs.Zeroes.{zeroes_lie}
use Rattle.line_history.specs.Places.{BatchesWrite}
use Rattle.line_history.proofs.WritesLieAny.{any_writes}

pub zero_writes_lie : (base : Image) (sizes : List ℕ) (found : Found) (names : List (List ℕ)) (backup : Option Backup) (line : Line)
    (now : ℕ) (given : List Part) → CanCarryOut base sizes found names backup line now given
    → (pv sector : ℕ) → BatchesWrite (zeros_of (state_in found names backup) line now given) pv sector
    → (group : Group) × (found.group ≡ Some group) × IsFree group found.disk_of pv sector
zero_writes_lie base sizes found names backup line now given p pv sector is =
    let change : Change = change_of (state_in found names backup) line now given in
    let w = any_writes pv sector (zeros_of (state_in found names backup) line now given) is in
    zeroes_lie base sizes found names backup line now given p pv sector
    (written_of pv sector zero_put change.zero w.0 (any_if (map zero_put change.zero) pv sector w.0 w.1))
