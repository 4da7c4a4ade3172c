-- Each write of a line lies where a line may write.
use Rattle.std.proofs.Common.{◌≡◌, ℕ, ◌/◌, List, [], ◌++◌, map, Option, None, ⊎_elim, subst}
use Rattle.std.specs.Prelude.{flat_map}
use Rattle.std.specs.List.{list_any}
use Rattle.sector_base.specs.Spans.{covers}
use Rattle.lvm_script.specs.declared.line.Line.{Line}
use Rattle.disk_model.specs.Puts.{one_sector}
use Rattle.disk_model.specs.Steps.{Image}
use Rattle.pv_header.specs.declared.extent_list.Extent.{Extent}
use Rattle.conf_text.specs.Printed.{printed}
use Rattle.meta_model.specs.declared.group.Group.{Group}
use Rattle.meta_print.specs.Layout.{tree_of}
use Rattle.extent_alloc.specs.declared.part.Part.{Part}
use Rattle.disk_batch.specs.InTurn.{Put}
use Rattle.disk_batch.specs.Writes.{IsWrittenBy}
use Rattle.vg_found.specs.declared.found.Found.{Found}
use Rattle.group_plan.specs.declared.state.Change.{Change}
use Rattle.group_plan.specs.declared.state.GroupState.{GroupState}
use Rattle.group_plan.specs.declared.state.NewLabel.{NewLabel}
use Rattle.group_plan.specs.declared.backup.Backup.{Backup}
use Rattle.group_ops.specs.Laws.{state_in}
use Rattle.group_ops.specs.Planning.{change_of}
use Rattle.change_batches.specs.Batches.{area_put, area_puts, areas_of, batch_if, commit_batches, label_put, new_area_puts}
use Rattle.vg_change.specs.LineBatches.{batches_of}
use Rattle.image_scans.specs.Laws.{CanCarryOut}
use Rattle.image_scans.proofs.CommitCommands.{Commits}
use Rattle.image_scans.proofs.CommitLine.{can, is_state, lies}
use Rattle.image_scans.proofs.CommitOnTheWay.{writes}
use Rattle.image_scans.proofs.Front.{AnyWrites, any_append, any_if, written_of}
use Rattle.image_scans.proofs.Lines.{LineMakes, line_makes, makes_nothing, makes_pv, makes_version}
use Rattle.line_history.specs.Places.{BatchesWrite, AtHeader, AtLabel, InArea, IsLinePlace}
use Rattle.line_history.proofs.WritesLieAny.{any_writes, area_write, written_of_flat}

module _ (base : Image) (sizes : List ℕ) (found : Found) (names : List (List ℕ)) (backup : Option Backup) (line : Line) (now : ℕ)
    (given : List Part) (p : CanCarryOut base sizes found names backup line now given) (pv sector : ℕ) where
  abbrev state : GroupState
  state = state_in found names backup

  abbrev change : Change
  change = change_of state line now given

  abbrev IsPlace : Type 0
  IsPlace = IsLinePlace change state.areas pv sector

  abbrev batches_with : Option Group → List (List Put)
  batches_with g =
      batch_if (new_area_puts g change.labels) ++ batch_if (map label_put change.labels)
      ++ commit_batches g now (areas_of change state.areas)

  at_label : (value : List ℕ) → IsWrittenBy (map label_put change.labels) pv sector value → IsPlace
  at_label value by = AtLabel (written_of pv sector label_put change.labels value by)

  commit_lies : Commits found state change → (value : List ℕ) → AnyWrites (batches_of state line now given) pv sector value → IsPlace
  commit_lies c value by =
      ⊎_elim (at_label value) (λ area. InArea c.group c.makes.made
      (area_write pv sector (printed (tree_of c.group now)) (areas_of change state.areas) value area))
      (writes state (is_state base sizes found names backup line now given p) change c.group c.makes (printed (tree_of c.group now))
      ((can base sizes found names backup line now given p).commit c.group c.makes.made)
      (can base sizes found names backup line now given p).labels (lies base sizes found names backup line now given p).differ base pv
      sector value
      (subst (λ (g : Option Group). AnyWrites (batches_with g) pv sector value) c.makes.made by))

  at_header : change.group ≡ None → (value : List ℕ) → IsWrittenBy (flat_map area_puts change.labels) pv sector value → IsPlace
  at_header none value by =
      AtHeader none
      (written_of_flat pv sector area_puts (λ (label : NewLabel). list_any
      (λ (area : Extent). covers (one_sector label.disk (area.offset / 512)) pv sector) label.header.areas)
      (λ label own here. written_of pv sector (area_put label.disk) label.header.areas own here) change.labels value by)

  none_lies : change.group ≡ None → (value : List ℕ) → AnyWrites (batches_of state line now given) pv sector value → IsPlace
  none_lies none value by =
      ⊎_elim
      (λ near.
      ⊎_elim
      (λ header. at_header none value (any_if (flat_map area_puts change.labels) pv sector value header))
      (λ label. at_label value (any_if (map label_put change.labels) pv sector value label))
      (any_append (batch_if (flat_map area_puts change.labels)) (batch_if (map label_put change.labels)) pv sector value near))
      (λ behind. absurd behind)
      (any_append (batch_if (flat_map area_puts change.labels) ++ batch_if (map label_put change.labels)) [] pv sector value
      (subst (λ (g : Option Group). AnyWrites (batches_with g) pv sector value) none by))

  by_line : LineMakes found state change → (value : List ℕ) → AnyWrites (batches_of state line now given) pv sector value → IsPlace
  by_line (makes_version c) value by = commit_lies c value by
  by_line (makes_pv m) value by = none_lies m.none value by
  by_line (makes_nothing none labels) value by = none_lies none value by

  pub line_writes_lie : BatchesWrite (batches_of state line now given) pv sector → IsPlace
  line_writes_lie is =
      let w = any_writes pv sector (batches_of state line now given) is in by_line
      (line_makes base sizes found names backup line now given p) w.0 w.1
