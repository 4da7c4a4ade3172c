-- What every image on the way of a line keeps, and what is found once it is done.
use Rattle.std.proofs.Common.{◌≡◌, ◌<◌, ℕ, List, [], ◌++◌, length, map, take, get_or, Option, None, Some, refl, sym, subst}
use Rattle.std.specs.Prelude.{All}
use Rattle.lvm_script.specs.declared.line.Line.{Line}
use Rattle.disk_model.specs.Steps.{Image}
use Rattle.pv_label.specs.Label.{IsLabel}
use Rattle.pv_header.specs.PvHeader.{IsPvHeader}
use Rattle.meta_model.specs.declared.group.Group.{Group}
use Rattle.extent_alloc.specs.declared.part.Part.{Part}
use Rattle.disk_batch.specs.InTurn.{HasFirstBatches, Put, with_batches}
use Rattle.group_plan.proofs.StateFacts.{areas_take}
use Rattle.group_plan.specs.Cleared.{unused_labels}
use Rattle.group_plan.specs.State.{IsState}
use Rattle.group_plan.specs.declared.state.Change.{Change}
use Rattle.group_plan.specs.declared.state.GroupState.{GroupState}
use Rattle.group_plan.specs.declared.state.NewLabel.{NewLabel}
use Rattle.lv_plans.specs.Allocating.{Takes}
use Rattle.group_ops.specs.Planning.{IsPlanned, asks_of, change_of, refusal_of}
use Rattle.change_batches.specs.Batches.{areas_of, batch_if, commit_batches, label_put, new_area_puts}
use Rattle.change_batches.specs.Sound.{sizes_of, CanMake, FitsFields, IsReadAgain, LiesOn}
use Rattle.change_batches.specs.Laws.{HasLabel, HoldsAfter, ShowsEntries}
use Rattle.change_batches.proofs.ClearedAreas.{state_scanned}
use Rattle.change_batches.proofs.ClearedImages.{clears_images}
use Rattle.change_batches.proofs.FarAreas.{areas_far}
use Rattle.change_batches.proofs.KeptImages.{areas_shown, areas_unpublished, change_kept, labels_stand}
use Rattle.change_batches.proofs.LabelsRead.{header_found, label_read}
use Rattle.vg_change.specs.LineBatches.{batches_of}
use Rattle.vg_change.specs.CarryingOut.{KeepsImages}
use Rattle.vg_change.specs.LineLaws.{AreasAreKept, IsFoundAfter}
use Rattle.vg_change.proofs.LineLabels.{headers_found, new_empty, new_labels_are, new_near}
use Rattle.vg_change.proofs.Sound.{can_make, lies_on}

-- every image on the way keeps what the base holds
pub areas_kept : (state : GroupState) (line : Line) (now : ℕ) (given : List Part) (sizes : List ℕ) → IsState state
    → IsPlanned line.id line.command → refusal_of state line now given ≡ None → CanMake state.areas (change_of state line now given) now
    → LiesOn sizes state.areas (change_of state line now given) → IsReadAgain state.areas (change_of state line now given) now
    → (base image : Image) → ShowsEntries state.areas base → HasFirstBatches (batches_of state line now given) base image
    → AreasAreKept state line now given base image
areas_kept state line now given sizes is planned passes can lies again base image names h =
    let change : Change = change_of state line now given in
    let kept = change_kept state.areas (areas_take state is) (areas_far state is) change can.labels lies.differ base names now
    (λ none. new_near change.labels (new_labels_are state line now given is planned passes none)) can.commit again.commit image h in
    record { areas = kept.0; labels = kept.1 }

module _ (state : GroupState) (line : Line) (now : ℕ) (given : List Part) (sizes : List ℕ) (is : IsState state)
    (planned : IsPlanned line.id line.command) (passes : refusal_of state line now given ≡ None)
    (can : CanMake state.areas (change_of state line now given) now) (lies : LiesOn sizes state.areas (change_of state line now given))
    (again : IsReadAgain state.areas (change_of state line now given) now)
    (base : Image) (names : ShowsEntries state.areas base) where
  abbrev change : Change
  change = change_of state line now given

  abbrev batches_for : Option Group → List (List Put)
  batches_for g =
      batch_if (new_area_puts g change.labels) ++ batch_if (map label_put change.labels)
      ++ commit_batches g now (areas_of change state.areas)

  holds : (g : Option Group) → change.group ≡ g → HoldsAfter g now change state.areas (with_batches (batches_for g) base)
  holds None is_none =
      new_empty sizes change.labels (new_labels_are state line now given is planned passes is_none) can.labels (lies.new_areas is_none)
      lies.differ base
  holds (Some group) is_some =
      areas_shown state.areas (areas_take state is) (areas_far state is) change can.labels lies.differ base names now
      (λ none. new_near change.labels (new_labels_are state line now given is planned passes none)) can.commit again.commit group is_some

  label_there : (k : ℕ) (d : NewLabel) → k < length change.labels
      → HasLabel (with_batches (batches_of state line now given) base) (get_or change.labels k d)
  label_there k d within =
      let label : NewLabel = get_or change.labels k d in
      let there =
      labels_stand state.areas (areas_take state is) (areas_far state is) change can.labels lies.differ base names now
      (λ none. new_near change.labels (new_labels_are state line now given is planned passes none)) can.commit again.commit k d within in
      record {
        label = subst (λ (l : List ℕ). IsLabel l label.sector) (sym there) (label_read label (can.labels k d within));
        header =
            subst (λ (l : List ℕ). IsPvHeader l label.header []) (sym there)
            (header_found label (can.labels k d within) (again.labels k d within)
            (headers_found state line now given is planned passes k d within));
      }

-- and once all batches are written, what the line makes is found
pub found_after : (state : GroupState) (line : Line) (now : ℕ) (given : List Part) (sizes : List ℕ) → IsState state
    → IsPlanned line.id line.command → refusal_of state line now given ≡ None → CanMake state.areas (change_of state line now given) now
    → LiesOn sizes state.areas (change_of state line now given)
    → IsReadAgain state.areas (change_of state line now given) now → (base : Image) → ShowsEntries state.areas base
    → IsFoundAfter state line now given (with_batches (batches_of state line now given) base)
found_after state line now given sizes is planned passes can lies again base names = record {
  labels = label_there state line now given sizes is planned passes can lies again base names;
  areas = holds state line now given sizes is planned passes can lies again base names (change_of state line now given).group refl;
}

-- its batches, where this group is committed
abbrev batches_with : GroupState → Line → ℕ → List Part → Option Group → List (List Put)
batches_with state line now given g =
    batch_if (new_area_puts g (change_of state line now given).labels) ++ batch_if (map label_put (change_of state line now given).labels)
    ++ commit_batches g now (areas_of (change_of state line now given) state.areas)

-- all of it, of a line that no row refuses, whose change is written so that it is read again as it is
pub keeps_images : (state : GroupState) (line : Line) (now : ℕ) (given : List Part) → IsState state → IsPlanned line.id line.command
    → Takes (asks_of state line) given → refusal_of state line now given ≡ None
    → (made : Change) → made ≡ change_of state line now given → IsReadAgain state.areas made now
    → All FitsFields (unused_labels made.cleared state.disks) → KeepsImages state line now given
keeps_images state line now given is planned takes none made same again fields =
    let can : CanMake state.areas (change_of state line now given) now = can_make state line now given is planned takes none in
    let lies : LiesOn (sizes_of state.disks) state.areas (change_of state line now given) =
    lies_on state line now given is planned takes none in
    let read : IsReadAgain state.areas (change_of state line now given) now =
    subst (λ (c : Change). IsReadAgain state.areas c now) same again in
    record {
      kept = λ base image names h.
          areas_kept state line now given (sizes_of state.disks) is planned none can lies read base image names h;
      unpublished = λ base image n group names made' less h.
          areas_unpublished state.areas (areas_take state is) (areas_far state is) (change_of state line now given) can.labels lies.differ
          base names now
          (λ none'. new_near (change_of state line now given).labels (new_labels_are state line now given is planned none none'))
          can.commit read.commit group made'
          image n (subst (λ (g : Option Group). n < length (batches_with state line now given g)) made' less)
          (subst (λ (g : Option Group). HasFirstBatches (take n (batches_with state line now given g)) base image) made' h);
      found = λ base names. found_after state line now given (sizes_of state.disks) is planned none can lies read base names;
      clears =
          clears_images state.disks state.areas (state_scanned state is) (change_of state line now given).cleared
          (subst (λ (c : Change). All FitsFields (unused_labels c.cleared state.disks)) same fields);
    }
