-- All batches of a change.
use Rattle.std.proofs.Common.{◌≡◌, ℕ, Bool, true, false, not, List, [], ◌++◌, map, Option, Some, None, refl, sym, ap, subst, ◌∙◌}
use Rattle.std.specs.Prelude.{All, flat_map, is_some}
use Rattle.std.proofs.lemmas.Bool.{true≢false}
use Rattle.std.proofs.lemmas.List.Elements.{All-nil}
use Rattle.std.proofs.lemmas.Option.{same_Some}
use Rattle.disk_model.specs.Operations.{Fills}
use Rattle.mda_header.specs.declared.header.Locn.{Locn}
use Rattle.mda_ring.specs.declared.area.Area.{Area}
use Rattle.conf_text.specs.Printed.{printed}
use Rattle.meta_model.specs.declared.group.Group.{Group}
use Rattle.meta_print.specs.Layout.{tree_of}
use Rattle.disk_batch.specs.Batches.{writes_of}
use Rattle.disk_batch.specs.InTurn.{CanRun, Put}
use Rattle.disk_batch.specs.declared.batch.Batch.{Batch}
use Rattle.vg_commit.specs.Plans.{HeadersRead}
use Rattle.vg_commit.specs.TooLarge.{first_too_large}
use Rattle.group_plan.specs.Judging.{set_of}
use Rattle.group_plan.specs.declared.state.Change.{Change}
use Rattle.group_plan.specs.declared.state.NewLabel.{NewLabel}
use Rattle.change_batches.specs.Batches.{area_puts, areas_of, batch_if, change_batches, commit_batches, label_put, new_area_puts}
use Rattle.change_batches.specs.Building.{IsAdded, IsOnFew, IsTextAdded}
use Rattle.change_batches.specs.Sound.{CanMake, FitsFields, IsReadAgain, LiesOn}
use Rattle.change_batches.proofs.Adding.{CommitAdded, added_run, added_writes, commit_run, commit_writes}
use Rattle.change_batches.proofs.AreaBatch.{area_batch}
use Rattle.change_batches.proofs.DisksWritten.{AreApart}
use Rattle.change_batches.proofs.LabelBatch.{label_batch}

-- the headers of areas come first where no group is committed
pub areas_added : (group : Option Group) (labels : List NewLabel) (none : Bool) (old new : List Batch) → is_some group ≡ not none
    → none ≡ true → old ≡ [] → IsAdded (flat_map area_puts labels) old new → IsAdded (new_area_puts group labels) [] new
areas_added None labels none old new is holds empty added =
    subst (λ (l : List Batch). IsAdded (flat_map area_puts labels) l new) empty added
areas_added (Some group) labels none old new is holds empty added = absurd (true≢false (is ∙ ap not holds))

pub no_areas : (group : Option Group) (labels : List NewLabel) (none : Bool) (new : List Batch) → is_some group ≡ not none → none ≡ false
    → new ≡ [] → IsAdded (new_area_puts group labels) [] new
no_areas None labels none new is other empty = absurd (true≢false (sym (is ∙ ap not other)))
no_areas (Some group) labels none new is other empty = empty

-- the commit's come last where one is
pub group_added : (change : Option Group) (group shown : Group) (areas : List (Area × Option Locn)) (disks : List ℕ) (now : ℕ)
    (old new : List Batch) → change ≡ Some group → shown ≡ group
    → IsTextAdded (printed (tree_of shown now)) areas (set_of disks) old new
    → CommitAdded change areas (set_of disks) now old new
group_added change group shown areas disks now old new is same added =
    subst (λ (o : Option Group). CommitAdded o areas (set_of disks) now old new) (sym (is ∙ ap Some (sym same))) added

pub no_commit : (change : Option Group) (areas : List (Area × Option Locn)) (disks : List ℕ) (now : ℕ) (old new : List Batch)
    → ((group : Group) → change ≡ Some group → ⊥) → new ≡ old → CommitAdded change areas (set_of disks) now old new
no_commit None areas disks now old new other same = same
no_commit (Some group) areas disks now old new other same = absurd (other group refl)

-- its text has room
pub has_room : (areas : List (Area × Option Locn)) (change : Change) (now : ℕ) (group shown : Group) → CanMake areas change now
    → change.group ≡ Some group → shown ≡ group → first_too_large (printed (tree_of shown now)) (areas_of change areas) ≡ None
has_room areas change now group shown can is same =
    subst (λ (g : Group). first_too_large (printed (tree_of g now)) (areas_of change areas) ≡ None) (sym same) (can.commit group is).room

-- its headers are read again as they are
commit_read : (areas : List (Area × Option Locn)) (disks : List ℕ) (now : ℕ) (old new : List Batch) (o : Option Group)
    → CommitAdded o areas (set_of disks) now old new
    → (group : Group) → o ≡ Some group → All (HeadersRead (printed (tree_of group now))) areas
commit_read areas disks now old new None is group some = absurd cc
commit_read areas disks now old new (Some own) is group some =
    subst (λ (g : Group). All (HeadersRead (printed (tree_of g now))) areas) (same_Some own group some) is.read

-- and so is all that it writes
pub all_read : (change : Change) (areas : List (Area × Option Locn)) (now : ℕ) (old new : List Batch) (labels : List NewLabel)
    → labels ≡ change.labels → All FitsFields labels
    → CommitAdded change.group (areas_of change areas) (set_of change.disk_of) now old new → IsReadAgain areas change now
all_read change areas now old new labels same fit commit_is = record {
  labels = subst (λ (l : List NewLabel). All FitsFields l) same fit;
  commit = commit_read (areas_of change areas) change.disk_of now old new change.group commit_is;
}

areas_apart : (sizes : List ℕ) (labels : List NewLabel) (group : Option Group) → (group ≡ None → AreApart sizes (flat_map area_puts labels))
    → AreApart sizes [] → AreApart sizes (new_area_puts group labels)
areas_apart sizes labels None new none = new refl
areas_apart sizes labels (Some group) new none = none

module _ (change : Change) (areas : List (Area × Option Locn)) (now : ℕ) (first second third : List Batch)
    (areas_are : IsAdded (new_area_puts change.group change.labels) [] first)
    (labels_are : IsAdded (map label_put change.labels) first second)
    (commit_is : CommitAdded change.group (areas_of change areas) (set_of change.disk_of) now second third) where
  pub all_writes : map writes_of third ≡ change_batches change areas now
  all_writes =
      commit_writes (areas_of change areas) (set_of change.disk_of) now second third change.group commit_is
      ∙ ap (λ (l : List (List Put)). l ++ commit_batches change.group now (areas_of change areas))
      (added_writes (map label_put change.labels) first second labels_are
      ∙ ap (λ (l : List (List Put)). l ++ batch_if (map label_put change.labels))
      (added_writes (new_area_puts change.group change.labels) [] first areas_are))

  pub all_run : CanMake areas change now → (sizes : List ℕ) → LiesOn sizes areas change → All (CanRun sizes) third
  all_run can sizes lies =
      let new : AreApart sizes (new_area_puts change.group change.labels) =
      areas_apart sizes change.labels change.group (λ none. area_batch sizes change.labels can.labels (lies.new_areas none) lies.differ)
      (record { few = All-nil IsOnFew; lie = All-nil (λ (put : Put). Fills sizes put.0 put.1); apart = tt })
      in
      commit_run (areas_of change areas) (set_of change.disk_of) now second third sizes change.group commit_is lies.commit
      (added_run sizes (map label_put change.labels) first second labels_are
      (label_batch sizes change.labels can.labels lies.labels lies.differ)
      (added_run sizes (new_area_puts change.group change.labels) [] first areas_are new (All-nil (CanRun sizes))))
