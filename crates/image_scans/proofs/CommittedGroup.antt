-- A group that a change commits: its physical volumes, their disks and their labels.
use Rattle.std.proofs.Common.{◌≡◌, ℕ, true, false, List, ◌++◌, map, Some}
use Rattle.std.specs.Prelude.{All, slice_get}
use Rattle.std.specs.List.{AllByRecursion as Each}
use Rattle.std.specs.Option.{option_and_then}
use Rattle.pv_header.specs.declared.header.PvHeader.{PvHeader}
use Rattle.meta_model.specs.declared.group.Group.{Group}
use Rattle.meta_model.specs.declared.pv.Pv.{Pv}
use Rattle.scan_rules.specs.Decision.{lists}
use Rattle.scan_rules.specs.Found.{is_missing}
use Rattle.vg_found.specs.declared.disk.Disk.{Disk}
use Rattle.vg_found.specs.Disks.{disks_of, header_on, shapes}
use Rattle.group_edits.proofs.Whole.{IsWhole}
use Rattle.group_plan.specs.Added.{disks_added, label_of, pv_in}
use Rattle.group_plan.specs.declared.added.AddedPv.{AddedPv}
use Rattle.group_plan.specs.declared.state.Change.{Change}
use Rattle.group_plan.specs.declared.state.GroupState.{GroupState}

-- it is the physical volume that was found on its disk
pub record IsAddedOn (disks : List Disk) (added : AddedPv) : Type 0 where
  pub disk : Disk
  pub there : slice_get disks added.disk ≡ Some disk
  pub found : option_and_then pv_in disk.contents ≡ Some (added.label, added.header)

-- the header on the disk is that of a physical volume of the group
pub record IsListedOn (group : Group) (disks : List Disk) (number : ℕ) : Type 0 where
  pub disk : Disk
  pub there : slice_get disks number ≡ Some disk
  pub header : PvHeader
  pub is : header_on disk.contents ≡ Some header
  pub listed : lists group header.id ≡ true

-- the group keeps the rules; its disks are those of its physical volumes, of which none is missing, and each disk that gets a
-- label is one of them
pub record MakesGroup (state : GroupState) (change : Change) (group : Group) : Type 0 where
  pub made : change.group ≡ Some group
  pub whole : IsWhole group
  pub first : List ℕ
  pub all : List AddedPv
  pub labels_is : change.labels ≡ map label_of all
  pub disk_of_is : change.disk_of ≡ first ++ disks_added all
  pub on : All (IsAddedOn state.disks) all
  pub listed : All (IsListedOn group state.disks) change.disk_of
  pub disks_is : disks_of group state.disks ≡ change.disk_of
  pub there : Each (λ (pv : List ℕ × Pv). is_missing (shapes state.disks) pv ≡ false) group.pvs
