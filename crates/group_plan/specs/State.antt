-- What a line may be judged against.
use Rattle.std.specs.Prelude.{◌≡◌, ◌≤◌, ◌<◌, ℕ, true, None, Some, length, slice_get, All, IfSome}
use Rattle.command_table.specs.Values.{is_disk_name}
use Rattle.scan_rules.specs.Decision.{first_duplicate, first_misplaced, ids_from}
use Rattle.vg_found.specs.declared.disk.Disk.{Disk}
use Rattle.vg_found.specs.Disks.{disks_of, held_areas, shapes}
use Rattle.vg_found.specs.Shape.{IsDisk}
use Rattle.group_plan.specs.declared.state.GroupState.{GroupState}

-- at most 64 disks with what can stand on them, and a name for each; no id stands on two; the areas are those on them that
-- aren't ignored; each physical volume of the group is on one of them, and its extents lie in that, and meet neither sectors 0 to
-- 7 nor a metadata area
pub record IsState (state : GroupState) : Type 0 where
  pub few : length state.disks ≤ 64
  pub disks : (pv : ℕ) (disk : Disk) → slice_get state.disks pv ≡ Some disk → IsDisk pv disk
  pub differ : first_duplicate (ids_from 0 (shapes state.disks)) ≡ None
  pub named : length state.names ≡ length state.disks
  pub names : All (λ name. is_disk_name name ≡ true) state.names
  pub areas : state.areas ≡ held_areas 0 state.disks
  pub disk_of : IfSome state.group (λ group. state.disk_of ≡ disks_of group state.disks)
  pub there : IfSome state.group (λ group. All (λ pv. pv < length state.disks) state.disk_of)
  pub placed : IfSome state.group (λ group. first_misplaced group (shapes state.disks) ≡ None)
