-- What each row of a pvcreate on its disk says where none refuses, by its name: nothing else goes by the places of rows.
use Rattle.std.proofs.Common.{◌≡◌, ℕ, ◌||◌, nat_lt, false, List, Some, None}
use Rattle.line_answers.specs.declared.op_refusal.OpRefusal.TheVariants.{IdTaken, PvUsed, TooSmall}
use Rattle.vg_found.specs.declared.disk.Disk.{Disk}
use Rattle.group_plan.proofs.Rows.{none_holds, test_fails}
use Rattle.group_plan.specs.Judging.{first_refusal, stands_on_disk}
use Rattle.group_plan.specs.declared.state.GroupState.{GroupState}
use Rattle.pv_plans.specs.Pvcreate.{disk_rows, fewest_sectors, group_has, is_listed}

pub record DiskPasses (state : GroupState) (id : List ℕ) (copies number : ℕ) (disk : Disk) : Type 0 where
  pub unlisted : is_listed state number ≡ false
  pub enough : nat_lt disk.sectors (fewest_sectors copies) ≡ false
  pub own_id : (group_has id state.group || stands_on_disk id state.disks) ≡ false

pub disk_passes : (state : GroupState) (id name : List ℕ) (copies number : ℕ) (disk : Disk)
    → first_refusal (disk_rows state id name copies number (Some disk)) ≡ None → DiskPasses state id copies number disk
disk_passes state id name copies number disk none =
    let rows = none_holds (disk_rows state id name copies number (Some disk)) none in
    record {
      unlisted = test_fails (is_listed state number) (PvUsed name) rows.0;
      enough = test_fails (nat_lt disk.sectors (fewest_sectors copies)) (TooSmall disk.sectors (fewest_sectors copies)) rows.1.0;
      own_id = test_fails (group_has id state.group || stands_on_disk id state.disks) (IdTaken id) rows.1.1.0;
    }
