-- Lines over three disks, judged by computing.
use Rattle.std.proofs.Common.{◌≡◌, ℕ, true, false, List, [], ◌∷◌, Some, None, Err, refl}
use Rattle.std.specs.Fmt.{digits}
use Rattle.std.specs.Prelude.{codes}
use Rattle.command_table.specs.Options.{number_named}
use Rattle.command_table.specs.declared.command.Command.{Command}
use Rattle.command_table.specs.declared.command.Command.TheVariants.{Pvcreate, Vgcreate}
use Rattle.line_answers.specs.declared.op_refusal.OpRefusal.TheVariants.{TooSmall}
use Rattle.lvm_script.specs.declared.line.Line.{Line}
use Rattle.pv_label.specs.declared.refusal.LabelRefusal.TheVariants.{NoLabel as NoneFound}
use Rattle.pv_header.specs.Areas.{next_start}
use Rattle.pv_header.specs.declared.extent_list.Extent.{Extent}
use Rattle.pv_header.specs.declared.header.PvHeader.{PvHeader}
use Rattle.mda_header.specs.declared.entry.HeaderEntry.TheVariants.{Nothing}
use Rattle.mda_header.specs.declared.refusal.MdaRefusal.TheVariants.{BadMagic}
use Rattle.meta_model.specs.declared.pv.Pv.{Pv}
use Rattle.disk_contents.specs.declared.contents.PvFound.TheVariants.{NoLabel, Whole}
use Rattle.vg_found.specs.declared.disk.Disk.{Disk}
use Rattle.vg_found.specs.Disks.{held_areas}
use Rattle.group_plan.specs.Added.{added_named, added_of}
use Rattle.group_plan.specs.Judging.{small_row}
use Rattle.group_edits.specs.JoinedGroup.{free_number}
use Rattle.group_plan.specs.NewGroup.{extended}
use Rattle.group_plan.specs.declared.state.GroupState.{GroupState}
use Rattle.pv_plans.specs.Pvcreate.{new_header}
use Rattle.vg_plans.specs.Vgcreate.{empty_group}
use Rattle.group_ops.specs.Planning.{change_of}

abbrev extent : ℕ → ℕ → Extent
extent offset size = record { offset = offset; size = size }

-- what an older pvcreate wrote, with this id
abbrev header : ℕ → PvHeader
header id =
    record {
      id = id ∷ [];
      device_bytes = 33554432;
      data_areas = extent 1048576 0 ∷ [];
      areas = extent 4096 1044480 ∷ [];
      version = 1;
      flags = 0;
    }

-- a disk with it, and with its label in sector 2
abbrev whole : ℕ → Disk
whole id =
    record {
      sectors = 65536;
      contents = Some
          (Whole 2 (header id) (record { area = extent 4096 1044480; header = Err BadMagic; entry = Nothing } ∷ []));
    }

-- two such disks and a blank one
abbrev disks : List Disk
disks = whole 1 ∷ whole 2 ∷ (record { sectors = 65536; contents = Some (NoLabel NoneFound) }) ∷ []

abbrev state : GroupState
state =
    record {
      group = None;
      disks = disks;
      names = codes "a" ∷ codes "b" ∷ codes "c" ∷ [];
      areas = held_areas 0 disks;
      disk_of = [];
      backup = None;
    }

abbrev line : Command → Line
line command = record { number = 1; id = Some (9 ∷ []); command = command }

-- a label that was found stays in its sector
row_kept : (change_of state (line (Pvcreate (codes "a") 1)) 0 []).labels
    ≡ (record { disk = 0; sector = 2; header = new_header (9 ∷ []) 65536 1 }) ∷ []
unfolding number_named
row_kept = refl

-- a new one is in sector 1, here of a physical volume without a metadata area
row_new : (change_of state (line (Pvcreate (codes "c") 0)) 0 []).labels
    ≡ (record {
      disk = 2;
      sector = 1;
      header =
          record { id = 9 ∷ []; device_bytes = 33554432; data_areas = extent 1048576 0 ∷ []; areas = []; version = 2; flags = 0 };
    }) ∷ []
unfolding number_named
row_new = refl

-- a group of both disks, each with seven extents of 8,192 sectors
abbrev pv : ℕ → List ℕ → Pv
pv id device =
    record { id = id ∷ []; device = device; allocatable = true; missing = false; dev_size = 65536; pe_start = 2048; pe_count = 7 }

row_group : (change_of state (line (Vgcreate (codes "vg") 8192 (codes "b" ∷ codes "a" ∷ []))) 0 []).group
    ≡ Some (record (empty_group (9 ∷ []) (codes "vg") 8192)
    { pvs = (codes "pv0", pv 2 (codes "b")) ∷ (codes "pv1", pv 1 (codes "a")) ∷ [] })
unfolding digits number_named added_named extended free_number next_start
row_group = refl

-- their labels stay in sector 2, with version 2 and the used flag
row_labels : (change_of state (line (Vgcreate (codes "vg") 8192 (codes "b" ∷ codes "a" ∷ []))) 0 []).labels
    ≡ (record { disk = 1; sector = 2; header = record (header 2) { version = 2; flags = 1 } })
    ∷ (record { disk = 0; sector = 2; header = record (header 1) { version = 2; flags = 1 } }) ∷ []
unfolding number_named added_named
row_labels = refl

-- no extent of 65,536 sectors fits behind the first 2,048
row_small : small_row 65536 (added_of state (codes "a" ∷ [])) ≡ Some (TooSmall 65536 67584)
unfolding number_named added_named small_row next_start
row_small = refl

-- a disk with two areas, which has 513 extents of 8 sectors between them
abbrev with_two : Disk
with_two =
    record {
      sectors = 8192;
      contents =
          Some (Whole 1 (new_header (3 ∷ []) 8192 2)
          (record { area = extent 4096 1044480; header = Err BadMagic; entry = Nothing }
          ∷ record { area = extent 3149824 1044480; header = Err BadMagic; entry = Nothing } ∷ []));
    }

row_between : (change_of (record state { disks = with_two ∷ []; names = codes "a" ∷ []; areas = held_areas 0 (with_two ∷ []) })
    (line (Vgcreate (codes "vg") 8 (codes "a" ∷ []))) 0 []).group
    ≡ Some (record (empty_group (9 ∷ []) (codes "vg") 8)
    { pvs = (codes "pv0", record (pv 3 (codes "a")) { dev_size = 8192; pe_count = 513 }) ∷ [] })
unfolding digits number_named added_named extended free_number next_start
row_between = refl
