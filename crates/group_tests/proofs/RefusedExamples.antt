-- Lines of pvcreate and vgcreate over three disks that are refused, judged by computing.
use Rattle.std.proofs.Common.{◌≡◌, ℕ, List, [], ◌∷◌, Option, Some, None, Err, refl}
use Rattle.std.specs.Cmp.{nat_cmp_total}
use Rattle.std.specs.FinSet as set
use Rattle.std.specs.Fmt.{digits}
use Rattle.std.specs.Ordering.{nat_cmp}
use Rattle.std.specs.Prelude.{codes}
use Rattle.lvm_id.specs.LvmId.{hyphen_form}
use Rattle.command_table.specs.Options.{number_named}
use Rattle.command_table.specs.declared.command.Command.{Command}
use Rattle.command_table.specs.declared.command.Command.TheVariants.{Pvcreate}
use Rattle.line_answers.specs.declared.op_refusal.OpRefusal.{OpRefusal}
use Rattle.line_answers.specs.declared.op_refusal.OpRefusal.TheVariants.{IdTaken, NoArea, PvUsed, TooSmall, UnknownPv}
use Rattle.lvm_script.specs.declared.line.Line.{Line}
use Rattle.pv_header.specs.Areas.{next_start}
use Rattle.pv_header.specs.declared.extent_list.Extent.{Extent}
use Rattle.pv_header.specs.declared.header.PvHeader.{PvHeader}
use Rattle.pv_header.specs.declared.refusal.PvRefusal.TheVariants.{ListUnended}
use Rattle.mda_header.specs.declared.entry.HeaderEntry.{HeaderEntry}
use Rattle.mda_header.specs.declared.entry.HeaderEntry.TheVariants.{Ignored, Nothing}
use Rattle.mda_header.specs.declared.refusal.MdaRefusal.TheVariants.{BadMagic}
use Rattle.mda_ring.specs.Ring.{need, room}
use Rattle.conf_text.specs.Bytes.{kind}
use Rattle.meta_model.specs.declared.group.Group.{Group}
use Rattle.disk_contents.specs.declared.contents.AreaFound.{AreaFound}
use Rattle.disk_contents.specs.declared.contents.PvFound.TheVariants.{NoHeader, Whole}
use Rattle.vg_found.specs.declared.disk.Disk.{Disk}
use Rattle.vg_found.specs.Disks.{held_areas}
use Rattle.group_plan.specs.Added.{added_named, added_of}
use Rattle.group_plan.specs.Judging.{area_row, first_refusal, many_row, small_row, stored_size, unknown_row, used_row}
use Rattle.group_edits.specs.JoinedGroup.{free_number}
use Rattle.group_plan.specs.NewGroup.{extended}
use Rattle.group_plan.specs.declared.state.GroupState.{GroupState}
use Rattle.pv_plans.specs.Pvcreate.{new_header}
use Rattle.vg_plans.specs.Vgcreate.{empty_group, vgcreate_rows}
use Rattle.group_ops.specs.Planning.{change_of, refusal_of}

abbrev extent : ℕ → ℕ → Extent
extent offset size = record { offset = offset; size = size }

-- an area with this in it
abbrev area : HeaderEntry → AreaFound
area entry = record { area = extent 4096 1044480; header = Err BadMagic; entry = entry }

-- a disk with the header of this id, and with this in its area
abbrev whole : ℕ → HeaderEntry → Disk
whole id entry = record {
  sectors = 65536;
  contents = Some (Whole 2 (new_header (id ∷ []) 65536 1) (area entry ∷ []));
}

-- two such disks, and one of so many sectors with a label in sector 3 alone
abbrev disks : HeaderEntry → ℕ → List Disk
disks entry sectors = whole 1 entry ∷ whole 2 entry ∷ record { sectors = sectors; contents = Some (NoHeader 3 (ListUnended 1)) } ∷ []

abbrev state : HeaderEntry → ℕ → GroupState
state entry sectors = record {
  group = None;
  disks = disks entry sectors;
  names = codes "a" ∷ codes "b" ∷ codes "c" ∷ [];
  areas = held_areas 0 (disks entry sectors);
  disk_of = [];
  backup = None;
}

abbrev line : ℕ → Command → Line
line id command = record { number = 1; id = Some (id ∷ []); command = command }

-- ---- pvcreate

abbrev new_with : ℕ → ℕ → ℕ → List ℕ → Option OpRefusal
new_with copies sectors id name = refusal_of (state Nothing sectors) (line id (Pvcreate name copies)) 0 []

abbrev new_on : ℕ → ℕ → List ℕ → Option OpRefusal
new_on sectors id name = new_with 1 sectors id name

row_unknown : new_on 2055 9 (codes "d") ≡ Some (UnknownPv (codes "d"))
unfolding number_named
row_unknown = refl

-- also where the id is taken
row_few_sectors : new_on 2055 1 (codes "c") ≡ Some (TooSmall 2055 2056)
unfolding number_named
row_few_sectors = refl

row_id_on_disk : new_on 2056 2 (codes "a") ≡ Some (IdTaken (2 ∷ []))
unfolding number_named
row_id_on_disk = refl

row_least : new_on 2056 9 (codes "c") ≡ None
unfolding number_named
row_least = refl

-- two areas need more
row_few_for_two : new_with 2 4095 9 (codes "c") ≡ Some (TooSmall 4095 4096)
unfolding number_named
row_few_for_two = refl

row_least_for_two : new_with 2 4096 9 (codes "c") ≡ None
unfolding number_named
row_least_for_two = refl

-- the label stays in its sector, and all of the disk behind the first mebibyte is for data
abbrev header : PvHeader
header = record {
  id = 9 ∷ [];
  device_bytes = 1052672;
  data_areas = extent 1048576 0 ∷ [];
  areas = extent 4096 1044480 ∷ [];
  version = 2;
  flags = 0;
}

row_label : (change_of (state Nothing 2056) (line 9 (Pvcreate (codes "c") 1)) 0 []).labels
    ≡ record { disk = 2; sector = 3; header = header } ∷ []
unfolding number_named
row_label = refl

-- a second area is at the disk's end
row_two_areas : (change_of (state Nothing 8192) (line 9 (Pvcreate (codes "c") 2)) 0 []).labels
    ≡ record {
      disk = 2;
      sector = 3;
      header = record header { device_bytes = 4194304; areas = extent 4096 1044480 ∷ extent 3149824 1044480 ∷ [] };
    } ∷ []
unfolding number_named
row_two_areas = refl

-- ---- vgcreate

-- of this id, of extents of so many sectors, on the disks with these names, with this in their areas
abbrev creating : HeaderEntry → ℕ → ℕ → List (List ℕ) → Option OpRefusal
creating entry id size names = first_refusal (vgcreate_rows (state entry 2056) (empty_group (id ∷ []) (codes "vg") size) names 0)

-- c holds no physical volume: that is said before that a is named twice
row_no_pv : creating Nothing 9 8192 (codes "a" ∷ codes "a" ∷ codes "c" ∷ []) ≡ Some (UnknownPv (codes "c"))
unfolding number_named added_named unknown_row
row_no_pv = refl

-- before that it has too few sectors
row_twice : creating Nothing 9 65536 (codes "a" ∷ codes "a" ∷ []) ≡ Some (PvUsed (codes "a"))
unfolding number_named added_named unknown_row used_row
row_twice = simp (set.contains-empty nat_cmp, set.contains-insert nat_cmp_total) refl

-- before that the id is taken
row_no_extent : creating Nothing 2 65536 (codes "a" ∷ []) ≡ Some (TooSmall 65536 67584)
unfolding number_named added_named unknown_row used_row area_row small_row next_start
row_no_extent = simp (set.contains-empty nat_cmp, set.contains-insert nat_cmp_total) refl

row_group_id : creating Nothing 2 8192 (codes "a" ∷ []) ≡ Some (IdTaken (2 ∷ []))
unfolding number_named added_named unknown_row used_row area_row small_row many_row next_start
row_group_id = simp (set.contains-empty nat_cmp, set.contains-insert nat_cmp_total) refl

-- areas that are marked as ignored are none
row_ignored : creating Ignored 9 65536 (codes "a" ∷ []) ≡ Some NoArea
unfolding number_named added_named unknown_row used_row area_row
row_ignored = simp (set.contains-empty nat_cmp) refl

-- a group of both disks
abbrev of_both : Group
of_both = extended (empty_group (9 ∷ []) (codes "vg") 8192) (added_of (state Nothing 2056) (codes "a" ∷ codes "b" ∷ []))

-- its text needs two sectors
row_need : need (stored_size of_both 0) ≡ 2
unfolding digits number_named added_named stored_size extended free_number next_start hyphen_form kind
row_need = refl

-- a text that leaves one sector of an area free
row_room : room 1044480 (Some (record { offset = 512; size = 1043456; sum = 17 })) ≡ 1
row_room = refl
