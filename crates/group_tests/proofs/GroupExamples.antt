-- Lines on a group of two disks, judged by computing.
use Rattle.std.proofs.Common.{◌≡◌, ℕ, true, false, List, [], ◌∷◌, map, Option, Some, None, Err, refl}
use Rattle.std.specs.Prelude.{codes}
use Rattle.std.specs.Cmp.{nat_cmp_total}
use Rattle.std.specs.FinSet as set
use Rattle.std.specs.Ordering.{nat_cmp}
use Rattle.lvm_id.specs.LvmId.{hyphen_form}
use Rattle.command_table.specs.Options.{number_named}
use Rattle.line_answers.specs.declared.op_refusal.OpRefusal.{OpRefusal}
use Rattle.line_answers.specs.declared.op_refusal.OpRefusal.TheVariants.{BadRule, BadText, InUse, LastPv, MoveStands, NoArea, NotInGroup}
use Rattle.line_answers.specs.declared.op_refusal.OpRefusal.TheVariants.{NotResizeable, OtherGroup, SeqnoEnd, TooMany, UnknownPv}
use Rattle.pv_label.specs.declared.refusal.LabelRefusal.TheVariants.{NoLabel as NoneFound}
use Rattle.pv_header.specs.declared.extent_list.Extent.{Extent}
use Rattle.pv_header.specs.declared.header.PvHeader.{PvHeader}
use Rattle.mda_header.specs.declared.entry.HeaderEntry.TheVariants.{Text}
use Rattle.mda_header.specs.declared.refusal.MdaRefusal.TheVariants.{BadMagic}
use Rattle.meta_model.specs.declared.group.Group.{Group}
use Rattle.meta_model.specs.declared.lv.Lv.{Lv}
use Rattle.meta_model.specs.declared.pv.Pv.{Pv}
use Rattle.meta_model.specs.declared.segment.On.{On}
use Rattle.meta_model.specs.declared.segment.On.TheVariants as on
use Rattle.meta_model.specs.declared.segment.SegKind.TheVariants.{Striped}
use Rattle.volume_rules.specs.declared.rule.Rule.TheVariants.{Extents, Volumes}
use Rattle.disk_contents.specs.declared.contents.PvFound.TheVariants.{NoLabel, Whole}
use Rattle.vg_found.specs.declared.disk.Disk.{Disk}
use Rattle.vg_found.specs.Disks.{disks_of, held_areas}
use Rattle.group_edits.specs.RestoredGroup.{restored_group}
use Rattle.group_plan.specs.Added.{added_named}
use Rattle.group_plan.specs.declared.backup.Backup.{Backup}
use Rattle.group_plan.specs.declared.backup.Backup.TheVariants.{Broken, Sound, Unread}
use Rattle.group_plan.specs.Marks.{unused, used}
use Rattle.group_plan.specs.Judging.{area_row, first_refusal, set_of, unknown_row}
use Rattle.group_plan.specs.Members.{pv_named}
use Rattle.group_plan.specs.Committing.{no_change}
use Rattle.group_plan.specs.declared.state.Change.{Change}
use Rattle.group_plan.specs.declared.state.GroupState.{GroupState}
use Rattle.vg_plans.specs.Vgcfgrestore.{other_group_rows, vgcfgrestore_change, vgcfgrestore_rows}
use Rattle.vg_plans.specs.Vgreduce.{leaving_tests, vgreduce_change, vgreduce_rows}
use Rattle.vg_plans.specs.Vgremove.{vgremove_change, vgremove_rows}

abbrev extent : ℕ → ℕ → Extent
extent offset size = record { offset = offset; size = size }

-- the header with this id, of a physical volume in use
abbrev header : ℕ → PvHeader
header id =
    record {
      id = id ∷ [];
      device_bytes = 67108864;
      data_areas = extent 1048576 0 ∷ [];
      areas = extent 4096 1044480 ∷ [];
      version = 2;
      flags = 1;
    }

-- a disk with it, and with a text in its area
abbrev whole : ℕ → Disk
whole id = record {
  sectors = 131072;
  contents =
      Some (Whole 1 (header id) (record {
        area = extent 4096 1044480;
        header = Err BadMagic;
        entry = Text (record { offset = 512; size = 479; sum = 0 });
      } ∷ []));
}

-- two disks of the group, one of none, and a blank one
abbrev disks : List Disk
disks = whole 1 ∷ whole 2 ∷ whole 3 ∷ (record { sectors = 131072; contents = Some (NoLabel NoneFound) }) ∷ []

-- a physical volume of 15 extents
abbrev pv : ℕ → List ℕ → Pv
pv id device =
    record { id = id ∷ []; device = device; allocatable = true; missing = false; dev_size = 131072; pe_start = 2048; pe_count = 15 }

-- a volume of four extents, on what this says
abbrev volume : ℕ → On → Lv
volume id on = record {
  id = id ∷ [];
  status = record { read = true; write = true; visible = true; fixed_minor = false; pvmove = false; locked = false; notsynced = false };
  created = 0;
  host = [];
  segments = record { start = 0; count = 4; kind = Striped 0 (record { on = on; first = 0 } ∷ []) } ∷ [];
}

-- a group of both disks, with these volumes
abbrev group_with : List (List ℕ × Lv) → Group
group_with lvs = record {
  name = codes "vg0";
  id = 9 ∷ [];
  seqno = 1;
  status = record { resizeable = true; read = true; write = true };
  extent_size = 8192;
  max_lv = 0;
  max_pv = 0;
  copies = 0;
  pvs = (codes "pv0", pv 1 (codes "a")) ∷ (codes "pv1", pv 2 (codes "b")) ∷ [];
  lvs = lvs;
}

abbrev state : Group → GroupState
state group =
    record {
      group = Some group;
      disks = disks;
      names = codes "a" ∷ codes "b" ∷ codes "c" ∷ codes "d" ∷ [];
      areas = held_areas 0 disks;
      disk_of = 0 ∷ 1 ∷ [];
      backup = None;
    }

-- one volume, on b
abbrev on_b : Group
on_b = group_with ((codes "data", volume 7 (on.Pv 1)) ∷ [])

abbrev plain : Group
plain = group_with []

-- why a vgreduce of vg0 by a disk is refused, and a vgremove of it, at the time 0
abbrev reducing : Group → List ℕ → Option OpRefusal
reducing group disk = first_refusal (vgreduce_rows (state group) (codes "vg0") disk 0)

abbrev removing : Group → Option OpRefusal
removing group = first_refusal (vgremove_rows (state group) (codes "vg0"))

abbrev without : Group → List ℕ → Change
without group disk = vgreduce_change (state group) disk

-- ---- vgreduce

row_fixed : reducing (record on_b { status = record { resizeable = false; read = true; write = true } }) (codes "a") ≡ Some NotResizeable
row_fixed = refl

row_blank : reducing on_b (codes "d") ≡ Some (UnknownPv (codes "d"))
unfolding number_named added_named unknown_row
row_blank = refl

row_other : reducing on_b (codes "c") ≡ Some (NotInGroup (codes "c"))
unfolding number_named added_named pv_named unknown_row
row_other = refl

row_in_use : reducing on_b (codes "b") ≡ Some (InUse (codes "b"))
unfolding number_named added_named pv_named unknown_row
row_in_use = refl

row_only : first_refusal (leaving_tests (state plain) (record plain { pvs = (codes "pv0", pv 1 (codes "a")) ∷ [] }) (codes "a") 0)
    ≡ Some (LastPv (codes "a"))
row_only = refl

-- a alone is listed then, and b is cleared
row_b_leaves : (without plain (codes "b")).group ≡ Some (record plain { seqno = 2; pvs = (codes "pv0", pv 1 (codes "a")) ∷ [] })
unfolding number_named pv_named
row_b_leaves = refl

row_b_cleared : (without plain (codes "b")).cleared ≡ set_of (1 ∷ [])
unfolding number_named pv_named
row_b_cleared = refl

row_a_stays : (without plain (codes "b")).disk_of ≡ 0 ∷ []
unfolding number_named pv_named
row_a_stays = refl

-- where a leaves, the volume lies on the same extents of b, which is the first physical volume then
row_a_leaves : (without on_b (codes "a")).group
    ≡ Some (record on_b { seqno = 2; pvs = (codes "pv1", pv 2 (codes "b")) ∷ []; lvs = (codes "data", volume 7 (on.Pv 0)) ∷ [] })
unfolding number_named pv_named
row_a_leaves = refl

-- ---- vgremove

row_has_volume : removing on_b ≡ Some (InUse (codes "data"))
row_has_volume = refl

row_none : removing plain ≡ None
row_none = refl

row_all_cleared : vgremove_change (state plain) ≡ record (no_change (state plain)) { cleared = set_of (0 ∷ 1 ∷ []); disk_of = [] }
row_all_cleared = refl

-- a label that was let go has no flag, and one of an old header has it, with version 2
row_unused : unused (header 2) ≡ record (header 2) { flags = 0 }
row_unused = refl

row_used : used (record (header 2) { version = 0; flags = 4 }) ≡ record (header 2) { flags = 5 }
row_used = refl

-- ---- vgcfgrestore

abbrev restoring : Group → Backup → Option OpRefusal
restoring group backup = first_refusal (vgcfgrestore_rows (record (state group) { backup = Some backup }) (codes "vg0") 0)

-- the number behind the greater one
row_restored : (vgcfgrestore_change (record (state on_b) { backup = Some (Sound plain) })).group ≡ Some (record plain { seqno = 2 })
row_restored = refl

row_later : (restored_group plain (record on_b { seqno = 7 })).seqno ≡ 8
row_later = refl

-- what was MISSING is there
row_there : (restored_group plain (record plain { pvs = (codes "pv0", record (pv 1 (codes "a")) { missing = true }) ∷ [] })).pvs
    ≡ (codes "pv0", pv 1 (codes "a")) ∷ []
row_there = refl

-- the text may list them in another order
row_by_ids : disks_of (record plain { pvs = (codes "pv1", pv 2 (codes "b")) ∷ (codes "pv0", pv 1 (codes "a")) ∷ [] }) disks ≡ 1 ∷ 0 ∷ []
row_by_ids = refl

row_bad_text : restoring plain (Unread (codes "BadToken")) ≡ Some (BadText (codes "BadToken"))
row_bad_text = refl

-- c is a disk with an area, and nothing stands on a disk with the id 4: that is said before that it is another group
row_no_area : map (λ id. restoring plain (Sound (record plain { pvs = (codes "pv0", pv id (codes "a")) ∷ [] }))) (3 ∷ 4 ∷ [])
    ≡ Some (OtherGroup (hyphen_form (3 ∷ [])) (hyphen_form (1 ∷ []))) ∷ Some NoArea ∷ []
unfolding area_row
row_no_area = simp (set.contains-empty nat_cmp, set.contains-insert nat_cmp_total) refl

row_bad_rule : restoring plain (Broken plain Extents) ≡ Some (BadRule 5)
unfolding area_row
row_bad_rule = simp (set.contains-insert nat_cmp_total) refl

-- its extents would leave the disk
row_bad_shape : restoring plain (Sound (record plain
    { pvs = (codes "pv0", record (pv 1 (codes "a")) { pe_count = 16; dev_size = 0 }) ∷ [] })) ≡ Some (BadRule 15)
unfolding area_row
row_bad_shape = simp (set.contains-insert nat_cmp_total) refl

row_moves : restoring plain (Sound (group_with
    ((
      codes "pvmove0",
      record (volume 7 (on.Pv 1)) {
        status =
            record { read = true; write = true; visible = false; fixed_minor = false; pvmove = true; locked = true; notsynced = false };
      },
    ) ∷ []))) ≡ Some MoveStands
row_moves = refl

row_both_last : restoring (record plain { seqno = 4294967295 }) (Unread (codes "BadToken")) ≡ Some SeqnoEnd
row_both_last = refl

row_many : restoring plain (Broken (record plain { max_pv = 1 }) Volumes) ≡ Some (TooMany 2 1)
unfolding area_row
row_many = simp (set.contains-insert nat_cmp_total) refl

row_other_id : restoring plain (Sound (record plain { id = 8 ∷ [] })) ≡ Some (OtherGroup (hyphen_form (8 ∷ [])) (hyphen_form (9 ∷ [])))
unfolding area_row
row_other_id = simp (set.contains-insert nat_cmp_total) refl

row_other_name : restoring plain (Sound (record plain { name = codes "vg1" })) ≡ Some (OtherGroup (codes "vg1") (codes "vg0"))
unfolding area_row
row_other_name = simp (set.contains-insert nat_cmp_total) refl

-- the text has an id more, and lacks none
row_more_pvs : first_refusal (other_group_rows plain (record plain { pvs = (codes "pv0", pv 1 (codes "a")) ∷ [] }))
    ≡ Some (OtherGroup (hyphen_form (2 ∷ [])) (codes "-"))
row_more_pvs = refl

-- the least of those that the text lacks
row_fewer_pvs : first_refusal (other_group_rows (record plain { pvs = (codes "pv2", pv 3 (codes "c")) ∷ [] }) plain)
    ≡ Some (OtherGroup (hyphen_form (3 ∷ [])) (hyphen_form (1 ∷ [])))
row_fewer_pvs = refl
