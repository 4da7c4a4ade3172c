-- The printed form tried on groups.
use Rattle.std.proofs.Common.{◌≡◌, ℕ, true, false, List, [], ◌∷◌, ◌++◌, length, Some, None, refl}
use Rattle.std.specs.Prelude.{codes, flat_map}
use Rattle.std.specs.Fmt.{digits}
use Rattle.lvm_id.specs.LvmId.{hyphen_form}
use Rattle.conf_text.specs.Bytes.{kind}
use Rattle.conf_text.specs.Printed.{printed}
use Rattle.meta_model.specs.declared.group.Group.{Group}
use Rattle.meta_model.specs.declared.pv.Pv.{Pv}
use Rattle.meta_model.specs.declared.lv.Lv.{Lv}
use Rattle.meta_model.specs.declared.segment.On.TheVariants as on
use Rattle.meta_model.specs.declared.segment.SegKind.TheVariants.{Striped, Mirror}
use Rattle.meta_model.specs.Status.{LvStatus}
use Rattle.meta_print.specs.Layout.{pv_entries, segment_entries, segments_entries, lv_words, lvs_entries, tree_of, backup_of}

abbrev lines : List (List ℕ) → List ℕ
lines ls = flat_map (λ l. l ++ 10 ∷ []) ls

abbrev pv : Pv
pv =
    record {
      id = codes "00000000100000000100000030000000";
      device = codes "a";
      allocatable = true;
      missing = false;
      dev_size = 131072;
      pe_start = 2048;
      pe_count = 15;
    }

-- one with no logical volume
abbrev vg0 : Group
vg0 = record {
  name = codes "vg0";
  id = codes "40000000500000006000000070000000";
  seqno = 1;
  status = record { resizeable = true; read = true; write = true };
  extent_size = 8192;
  max_lv = 0;
  max_pv = 0;
  copies = 0;
  pvs = (codes "pv0", pv) ∷ [];
  lvs = [];
}

abbrev group_lines : List (List ℕ)
group_lines =
    codes "vg0 {" ∷
    codes "id = \"400000-0050-0000-0060-0000-0070-000000\"" ∷
    codes "seqno = 1" ∷
    codes "format = \"lvm2\"" ∷
    codes "status = [\"RESIZEABLE\", \"READ\", \"WRITE\"]" ∷
    codes "flags = []" ∷
    codes "extent_size = 8192" ∷
    codes "max_lv = 0" ∷
    codes "max_pv = 0" ∷
    codes "metadata_copies = 0" ∷
    codes "physical_volumes {" ∷
    codes "pv0 {" ∷
    codes "id = \"000000-0010-0000-0001-0000-0030-000000\"" ∷
    codes "device = \"a\"" ∷
    codes "status = [\"ALLOCATABLE\"]" ∷
    codes "flags = []" ∷
    codes "dev_size = 131072" ∷
    codes "pe_start = 2048" ∷
    codes "pe_count = 15" ∷
    codes "}" ∷
    codes "}" ∷
    codes "}" ∷ []

abbrev trailer_lines : List (List ℕ)
trailer_lines =
    codes "contents = \"Text Format Volume Group\"" ∷
    codes "version = 1" ∷
    codes "description = \"\"" ∷
    codes "creation_host = \"localhost\"" ∷
    codes "creation_time = 0" ∷ []

committed : printed (tree_of vg0 0) ≡ lines (group_lines ++ trailer_lines)
unfolding digits hyphen_form kind
committed = refl

backed_up : printed (backup_of vg0 0) ≡ lines (trailer_lines ++ group_lines)
unfolding digits hyphen_form kind
backed_up = refl

-- 478 bytes, and 479 with the zero behind them
stored : length (printed (tree_of vg0 0) ++ 0 ∷ []) ≡ 479
unfolding digits hyphen_form kind
stored = refl

-- ---- volumes

abbrev move : Lv
move = record {
  id = codes "00000000100000000100000030000000";
  status = record { read = true; write = true; visible = false; fixed_minor = false; pvmove = true; locked = true; notsynced = false };
  created = 1700000000;
  host = codes "h\\\"q";
  segments =
      record {
        start = 0;
        count = 4;
        kind = Mirror 2048 (Some 3)
            (record { on = on.Pv 0; first = 2 } ∷ record { on = on.Pv 1; first = 5 } ∷ []);
      } ∷ [];
}

-- one with two physical volumes, the images of a mirror and a move
abbrev vg1 : Group
vg1 = record {
  name = codes "vg1";
  id = codes "40000000500000006000000070000000";
  seqno = 1;
  status = record { resizeable = true; read = true; write = true };
  extent_size = 8192;
  max_lv = 0;
  max_pv = 0;
  copies = 0;
  pvs = (codes "pv0", pv) ∷ (codes "pv1", pv) ∷ [];
  lvs = (codes "data_mimage_0", record move { segments = [] }) ∷ (codes "data_mimage_1", record move { segments = [] }) ∷ [];
}

striped_segments : printed (segments_entries vg1 1 (
    record { start = 0; count = 4; kind = Striped 128 (record { on = on.Pv 0; first = 0 } ∷ record { on = on.Pv 1; first = 7 } ∷ []) }
    ∷ record { start = 4; count = 1; kind = Striped 0 (record { on = on.Pv 1; first = 9 } ∷ []) }
    ∷ []))
    ≡ lines (
    codes "segment1 {" ∷
    codes "start_extent = 0" ∷
    codes "extent_count = 4" ∷
    codes "type = \"striped\"" ∷
    codes "stripe_count = 2" ∷
    codes "stripe_size = 128" ∷
    codes "stripes = [\"pv0\", 0, \"pv1\", 7]" ∷
    codes "}" ∷
    codes "segment2 {" ∷
    codes "start_extent = 4" ∷
    codes "extent_count = 1" ∷
    codes "type = \"striped\"" ∷
    codes "stripe_count = 1" ∷
    codes "stripes = [\"pv1\", 9]" ∷
    codes "}" ∷ [])
unfolding digits kind
striped_segments = refl

mirrored_segment : printed (segment_entries vg1 1
    (record {
      start = 0;
      count = 4;
      kind = Mirror 1024 None (record { on = on.Lv 0; first = 0 } ∷ record { on = on.Lv 1; first = 0 } ∷ []);
    }))
    ≡ lines (
    codes "segment1 {" ∷
    codes "start_extent = 0" ∷
    codes "extent_count = 4" ∷
    codes "type = \"mirror\"" ∷
    codes "mirror_count = 2" ∷
    codes "region_size = 1024" ∷
    codes "mirrors = [\"data_mimage_0\", 0, \"data_mimage_1\", 0]" ∷
    codes "}" ∷ [])
unfolding digits kind
mirrored_segment = refl

moving_volume : printed (lvs_entries vg1 ((codes "pvmove0", move) ∷ [])) ≡ lines (
    codes "logical_volumes {" ∷
    codes "pvmove0 {" ∷
    codes "id = \"000000-0010-0000-0001-0000-0030-000000\"" ∷
    codes "status = [\"READ\", \"WRITE\", \"PVMOVE\", \"LOCKED\"]" ∷
    codes "flags = []" ∷
    codes "creation_time = 1700000000" ∷
    codes "creation_host = \"h\\\\\\\"q\"" ∷
    codes "segment_count = 1" ∷
    codes "segment1 {" ∷
    codes "start_extent = 0" ∷
    codes "extent_count = 4" ∷
    codes "type = \"mirror\"" ∷
    codes "mirror_count = 2" ∷
    codes "region_size = 2048" ∷
    codes "extents_moved = 3" ∷
    codes "mirrors = [\"pv0\", 2, \"pv1\", 5]" ∷
    codes "}" ∷
    codes "}" ∷
    codes "}" ∷ [])
unfolding digits hyphen_form kind
moving_volume = refl

-- a device's name is quoted, and a volume that isn't there is flagged
abbrev lost : Pv
lost = record pv { device = codes "/dev/\"x\\y\""; allocatable = false; missing = true }

lost_volume : printed (pv_entries (codes "pv1", lost)) ≡ lines (
    codes "pv1 {" ∷
    codes "id = \"000000-0010-0000-0001-0000-0030-000000\"" ∷
    codes "device = \"/dev/\\\"x\\\\y\\\"\"" ∷
    codes "status = []" ∷
    codes "flags = [\"MISSING\"]" ∷
    codes "dev_size = 131072" ∷
    codes "pe_start = 2048" ∷
    codes "pe_count = 15" ∷
    codes "}" ∷ [])
unfolding digits hyphen_form kind
lost_volume = refl

-- each status word has its place
abbrev all_set : LvStatus
all_set = record { read = true; write = true; visible = true; fixed_minor = true; pvmove = true; locked = true; notsynced = true }

all_words : lv_words all_set
    ≡ codes "READ" ∷ codes "WRITE" ∷ codes "VISIBLE" ∷ codes "FIXED_MINOR" ∷ codes "PVMOVE" ∷ codes "LOCKED" ∷ codes "NOTSYNCED" ∷ []
all_words = refl

-- the time is the last number: 19 digits more than a zero
last_time : length (printed (tree_of vg0 18446744073709551615)) ≡ 497
unfolding digits hyphen_form kind
last_time = refl
