-- The reports of pvs(8), vgs(8), lvs(8) and vgck(8) on what a scan found.
use Rattle.std.specs.Prelude.{ℕ, ◌*◌, Bool, ◌==◌, if◌then◌else◌, Option, Some, None, option_map, unwrap_or, List, [], ◌∷◌, ◌++◌, length}
use Rattle.std.specs.Prelude.{codes, slice_index_or}
use Rattle.std.specs.FinSet as set
use Rattle.std.specs.List.{enumerate_from, flat_map, list_any, range_with_len}
use Rattle.lvm_id.specs.LvmId.{hyphen_form}
use Rattle.command_table.specs.Options.{Word}
use Rattle.pv_header.specs.declared.header.PvHeader.{PvHeader}
use Rattle.meta_model.specs.declared.group.Group.{Group}
use Rattle.meta_model.specs.declared.lv.Lv.{Lv}
use Rattle.volume_rules.specs.Extents.{extents_of}
use Rattle.extent_map.specs.FreeCount.{all_extents, free_extents}
use Rattle.disk_contents.specs.declared.contents.PvFound.{PvFound}
use Rattle.vg_found.specs.declared.disk.Disk.{Disk}
use Rattle.vg_found.specs.declared.found.Found.{Found}
use Rattle.vg_found.specs.Disks.{header_in}
use Rattle.lvm_report.specs.Columns.{left, right}
use Rattle.lvm_report.specs.Volumes.{extents_of_group, free_of_group, kind_of, number_with, visible_volumes}

-- the name of a disk
abbrev pub name_in : List Word → ℕ → List ℕ
name_in names pv = slice_index_or names pv []

-- ---- pvs: a line for each disk with a physical volume, and for each that is unread

-- its name, its group or `-`, and how many extents it has there and how many of them are free
abbrev pub pv_line : List ℕ → List ℕ → ℕ → ℕ → List ℕ
pv_line name group extents free =
    left 20 name ++ codes " " ++ left 16 group ++ codes " " ++ right 10 extents ++ codes " " ++ right 10 free ++ codes "\n"

-- of the physical volume with this number in the group, or of one that it doesn't list
abbrev pub pv_line_in : Group → List ℕ → Option ℕ → List ℕ
pv_line_in group name None = pv_line name (codes "-") 0 0
pv_line_in group name (Some number) = pv_line name group.name (all_extents group number) (free_extents group number)

-- of the physical volume with this id, by the group in force
abbrev pub pv_line_of : Option Group → List ℕ → List ℕ → List ℕ
pv_line_of None name id = pv_line name (codes "-") 0 0
pv_line_of (Some group) name id = pv_line_in group name (number_with group id)

-- of a disk: none where it has no physical volume
abbrev pub disk_line : Option Group → List ℕ → Option PvFound → List ℕ
disk_line group name None = name ++ codes " unreadable\n"
disk_line group name (Some contents) =
    unwrap_or (option_map (λ (header : PvHeader). pv_line_of group name header.id) (header_in contents)) []

-- of all disks
abbrev pub pvs_text : Found → List Word → List ℕ
pvs_text found names =
    flat_map (λ (disk : ℕ × Disk). disk_line found.group (name_in names disk.0) disk.1.contents) (enumerate_from 0 found.disks)

-- ---- vgs: a line for the group in force

-- its name, how many physical and how many visible logical volumes it has, its sequence number, and how many extents it has
-- and how many of them are free
abbrev pub vg_line : Group → List ℕ
vg_line group =
    left 16 group.name ++ codes " " ++ right 6 (length group.pvs) ++ codes " " ++ right 6 (length (visible_volumes group)) ++ codes " "
    ++ right 10 group.seqno ++ codes " " ++ right 10 (extents_of_group group) ++ codes " " ++ right 10 (free_of_group group) ++ codes "\n"

-- none where no group is in force
abbrev pub vgs_text : Found → List ℕ
vgs_text found = unwrap_or (option_map vg_line found.group) []

-- ---- lvs: a line for each visible volume, in the order of the text

-- its name, its group, its kind, and how many sectors it has
abbrev pub lv_line : Group → ℕ × (List ℕ × Lv) → List ℕ
lv_line group lv =
    left 16 lv.1.0 ++ codes " " ++ left 16 group.name ++ codes " " ++ left 6 (kind_of group lv.0 lv.1.1) ++ codes " "
    ++ right 12 (extents_of lv.1.1 * group.extent_size) ++ codes "\n"

-- of all visible volumes
abbrev pub lv_lines : Group → List ℕ
lv_lines group = flat_map (lv_line group) (visible_volumes group)

-- none where no group is in force
abbrev pub lvs_text : Found → List ℕ
lvs_text found = unwrap_or (option_map lv_lines found.group) []

-- ---- vgck: a line for each thing that isn't in order, or `ok`

-- the disks of these that meet a test, each on a line behind this word
abbrev pub disk_lines : List ℕ → List Word → ℕ → (ℕ → Bool) → List ℕ
disk_lines word names disks test = flat_map (λ pv. if test pv then word ++ name_in names pv ++ codes "\n" else []) (range_with_len 0 disks)

-- whether an area of the disk is stale
abbrev pub has_stale : Found → ℕ → Bool
has_stale found pv = list_any (λ (area : ℕ × ℕ). area.0 == pv) found.stale

-- disks with a stale area, strays, disks with an old header, missing physical volumes, keys that are passed over, and unread disks
abbrev pub faults_text : Found → List Word → List ℕ
faults_text found names =
    disk_lines (codes "stale ") names (length found.disks) (has_stale found)
    ++ disk_lines (codes "stray ") names (length found.disks) (set.contains found.strays)
    ++ disk_lines (codes "old ") names (length found.disks) (set.contains found.old)
    ++ flat_map (λ id. codes "missing " ++ hyphen_form id ++ codes "\n") found.missing
    ++ flat_map (λ path. codes "unknown key " ++ path ++ codes "\n") found.unknown
    ++ disk_lines (codes "unreadable ") names (length found.disks) (set.contains found.unread)

-- `ok` where there is no line
abbrev pub or_ok : List ℕ → List ℕ
or_ok [] = codes "ok\n"
or_ok (byte ∷ bytes) = byte ∷ bytes

-- all lines, or `ok`
abbrev pub vgck_text : Found → List Word → List ℕ
vgck_text found names = or_ok (faults_text found names)
