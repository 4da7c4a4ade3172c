-- Small groups on one physical volume, and lines about them.
use Rattle.std.proofs.Common.{ℕ, true, false, List, [], ◌∷◌, None}
use Rattle.command_table.specs.declared.amount.Amount.TheVariants.{Extents}
use Rattle.command_table.specs.declared.amount.Growth.TheVariants.{To}
use Rattle.command_table.specs.declared.command.Command.{Command}
use Rattle.command_table.specs.declared.command.Moving.TheVariants.{GoOn}
use Rattle.command_table.specs.declared.command.Path.{Path}
use Rattle.command_table.specs.declared.command.Command.TheVariants as command
use Rattle.lvm_script.specs.declared.line.Line.{Line}
use Rattle.meta_model.specs.declared.group.Group.{Group}
use Rattle.meta_model.specs.declared.lv.Lv.{Lv}
use Rattle.meta_model.specs.declared.pv.Pv.{Pv}
use Rattle.meta_model.specs.declared.segment.SegKind.TheVariants.{Striped}
use Rattle.meta_model.specs.declared.segment.Segment.{Segment}
use Rattle.meta_model.specs.declared.segment.On.TheVariants as on
use Rattle.vg_scan.specs.Versions.{Version}

-- a physical volume of 99 extents from sector 10 on
abbrev pub one_pv : List ℕ × Pv
one_pv = (0 ∷ [], record { id = 0 ∷ []; device = []; allocatable = true; missing = false; dev_size = 0; pe_start = 10; pe_count = 99 })

-- a visible volume 5 of so many extents, from this one on
abbrev pub volume_5 : ℕ → ℕ → List ℕ × Lv
volume_5 first count = (
  5 ∷ [],
  record {
    id = 50 ∷ [];
    status = record { read = true; write = true; visible = true; fixed_minor = false; pvmove = false; locked = false; notsynced = false };
    created = 0;
    host = [];
    segments = record { start = 0; count = count; kind = Striped 0 (record { on = on.Pv 0; first = first } ∷ []) } ∷ [];
  },
)

-- a group of these volumes, with extents of one sector
abbrev pub group_of : ℕ → List (List ℕ × Lv) → Group
group_of seqno lvs =
    record {
      name = 70 ∷ [];
      id = 1 ∷ [];
      seqno = seqno;
      status = record { resizeable = true; read = true; write = true };
      extent_size = 1;
      max_lv = 0;
      max_pv = 0;
      copies = 0;
      pvs = one_pv ∷ [];
      lvs = lvs;
    }

-- a version of it, on disk 0
abbrev pub version_of : ℕ → List (List ℕ × Lv) → Version
version_of seqno lvs = record { group = group_of seqno lvs; disk_of = 0 ∷ [] }

-- without volumes, with a volume of ten sectors from sector 10 on, with the same from sector 30 on, and with one more
abbrev pub version_1 : Version
version_1 = version_of 1 []

abbrev pub version_2 : Version
version_2 = version_of 2 (volume_5 0 10 ∷ [])

abbrev pub version_3 : Version
version_3 = version_of 3 (volume_5 20 10 ∷ [])

abbrev pub version_4 : Version
version_4 = version_of 3 (volume_5 0 11 ∷ [])

-- with six of its sectors, under another name, and the first again, later
abbrev pub version_5 : Version
version_5 = version_of 3 (volume_5 0 6 ∷ [])

abbrev pub version_6 : Version
version_6 = version_of 3 ((6 ∷ [], (volume_5 0 10).1) ∷ [])

abbrev pub version_7 : Version
version_7 = version_of 4 (volume_5 0 10 ∷ [])

-- a linear segment behind so many extents of its volume, of so many from this one on
abbrev pub linear : ℕ → ℕ → ℕ → Segment
linear start first count = record { start = start; count = count; kind = Striped 0 (record { on = on.Pv 0; first = first } ∷ []) }

-- a visible volume of this name and id
abbrev pub volume_of : ℕ → ℕ → List Segment → List ℕ × Lv
volume_of name id segments = (name ∷ [], record (volume_5 0 0).1 { id = id ∷ []; segments = segments })

-- with volumes 5 and 6; and as a text has them, where 7 is new, 6 is gone, and 5 is named 8 and lies elsewhere in part
abbrev pub version_8 : Version
version_8 = version_of 3 (volume_of 5 50 (linear 0 0 4 ∷ []) ∷ volume_of 6 60 (linear 0 10 2 ∷ []) ∷ [])

abbrev pub version_9 : Version
version_9 = version_of 4 (volume_of 7 70 (linear 0 10 1 ∷ []) ∷ volume_of 8 50 (linear 0 0 2 ∷ linear 2 20 2 ∷ []) ∷ [])

-- with one volume of one sector
abbrev pub holding : Version
holding = version_of 1 (volume_5 0 1 ∷ [])

-- the volume by its group's name and its own
abbrev pub path : Path
path = record { vg = 70 ∷ []; lv = 5 ∷ [] }

abbrev pub line : Command → Line
line c = record { number = 1; id = None; command = c }

abbrev pub making : Line
making = line (command.Vgcreate (70 ∷ []) 1 ((0 ∷ []) ∷ []))

abbrev pub creating : Line
creating =
    line (command.Lvcreate (record {
      vg = 70 ∷ [];
      lv = 5 ∷ [];
      amount = Extents 10;
      stripes = 1;
      stripe_size = 0;
      mirrors = 0;
      contiguous = false;
      pvs = [];
    }))

abbrev pub extending : Line
extending = line (command.Lvextend path (To (Extents 11)) [])

abbrev pub reducing : Line
reducing = line (command.Lvreduce path (Extents 6))

abbrev pub removing : Line
removing = line (command.Lvremove path)

abbrev pub renaming : Line
renaming = line (command.Lvrename (70 ∷ []) (5 ∷ []) (6 ∷ []))

abbrev pub restoring : Line
restoring = line (command.Vgcfgrestore (70 ∷ []) [])

abbrev pub moving : Line
moving = line (command.Pvmove GoOn)

abbrev pub pvcreating : Line
pvcreating = line (command.Pvcreate (0 ∷ []) 1)

abbrev pub group_removing : Line
group_removing = line (command.Vgremove (70 ∷ []))

abbrev pub listing : Line
listing = line command.List

-- sectors are filled, also through to the disks, and one is read; and what was written to the volume is flushed
abbrev pub filling : ℕ → ℕ → ℕ → Line
filling first count number = line (command.Fill path first count number false)

abbrev pub filling_through : ℕ → ℕ → ℕ → Line
filling_through first count number = line (command.Fill path first count number true)

abbrev pub reading : Line
reading = line (command.Read path 0 1)

abbrev pub flushing : Line
flushing = line (command.Flush path)
