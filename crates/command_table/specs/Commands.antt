-- What each command is made of, by its options and arguments, and what it does.
use Rattle.std.specs.Prelude.{ℕ, length, Bool, true, false, not, ◌&&◌, ◌||◌, nat_lt, if◌then◌else◌, List, [], ◌∷◌, Option, Some, None}
use Rattle.std.specs.Prelude.{is_some, unwrap_or, option_map, codes, ◌/◌}
use Rattle.std.specs.Option.{option_map_or}
use Rattle.std.specs.Str.{bytes_eq}
use Rattle.command_table.specs.declared.amount.Amount.{Amount}
use Rattle.command_table.specs.declared.amount.Growth.{Growth}
use Rattle.command_table.specs.declared.command.Command.{Command}
use Rattle.command_table.specs.declared.command.Command.TheVariants.{Pvcreate, Pvmove, Pvck, Pvs, Vgcreate, Vgextend, Vgreduce, Vgremove}
use Rattle.command_table.specs.declared.command.Command.TheVariants.{Vgrename, Vgcfgbackup, Vgcfgrestore, Vgck, Vgs, Lvcreate, Lvextend}
use Rattle.command_table.specs.declared.command.Command.TheVariants.{Lvreduce, Lvremove, Lvrename, Lvs, Read, Fill, Write}
use Rattle.command_table.specs.declared.command.Command.TheVariants.{Flush, List as ListVolumes, Wait, Resync}
use Rattle.command_table.specs.declared.command.Moving.TheVariants.{From, GoOn, Abort}
use Rattle.command_table.specs.declared.command.Path.{Path}
use Rattle.command_table.specs.declared.table.CommandName.{CommandName}
use Rattle.command_table.specs.declared.table.CommandName.TheVariants as name
use Rattle.command_table.specs.declared.option_key.OptionKey.TheVariants as key
use Rattle.command_table.specs.Options.{Word}
use Rattle.command_table.specs.Values.{number_of}
use Rattle.command_table.specs.Given.{OptionValues, amount_of, growth_of, number_or, one_path, one_word, path_in, size}

-- ---- options and arguments

-- one disk, with one copy of the metadata where no number is given
abbrev pub pvcreate : OptionValues → List Word → Option Command
pvcreate given (pv ∷ []) = Some (Pvcreate pv (number_or given key.MetadataCopies 1))
pvcreate given _ = None

-- `--abort` alone, or nothing, or the disk to empty and then the disks to take its extents
abbrev pub pvmove : OptionValues → List Word → Option Command
pvmove given arguments = by (is_some (given key.Abort)) arguments
  where
    by : Bool → List Word → Option Command
    by true [] = Some (Pvmove Abort)
    by true (pv ∷ onto) = None
    by false [] = Some (Pvmove GoOn)
    by false (pv ∷ onto) = Some (Pvmove (From pv onto))

-- a group's name and one or more disks, with extents of 4 MiB where no size is given
abbrev pub vgcreate : OptionValues → List Word → Option Command
vgcreate given (vg ∷ pv ∷ pvs) = Some (Vgcreate vg (unwrap_or (size given key.PhysicalExtentSize 2048) 8192) (pv ∷ pvs))
vgcreate given _ = None

-- the options of lvcreate go together: `-m` excludes `-i`, and `-I` needs an `-i` above 1
abbrev pub goes_together : OptionValues → Bool
goes_together given =
    not (is_some (given key.Mirrors) && is_some (given key.Stripes))
    && (not (is_some (given key.StripeSize)) || nat_lt 1 (number_or given key.Stripes 1))

-- the policy is `contiguous`
abbrev is_contiguous : OptionValues → Bool
is_contiguous given = option_map_or (bytes_eq (codes "contiguous")) (given key.Alloc) false

-- a new volume of this name and size: pieces of 64 KiB where no stripe size is given
abbrev pub new_volume : OptionValues → Option Word → Option Amount → Word → List Word → Option Command
new_volume given (Some lv) (Some amount) vg pvs = Some (Lvcreate (record {
  vg = vg;
  lv = lv;
  amount = amount;
  stripes = number_or given key.Stripes 1;
  stripe_size = unwrap_or (size given key.StripeSize 2) 128;
  mirrors = number_or given key.Mirrors 0;
  contiguous = is_contiguous given;
  pvs = pvs;
}))
new_volume given _ _ vg pvs = None

-- `-n NAME` and one of `-l` and `-L`, a group, and the disks to take extents of
abbrev pub lvcreate : OptionValues → List Word → Option Command
lvcreate given [] = None
lvcreate given (vg ∷ pvs) = if goes_together given then new_volume given (given key.Name) (amount_of given) vg pvs else None

-- a volume that grows so, with extents of these disks
abbrev pub longer : List Word → Option Growth → Option Path → Option Command
longer pvs (Some growth) (Some path) = Some (Lvextend path growth pvs)
longer pvs _ _ = None

-- one of `-l` and `-L`, a volume, and the disks to take extents of
abbrev pub lvextend : OptionValues → List Word → Option Command
lvextend given [] = None
lvextend given (path ∷ pvs) = longer pvs (growth_of given) (path_in path)

-- a volume that shrinks to so much
abbrev pub shorter : Option Amount → Option Path → Option Command
shorter (Some amount) (Some path) = Some (Lvreduce path amount)
shorter _ _ = None

-- one of `-l` and `-L`, and a volume
abbrev pub lvreduce : OptionValues → List Word → Option Command
lvreduce given arguments = shorter (amount_of given) (one_path arguments)

-- a group's new name
abbrev pub vgrename : List Word → Option Command
vgrename (vg ∷ new ∷ []) = Some (Vgrename vg new)
vgrename _ = None

-- a group and disks to add
abbrev pub vgextend : List Word → Option Command
vgextend (vg ∷ pv ∷ pvs) = Some (Vgextend vg (pv ∷ pvs))
vgextend _ = None

-- a group and the disk to take out
abbrev pub vgreduce : List Word → Option Command
vgreduce (vg ∷ pv ∷ []) = Some (Vgreduce vg pv)
vgreduce _ = None

-- a group, a volume and its new name
abbrev pub lvrename : List Word → Option Command
lvrename (vg ∷ old ∷ new ∷ []) = Some (Lvrename vg old new)
lvrename _ = None

-- a command without arguments
abbrev pub alone : Command → List Word → Option Command
alone command [] = Some command
alone command _ = None

-- a command on sectors of a volume from a number on
abbrev from_sector : Option Path → Option ℕ → (Path → ℕ → Option Command) → Option Command
from_sector (Some path) (Some start) command = command path start
from_sector _ _ command = None

-- sectors of a volume: the first, and how many
abbrev pub read_words : List Word → Option Command
read_words (path ∷ start ∷ count ∷ []) =
    from_sector (path_in path) (number_of start) (λ path start. option_map (Read path start) (number_of count))
read_words _ = None

-- what is written goes through to the disks before it is answered
abbrev goes_through : OptionValues → Bool
goes_through given = is_some (given key.Through)

abbrev filled : Bool → Path → ℕ → Option ℕ → Option ℕ → Option Command
filled through path start (Some count) (Some value) = Some (Fill path start count value through)
filled through path start _ _ = None

-- the same, and the number in the first
abbrev pub fill_words : OptionValues → List Word → Option Command
fill_words given (path ∷ start ∷ count ∷ value ∷ []) =
    from_sector (path_in path) (number_of start)
    (λ path start. filled (goes_through given) path start (number_of count) (number_of value))
fill_words given _ = None

-- sectors of a volume: the first, and the digits of all
abbrev pub write_words : OptionValues → List Word → Option Command
write_words given (path ∷ start ∷ hex ∷ []) =
    from_sector (path_in path) (number_of start) (λ path start. Some (Write path start hex (goes_through given)))
write_words given _ = None

-- the command of this name, by its options and arguments; session and demo are none
abbrev pub command_by_name : CommandName → OptionValues → List Word → Option Command
command_by_name name.Pvcreate given arguments = pvcreate given arguments
command_by_name name.Pvmove given arguments = pvmove given arguments
command_by_name name.Pvck given arguments = option_map Pvck (one_word arguments)
command_by_name name.Pvs given arguments = alone Pvs arguments
command_by_name name.Vgcreate given arguments = vgcreate given arguments
command_by_name name.Vgextend given arguments = vgextend arguments
command_by_name name.Vgreduce given arguments = vgreduce arguments
command_by_name name.Vgremove given arguments = option_map Vgremove (one_word arguments)
command_by_name name.Vgrename given arguments = vgrename arguments
command_by_name name.Vgcfgbackup given arguments = option_map Vgcfgbackup (one_word arguments)
command_by_name name.Vgcfgrestore given arguments = option_map (λ vg. Vgcfgrestore vg []) (one_word arguments)
command_by_name name.Vgck given arguments = alone Vgck arguments
command_by_name name.Vgs given arguments = alone Vgs arguments
command_by_name name.Lvcreate given arguments = lvcreate given arguments
command_by_name name.Lvextend given arguments = lvextend given arguments
command_by_name name.Lvreduce given arguments = lvreduce given arguments
command_by_name name.Lvremove given arguments = option_map Lvremove (one_path arguments)
command_by_name name.Lvrename given arguments = lvrename arguments
command_by_name name.Lvs given arguments = alone Lvs arguments
command_by_name name.Session given arguments = None
command_by_name name.Demo given arguments = None
command_by_name name.Read given arguments = read_words arguments
command_by_name name.Fill given arguments = fill_words given arguments
command_by_name name.Write given arguments = write_words given arguments
command_by_name name.Flush given arguments = option_map Flush (one_path arguments)
command_by_name name.List given arguments = alone ListVolumes arguments
command_by_name name.Wait given arguments = alone Wait arguments
command_by_name name.Resync given arguments = option_map Resync (one_path arguments)

-- ---- kinds

-- how a next version of a group differs from the one in force: the group has this name, or the visible volume of the (first)
-- name another one, or is gone, or has its first sectors alone, or has more behind them
pub data Difference : Type 0 where
  GroupNamed : Word → Difference
  VolumeNamed : Word → Word → Difference
  VolumeGone : Word → Difference
  VolumeShorter : Word → Difference
  VolumeLonger : Word → Difference

-- what a command does, by which laws go
pub data CommandKind : Type 0 where
  -- it commits a next version of the group to its own disks
  NextVersion : Difference → CommandKind
  -- the same with a new volume of this name, whose first sectors become zeros before
  VolumeAdded : Word → CommandKind
  -- it makes a physical volume, or a group of this name
  NewPv : CommandKind
  NewGroup : Word → CommandKind
  -- disks join the group, or one leaves it
  Joining : CommandKind
  Leaving : CommandKind
  -- the group is removed, or taken back from a backup
  Removal : CommandKind
  Restore : CommandKind
  -- it moves extents
  Move : CommandKind
  -- it changes nothing
  Report : CommandKind
  -- it stands in scripts alone
  Scripted : CommandKind

-- the kind of a command
abbrev pub kind_of : Command → CommandKind
kind_of (Pvcreate pv metadata_copies) = NewPv
kind_of (Pvmove moving) = Move
kind_of (Pvck pv) = Report
kind_of Pvs = Report
kind_of (Vgcreate vg extent_size pvs) = NewGroup vg
kind_of (Vgextend vg pvs) = Joining
kind_of (Vgreduce vg pv) = Leaving
kind_of (Vgremove vg) = Removal
kind_of (Vgrename vg new) = NextVersion (GroupNamed new)
kind_of (Vgcfgbackup vg) = Report
kind_of (Vgcfgrestore vg text) = Restore
kind_of Vgck = Report
kind_of Vgs = Report
kind_of (Lvcreate new) = VolumeAdded new.lv
kind_of (Lvextend path growth pvs) = NextVersion (VolumeLonger path.lv)
kind_of (Lvreduce path amount) = NextVersion (VolumeShorter path.lv)
kind_of (Lvremove path) = NextVersion (VolumeGone path.lv)
kind_of (Lvrename vg old new) = NextVersion (VolumeNamed old new)
kind_of Lvs = Report
kind_of (Read path start count) = Scripted
kind_of (Fill path start count value through) = Scripted
kind_of (Write path start hex through) = Scripted
kind_of (Flush path) = Scripted
kind_of ListVolumes = Scripted
kind_of Wait = Scripted
kind_of (Resync path) = Scripted

-- whether a command draws the id of what it creates
abbrev pub draws : Command → Bool
draws (Pvcreate pv metadata_copies) = true
draws (Vgcreate vg extent_size pvs) = true
draws (Lvcreate new) = true
draws (Pvmove (From pv onto)) = true
draws _ = false

-- whether a command changes something on its disks
abbrev pub changes : Command → Bool
changes (Pvck pv) = false
changes Pvs = false
changes (Vgcfgbackup vg) = false
changes Vgck = false
changes Vgs = false
changes Lvs = false
changes (Read path start count) = false
changes (Flush path) = false
changes ListVolumes = false
changes Wait = false
changes _ = true

-- the sectors that a command reads or writes of a volume
abbrev pub sectors_of : Command → ℕ
sectors_of (Read path start count) = count
sectors_of (Fill path start count value through) = count
sectors_of (Write path start hex through) = length hex / 1024
sectors_of _ = 0
