-- What each command means: lines of a script, and the commands that aren't for scripts by their options and arguments.
use Rattle.std.specs.Prelude.{◌≡◌, ℕ, Bool, true, false, List, [], ◌∷◌, ◌++◌, Option, Some, None, Ok, codes, map, replicate}
use Rattle.std.proofs.Common.{refl}
use Rattle.command_table.specs.declared.amount.Amount.{Amount}
use Rattle.command_table.specs.declared.amount.Amount.TheVariants.{Extents, Sectors}
use Rattle.command_table.specs.declared.amount.Growth.TheVariants.{To, By}
use Rattle.command_table.specs.declared.command.Command.{Command}
use Rattle.command_table.specs.declared.command.Command.TheVariants.{Pvcreate, Pvmove, Pvck, Pvs, Vgcreate, Vgextend, Vgreduce, Vgremove}
use Rattle.command_table.specs.declared.command.Command.TheVariants.{Vgrename, Vgcfgbackup, Vgcfgrestore, Vgck, Vgs, Lvcreate, Lvextend}
use Rattle.command_table.specs.declared.command.Command.TheVariants.{Lvreduce, Lvremove, Lvrename, Lvs, Read, Fill, Write}
use Rattle.command_table.specs.declared.command.Command.TheVariants.{Flush, List as ListVolumes, Wait, Resync}
use Rattle.command_table.specs.declared.command.Moving.TheVariants.{From, GoOn, Abort}
use Rattle.command_table.specs.declared.command.NewVolume.{NewVolume}
use Rattle.command_table.specs.declared.command.Path.{Path}
use Rattle.command_table.specs.declared.table.CommandName.{CommandName}
use Rattle.command_table.specs.declared.table.CommandName.TheVariants as name
use Rattle.command_table.specs.declared.option_key.OptionKey.{OptionKey}
use Rattle.command_table.specs.declared.option_key.OptionKey.TheVariants as key
use Rattle.command_table.specs.declared.request.Request.{Request}
use Rattle.command_table.specs.declared.request.Request.TheVariants.{One, Session, Demo}
use Rattle.command_table.specs.Commands.{changes, draws, sectors_of}
use Rattle.command_table.specs.Given.{value_in}
use Rattle.command_table.specs.Meaning.{request_by_name}
use Rattle.command_table.specs.Options.{Word}
use Rattle.command_table.specs.Values.{size_of}
use Rattle.lvm_script.specs.Script.{Meant, meaning_of_line}

-- the commands of these lines
abbrev meant : List (Word × Command) → List (Option Meant)
meant rows = map (λ row. meaning_of_line row.0) rows

-- those that they should be
abbrev commands_of : List (Word × Command) → List (Option Meant)
commands_of rows = map (λ row. Some (Ok row.1)) rows

-- one for all of these lines
abbrev all_mean : Command → List Word → List (Option Meant)
all_mean command lines = map (λ line. Some (Ok command)) lines

abbrev path : Word → Word → Path
path vg lv = record { vg = vg; lv = lv }

-- vg0/data
abbrev vg0_data : Path
vg0_data = path (codes "vg0") (codes "data")

-- a new volume data of vg0
abbrev volume : Amount → ℕ → ℕ → ℕ → Bool → List Word → NewVolume
volume amount stripes stripe_size mirrors contiguous pvs = record {
  vg = codes "vg0";
  lv = codes "data";
  amount = amount;
  stripes = stripes;
  stripe_size = stripe_size;
  mirrors = mirrors;
  contiguous = contiguous;
  pvs = pvs;
}

-- whether a command draws an id, whether it changes something, and its sectors
abbrev Effects : Type 0
Effects = Bool × Bool × ℕ

abbrev effects : Bool → Bool → ℕ → Effects
effects drawn changed sectors = (drawn, changed, sectors)

abbrev effect_of : Command → Effects
effect_of command = (draws command, changes command, sectors_of command)

-- those of the command of a line, if it is one
abbrev effect_in : Option Meant → Option Effects
effect_in (Some (Ok command)) = Some (effect_of command)
effect_in meant = None

-- ---- lines

-- commands on sectors
abbrev commands_of_sectors : List (Word × Command)
commands_of_sectors =
    (codes "read vg0/data 0 1", Read vg0_data 0 1)
    ∷ (codes "read vg0/data 18446744073709551615 128", Read vg0_data 18446744073709551615 128)
    ∷ (codes "read vg0/data 000018446744073709551615 0000128", Read vg0_data 18446744073709551615 128)
    ∷ (codes "  read   vg0/data 7  4 ", Read vg0_data 7 4) ∷ (codes "fill vg0/data 8191 1 1", Fill vg0_data 8191 1 1 false)
    ∷ (codes "fill vg0/data 0 128 18446744073709551615", Fill vg0_data 0 128 18446744073709551615 false)
    ∷ (codes "fill vg0/data 18446744073709551615 1 000", Fill vg0_data 18446744073709551615 1 0 false) ∷ (codes "list", ListVolumes)
    ∷ (codes "fill --through vg0/data 0 1 7", Fill vg0_data 0 1 7 true) ∷ (codes "fill vg0/data 0 1 7 --through", Fill vg0_data 0 1 7 true)
    ∷ (codes "flush vg0/data", Flush vg0_data) ∷ (codes " wait  ", Wait)
    ∷ (codes "resync v+._-0/contents", Resync (path (codes "v+._-0") (codes "contents"))) ∷ []

commands_of_sectors_mean : meant commands_of_sectors ≡ commands_of commands_of_sectors
commands_of_sectors_mean = refl

-- commands on disks and groups; a group may have a name that is reserved among volumes, and a volume one that is reserved among groups
abbrev commands_of_disks : List (Word × Command)
commands_of_disks =
    (codes "pvcreate a", Pvcreate (codes "a") 1) ∷ (codes "pvcreate --metadatacopies 0 a", Pvcreate (codes "a") 0)
    ∷ (codes "pvcreate a --metadatacopies 01", Pvcreate (codes "a") 1) ∷ (codes "pvcreate --metadatacopies 2 a", Pvcreate (codes "a") 2)
    ∷ (codes "pvcreate /dev/sd!~", Pvcreate (codes "/dev/sd!~") 1)
    ∷ (codes "pvmove", Pvmove GoOn) ∷ (codes "pvmove --abort", Pvmove Abort) ∷ (codes "pvmove a", Pvmove (From (codes "a") []))
    ∷ (codes "pvmove a b a", Pvmove (From (codes "a") (codes "b" ∷ codes "a" ∷ [])))
    ∷ (codes "vgextend vg0 a", Vgextend (codes "vg0") (codes "a" ∷ []))
    ∷ (codes "vgextend vg0 b a b", Vgextend (codes "vg0") (codes "b" ∷ codes "a" ∷ codes "b" ∷ []))
    ∷ (codes "vgreduce vg0 a", Vgreduce (codes "vg0") (codes "a"))
    ∷ (codes "vgrename vg0 content", Vgrename (codes "vg0") (codes "content"))
    ∷ (codes "vgrename pvmove0 vg0", Vgrename (codes "pvmove0") (codes "vg0"))
    ∷ (codes "lvrename vg0 version contents", Lvrename (codes "vg0") (codes "version") (codes "contents"))
    ∷ (codes "lvremove vg0/data", Lvremove vg0_data)
    ∷ (codes "lvremove vg0/xpvmove", Lvremove (path (codes "vg0") (codes "xpvmove")))
    ∷ (codes "lvremove vg0/Pvmove_mImage", Lvremove (path (codes "vg0") (codes "Pvmove_mImage"))) ∷ []

commands_of_disks_mean : meant commands_of_disks ≡ commands_of commands_of_disks
commands_of_disks_mean = refl

-- new volumes
abbrev new_volumes : List (Word × Command)
new_volumes =
    (codes "lvcreate -n data -l 5 vg0", Lvcreate (volume (Extents 5) 1 128 0 false []))
    ∷ (
      codes "lvcreate -n data -l 18446744073709551615 vg0 a b a",
      Lvcreate (volume (Extents 18446744073709551615) 1 128 0 false (codes "a" ∷ codes "b" ∷ codes "a" ∷ [])),
    )
    ∷ (codes "lvcreate -n data -l 1 --alloc contiguous vg0", Lvcreate (volume (Extents 1) 1 128 0 true []))
    ∷ (codes "lvcreate -n data -l 1 --alloc normal vg0", Lvcreate (volume (Extents 1) 1 128 0 false []))
    ∷ (codes "lvcreate -n data -l 1 -i 1 vg0", Lvcreate (volume (Extents 1) 1 128 0 false []))
    ∷ (codes "lvcreate -n data -l 1 -i 8 vg0", Lvcreate (volume (Extents 1) 8 128 0 false []))
    ∷ (codes "lvcreate -n data -l 1 -i 2 -I 4 vg0", Lvcreate (volume (Extents 1) 2 8 0 false []))
    ∷ (codes "lvcreate -n data -l 1 -I 8s -i 2 vg0", Lvcreate (volume (Extents 1) 2 8 0 false []))
    ∷ (codes "lvcreate -n data -l 1 -i 2 -I 1M vg0", Lvcreate (volume (Extents 1) 2 2048 0 false []))
    ∷ (codes "lvcreate -n data -l 1 -m 1 vg0", Lvcreate (volume (Extents 1) 1 128 1 false []))
    ∷ (codes "lvcreate -n data -l 1 -m 007 vg0", Lvcreate (volume (Extents 1) 1 128 7 false [])) ∷ []

new_volumes_mean : meant new_volumes ≡ commands_of new_volumes
unfolding lib.Count.ones
new_volumes_mean = refl

-- volumes that grow and shrink
abbrev longer_and_shorter_volumes : List (Word × Command)
longer_and_shorter_volumes =
    (codes "lvextend -l 5 vg0/data", Lvextend vg0_data (To (Extents 5)) [])
    ∷ (codes "lvextend -l +18446744073709551615 vg0/data", Lvextend vg0_data (By (Extents 18446744073709551615)) [])
    ∷ (codes "lvextend -L 5 vg0/data a", Lvextend vg0_data (To (Sectors 10240)) (codes "a" ∷ []))
    ∷ (codes "lvextend --size +5s vg0/data", Lvextend vg0_data (By (Sectors 5)) [])
    ∷ (codes "lvextend vg0/data --size +131071T", Lvextend vg0_data (By (Sectors 281472829227008)) [])
    ∷ (codes "lvreduce -l 5 vg0/data", Lvreduce vg0_data (Extents 5))
    ∷ (codes "lvreduce vg0/data --extents 1", Lvreduce vg0_data (Extents 1))
    ∷ (codes "lvreduce vg0/data -L 1k", Lvreduce vg0_data (Sectors 2))
    ∷ (codes "lvreduce --size 4m vg0/data", Lvreduce vg0_data (Sectors 8192)) ∷ []

longer_and_shorter_volumes_mean : meant longer_and_shorter_volumes ≡ commands_of longer_and_shorter_volumes
longer_and_shorter_volumes_mean = refl

-- options stand anywhere, in either spelling
abbrev striped : List Word
striped =
    codes "lvcreate -n data -L 5g -i 3 -I 64k --alloc contiguous vg0 a b"
    ∷ codes "lvcreate --name data --size 5g --stripes 3 --stripesize 64k --alloc contiguous vg0 a b"
    ∷ codes "lvcreate vg0 a b -n data -L 5g -i 3 -I 64k --alloc contiguous"
    ∷ codes "lvcreate vg0 -n data a -L 5g b -i 3 -I 64k --alloc contiguous"
    ∷ codes "lvcreate --alloc contiguous vg0 -I 64k a -i 3 b -L 5g -n data"
    ∷ codes "lvcreate -I 64 vg0 --stripes 03 a --size 5120 --alloc contiguous b --name data" ∷ []

striped_mean : map meaning_of_line striped
    ≡ all_mean (Lvcreate (volume (Sectors 10485760) 3 128 0 true (codes "a" ∷ codes "b" ∷ []))) striped
unfolding lib.Count.ones
striped_mean = refl

abbrev mirrored : List Word
mirrored =
    codes "lvcreate -n data -l 5 -m 2 vg0" ∷ codes "lvcreate vg0 --mirrors 2 --extents 5 --name data"
    ∷ codes "lvcreate --mirrors 2 vg0 --name data --extents 5" ∷ []

mirrored_mean : map meaning_of_line mirrored ≡ all_mean (Lvcreate (volume (Extents 5) 1 128 2 false [])) mirrored
mirrored_mean = refl

abbrev longer : List Word
longer =
    codes "lvextend -l +5 vg0/data a b" ∷ codes "lvextend vg0/data -l +5 a b" ∷ codes "lvextend vg0/data a --extents +5 b"
    ∷ codes "lvextend vg0/data a b --extents +5" ∷ []

longer_mean : map meaning_of_line longer ≡ all_mean (Lvextend vg0_data (By (Extents 5)) (codes "a" ∷ codes "b" ∷ [])) longer
longer_mean = refl

-- sizes in sectors, by their letters
abbrev sizes : List (Word × ℕ)
sizes =
    (codes "1s", 1) ∷ (codes "1S", 1) ∷ (codes "1k", 2) ∷ (codes "1K", 2) ∷ (codes "1m", 2048) ∷ (codes "1M", 2048)
    ∷ (codes "1", 2048) ∷ (codes "1g", 2097152) ∷ (codes "1G", 2097152) ∷ (codes "1t", 2147483648) ∷ (codes "1T", 2147483648)
    ∷ (codes "0001s", 1) ∷ (codes "281474976710655s", 281474976710655) ∷ (codes "140737488355327k", 281474976710654)
    ∷ (codes "137438953471m", 281474976708608) ∷ (codes "137438953471", 281474976708608) ∷ (codes "134217727g", 281474974613504)
    ∷ (codes "131071t", 281472829227008) ∷ []

sizes_are : map (λ row. size_of 2048 row.0) sizes ≡ map (λ row. Some row.1) sizes
sizes_are = refl

-- effects of lines
abbrev effects_of_lines : List (Word × Effects)
effects_of_lines =
    (codes "pvcreate a", effects true true 0) ∷ (codes "pvmove a b", effects true true 0) ∷ (codes "pvmove", effects false true 0)
    ∷ (codes "pvmove --abort", effects false true 0) ∷ (codes "vgextend vg0 a", effects false true 0)
    ∷ (codes "vgreduce vg0 a", effects false true 0) ∷ (codes "vgrename vg0 vg1", effects false true 0)
    ∷ (codes "lvcreate -n data -l 5 vg0", effects true true 0) ∷ (codes "lvextend -l +5 vg0/data", effects false true 0)
    ∷ (codes "lvreduce -l 5 vg0/data", effects false true 0) ∷ (codes "lvremove vg0/data", effects false true 0)
    ∷ (codes "lvrename vg0 data logs", effects false true 0) ∷ (codes "read vg0/data 5 128", effects false false 128)
    ∷ (codes "fill vg0/data 5 3 7", effects false true 3) ∷ (codes "list", effects false false 0)
    ∷ (codes "wait", effects false false 0) ∷ (codes "resync vg0/data", effects false true 0) ∷ []

they_are : map (λ row. effect_in (meaning_of_line row.0)) effects_of_lines ≡ map (λ row. Some row.1) effects_of_lines
they_are = refl

-- the largest size of a stripe's piece
largest_piece : size_of 2 (codes "65536t") ≡ Some 140737488355328
largest_piece = refl

-- ---- digits

-- so many digits `a`
abbrev digits : ℕ → Word
digits count = replicate count 97

one_sector : meaning_of_line (codes "write vg0/data 5 " ++ digits 1024) ≡ Some (Ok (Write vg0_data 5 (digits 1024) false))
one_sector = refl

eight_sectors : sectors_of (Write vg0_data 5 (digits 8192) false) ≡ 8
eight_sectors = refl

-- ---- the command line

-- what a command of this name with these options and arguments means
abbrev asked : CommandName → List (OptionKey × Word) → List Word → Option Request
asked name pairs arguments = request_by_name name (value_in pairs) arguments

-- without arguments, and with one
abbrev without : List (CommandName × Command)
without = (name.Pvs, Pvs) ∷ (name.Vgs, Vgs) ∷ (name.Lvs, Lvs) ∷ (name.Vgck, Vgck) ∷ []

without_mean : map (λ row. asked row.0 [] []) without ≡ map (λ row. Some (One row.1)) without
without_mean = refl

without_take_none : map (λ row. asked row.0 [] (codes "a" ∷ [])) without ≡ map (λ row. None) without
without_take_none = refl

-- with one argument, with none, and with two
abbrev with_one : List (CommandName × Command)
with_one =
    (name.Vgremove, Vgremove (codes "vg0")) ∷ (name.Vgcfgbackup, Vgcfgbackup (codes "vg0"))
    ∷ (name.Vgcfgrestore, Vgcfgrestore (codes "vg0") []) ∷ (name.Pvck, Pvck (codes "vg0")) ∷ []

with_one_mean : map (λ row. asked row.0 [] (codes "vg0" ∷ [])) with_one ≡ map (λ row. Some (One row.1)) with_one
with_one_mean = refl

with_one_need_it : map (λ row. asked row.0 [] []) with_one ≡ map (λ row. None) with_one
with_one_need_it = refl

with_one_take_no_other : map (λ row. asked row.0 [] (codes "vg0" ∷ codes "vg0" ∷ [])) with_one ≡ map (λ row. None) with_one
with_one_take_no_other = refl

-- a group with extents of this size, in sectors
abbrev extent_sizes : List (Word × ℕ)
extent_sizes =
    (codes "8s", 8) ∷ (codes "4k", 8) ∷ (codes "4", 8192) ∷ (codes "4M", 8192) ∷ (codes "0001g", 2097152) ∷ (codes "1024", 2097152) ∷ []

abbrev two_disks : List Word
two_disks = codes "a" ∷ codes "b" ∷ []

extent_sizes_mean : map (λ row. asked name.Vgcreate ((key.PhysicalExtentSize, row.0) ∷ []) (codes "vg0" ∷ two_disks)) extent_sizes
    ≡ map (λ row. Some (One (Vgcreate (codes "vg0") row.1 two_disks))) extent_sizes
extent_sizes_mean = refl

four_mebibytes : asked name.Vgcreate [] (codes "vg0" ∷ two_disks) ≡ Some (One (Vgcreate (codes "vg0") 8192 two_disks))
four_mebibytes = refl

session : asked name.Session ((key.Workers, codes "8") ∷ []) (codes "vg0" ∷ [])
    ≡ Some (Session (record { group = codes "vg0"; workers = 8; disk_threads = false; status = false }))
session = refl

session_with_threads : asked name.Session ((key.Status, []) ∷ (key.Workers, codes "2") ∷ (key.DiskThreads, []) ∷ []) (codes "vg0" ∷ [])
    ≡ Some (Session (record { group = codes "vg0"; workers = 2; disk_threads = true; status = true }))
session_with_threads = refl

session_without_workers : asked name.Session [] (codes "vg0" ∷ []) ≡ None
session_without_workers = refl

demo : asked name.Demo [] (codes "18446744073709551615" ∷ codes "4096" ∷ codes "8" ∷ []) ≡ Some (Demo 18446744073709551615 4096 8)
demo = refl

-- their effects
abbrev effects_asked : List (Command × Effects)
effects_asked =
    (Vgck, effects false false 0) ∷ (Pvs, effects false false 0) ∷ (Vgs, effects false false 0) ∷ (Lvs, effects false false 0)
    ∷ (Vgcfgbackup (codes "vg0"), effects false false 0) ∷ (Pvck (codes "a"), effects false false 0)
    ∷ (Vgremove (codes "vg0"), effects false true 0) ∷ (Vgcfgrestore (codes "vg0") [], effects false true 0)
    ∷ (Vgcreate (codes "vg0") 8192 two_disks, effects true true 0) ∷ []

effects_asked_are : map (λ row. effect_of row.0) effects_asked ≡ map (λ row. row.1) effects_asked
effects_asked_are = refl
