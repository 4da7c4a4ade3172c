-- The table of commands, after lvm(8), pvmove(8) and vgcfgbackup(8): a row of each list for each command. Sessions, demo
-- and the commands that stand in scripts alone are this program's own.
use Rattle.std.specs.Prelude.{ℕ, ◌-◌, ◌^◌, Bool, true, false, not, if◌then◌else◌, List, [], ◌∷◌, Option, Some, None, codes, find, slice_get}
use Rattle.std.specs.Option.{option_or}
use Rattle.std.specs.Str.{bytes_eq}
use Rattle.command_table.specs.declared.table.CommandName.{CommandName}
use Rattle.command_table.specs.declared.table.CommandName.TheVariants as name
use Rattle.command_table.specs.declared.kind.Kind.{Kind}
use Rattle.command_table.specs.declared.kind.Kind.TheVariants.{Flag, Number, Growth, Size, SizeGrowth, PowerSize, Policy, Disk, Group}
use Rattle.command_table.specs.declared.kind.Kind.TheVariants.{Volume, Path, Hex}
use Rattle.command_table.specs.declared.option_key.OptionKey.{OptionKey}
use Rattle.command_table.specs.declared.option_key.OptionKey.TheVariants as key
use Rattle.command_table.specs.declared.table.OptionRow.{OptionRow}
use Rattle.command_table.specs.Options.{Word}

-- the commands
abbrev pub commands : List CommandName
commands =
    name.Pvcreate ∷ name.Pvmove ∷ name.Pvck ∷ name.Pvs ∷ name.Vgcreate ∷ name.Vgextend ∷ name.Vgreduce ∷ name.Vgremove ∷ name.Vgrename
    ∷ name.Vgcfgbackup ∷ name.Vgcfgrestore ∷ name.Vgck ∷ name.Vgs ∷ name.Lvcreate ∷ name.Lvextend ∷ name.Lvreduce ∷ name.Lvremove
    ∷ name.Lvrename ∷ name.Lvs ∷ name.Session ∷ name.Demo ∷ name.Read ∷ name.Fill ∷ name.Write ∷ name.Flush ∷ name.List ∷ name.Wait
    ∷ name.Resync ∷ []

-- the word that names a command
abbrev pub spelling_of : CommandName → Word
spelling_of name.Pvcreate = codes "pvcreate"
spelling_of name.Pvmove = codes "pvmove"
spelling_of name.Pvck = codes "pvck"
spelling_of name.Pvs = codes "pvs"
spelling_of name.Vgcreate = codes "vgcreate"
spelling_of name.Vgextend = codes "vgextend"
spelling_of name.Vgreduce = codes "vgreduce"
spelling_of name.Vgremove = codes "vgremove"
spelling_of name.Vgrename = codes "vgrename"
spelling_of name.Vgcfgbackup = codes "vgcfgbackup"
spelling_of name.Vgcfgrestore = codes "vgcfgrestore"
spelling_of name.Vgck = codes "vgck"
spelling_of name.Vgs = codes "vgs"
spelling_of name.Lvcreate = codes "lvcreate"
spelling_of name.Lvextend = codes "lvextend"
spelling_of name.Lvreduce = codes "lvreduce"
spelling_of name.Lvremove = codes "lvremove"
spelling_of name.Lvrename = codes "lvrename"
spelling_of name.Lvs = codes "lvs"
spelling_of name.Session = codes "session"
spelling_of name.Demo = codes "demo"
spelling_of name.Read = codes "read"
spelling_of name.Fill = codes "fill"
spelling_of name.Write = codes "write"
spelling_of name.Flush = codes "flush"
spelling_of name.List = codes "list"
spelling_of name.Wait = codes "wait"
spelling_of name.Resync = codes "resync"

-- the commands that stand in scripts alone
abbrev pub is_for_scripts_alone : CommandName → Bool
is_for_scripts_alone name.Read = true
is_for_scripts_alone name.Fill = true
is_for_scripts_alone name.Write = true
is_for_scripts_alone name.Flush = true
is_for_scripts_alone name.List = true
is_for_scripts_alone name.Wait = true
is_for_scripts_alone name.Resync = true
is_for_scripts_alone _ = false

-- the commands that stand in scripts
abbrev pub is_for_scripts : CommandName → Bool
is_for_scripts name.Pvcreate = true
is_for_scripts name.Pvmove = true
is_for_scripts name.Vgextend = true
is_for_scripts name.Vgreduce = true
is_for_scripts name.Vgrename = true
is_for_scripts name.Lvcreate = true
is_for_scripts name.Lvextend = true
is_for_scripts name.Lvreduce = true
is_for_scripts name.Lvremove = true
is_for_scripts name.Lvrename = true
is_for_scripts name = is_for_scripts_alone name

-- the commands that stand on the command line
abbrev pub is_for_words : CommandName → Bool
is_for_words name = not (is_for_scripts_alone name)

-- ---- what words have to be

-- any number of 64 bits
abbrev any_number : Kind
any_number = Number 0 (2 ^ 64 - 1)

-- extents, at least one
abbrev extents : Kind
extents = Number 1 (2 ^ 64 - 1)

-- how many extents a volume is to have, or how many more
abbrev extents_growth : Kind
extents_growth = Growth 1 (2 ^ 64 - 1)

-- a size in MiB, at least one sector; sizes stay below 2^48 sectors
abbrev size : Kind
size = Size 2048 1 (2 ^ 48 - 1)

-- the size that a volume is to have, or how much more
abbrev size_growth : Kind
size_growth = SizeGrowth 2048 1 (2 ^ 48 - 1)

-- the size of an extent: a power of two from 8 sectors to 1 GiB
abbrev extent_size : Kind
extent_size = PowerSize 2048 8 2097152

-- the size of a stripe's piece, in KiB: a power of two from 8 sectors on
abbrev stripe_size : Kind
stripe_size = PowerSize 2 8 (2 ^ 48 - 1)

-- ---- the rows

-- an option, and what its value has to be
abbrev row : OptionKey → Kind → OptionRow
row k v = record { key = k; kind = v }

-- the options of a command
abbrev pub options_of : CommandName → List OptionRow
options_of name.Pvcreate = row key.MetadataCopies (Number 0 2) ∷ []
options_of name.Pvmove = row key.Abort Flag ∷ []
options_of name.Vgcreate = row key.PhysicalExtentSize extent_size ∷ []
options_of name.Lvcreate =
    row key.Name Volume ∷ row key.Extents extents ∷ row key.Size size ∷ row key.Stripes (Number 1 8) ∷ row key.StripeSize stripe_size
    ∷ row key.Mirrors (Number 1 7) ∷ row key.Alloc Policy ∷ []
options_of name.Lvextend = row key.Extents extents_growth ∷ row key.Size size_growth ∷ []
options_of name.Lvreduce = row key.Extents extents ∷ row key.Size size ∷ []
options_of name.Session = row key.Workers (Number 1 8) ∷ row key.DiskThreads Flag ∷ row key.Status Flag ∷ []
options_of name.Fill = row key.Through Flag ∷ []
options_of name.Write = row key.Through Flag ∷ []
options_of _ = []

-- what its first arguments have to be, by their places
abbrev pub first_arguments : CommandName → List Kind
first_arguments name.Pvcreate = Disk ∷ []
first_arguments name.Pvck = Disk ∷ []
first_arguments name.Vgcreate = Group ∷ []
first_arguments name.Vgextend = Group ∷ []
first_arguments name.Vgreduce = Group ∷ Disk ∷ []
first_arguments name.Vgremove = Group ∷ []
first_arguments name.Vgrename = Group ∷ Group ∷ []
first_arguments name.Vgcfgbackup = Group ∷ []
first_arguments name.Vgcfgrestore = Group ∷ []
first_arguments name.Lvcreate = Group ∷ []
first_arguments name.Lvextend = Path ∷ []
first_arguments name.Lvreduce = Path ∷ []
first_arguments name.Lvremove = Path ∷ []
first_arguments name.Lvrename = Group ∷ Volume ∷ Volume ∷ []
first_arguments name.Session = Group ∷ []
first_arguments name.Demo = any_number ∷ Number 1 4096 ∷ Number 1 8 ∷ []
first_arguments name.Read = Path ∷ any_number ∷ Number 1 128 ∷ []
first_arguments name.Fill = Path ∷ any_number ∷ Number 1 128 ∷ any_number ∷ []
first_arguments name.Write = Path ∷ any_number ∷ Hex ∷ []
first_arguments name.Flush = Path ∷ []
first_arguments name.Resync = Path ∷ []
first_arguments _ = []

-- whether any number of disks may follow them
abbrev pub takes_disks : CommandName → Bool
takes_disks name.Pvmove = true
takes_disks name.Vgcreate = true
takes_disks name.Vgextend = true
takes_disks name.Lvcreate = true
takes_disks name.Lvextend = true
takes_disks _ = false

-- what the argument in this place has to be; none past the last
abbrev pub argument_of : CommandName → ℕ → Option Kind
argument_of name place = option_or (slice_get (first_arguments name) place) (if takes_disks name then Some Disk else None)

-- the command that a word names
abbrev pub command_named : Word → Option CommandName
command_named word = find (λ name. bytes_eq (spelling_of name) word) commands
