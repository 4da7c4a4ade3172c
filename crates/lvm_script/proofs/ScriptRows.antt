-- Whole scripts: how lines are numbered, how many there may be, and how many sectors they may read and write.
use Rattle.std.specs.Prelude.{◌≡◌, false, ℕ, List, [], ◌∷◌, ◌++◌, Some, None, Ok, Err, codes, map, replicate}
use Rattle.std.proofs.Common.{refl}
use Rattle.command_table.specs.declared.command.Command.{Command}
use Rattle.command_table.specs.declared.command.Command.TheVariants.{Pvcreate, Vgcfgbackup, Vgcfgrestore, Read, Fill, Write}
use Rattle.command_table.specs.declared.command.Command.TheVariants.{List as ListVolumes, Wait}
use Rattle.command_table.specs.declared.command.Path.{Path}
use Rattle.command_table.specs.declared.fault.Fault.TheVariants.{BadCount}
use Rattle.command_table.specs.declared.line_fault.LineFault.{LineFault}
use Rattle.command_table.specs.declared.line_fault.LineFault.TheVariants.{UnknownWord, NotHere, Faulty, WrongWords, SessionFull}
use Rattle.lvm_script.specs.declared.line.Line.{Line}
use Rattle.lvm_script.specs.Lines.{with_text}
use Rattle.lvm_script.specs.Script.{Commands, commands_from, commands_in, limited, lines_in}

-- vg0/data
abbrev vg0_data : Path
vg0_data = record { vg = codes "vg0"; lv = codes "data" }

-- ---- numbers

-- the lines that ask for something
abbrev numbered : List (List ℕ × List (ℕ × Command))
numbered =
    (codes "list", (1, ListVolumes) ∷ []) ∷ (codes "list" ++ 10 ∷ [], (1, ListVolumes) ∷ [])
    ∷ (10 ∷ codes "# first" ++ 10 ∷ codes " list" ++ 10 ∷ 10 ∷ codes "wait" ++ 10 ∷ [], (3, ListVolumes) ∷ (5, Wait) ∷ [])
    ∷ (
      codes "list" ++ 10 ∷ codes "#" ++ 10 ∷ codes "list" ++ 10 ∷ codes "list" ++ 10 ∷ 10 ∷ [],
      (1, ListVolumes) ∷ (3, ListVolumes) ∷ (4, ListVolumes) ∷ [],
    )
    ∷ (
      codes "fill vg0/data 8191 1 1" ++ 10 ∷ codes "fill vg0/data 8191 2 1",
      (1, Fill vg0_data 8191 1 1 false) ∷ (2, Fill vg0_data 8191 2 1 false) ∷ [],
    ) ∷ []

lines_are_numbered : map (λ row. commands_in row.0) numbered ≡ map (λ row. Ok row.1) numbered
unfolding commands_from
lines_are_numbered = refl

-- empty lines and comments
abbrev empty : List (List ℕ)
empty =
    [] ∷ (10 ∷ []) ∷ (10 ∷ 10 ∷ 10 ∷ []) ∷ (codes "#" ++ 10 ∷ codes "# list" ++ 10 ∷ codes "#list")
    ∷ (codes "# " ++ 255 ∷ 13 ∷ 0 ∷ 10 ∷ []) ∷ (codes "# pvcreate a" ++ 10 ∷ 10 ∷ []) ∷ []

they_are_empty : map commands_in empty ≡ map (λ script. Ok []) empty
unfolding commands_from
they_are_empty = refl

-- ---- the first fault

-- the number of the line, its fault and the place
abbrev faulty : List (List ℕ × ℕ × LineFault × ℕ)
faulty =
    (codes "read vg0/data 0 0", 1, Faulty BadCount, 16) ∷ (codes "list" ++ 10 ∷ codes "read vg0/data 0 0", 2, Faulty BadCount, 16)
    ∷ (10 ∷ codes "#" ++ 10 ∷ codes "  read vg0/data 0 0" ++ 10 ∷ codes "x" ++ 10 ∷ [], 3, Faulty BadCount, 18)
    ∷ (codes "list" ++ 10 ∷ codes "list x" ++ 10 ∷ codes "x" ++ 10 ∷ [], 2, WrongWords, 6)
    ∷ (codes "list" ++ 10 ∷ 10 ∷ codes "vgs" ++ 10 ∷ codes "list x" ++ 10 ∷ [], 3, NotHere, 0)
    ∷ (codes "list" ++ 13 ∷ 10 ∷ codes "list" ++ 13 ∷ 10 ∷ [], 1, UnknownWord, 0)
    ∷ (codes "list" ++ 10 ∷ codes " #" ++ 10 ∷ [], 2, UnknownWord, 1) ∷ []

the_first_is_told : map (λ row. commands_in row.0) faulty ≡ map (λ row. Err (row.1, row.2, row.3)) faulty
unfolding commands_from
the_first_is_told = refl

-- ---- the last line

-- the rest of a script behind 65,535 lines, and behind 65,536
abbrev after_all_but_one : List ℕ → Commands
after_all_but_one rest = commands_from (lines_in rest) 65536 0

abbrev after_all : List ℕ → Commands
after_all rest = commands_from (lines_in rest) 65537 0

the_last_line : after_all_but_one (codes "list" ++ 10 ∷ []) ≡ Ok ((65536, ListVolumes) ∷ [])
unfolding commands_from
the_last_line = refl

its_fault_comes_first : after_all_but_one (120 ∷ 10 ∷ codes "list" ++ 10 ∷ []) ≡ Err (65536, UnknownWord, 0)
unfolding commands_from
its_fault_comes_first = refl

none_is_left : after_all [] ≡ Ok []
unfolding commands_from
none_is_left = refl

-- a line past the last is refused, whatever it holds
abbrev one_too_many : List (List ℕ)
one_too_many =
    (10 ∷ []) ∷ codes "#" ∷ codes "list" ∷ (codes "x" ++ 10 ∷ []) ∷ (codes "read vg0/data 0 0" ++ 10 ∷ codes "x" ++ 10 ∷ []) ∷ []

they_are_too_many : map after_all one_too_many ≡ map (λ rest. Err (65537, SessionFull, 0)) one_too_many
unfolding commands_from
they_are_too_many = refl

-- ---- the last sector

-- the rest of a script behind 4,095 reads of 128 sectors, 524,160 in all
abbrev after_reads : List ℕ → Commands
after_reads rest = commands_from (lines_in rest) 4096 524160

all_sectors : after_reads (codes "read vg0/data 0 127" ++ 10 ∷ codes "fill vg0/data 0 1 7" ++ 10 ∷ codes "list")
    ≡ Ok ((4096, Read vg0_data 0 127) ∷ (4097, Fill vg0_data 0 1 7 false) ∷ (4098, ListVolumes) ∷ [])
unfolding commands_from
all_sectors = refl

-- what passes the most sectors, and the line that does
abbrev past_sectors : List (List ℕ × ℕ)
past_sectors =
    (codes "read vg0/data 0 128" ++ 10 ∷ codes "read vg0/data 0 1" ++ 10 ∷ [], 4097)
    ∷ (codes "fill vg0/data 0 127 7" ++ 10 ∷ codes "read vg0/data 0 2" ++ 10 ∷ codes "x", 4097)
    ∷ (10 ∷ codes "read vg0/data 0 127" ++ 10 ∷ codes " fill vg0/data 0 2 1" ++ 10 ∷ [], 4098) ∷ []

they_are_past : map (λ row. after_reads row.0) past_sectors ≡ map (λ row. Err (row.1, SessionFull, 0)) past_sectors
unfolding commands_from
they_are_past = refl

-- a line's own fault comes first
own_fault_comes_first :
    after_reads (codes "read vg0/data 0 128" ++ 10 ∷ codes "read vg0/data 0 129" ++ 10 ∷ [])
    ≡ Err (4097, Faulty BadCount, 16)
unfolding commands_from
own_fault_comes_first = refl

earlier_fault_comes_first :
    after_reads (120 ∷ 10 ∷ codes "read vg0/data 0 128" ++ 10 ∷ codes "read vg0/data 0 128" ++ 10 ∷ [])
    ≡ Err (4096, UnknownWord, 0)
unfolding commands_from
earlier_fault_comes_first = refl

-- sectors that are written count by their digits
abbrev two_sectors : Command
two_sectors = Write vg0_data 0 (replicate 2048 48) false

written : limited 524286 (Some (Ok two_sectors)) ≡ Some (Ok two_sectors)
written = refl

written_past : limited 524287 (Some (Ok two_sectors)) ≡ Some (Err (SessionFull, 0))
written_past = refl

-- ---- lines

-- a restore gets its text, and every other line stays as it is
restored : with_text (codes "new") (record { number = 1; id = None; command = Vgcfgrestore (codes "vg0") (codes "old") })
    ≡ record { number = 1; id = None; command = Vgcfgrestore (codes "vg0") (codes "new") }
restored = refl

not_restored : with_text (codes "new") (record { number = 2; id = None; command = Vgcfgbackup (codes "vg0") })
    ≡ record { number = 2; id = None; command = Vgcfgbackup (codes "vg0") }
not_restored = refl

abbrev with_id : Line
with_id = record { number = 65536; id = Some (codes "70000000000000000000000000000000"); command = Pvcreate (codes "a") 0 }

id_stays : with_text (codes "new") with_id ≡ with_id
id_stays = refl
