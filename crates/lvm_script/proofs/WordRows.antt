-- Words of a command line that mean nothing, each fault with the number of its word, and those that are a line.
use Rattle.std.specs.Prelude.{◌≡◌, ◌==◌, ℕ, List, [], ◌∷◌, Some, None, Result, Ok, Err, codes, length, map, take}
use Rattle.std.specs.List.{slice_split}
use Rattle.std.proofs.Common.{refl}
use Rattle.lvm_id.specs.LvmId.{digit_char, word_chars}
use Rattle.command_table.specs.declared.command.Command.TheVariants.{Pvcreate, Vgcreate, Lvs}
use Rattle.command_table.specs.declared.fault.Fault.TheVariants.{BadOption, BadNumber, BadCount, BadName}
use Rattle.command_table.specs.declared.request.Request.{Request}
use Rattle.command_table.specs.declared.line_fault.LineFault.{LineFault}
use Rattle.command_table.specs.declared.line_fault.LineFault.TheVariants.{UnknownWord, NotHere, Faulty, WrongWords}
use Rattle.command_table.specs.Meaning.{meaning_of_words}
use Rattle.command_table.specs.Options.{Word}
use Rattle.lvm_script.specs.Lines.{line_of}
use Rattle.lvm_script.specs.Script.{only_command}

-- words, and the number of the faulty one
abbrev Row : Type 0
Row = List Word × ℕ

-- the words of a text
abbrev words : List ℕ → List Word
words text = slice_split (λ byte. byte == 32) text

-- what words ask for, or why they are refused, and where
abbrev Asked : Type 0
Asked = Result Request (LineFault × ℕ)

abbrev meant : List Row → List Asked
meant rows = map (λ row. meaning_of_words row.0) rows

abbrev refused : LineFault → List Row → List Asked
refused fault rows = map (λ row. Err (fault, row.1)) rows

-- words that are wrong as a whole: their place is their end
abbrev wrong : List (List Word) → List Asked
wrong rows = map (λ words. Err (WrongWords, length words)) rows

-- words that name no command
abbrev unknown : List Row
unknown =
    (words (codes "x"), 0) ∷ ([] ∷ [], 0) ∷ (words (codes "VGS"), 0) ∷ (codes "vgs " ∷ [], 0) ∷ (words (codes "--help"), 0)
    ∷ (words (codes "-d a pvs"), 0) ∷ ((195 ∷ 169 ∷ []) ∷ codes "--help" ∷ [], 0) ∷ []

unknown_are : meant unknown ≡ refused UnknownWord unknown
unknown_are = refl

-- commands that stand in scripts alone
abbrev for_scripts_alone : List Row
for_scripts_alone =
    (words (codes "read vg0/data 0 1"), 0) ∷ (words (codes "fill vg0/data 0 1 1"), 0) ∷ (words (codes "write vg0/data 0 x"), 0)
    ∷ (words (codes "list"), 0) ∷ (words (codes "wait --help"), 0) ∷ (words (codes "resync vg0/data"), 0)
    ∷ (words (codes "resync"), 0) ∷ []

for_scripts_alone_are : meant for_scripts_alone ≡ refused NotHere for_scripts_alone
for_scripts_alone_are = refl

-- words that are no options, or stand twice
abbrev no_options : List Row
no_options =
    (words (codes "vgs --help"), 1) ∷ (words (codes "lvs --help"), 1) ∷ (words (codes "lvs a -h"), 2) ∷ (words (codes "pvs --"), 1)
    ∷ (words (codes "vgck -"), 1) ∷ (words (codes "vgcreate -s4m vg0 a"), 1)
    ∷ (words (codes "vgcreate -s 4m vg0 a --physicalextentsize 4m"), 5) ∷ (words (codes "vgremove vg0 --force"), 2)
    ∷ (words (codes "session --workers=1 vg0"), 1) ∷ (words (codes "session -w 1 vg0"), 1) ∷ (words (codes "demo 1 -1 1"), 2) ∷ []

no_options_are : meant no_options ≡ refused (Faulty BadOption) no_options
unfolding lib.Count.ones
no_options_are = refl

-- words that are no numbers
abbrev no_numbers : List Row
no_numbers =
    (words (codes "demo x 1 1"), 1) ∷ (codes "demo" ∷ codes "1" ∷ [] ∷ codes "1" ∷ [], 2)
    ∷ (words (codes "demo 18446744073709551616 1 1"), 1) ∷ (codes "demo" ∷ codes "1" ∷ codes "1" ∷ codes "1 " ∷ [], 3)
    ∷ (words (codes "session --workers x vg0"), 2) ∷ (words (codes "vgcreate -s 4mib vg0 a"), 2)
    ∷ (codes "vgcreate" ∷ codes "vg0" ∷ codes "a" ∷ codes "-s" ∷ [] ∷ [], 4) ∷ []

no_numbers_are : meant no_numbers ≡ refused (Faulty BadNumber) no_numbers
no_numbers_are = refl

-- words that are no names
abbrev no_names : List Row
no_names =
    (codes "pvcreate" ∷ [] ∷ [], 1) ∷ (codes "pvcreate" ∷ codes "a b" ∷ [], 1) ∷ (codes "pvck" ∷ (195 ∷ 169 ∷ []) ∷ [], 1)
    ∷ (codes "vgcreate" ∷ [] ∷ codes "a" ∷ [], 1) ∷ (words (codes "vgcreate version a"), 1)
    ∷ (words (codes "vgcfgrestore vg0/data"), 1) ∷ (words (codes "session --workers 1 contents"), 3)
    ∷ (words (codes "lvremove vg0/"), 1) ∷ []

no_names_are : meant no_names ≡ refused (Faulty BadName) no_names
no_names_are = refl

-- numbers and sizes out of their range
abbrev out_of_range : List Row
out_of_range =
    (words (codes "session --workers 0 vg0"), 2) ∷ (words (codes "session --workers 9 vg0"), 2) ∷ (words (codes "demo 1 0 1"), 2)
    ∷ (words (codes "demo 1 4097 1"), 2) ∷ (words (codes "demo 1 1 0"), 3) ∷ (words (codes "demo 1 1 9"), 3)
    ∷ (words (codes "pvcreate --metadatacopies 3 a"), 2) ∷ (words (codes "vgcreate -s 0 vg0 a"), 2)
    ∷ (words (codes "vgcreate -s 4s vg0 a"), 2) ∷ (words (codes "vgcreate -s 7s vg0 a"), 2)
    ∷ (words (codes "vgcreate -s 9s vg0 a"), 2) ∷ (words (codes "vgcreate -s 3 vg0 a"), 2)
    ∷ (words (codes "vgcreate -s 2g vg0 a"), 2) ∷ (words (codes "vgcreate -s 2097153s vg0 a"), 2)
    ∷ (words (codes "vgcreate vg0 a -s 1t"), 4) ∷ []

out_of_range_are : meant out_of_range ≡ refused (Faulty BadCount) out_of_range
unfolding lib.Count.ones
out_of_range_are = refl

-- words that are wrong as a whole; sizes that are allowed among them
abbrev wrong_as_a_whole : List (List Word)
wrong_as_a_whole =
    [] ∷ words (codes "pvs a") ∷ words (codes "vgs vg0") ∷ (codes "lvs" ∷ [] ∷ []) ∷ words (codes "vgck a b") ∷ words (codes "pvck")
    ∷ words (codes "pvck a b") ∷ words (codes "vgremove") ∷ words (codes "vgremove vg0 vg1") ∷ words (codes "vgcfgbackup")
    ∷ words (codes "vgcfgrestore vg0 vg0") ∷ words (codes "vgcreate") ∷ words (codes "vgcreate vg0")
    ∷ words (codes "vgcreate -s 8s vg0") ∷ words (codes "vgcreate vg0 a -s") ∷ words (codes "session vg0")
    ∷ words (codes "session --workers 1") ∷ words (codes "session --workers 8") ∷ words (codes "session vg0 --workers")
    ∷ words (codes "session --workers 1 vg0 vg0") ∷ words (codes "demo 1 4096") ∷ words (codes "demo 0 1 8 1")
    ∷ words (codes "lvcreate vg0") ∷ []

wrong_as_a_whole_are : map meaning_of_words wrong_as_a_whole ≡ wrong wrong_as_a_whole
unfolding lib.Count.ones
wrong_as_a_whole_are = refl

-- ---- lines

-- one command is a line, and a session and the demo are none
vgcreate_is : only_command (meaning_of_words (words (codes "vgcreate vg0 a"))) ≡ Ok (Vgcreate (codes "vg0") 8192 (codes "a" ∷ []))
vgcreate_is = refl

lvs_is : only_command (meaning_of_words (words (codes "lvs"))) ≡ Ok Lvs
lvs_is = refl

abbrev no_lines : List Row
no_lines =
    (words (codes "session --workers 1 vg0"), 0) ∷ (words (codes "demo 1 1 1"), 0) ∷ (words (codes "list"), 0) ∷ []

they_are_no_lines : map (λ row. only_command (meaning_of_words row.0)) no_lines ≡ map (λ row. Err (NotHere, row.1)) no_lines
they_are_no_lines = refl

demo_of_none : only_command (meaning_of_words (words (codes "demo 1 0 1"))) ≡ Err (Faulty BadCount, 2)
demo_of_none = refl

-- numbers for ids
abbrev numbers : ℕ → List ℕ
numbers n = take n (0 ∷ 1 ∷ 62 ∷ 3 ∷ 9 ∷ [])

-- a line draws its id of them, where its command draws one
draws_its_id : line_of 1 (Pvcreate (codes "a") 1) numbers
    ≡ record { number = 1; id = Some (codes "00000000100000000100000030000000"); command = Pvcreate (codes "a") 1 }
unfolding word_chars digit_char
draws_its_id = refl

draws_none : line_of 1 Lvs numbers ≡ record { number = 1; id = None; command = Lvs }
draws_none = refl
