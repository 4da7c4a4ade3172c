-- Lines of a script that are refused, each fault at its place.
use Rattle.std.specs.Prelude.{◌≡◌, ℕ, Bool, true, false, List, [], ◌∷◌, Option, Some, Ok, Err, codes, map, ◌++◌, length, replicate}
use Rattle.std.proofs.Common.{refl}
use Rattle.command_table.specs.Options.{Word}
use Rattle.command_table.specs.Values.{are_sectors, is_hex_digit}
use Rattle.command_table.specs.declared.fault.Fault.{Fault}
use Rattle.command_table.specs.declared.fault.Fault.TheVariants.{BadOption, BadNumber, BadCount, BadName, BadHex}
use Rattle.command_table.specs.declared.line_fault.LineFault.{LineFault}
use Rattle.command_table.specs.declared.line_fault.LineFault.TheVariants.{UnknownWord, NotHere, Faulty, WrongWords}
use Rattle.lvm_script.specs.Script.{Meant, meaning_of_line}

-- a line, and the place of its faulty word
abbrev Row : Type 0
Row = Word × ℕ

abbrev meant : List Row → List (Option Meant)
meant rows = map (λ row. meaning_of_line row.0) rows

abbrev refused : LineFault → List Row → List (Option Meant)
refused fault rows = map (λ row. Some (Err (fault, row.1))) rows

-- lines that are wrong as a whole: their place is their end
abbrev wrong : List Word → List (Option Meant)
wrong lines = map (λ line. Some (Err (WrongWords, length line))) lines

-- words that name no command
abbrev unknown_words : List Row
unknown_words =
    (codes "x", 0) ∷ (codes " x", 1) ∷ (codes "   x  list", 3) ∷ (codes "LIST", 0) ∷ (codes "List", 0) ∷ (codes "lis", 0)
    ∷ (codes "lists", 0) ∷ (codes "list" ++ 13 ∷ [], 0) ∷ (codes "list" ++ 9 ∷ [], 0) ∷ (9 ∷ codes "list", 0)
    ∷ (codes "read" ++ 9 ∷ codes "vg0/data 0 1", 0) ∷ (codes " # list", 1) ∷ (codes "--help", 0) ∷ (codes "-d a list", 0)
    ∷ (195 ∷ 169 ∷ [], 0) ∷ (codes "list" ++ 255 ∷ [], 0) ∷ (codes "list" ++ 0 ∷ [], 0) ∷ []

unknown_words_are : meant unknown_words ≡ refused UnknownWord unknown_words
unknown_words_are = refl

-- commands that are not for scripts
abbrev not_for_scripts : List Row
not_for_scripts =
    (codes "vgcreate vg0 a", 0) ∷ (codes "vgremove vg0", 0) ∷ (codes "vgcfgbackup vg0", 0) ∷ (codes "vgcfgrestore vg0", 0)
    ∷ (codes "pvs", 0) ∷ (codes "vgs", 0) ∷ (codes "lvs", 0) ∷ (codes "vgck", 0) ∷ (codes "pvck a", 0)
    ∷ (codes "session --workers 1 vg0", 0) ∷ (codes "demo 1 1 1", 0) ∷ []

not_for_scripts_are : meant not_for_scripts ≡ refused NotHere not_for_scripts
not_for_scripts_are = refl

-- that comes before the faults of the other words, and before that they are too many
abbrev not_for_scripts_first : List Row
not_for_scripts_first =
    (codes "  lvs --help", 2) ∷ (codes "pvck " ++ 255 ∷ [], 0) ∷ (codes "vgs a b", 0) ∷ []

not_for_scripts_first_are : meant not_for_scripts_first ≡ refused NotHere not_for_scripts_first
not_for_scripts_first_are = refl

-- words that are no options
abbrev no_options : List Row
no_options =
    (codes "list -", 5) ∷ (codes "list --", 5) ∷ (codes "list --help", 5) ∷ (codes "wait -h", 5)
    ∷ (codes "pvcreate --metadatacopies=1 a", 9) ∷ (codes "pvcreate --metadata 1 a", 9) ∷ (codes "pvcreate --Metadatacopies 1 a", 9)
    ∷ (codes "pvcreate -metadatacopies 1 a", 9) ∷ (codes "pvcreate a --", 11) ∷ (codes "pvcreate -- a", 9)
    ∷ (codes "pvcreate -d a", 9) ∷ (codes "lvcreate -l5 -n data vg0", 9) ∷ (codes "lvcreate -nl 5 vg0", 9)
    ∷ (codes "lvcreate --n data -l 5 vg0", 9) ∷ (codes "lvcreate --extents=5 -n data vg0", 9)
    ∷ (codes "lvcreate -N data -l 5 vg0", 9) ∷ []

no_options_are : meant no_options ≡ refused (Faulty BadOption) no_options
no_options_are = refl

-- options of other commands
abbrev others_options : List Row
others_options =
    (codes "lvcreate -s 4m -n data -l 5 vg0", 9) ∷ (codes "lvextend -i 2 -l 5 vg0/data", 9)
    ∷ (codes "lvreduce --alloc normal -l 5 vg0/data", 9) ∷ (codes "read vg0/data -l 5", 14)
    ∷ (codes "vgextend vg0 a --workers 1", 15) ∷ (codes "pvmove --abort --metadatacopies 1", 15) ∷ []

others_options_are : meant others_options ≡ refused (Faulty BadOption) others_options
others_options_are = refl

-- below 0 there is no number, and what begins with `-` is no value
abbrev begins_dashed : List Row
begins_dashed =
    (codes "lvreduce -l -5 vg0/data", 12) ∷ (codes "lvextend -L -5m vg0/data", 12) ∷ (codes "lvcreate -n -data -l 5 vg0", 12)
    ∷ (codes "read vg0/data -1 1", 14) ∷ (codes "lvremove -vg0/data", 9) ∷ (codes "vgreduce vg0 -a", 13) ∷ []

begins_dashed_are : meant begins_dashed ≡ refused (Faulty BadOption) begins_dashed
begins_dashed_are = refl

-- they are refused past the last argument too
abbrev past_the_last : List Row
past_the_last =
    (codes "read vg0/data 0 1 1 -x", 20) ∷ []

past_the_last_are : meant past_the_last ≡ refused (Faulty BadOption) past_the_last
past_the_last_are = refl

-- options that stand twice
abbrev twice : List Row
twice =
    (codes "pvcreate --metadatacopies 1 a --metadatacopies 1", 30) ∷ (codes "pvcreate --metadatacopies --metadatacopies 1 a", 26)
    ∷ (codes "pvmove --abort --abort", 15) ∷ (codes "lvcreate -n data -n data -l 5 vg0", 17)
    ∷ (codes "lvcreate -n data --name data -l 5 vg0", 17) ∷ (codes "lvcreate --extents 5 -l 5 -n data vg0", 21)
    ∷ (codes "lvcreate -i 2 -n data -l 5 vg0 --stripes 2", 31) ∷ (codes "lvextend -L 5 vg0/data --size 5", 23)
    ∷ (codes "lvreduce -l 5 -l 5 vg0/data", 14) ∷ []

twice_are : meant twice ≡ refused (Faulty BadOption) twice
twice_are = refl

-- what a policy of allocation has to be is told with the options
abbrev no_policies : List Row
no_policies =
    (codes "lvcreate --alloc Normal -n data -l 5 vg0", 17) ∷ (codes "lvcreate --alloc inherit -n data -l 5 vg0", 17)
    ∷ (codes "lvcreate -n data -l 5 vg0 --alloc contiguous,normal", 34) ∷ []

no_policies_are : meant no_policies ≡ refused (Faulty BadOption) no_policies
no_policies_are = refl

-- words that are no numbers
abbrev no_numbers : List Row
no_numbers =
    (codes "read vg0/data x 1", 14) ∷ (codes "read vg0/data 0 x", 16) ∷ (codes "read vg0/data +1 1", 14)
    ∷ (codes "read vg0/data 0x1 1", 14) ∷ (codes "read vg0/data 1_000 1", 14) ∷ (codes "read vg0/data 1.5 1", 14)
    ∷ (codes "read vg0/data 0 1s", 16) ∷ (codes "read vg0/data 18446744073709551616 1", 14)
    ∷ (codes "read vg0/data 0 18446744073709551616", 16) ∷ (codes "fill vg0/data 0 1 18446744073709551616", 18)
    ∷ (codes "fill vg0/data 0 1 " ++ 217 ∷ 161 ∷ [], 18) ∷ (codes "fill vg0/data 0 1 1" ++ 9 ∷ [], 18)
    ∷ (codes "write vg0/data x 00", 15) ∷ (codes "pvcreate --metadatacopies 1s a", 26) ∷ []

no_numbers_are : meant no_numbers ≡ refused (Faulty BadNumber) no_numbers
no_numbers_are = refl

-- words that are no sizes
abbrev no_sizes : List Row
no_sizes =
    (codes "lvcreate -l 5m -n data vg0", 12) ∷ (codes "lvcreate -l 5% -n data vg0", 12) ∷ (codes "lvcreate -l +5 -n data vg0", 12)
    ∷ (codes "lvcreate -L +5 -n data vg0", 12) ∷ (codes "lvcreate -L m -n data vg0", 12) ∷ (codes "lvcreate -L 5mm -n data vg0", 12)
    ∷ (codes "lvcreate -L 5mb -n data vg0", 12) ∷ (codes "lvcreate -L 5b -n data vg0", 12) ∷ (codes "lvcreate -L 5p -n data vg0", 12)
    ∷ (codes "lvcreate -L 1.5g -n data vg0", 12) ∷ (codes "lvcreate -L 18446744073709551616s -n data vg0", 12)
    ∷ (codes "lvcreate -i 2k -n data -l 5 vg0", 12) ∷ (codes "lvcreate -m x -n data -l 5 vg0", 12)
    ∷ (codes "lvcreate -I 64q -i 2 -n data -l 5 vg0", 12) ∷ (codes "lvcreate -I +64 -i 2 -n data -l 5 vg0", 12)
    ∷ (codes "lvextend -l ++5 vg0/data", 12) ∷ (codes "lvextend -l + vg0/data", 12) ∷ (codes "lvextend -l 5+ vg0/data", 12)
    ∷ (codes "lvextend -l +5m vg0/data", 12) ∷ (codes "lvextend -L + vg0/data", 12) ∷ (codes "lvextend -L +m vg0/data", 12)
    ∷ (codes "lvextend -L ++5m vg0/data", 12) ∷ (codes "lvreduce -l +5 vg0/data", 12) ∷ (codes "lvreduce -L +5m vg0/data", 12) ∷ []

no_sizes_are : meant no_sizes ≡ refused (Faulty BadNumber) no_sizes
no_sizes_are = refl

-- numbers out of their range
abbrev numbers_out_of_range : List Row
numbers_out_of_range =
    (codes "read vg0/data 0 0", 16) ∷ (codes "read vg0/data 0 129", 16) ∷ (codes "read vg0/data 0 18446744073709551615", 16)
    ∷ (codes "fill vg0/data 0 0 1", 16) ∷ (codes "fill vg0/data 0 129 1", 16) ∷ (codes "write vg0/data 0 0", 17)
    ∷ (codes "pvcreate --metadatacopies 3 a", 26) ∷ (codes "lvcreate -l 0 -n data vg0", 12)
    ∷ (codes "lvcreate -i 0 -n data -l 5 vg0", 12) ∷ (codes "lvcreate -i 9 -n data -l 5 vg0", 12)
    ∷ (codes "lvcreate -m 0 -n data -l 5 vg0", 12) ∷ (codes "lvcreate -m 8 -n data -l 5 vg0", 12)
    ∷ (codes "lvextend -l 0 vg0/data", 12) ∷ (codes "lvextend -l +0 vg0/data", 12) ∷ (codes "lvreduce -l 0 vg0/data", 12)
    ∷ (codes "lvcreate -L 0 -n data vg0", 12) ∷ (codes "lvextend -L 0s vg0/data", 12) ∷ (codes "lvextend -L +0k vg0/data", 12)
    ∷ (codes "lvreduce -L 00t vg0/data", 12) ∷ (codes "lvreduce -L 281474976710656s vg0/data", 12) ∷ []

numbers_out_of_range_are : meant numbers_out_of_range ≡ refused (Faulty BadCount) numbers_out_of_range
numbers_out_of_range_are = refl

-- sizes out of their range
abbrev sizes_out_of_range : List Row
sizes_out_of_range =
    (codes "lvcreate -L 281474976710656S -n data vg0", 12) ∷ (codes "lvcreate -L 140737488355328k -n data vg0", 12)
    ∷ (codes "lvcreate -L 137438953472m -n data vg0", 12) ∷ (codes "lvcreate -L 137438953472 -n data vg0", 12)
    ∷ (codes "lvcreate -L 134217728g -n data vg0", 12) ∷ (codes "lvcreate -L 131072t -n data vg0", 12)
    ∷ (codes "lvcreate -L 18446744073709551615s -n data vg0", 12) ∷ []

sizes_out_of_range_are : meant sizes_out_of_range ≡ refused (Faulty BadCount) sizes_out_of_range
sizes_out_of_range_are = refl

-- their products are more than 64 bits have, or all but that
abbrev products_out_of_range : List Row
products_out_of_range =
    (codes "lvcreate -L 9007199254740992m -n data vg0", 12) ∷ (codes "lvcreate -L 18446744073709551615T -n data vg0", 12)
    ∷ (codes "lvextend -L +8589934593T vg0/data", 12) ∷ (codes "lvextend -L +131072t vg0/data", 12) ∷ []

products_out_of_range_are : meant products_out_of_range ≡ refused (Faulty BadCount) products_out_of_range
products_out_of_range_are = refl

-- pieces of stripes that are too small, too large or no power of two
abbrev pieces_out_of_range : List Row
pieces_out_of_range =
    (codes "lvcreate -I 0 -i 2 -n data -l 5 vg0", 12) ∷ (codes "lvcreate -I 7s -i 2 -n data -l 5 vg0", 12)
    ∷ (codes "lvcreate -I 4s -i 2 -n data -l 5 vg0", 12) ∷ (codes "lvcreate -I 9s -i 2 -n data -l 5 vg0", 12)
    ∷ (codes "lvcreate -I 2 -i 2 -n data -l 5 vg0", 12) ∷ (codes "lvcreate -I 3k -i 2 -n data -l 5 vg0", 12)
    ∷ (codes "lvcreate -I 12 -i 2 -n data -l 5 vg0", 12) ∷ (codes "lvcreate -I 3m -i 2 -n data -l 5 vg0", 12)
    ∷ (codes "lvcreate -I 131072t -i 2 -n data -l 5 vg0", 12) ∷ (codes "lvcreate -I 281474976710656s -i 2 -n data -l 5 vg0", 12) ∷ []

pieces_out_of_range_are : meant pieces_out_of_range ≡ refused (Faulty BadCount) pieces_out_of_range
unfolding lib.Count.ones
pieces_out_of_range_are = refl

-- words that are no names
abbrev no_names : List Row
no_names =
    (codes "pvcreate a" ++ 9 ∷ codes "b", 9) ∷ (codes "pvcreate a" ++ 13 ∷ [], 9) ∷ (codes "pvcreate " ++ 127 ∷ [], 9)
    ∷ (codes "pvcreate " ++ 195 ∷ 169 ∷ [], 9) ∷ (codes "pvmove a " ++ 31 ∷ [], 9) ∷ (codes "vgextend vg0 a " ++ 128 ∷ [], 15)
    ∷ (codes "vgextend vg0" ++ 13 ∷ codes " a", 9) ∷ (codes "vgextend vg/0 a", 9) ∷ (codes "vgreduce . a", 9)
    ∷ (codes "vgreduce .. a", 9) ∷ (codes "vgrename a! vg1", 9) ∷ (codes "vgrename vg0 b@", 13) ∷ (codes "vgrename vg0 contents", 13)
    ∷ (codes "vgrename vg0 version", 13) ∷ (codes "vgrename vg0 description", 13) ∷ (codes "vgrename vg0 creation_host", 13)
    ∷ (codes "vgrename vg0 creation_time", 13) ∷ (codes "lvrename vg0 pvmove0 data", 13) ∷ (codes "lvrename vg0 data snapshot", 18)
    ∷ (codes "lvrename vg0 data a_mlog", 18) ∷ (codes "lvcreate -l 5 -n pvmove vg0", 17)
    ∷ (codes "lvcreate -l 5 -n vg0/data vg0", 17) ∷ (codes "lvcreate -l 5 -n data vg0/data", 22) ∷ (codes "lvremove data", 9)
    ∷ (codes "lvremove /data", 9) ∷ (codes "lvremove vg0/", 9) ∷ (codes "lvremove /", 9) ∷ (codes "lvremove vg0//data", 9)
    ∷ (codes "lvremove vg0/data/", 9) ∷ (codes "lvremove vg0/data/x", 9) ∷ (codes "lvremove vg0/-data", 9)
    ∷ (codes "lvremove vg0/.", 9) ∷ (codes "lvremove version/data", 9) ∷ (codes "lvremove vg0/x_mimage_0", 9)
    ∷ (codes "resync vg0/snapshot1", 7) ∷ []

no_names_are : meant no_names ≡ refused (Faulty BadName) no_names
no_names_are = refl

-- words that are too few or too many
abbrev too_few_or_too_many : List Word
too_few_or_too_many =
    codes "pvcreate" ∷ codes "pvcreate  " ∷ codes "  pvcreate a  b " ∷ codes "pvcreate --metadatacopies 1"
    ∷ codes "pvcreate a --metadatacopies" ∷ codes "vgextend" ∷ codes "vgextend vg0" ∷ codes "vgreduce vg0" ∷ codes "vgreduce vg0 a b"
    ∷ codes "vgrename vg0" ∷ codes "vgrename vg0 vg1 vg2" ∷ codes "lvremove" ∷ codes "lvremove vg0/data vg0/logs"
    ∷ codes "lvrename vg0 data" ∷ codes "lvrename vg0 data logs home" ∷ codes "pvmove --abort a" ∷ codes "pvmove a --abort"
    ∷ codes "list x" ∷ codes "wait x" ∷ codes "read" ∷ codes "read vg0/data 0" ∷ codes "read vg0/data 0 1 1"
    ∷ codes "fill vg0/data 0 1" ∷ codes "fill vg0/data 0 1 1 1" ∷ codes "write vg0/data 0" ∷ codes "resync"
    ∷ codes "resync vg0/data a" ∷ []

too_few_or_too_many_are : map meaning_of_line too_few_or_too_many ≡ wrong too_few_or_too_many
too_few_or_too_many_are = refl

-- no word past the last is refused for itself
abbrev faulty_past_the_last : List Word
faulty_past_the_last =
    (codes "list " ++ 255 ∷ []) ∷ (codes "read vg0/data 0 1 " ++ 9 ∷ []) ∷ []

faulty_past_the_last_are : map meaning_of_line faulty_past_the_last ≡ wrong faulty_past_the_last
faulty_past_the_last_are = refl

-- options that are wanting or exclude each other
abbrev options_apart : List Word
options_apart =
    codes "lvcreate" ∷ codes "lvcreate vg0" ∷ codes "lvcreate -n data vg0" ∷ codes "lvcreate -l 5 vg0"
    ∷ codes "lvcreate -n data -l 5" ∷ codes "lvcreate -n data vg0 -l" ∷ codes "lvcreate -n -l 5 vg0"
    ∷ codes "lvcreate -n data -l 5 -L 5 vg0" ∷ codes "lvcreate -n data -l 5 -I 64 vg0" ∷ codes "lvcreate -n data -l 5 -i 1 -I 64 vg0"
    ∷ codes "lvcreate -n data -l 5 -I 64 vg0 -i 1" ∷ codes "lvcreate -n data -l 5 -m 1 -i 2 vg0"
    ∷ codes "lvcreate -n data -l 5 -m 1 -i 1 vg0" ∷ codes "lvcreate -n data -l 5 -m 1 -I 64 vg0"
    ∷ codes "lvcreate -n data -l 5 -m 1 -i 2 -I 64 vg0" ∷ codes "lvextend vg0/data" ∷ codes "lvextend -l 5"
    ∷ codes "lvextend -l +5 -L +5m vg0/data" ∷ codes "lvextend vg0/data -l" ∷ codes "lvreduce vg0/data" ∷ codes "lvreduce -L 5m"
    ∷ codes "lvreduce -l 5 -L 5m vg0/data" ∷ codes "lvreduce -l 5 vg0/data a" ∷ []

options_apart_are : map meaning_of_line options_apart ≡ wrong options_apart
unfolding lib.Count.ones
options_apart_are = refl

-- of several faults the first from the left decides, and each comes before that the words are wrong as a whole
abbrev several : List (Word × Fault × ℕ)
several =
    (codes "read data x 0 --help", BadName, 5) ∷ (codes "read vg0/data x 0 --help", BadNumber, 14)
    ∷ (codes "read vg0/data 0 0 --help", BadCount, 16) ∷ (codes "read vg0/data 0 1 --help", BadOption, 18)
    ∷ (codes "read --help data x 0", BadOption, 5) ∷ (codes "read   vg0/data  x  1", BadNumber, 17)
    ∷ (codes "  read vg0/data 0 0  ", BadCount, 18) ∷ (codes "fill vg0/data 0 129 x", BadCount, 16)
    ∷ (codes "lvcreate -l 0 -n pvmove -x vg/0", BadCount, 12) ∷ (codes "lvcreate -n pvmove -l 0 -x vg/0", BadName, 12)
    ∷ (codes "lvcreate -x -n pvmove -l 0 vg/0", BadOption, 9) ∷ (codes "lvcreate vg/0 -x -n pvmove -l 0", BadName, 9)
    ∷ (codes "lvcreate -i 9 -I 9 -m 9", BadCount, 12) ∷ (codes "vgreduce vg0 a b -x", BadOption, 17)
    ∷ (codes "lvcreate -n data vg0 " ++ 255 ∷ [], BadName, 21) ∷ (codes "pvmove --abort " ++ 255 ∷ [], BadName, 15) ∷ []

the_first_decides : map (λ row. meaning_of_line row.0) several ≡ map (λ row. Some (Err (Faulty row.1, row.2))) several
the_first_decides = refl

-- ---- long names

-- a name of so many bytes
abbrev long : ℕ → Word
long count = replicate count 120

-- what stands before a name and behind it, and its place
abbrev named : List (Word × Word × ℕ)
named =
    (codes "pvcreate ", [], 9) ∷ (codes "pvmove a ", [], 9) ∷ (codes "vgrename ", codes " vg1", 9) ∷ (codes "vgrename vg0 ", [], 13)
    ∷ (codes "lvrename vg0 data ", [], 18) ∷ (codes "lvremove ", codes "/data", 9) ∷ (codes "lvremove vg0/", [], 9) ∷ []

-- whether a line has a command
abbrev has_command : Option Meant → Bool
has_command (Some (Ok command)) = true
has_command meant = false

they_fit : map (λ row. has_command (meaning_of_line (row.0 ++ long 127 ++ row.1))) named ≡ map (λ row. true) named
they_fit = refl

they_are_too_long : map (λ row. meaning_of_line (row.0 ++ long 128 ++ row.1)) named ≡ map (λ row. Some (Err (Faulty BadName, row.2))) named
they_are_too_long = refl

-- ---- digits of sectors

-- how many digits are sectors
abbrev counts : List (ℕ × Bool)
counts =
    (1023, false) ∷ (1024, true) ∷ (1025, false) ∷ (2047, false) ∷ (2048, true) ∷ (7168, true) ∷ (8191, false) ∷ (8192, true)
    ∷ (8193, false) ∷ (9216, false) ∷ []

counts_are : map (λ row. are_sectors row.0) counts ≡ map (λ row. row.1) counts
counts_are = refl

hex_digits : map is_hex_digit (codes "09afAF") ≡ map (λ digit. true) (codes "09afAF")
hex_digits = refl

no_hex_digits : map is_hex_digit (255 ∷ codes "gG/:@`") ≡ map (λ digit. false) (255 ∷ codes "gG/:@`")
no_hex_digits = refl

-- a line that writes so many zeros, and then this
abbrev zeros : ℕ → Word → Word
zeros count rest = codes "write vg0/data 0 " ++ replicate count 48 ++ rest

too_few : meaning_of_line (zeros 1023 []) ≡ Some (Err (Faulty BadCount, 17))
too_few = refl

no_digit : meaning_of_line (zeros 1023 (codes "g")) ≡ Some (Err (Faulty BadHex, 17))
no_digit = refl

-- that they are too many comes first
too_many : meaning_of_line (zeros 1024 (codes "g")) ≡ Some (Err (Faulty BadCount, 17))
too_many = refl
