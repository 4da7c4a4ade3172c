-- What a word in the place of a value or of an argument has to be.
use Rattle.std.specs.Prelude.{ℕ, ◌-◌, ◌*◌, ◌%◌, ◌^◌, Bool, true, false, not, ◌==◌, ◌&&◌, ◌||◌, if◌then◌else◌, nat_lt, nat_le, [], ◌∷◌}
use Rattle.std.specs.Prelude.{length, take, drop, ◌+◌, slice_index, codes, Option, Some, None, is_none, option_map, min}
use Rattle.std.specs.Int.{is_power_of_two}
use Rattle.std.specs.List.{list_all, position}
use Rattle.std.specs.Option.{option_map_or}
use Rattle.std.specs.Str.{bytes_eq}
use Rattle.std.specs.Str.Parse.{digits_value}
use Rattle.lvm_name.specs.Names.{group_name_refusal, volume_name_refusal}
use Rattle.command_table.specs.declared.fault.Fault.{Fault}
use Rattle.command_table.specs.declared.fault.Fault.TheVariants.{BadOption, BadNumber, BadCount, BadName, BadHex}
use Rattle.command_table.specs.declared.kind.Kind.{Kind}
use Rattle.command_table.specs.declared.kind.Kind.TheVariants.{Flag, Number, Growth, Size, SizeGrowth, PowerSize, Policy, Disk, Group}
use Rattle.command_table.specs.declared.kind.Kind.TheVariants.{Volume, Path, Hex}
use Rattle.command_table.specs.Options.{Word}

-- ---- numbers

-- a byte from `0` to `9`
abbrev pub is_digit : ℕ → Bool
is_digit byte = nat_le 48 byte && nat_le byte 57

-- one or more decimal digits
abbrev pub is_numeral : Word → Bool
is_numeral word = not (length word == 0) && list_all is_digit word

-- the number that the word writes, where it fits 64 bits
abbrev pub number_of : Word → Option ℕ
number_of word = if is_numeral word && nat_lt (digits_value 10 word) (2 ^ 64) then Some (digits_value 10 word) else None

-- ---- sizes

-- the sectors that a letter of lvm(8) stands for: s, k, m, g or t in either case
abbrev pub unit_of : ℕ → Option ℕ
unit_of letter =
    if letter == 115 || letter == 83 then Some 1
    else if letter == 107 || letter == 75 then Some 2
    else if letter == 109 || letter == 77 then Some 2048
    else if letter == 103 || letter == 71 then Some 2097152
    else if letter == 116 || letter == 84 then Some 2147483648
    else None

-- so many units, in sectors; what doesn't fit 64 bits is their last number, which no place takes
abbrev pub sectors_in : Option ℕ → ℕ → Option ℕ
sectors_in number unit = option_map (λ n. min (n * unit) (2 ^ 64 - 1)) number

-- a size in sectors: a number and at most one letter, this many sectors where there is none
abbrev pub size_of : ℕ → Word → Option ℕ
size_of unit word = with_unit (unit_of (slice_index word (length word - 1)))
  where
    with_unit : Option ℕ → Option ℕ
    with_unit None = sectors_in (number_of word) unit
    with_unit (Some own) = sectors_in (number_of (take (length word - 1) word)) own

-- ---- names

-- a byte from `!` to `~`
abbrev pub is_visible : ℕ → Bool
is_visible byte = nat_le 33 byte && nat_le byte 126

-- a disk's name: 1 to 127 bytes from `!` to `~`
abbrev pub is_disk_name : Word → Bool
is_disk_name word = not (length word == 0) && (nat_le (length word) 127 && list_all is_visible word)

-- a group's name
abbrev pub is_group_name : Word → Bool
is_group_name word = is_none (group_name_refusal word)

-- a logical volume's name that users may give
abbrev pub is_volume_name : Word → Bool
is_volume_name word = is_none (volume_name_refusal word)

-- the words on both sides of the first `/`
abbrev pub halves : Word → Option (Word × Word)
halves word = option_map (λ place. (take place word, drop (place + 1) word)) (position (λ byte. byte == 47) word)

-- the names of a group and of a logical volume
abbrev pub is_path : Word → Bool
is_path word = option_map_or (λ both. is_group_name both.0 && is_volume_name both.1) (halves word) false

-- ---- the rest

-- the word without the `+` that it begins with, if it does
abbrev pub without_plus : Word → Word
without_plus [] = []
without_plus (byte ∷ word) = if byte == 43 then word else byte ∷ word

-- the word begins with `+`
abbrev pub has_plus : Word → Bool
has_plus word = slice_index word 0 == 43

-- a hex digit in either case
abbrev pub is_hex_digit : ℕ → Bool
is_hex_digit byte = is_digit byte || (nat_le 65 byte && nat_le byte 70) || (nat_le 97 byte && nat_le byte 102)

-- so many digits write 1 to 8 sectors
abbrev pub are_sectors : ℕ → Bool
are_sectors digits = nat_le 1024 digits && nat_le digits 8192 && digits % 1024 == 0

-- how extents may be allocated, as lvm(8) names it
abbrev pub is_policy : Word → Bool
is_policy word = bytes_eq word (codes "contiguous") || bytes_eq word (codes "normal")

-- ---- faults

-- the fault of a number that has to pass a test
abbrev pub number_fault : (ℕ → Bool) → Option ℕ → Option Fault
number_fault passes None = Some BadNumber
number_fault passes (Some n) = if passes n then None else Some BadCount

-- no fault where the test is passed
abbrev pub unless : Fault → Bool → Option Fault
unless fault true = None
unless fault false = Some fault

-- from the first to the second
abbrev pub is_between : ℕ → ℕ → ℕ → Bool
is_between least most n = nat_le least n && nat_le n most

-- the fault of a word where such a value has to stand
abbrev pub fault_in : Kind → Word → Option Fault
fault_in Flag word = None
fault_in (Number least most) word = number_fault (is_between least most) (number_of word)
fault_in (Growth least most) word = number_fault (is_between least most) (number_of (without_plus word))
fault_in (Size unit least most) word = number_fault (is_between least most) (size_of unit word)
fault_in (SizeGrowth unit least most) word = number_fault (is_between least most) (size_of unit (without_plus word))
fault_in (PowerSize unit least most) word = number_fault (λ n. is_between least most n && is_power_of_two n) (size_of unit word)
fault_in Policy word = unless BadOption (is_policy word)
fault_in Disk word = unless BadName (is_disk_name word)
fault_in Group word = unless BadName (is_group_name word)
fault_in Volume word = unless BadName (is_volume_name word)
fault_in Path word = unless BadName (is_path word)
fault_in Hex word = if are_sectors (length word) then unless BadHex (list_all is_hex_digit word) else Some BadCount
