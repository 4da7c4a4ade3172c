-- The options and their spellings.
use Rattle.std.specs.Prelude.{ℕ, ◌+◌, Bool, false, ◌==◌, ◌||◌, if◌then◌else◌, option_map, List, [], ◌∷◌, map, Option, None, Some, codes}
use Rattle.std.specs.Prelude.{slice_index}
use Rattle.std.specs.Option.{option_map_or}
use Rattle.std.specs.Borrow.{Bor}
use Rattle.std.specs.Str.{bytes_eq}
use Rattle.std.specs.String.{string_bytes}
use Rattle.std.specs.declared.string.String.{String}
use Rattle.command_table.specs.declared.option_key.OptionKey.{OptionKey}
use Rattle.command_table.specs.declared.option_key.OptionKey.TheVariants.{Abort, Alloc, DiskThreads, Extents, MetadataCopies}
use Rattle.command_table.specs.declared.option_key.OptionKey.TheVariants.{Mirrors, Name, PhysicalExtentSize, Size, Status, Stripes}
use Rattle.command_table.specs.declared.option_key.OptionKey.TheVariants.{StripeSize, Through, Workers}

-- a word of a command line, as its bytes
abbrev pub Word : Type 0
Word = List ℕ

-- the bytes of each word
abbrev pub words_of : {A : Type 0} → List (String A) → List Word
words_of words = map string_bytes words

-- the bytes of each word behind its reference
abbrev pub words_in : List (Bor Word) → List Word
words_in words = map (λ word. word.now) words

-- the place of a word among words, from 0
unfoldable pub number_named : List Word → Word → Option ℕ
number_named [] word = None
number_named (name ∷ names) word = if bytes_eq name word then Some 0 else option_map (λ n. n + 1) (number_named names word)

-- the long spelling of an option, in lvm(8) where it stands there, without the two hyphens
abbrev pub name_of : OptionKey → Word
name_of Abort = codes "abort"
name_of Alloc = codes "alloc"
name_of DiskThreads = codes "disk-threads"
name_of Extents = codes "extents"
name_of MetadataCopies = codes "metadatacopies"
name_of Mirrors = codes "mirrors"
name_of Name = codes "name"
name_of PhysicalExtentSize = codes "physicalextentsize"
name_of Size = codes "size"
name_of Status = codes "status"
name_of Stripes = codes "stripes"
name_of StripeSize = codes "stripesize"
name_of Through = codes "through"
name_of Workers = codes "workers"

-- its letter, where lvm(8) has one: l, m, n, s, L, i and I
abbrev pub letter_of : OptionKey → Option ℕ
letter_of Extents = Some 108
letter_of Mirrors = Some 109
letter_of Name = Some 110
letter_of PhysicalExtentSize = Some 115
letter_of Size = Some 76
letter_of Stripes = Some 105
letter_of StripeSize = Some 73
letter_of _ = None

-- both are the same option
abbrev pub is_key : OptionKey → OptionKey → Bool
is_key a b = bytes_eq (name_of a) (name_of b)

-- the word begins with `-`
abbrev pub is_dashed : Word → Bool
is_dashed word = slice_index word 0 == 45

-- the word is exactly the option: `--` and its name, or `-` and its letter
abbrev pub spells : OptionKey → Word → Bool
spells key word = bytes_eq (45 ∷ 45 ∷ name_of key) word
    || option_map_or (λ letter. bytes_eq (45 ∷ letter ∷ []) word) (letter_of key) false
