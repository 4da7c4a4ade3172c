-- The values of the options and of the arguments that are given.
use Rattle.std.specs.Prelude.{ℕ, if◌then◌else◌, List, [], ◌∷◌, Option, Some}
use Rattle.std.specs.Prelude.{None, find, unwrap_or, option_map, option_and_then, map}
use Rattle.command_table.specs.declared.amount.Amount.{Amount}
use Rattle.command_table.specs.declared.amount.Amount.TheVariants.{Extents, Sectors}
use Rattle.command_table.specs.declared.amount.Growth.{Growth}
use Rattle.command_table.specs.declared.amount.Growth.TheVariants.{To, By}
use Rattle.command_table.specs.declared.command.Path.{Path}
use Rattle.command_table.specs.declared.option_key.OptionKey.{OptionKey}
use Rattle.command_table.specs.declared.option_key.OptionKey.TheVariants as key
use Rattle.command_table.specs.declared.given_options.GivenOptions.{GivenOptions}
use Rattle.command_table.specs.Options.{Word, is_key}
use Rattle.command_table.specs.Values.{halves, has_plus, number_of, size_of, without_plus}

-- the value of each option, the empty word for one that takes none
abbrev pub OptionValues : Type 0
OptionValues = OptionKey → Option Word

-- the value of an option among pairs of an option and its value
abbrev pub value_in : List (OptionKey × Word) → OptionValues
value_in pairs key = option_map (λ pair. pair.1) (find (λ pair. is_key pair.0 key) pairs)

-- what the code holds of them
abbrev pub given_by : GivenOptions → OptionValues
given_by given = value_in (map (λ pair. (pair.0, pair.1.now)) given.pairs.now)

-- the number that is the value of an option
abbrev pub number : OptionValues → OptionKey → Option ℕ
number given key = option_and_then number_of (given key)

-- the number that is its value, and where there is none this one
abbrev pub number_or : OptionValues → OptionKey → ℕ → ℕ
number_or given key default = unwrap_or (number given key) default

-- the size that is its value, in sectors, where a number without a letter counts so many
abbrev pub size : OptionValues → OptionKey → ℕ → Option ℕ
size given key unit = option_and_then (size_of unit) (given key)

-- the volume that a word VG/LV names
abbrev pub path_in : Word → Option Path
path_in word = option_map (λ both. record { vg = both.0; lv = both.1 }) (halves word)

-- the one argument
abbrev pub one_word : List Word → Option Word
one_word (word ∷ []) = Some word
one_word _ = None

-- the volume that the one argument names
abbrev pub one_path : List Word → Option Path
one_path words = option_and_then path_in (one_word words)

-- one of the options for extents and for a size
abbrev pub amount_with : Option ℕ → Option ℕ → Option Amount
amount_with (Some extents) None = Some (Extents extents)
amount_with None (Some sectors) = Some (Sectors sectors)
amount_with _ _ = None

-- how large a volume is to be
abbrev pub amount_of : OptionValues → Option Amount
amount_of given = amount_with (number given key.Extents) (size given key.Size 2048)

-- so much, or so much more behind a `+`
abbrev pub growth_by : Word → Amount → Growth
growth_by word amount = if has_plus word then By amount else To amount

-- one of the values of the options for extents and for a size
abbrev pub growth_with : Option Word → Option Word → Option Growth
growth_with (Some word) None = option_map (λ n. growth_by word (Extents n)) (number_of (without_plus word))
growth_with None (Some word) = option_map (λ n. growth_by word (Sectors n)) (size_of 2048 (without_plus word))
growth_with _ _ = None

-- what a volume grows to, by its options
abbrev pub growth_of : OptionValues → Option Growth
growth_of given = growth_with (given key.Extents) (given key.Size)
