-- The simple command of clap for a list of options, and what it has to give.
use Rattle.std.specs.Prelude.{◌≡◌, ℕ, ◌+◌, ◌&&◌, Bool, not, if◌then◌else◌, true, false, List, [], ◌∷◌, ◌++◌, map, Option, Some, None, codes}
use Rattle.std.specs.Prelude.{find, fold, is_none, unwrap_or}
use Rattle.std.specs.List.{list_all}
use Rattle.std.specs.Option.{option_and_then, option_map_or}
use Rattle.clap.specs.Simple.{App, new_rule, new_shape}
use Rattle.clap.specs.Walk.{Row, Rule, Text, all_of, first_of}
use Rattle.clap.specs.declared.builder.action.ArgAction.TheVariants.{Append}
use Rattle.command_table.specs.declared.table.CommandName.{CommandName}
use Rattle.command_table.specs.declared.kind.Kind.{Kind}
use Rattle.command_table.specs.declared.kind.Kind.TheVariants.{Flag}
use Rattle.command_table.specs.declared.option_key.OptionKey.{OptionKey}
use Rattle.command_table.specs.declared.request.Request.{Request}
use Rattle.command_table.specs.declared.role.Role.{Role}
use Rattle.command_table.specs.declared.role.Role.TheVariants as role
use Rattle.command_table.specs.declared.table.OptionRow.{OptionRow}
use Rattle.command_table.specs.Given.{value_in}
use Rattle.command_table.specs.Meaning.{request_by_name}
use Rattle.command_table.specs.Options.{Word, is_dashed, is_key, letter_of, name_of}
use Rattle.command_table.specs.Table.{argument_of, options_of}
use Rattle.command_table.specs.Values.{fault_in}
use Rattle.command_table.specs.Words.{Split, after_role, has_key, nothing_split, option_named, role_of}

-- ---- the command of clap

-- how many values an option of this kind has
abbrev pub value_count : Kind → ℕ
value_count Flag = 0
value_count _ = 1

-- the option of clap: each use is kept, and a use without a value has the empty word
abbrev pub named_rule : Text → Option ℕ → ℕ → Rule
named_rule name letter values = record (new_rule name) {
  long = Some name;
  short = letter;
  action = Some Append;
  range = Some (record { start_inclusive = values; end_inclusive = values });
  missing = [] ∷ [];
}

-- the option of clap for an option of the list
abbrev pub option_rule : OptionRow → Rule
option_rule row = named_rule (name_of row.key) (letter_of row.key) (value_count row.kind)

-- the id of the arguments
abbrev pub rest_id : Text
rest_id = codes "arguments"

-- the arguments
abbrev pub rest_rule : Rule
rest_rule = record (new_rule rest_id) { action = Some Append }

-- the options of clap for a list of options
abbrev pub option_rules : List OptionRow → List Rule
option_rules rows = map option_rule rows

-- the options and the arguments
abbrev pub rules_for : List OptionRow → List Rule
rules_for rows = option_rules rows ++ rest_rule ∷ []

-- a command of clap with these options and arguments
abbrev pub app_with : List Rule → App
app_with rules = record {
  top = record (new_shape []) { rules = rules; no_binary_name = true; disable_help_flag = true };
  subs = [];
}

-- the command of clap for a list of options
abbrev pub app_for : List OptionRow → App
app_for rows = app_with (rules_for rows)

-- ---- the words without their faults

-- one more word, where no value is looked at
abbrev pub after_split : List OptionRow → Split → Word → Split
after_split rows split word = after_role split word (role_of rows split word)

-- more words
abbrev pub split_from : List OptionRow → Split → List Word → Split
split_from rows split words = fold (after_split rows) split words

-- the words of a command with these options, taken apart
abbrev pub split_of : List OptionRow → List Word → Split
split_of rows words = split_from rows nothing_split words

-- the word has no place
abbrev pub is_stray : Role → Bool
is_stray role.Stray = true
is_stray _ = false

-- each word that begins with `-` is an option, and none stands twice
unfoldable pub no_stray : List OptionRow → Split → List Word → Bool
no_stray rows split [] = true
no_stray rows split (word ∷ rest) = not (is_stray (role_of rows split word)) && no_stray rows (after_split rows split word) rest

-- the options after a word, or none where it strays
abbrev pub next_seen : List OptionKey → Option OptionRow → Option (List OptionKey)
next_seen seen None = None
next_seen seen (Some row) = if has_key seen row.key then None else Some (seen ++ row.key ∷ [])

-- the same of any word
abbrev pub seen_after : List OptionRow → List OptionKey → Word → Option (List OptionKey)
seen_after rows seen word = if is_dashed word then next_seen seen (option_named rows word) else Some seen

-- ---- the matches

-- the values of an option
abbrev pub values_of : OptionKey → List (OptionKey × Word) → List Word
values_of key [] = []
values_of key (pair ∷ rest) = if is_key pair.0 key then pair.1 ∷ values_of key rest else values_of key rest

-- the values that clap lists, if there are some
abbrev pub listed : List Word → Option (List Word)
listed [] = None
listed (word ∷ words) = Some (word ∷ words)

-- the option of the list with this key
abbrev pub row_of_key : List OptionRow → OptionKey → Option OptionRow
row_of_key rows key = find (λ row. is_key row.key key) rows

-- each option has its values among the matches, one that isn't of the list has none, and the arguments are those of the words
pub record Lists (table : List OptionRow) (split : Split) (rows : List Row) : Type 0 where
  pub options : (key : OptionKey) → all_of (name_of key) rows ≡ listed (values_of key split.given)
  pub others : (key : OptionKey) → row_of_key table key ≡ None → values_of key split.given ≡ []
  pub arguments : all_of rest_id rows ≡ listed split.arguments

-- the word is what the value of such an option has to be
abbrev pub value_passes : Kind → Word → Bool
value_passes kind word = is_none (fault_in kind word)

-- the word is what the argument in this place has to be
abbrev pub argument_passes : CommandName → ℕ → Word → Bool
argument_passes name number word = is_none (option_and_then (λ kind. fault_in kind word) (argument_of name number))

-- so is each word from this place on
abbrev pub arguments_pass : CommandName → ℕ → List Word → Bool
arguments_pass name number [] = true
arguments_pass name number (word ∷ words) = argument_passes name number word && arguments_pass name (number + 1) words

-- the values of the option are what they have to be
abbrev pub values_pass : List Row → OptionRow → Bool
values_pass rows option = option_map_or (list_all (value_passes option.kind)) (all_of (name_of option.key) rows) true

-- an option and its value
abbrev pub pair_of : OptionKey → Option Word → List (OptionKey × Word)
pair_of key None = []
pair_of key (Some word) = (key, word) ∷ []

-- the options among the matches, each with its value
abbrev pub pairs_of : List OptionRow → List Row → List (OptionKey × Word)
pairs_of [] rows = []
pairs_of (option ∷ options) rows = pair_of option.key (first_of (name_of option.key) rows) ++ pairs_of options rows

-- the arguments among the matches
abbrev pub arguments_in : List Row → List Word
arguments_in rows = unwrap_or (all_of rest_id rows) []

-- what the matches of this command ask for
abbrev pub request_found : CommandName → List Row → Option Request
request_found name rows =
    if list_all (values_pass rows) (options_of name) && arguments_pass name 0 (arguments_in rows)
    then request_by_name name (value_in (pairs_of (options_of name) rows)) (arguments_in rows) else None
