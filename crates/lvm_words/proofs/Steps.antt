-- One step of clap's walk over the words.
use Rattle.std.proofs.Common.{◌≡◌, ◌∙◌, ℕ, true, false, List, [], ◌∷◌, Option, Some, None, refl}
use Rattle.std.proofs.lemmas.Bool.{and_right}
use Rattle.std.proofs.lemmas.Slice.Eq.{bytes_eq-Decides}
use Rattle.std.specs.Str.{bytes_eq}
use Rattle.clap.specs.Lexer.{long_of, short_of}
use Rattle.clap.specs.Faults.{flags_fault, settle_fault, turn_fault}
use Rattle.clap.specs.Kinds.{Kinds, or_else}
use Rattle.clap.specs.Simple.{Shape, new_shape}
use Rattle.clap.specs.Walk.{Row, Text, Waiting, Walk, bundle_met, idle, option, positional, settled_rows, subcommand_met, walked}
use Rattle.clap.specs.Walk.{with_values}
use Rattle.clap.specs.declared.builder.value_parser.Reading.TheVariants as reading
use Rattle.clap.specs.declared.error.kind.ErrorKind.TheVariants as kind
use Rattle.clap.specs.declared.parser.matches.ValueSource.TheVariants.{CommandLine}
use Rattle.command_table.specs.declared.table.OptionRow.{OptionRow}
use Rattle.command_table.specs.Options.{Word, is_dashed, letter_of, name_of}
use Rattle.lvm_words.specs.Parser.{rest_id, value_count}
use Rattle.lvm_words.proofs.Find.{rules_built}
use Rattle.lvm_words.proofs.Found.{Stands, found_by_id, found_by_long, found_by_short, found_rest, found_rest_by_id}
use Rattle.lvm_words.proofs.Spellings.{Spelled, long, long_word_of, not_only_hyphens, short, short_word_of}

-- what the last word was: nothing that waits for its place, as after a flag, an option that waits for its value, that value, or
-- an argument
pub data Last : Type 0 where
  none : Last
  waits : OptionRow → Last
  valued : OptionRow → Word → Last
  argument : Word → Last

abbrev pub pending_for : Last → Option (Text × List Text)
pending_for none = None
pending_for (waits row) = Some (name_of row.key, [])
pending_for (valued row word) = Some (name_of row.key, word ∷ [])
pending_for (argument word) = Some (rest_id, word ∷ [])

abbrev pub waiting_for : Last → Waiting
waiting_for none = idle
waiting_for (waits row) = option (name_of row.key)
waiting_for (valued row word) = idle
waiting_for (argument word) = positional

-- where the walk stands, by the rows before the last word and that word
abbrev pub walk_at : List Row → Last → Walk
walk_at rows last = record {
  held = record { rows = rows; pending = pending_for last; skip = 0 };
  waiting = waiting_for last;
  position = 1;
  is_trailing = false;
  stopped = None;
}

-- the rows with one more value of an option
abbrev pub with_value : OptionRow → Word → List Row → List Row
with_value row word rows = with_values (name_of row.key) reading.AsWritten CommandLine (word ∷ []) rows

-- the rows with the last word
abbrev pub rows_with : List Row → Last → List Row
rows_with rows none = rows
rows_with rows (waits row) = rows
rows_with rows (valued row word) = with_value row word rows
rows_with rows (argument word) = with_values rest_id reading.AsWritten CommandLine (word ∷ []) rows

-- the option of the list with a value
pub record TakesValue (options : List OptionRow) (row : OptionRow) : Type 0 where
  pub stands : Stands options row
  pub one : value_count row.kind ≡ 1

-- the option of the list that is a flag
pub record IsFlag (options : List OptionRow) (row : OptionRow) : Type 0 where
  pub stands : Stands options row
  pub zero : value_count row.kind ≡ 0

-- the option of the last word is one of the list
abbrev pub IsListed : List OptionRow → Last → Type 0
IsListed options none = Unit {0}
IsListed options (waits row) = TakesValue options row
IsListed options (valued row word) = TakesValue options row
IsListed options (argument word) = Unit {0}

abbrev pub shape_at : List OptionRow → Shape
shape_at options = record (new_shape []) {
  rules = rules_built options;
  no_binary_name = true;
  disable_help_flag = true;
  disable_help_subcommand = true;
  is_built = true;
}

-- the fault of the last word
abbrev pub last_fault : List OptionRow → List Row → Last → Kinds
last_fault options rows last = settle_fault (rules_built options) false (walk_at rows last).held

no_subcommand : (waiting : Waiting) (word : Text) → subcommand_met [] waiting word ≡ None
no_subcommand idle word = refl
no_subcommand (option id) word = refl
no_subcommand positional word = refl

or_none : (kinds : Kinds) → or_else kinds [] ≡ kinds
or_none [] = refl
or_none (k ∷ ks) = refl

-- ---- an option with a value takes its place after the rows with the last word

long_step : (options : List OptionRow) (row : OptionRow) (rows : List Row) (last : Last) → TakesValue options row
    → walked (rules_built options) [] (walk_at rows last) (45 ∷ 45 ∷ name_of row.key)
    ≡ walk_at (settled_rows (rules_built options) (pending_for last) rows) (waits row)
unfolding walked
long_step options row rows last takes =
    rw (
      no_subcommand (waiting_for last) (45 ∷ 45 ∷ name_of row.key),
      not_only_hyphens row.key,
      long_word_of row.key,
      found_by_long options row takes.stands,
      takes.one,
    ) refl

short_step : (options : List OptionRow) (row : OptionRow) (letter : ℕ) (rows : List Row) (last : Last) → letter_of row.key ≡ Some letter
    → TakesValue options row
    → walked (rules_built options) [] (walk_at rows last) (45 ∷ letter ∷ [])
    ≡ walk_at (settled_rows (rules_built options) (pending_for last) rows) (waits row)
unfolding walked bundle_met
short_step options row letter rows last is takes =
    let facts = short_word_of row.key letter is in
    rw (
      no_subcommand (waiting_for last) (45 ∷ letter ∷ []),
      facts.2,
      facts.0,
      facts.1,
      facts.3,
      facts.4,
      found_by_short options row letter is takes.stands,
      takes.one,
    ) refl

pub option_step : (options : List OptionRow) (row : OptionRow) (word : Word) (rows : List Row) (last : Last) → Spelled row.key word
    → TakesValue options row
    → walked (rules_built options) [] (walk_at rows last) word
    ≡ walk_at (settled_rows (rules_built options) (pending_for last) rows) (waits row)
option_step options row _ rows last long takes = long_step options row rows last takes
option_step options row _ rows last (short letter is) takes = short_step options row letter rows last is takes

-- and fails only where the last word does
long_fault : (options : List OptionRow) (row : OptionRow) (rows : List Row) (last : Last) → TakesValue options row
    → turn_fault (shape_at options) [] (walk_at rows last) (45 ∷ 45 ∷ name_of row.key) ≡ last_fault options rows last
long_fault options row rows last takes =
    rw (
      no_subcommand (waiting_for last) (45 ∷ 45 ∷ name_of row.key),
      not_only_hyphens row.key,
      long_word_of row.key,
      found_by_long options row takes.stands,
      takes.one,
    )
    (or_none (last_fault options rows last))

short_fault : (options : List OptionRow) (row : OptionRow) (letter : ℕ) (rows : List Row) (last : Last) → letter_of row.key ≡ Some letter
    → TakesValue options row
    → turn_fault (shape_at options) [] (walk_at rows last) (45 ∷ letter ∷ []) ≡ last_fault options rows last
unfolding bundle_met flags_fault
short_fault options row letter rows last is takes =
    let facts = short_word_of row.key letter is in
    rw (
      no_subcommand (waiting_for last) (45 ∷ letter ∷ []),
      facts.2,
      facts.0,
      facts.1,
      facts.3,
      facts.4,
      found_by_short options row letter is takes.stands,
      takes.one,
    )
    (or_none (last_fault options rows last))

pub option_fault : (options : List OptionRow) (row : OptionRow) (word : Word) (rows : List Row) (last : Last) → Spelled row.key word
    → TakesValue options row
    → turn_fault (shape_at options) [] (walk_at rows last) word ≡ last_fault options rows last
option_fault options row _ rows last long takes = long_fault options row rows last takes
option_fault options row _ rows last (short letter is) takes = short_fault options row letter rows last is takes

-- ---- a flag has its value, the empty word, at once

long_flag : (options : List OptionRow) (row : OptionRow) (rows : List Row) (last : Last) → IsFlag options row
    → walked (rules_built options) [] (walk_at rows last) (45 ∷ 45 ∷ name_of row.key)
    ≡ walk_at (with_value row [] (settled_rows (rules_built options) (pending_for last) rows)) none
unfolding walked
long_flag options row rows last flag =
    rw (
      no_subcommand (waiting_for last) (45 ∷ 45 ∷ name_of row.key),
      not_only_hyphens row.key,
      long_word_of row.key,
      found_by_long options row flag.stands,
      flag.zero,
    ) refl

short_flag : (options : List OptionRow) (row : OptionRow) (letter : ℕ) (rows : List Row) (last : Last) → letter_of row.key ≡ Some letter
    → IsFlag options row
    → walked (rules_built options) [] (walk_at rows last) (45 ∷ letter ∷ [])
    ≡ walk_at (with_value row [] (settled_rows (rules_built options) (pending_for last) rows)) none
unfolding walked bundle_met
short_flag options row letter rows last is flag =
    let facts = short_word_of row.key letter is in
    rw (
      no_subcommand (waiting_for last) (45 ∷ letter ∷ []),
      facts.2,
      facts.0,
      facts.1,
      facts.3,
      facts.4,
      found_by_short options row letter is flag.stands,
      flag.zero,
    ) refl

pub flag_step : (options : List OptionRow) (row : OptionRow) (word : Word) (rows : List Row) (last : Last) → Spelled row.key word
    → IsFlag options row
    → walked (rules_built options) [] (walk_at rows last) word
    ≡ walk_at (with_value row [] (settled_rows (rules_built options) (pending_for last) rows)) none
flag_step options row _ rows last long flag = long_flag options row rows last flag
flag_step options row _ rows last (short letter is) flag = short_flag options row letter rows last is flag

-- and fails only where the last word does
long_flag_fault : (options : List OptionRow) (row : OptionRow) (rows : List Row) (last : Last) → IsFlag options row
    → turn_fault (shape_at options) [] (walk_at rows last) (45 ∷ 45 ∷ name_of row.key) ≡ last_fault options rows last
long_flag_fault options row rows last flag =
    rw (
      no_subcommand (waiting_for last) (45 ∷ 45 ∷ name_of row.key),
      not_only_hyphens row.key,
      long_word_of row.key,
      found_by_long options row flag.stands,
      flag.zero,
    )
    (or_none (or_else (last_fault options rows last) []) ∙ or_none (last_fault options rows last))

short_flag_fault : (options : List OptionRow) (row : OptionRow) (letter : ℕ) (rows : List Row) (last : Last)
    → letter_of row.key ≡ Some letter → IsFlag options row
    → turn_fault (shape_at options) [] (walk_at rows last) (45 ∷ letter ∷ []) ≡ last_fault options rows last
unfolding bundle_met flags_fault
short_flag_fault options row letter rows last is flag =
    let facts = short_word_of row.key letter is in
    rw (
      no_subcommand (waiting_for last) (45 ∷ letter ∷ []),
      facts.2,
      facts.0,
      facts.1,
      facts.3,
      facts.4,
      found_by_short options row letter is flag.stands,
      flag.zero,
    )
    (or_none (or_else (or_else (last_fault options rows last) []) []) ∙ or_none (or_else (last_fault options rows last) [])
    ∙ or_none (last_fault options rows last))

pub flag_fault : (options : List OptionRow) (row : OptionRow) (word : Word) (rows : List Row) (last : Last) → Spelled row.key word
    → IsFlag options row
    → turn_fault (shape_at options) [] (walk_at rows last) word ≡ last_fault options rows last
flag_fault options row _ rows last long flag = long_flag_fault options row rows last flag
flag_fault options row _ rows last (short letter is) flag = short_flag_fault options row letter rows last is flag

-- ---- a word that is no option

plain_word_of : (word : Word) → is_dashed word ≡ false
    → (long_of word ≡ None) × (short_of word ≡ None) × (bytes_eq word (45 ∷ 45 ∷ []) ≡ false)
plain_word_of [] plain = (refl, refl, refl)
plain_word_of (x ∷ xs) plain = (rw plain refl, rw plain refl, rw plain refl)

same_text : (id : Text) → bytes_eq id id ≡ true
same_text id = (bytes_eq-Decides id id).1 refl

-- the value of the option before it
pub value_step : (options : List OptionRow) (row : OptionRow) (word : Word) (rows : List Row) → is_dashed word ≡ false
    → TakesValue options row
    → walked (rules_built options) [] (walk_at rows (waits row)) word ≡ walk_at rows (valued row word)
unfolding walked
value_step options row word rows plain takes =
    let facts = plain_word_of word plain in
    rw (facts.2, facts.0, facts.1, found_by_id options row takes.stands, same_text (name_of row.key), takes.one) refl

pub value_fault : (options : List OptionRow) (row : OptionRow) (word : Word) (rows : List Row) → is_dashed word ≡ false
    → turn_fault (shape_at options) [] (walk_at rows (waits row)) word ≡ []
value_fault options row word rows plain =
    let facts = plain_word_of word plain in
    rw (facts.2, facts.0, facts.1) refl

-- one more argument
pub data Settles : Last → Type 0 where
  at_none : Settles none
  at_valued : (row : OptionRow) (word : Word) → Settles (valued row word)
  at_argument : (word : Word) → Settles (argument word)

pub argument_step : (options : List OptionRow) (word : Word) (rows : List Row) (last : Last) → Settles last → is_dashed word ≡ false
    → walked (rules_built options) [] (walk_at rows last) word
    ≡ walk_at (settled_rows (rules_built options) (pending_for last) rows) (argument word)
unfolding walked
argument_step options word rows none at_none plain =
    let facts = plain_word_of word plain in
    rw (facts.2, facts.0, facts.1, found_rest options) refl
argument_step options word rows _ (at_valued row before) plain =
    let facts = plain_word_of word plain in
    rw (facts.2, facts.0, facts.1, found_rest options, and_right (bytes_eq (name_of row.key) rest_id) false refl) refl
argument_step options word rows _ (at_argument before) plain =
    let facts = plain_word_of word plain in
    rw (facts.2, facts.0, facts.1, found_rest options) refl

pub argument_fault : (options : List OptionRow) (word : Word) (rows : List Row) (last : Last) → Settles last → is_dashed word ≡ false
    → turn_fault (shape_at options) [] (walk_at rows last) word ≡ last_fault options rows last
argument_fault options word rows none at_none plain =
    let facts = plain_word_of word plain in
    rw (facts.2, facts.0, facts.1, found_rest options) refl
argument_fault options word rows _ (at_valued row before) plain =
    let facts = plain_word_of word plain in
    rw (facts.2, facts.0, facts.1, found_rest options, and_right (bytes_eq (name_of row.key) rest_id) false refl) refl
argument_fault options word rows _ (at_argument before) plain =
    let facts = plain_word_of word plain in
    rw (facts.2, facts.0, facts.1, found_rest options) refl

-- ---- the last word takes its place

pub settles_rows : (options : List OptionRow) (rows : List Row) (last : Last) → Settles last → IsListed options last
    → settled_rows (rules_built options) (pending_for last) rows ≡ rows_with rows last
settles_rows options rows none at_none listed = refl
settles_rows options rows _ (at_valued row word) listed = rw (found_by_id options row listed.stands) refl
settles_rows options rows _ (at_argument word) listed = rw (found_rest_by_id options) refl

pub settles_well : (options : List OptionRow) (rows : List Row) (last : Last) → Settles last → IsListed options last
    → last_fault options rows last ≡ []
settles_well options rows none at_none listed = refl
settles_well options rows _ (at_valued row word) listed = rw (found_by_id options row listed.stands, listed.one) refl
settles_well options rows _ (at_argument word) listed = rw (found_rest_by_id options) refl

-- an option without its value fails
pub lacks_value : (options : List OptionRow) (rows : List Row) (row : OptionRow) → TakesValue options row
    → last_fault options rows (waits row) ≡ kind.InvalidValue ∷ []
lacks_value options rows row takes = rw (found_by_id options row takes.stands, takes.one) refl
