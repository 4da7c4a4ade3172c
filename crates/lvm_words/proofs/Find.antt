-- The arguments of the command, as building makes them and as the walk finds them.
use Rattle.std.proofs.Common.{◌≡◌, ◌∙◌, ◌<◌, length, take, get_or, ℕ, ◌+◌, true, false, List, [], ◌∷◌, ◌++◌, Option, Some, refl, ap, ap₂}
use Rattle.std.proofs.Common.{sym}
use Rattle.std.proofs.lemmas.Bool.{and_from}
use Rattle.std.proofs.lemmas.List.{map-append, take_more}
use Rattle.std.specs.Prelude.{count_by, is_some}
use Rattle.std.specs.List.{list_all, list_any}
use Rattle.clap.specs.Simple.{filled_from, is_simple, is_ready, new_shape}
use Rattle.clap.specs.Faults.{is_simple_and_free}
use Rattle.clap.specs.Walk.{Rule, Text, is_early_multiple}
use Rattle.clap.specs.declared.builder.value_parser.ValueParser.TheVariants as vp
use Rattle.command_table.specs.declared.table.OptionRow.{OptionRow}
use Rattle.lvm_words.specs.Parser.{app_for, named_rule, option_rule, option_rules, rest_rule, rules_for}

-- an option as it is built
abbrev pub option_built : OptionRow → Rule
option_built row = record (option_rule row) { parser = Some vp.String }

abbrev pub rest_built : Rule
rest_built = record rest_rule { parser = Some vp.String; range = Some (record { start_inclusive = 1; end_inclusive = 1 }); index = Some 1 }

abbrev pub rules_built : List OptionRow → List Rule
rules_built [] = rest_built ∷ []
rules_built (row ∷ rows) = option_built row ∷ rules_built rows

pub rules_are_built : (rows : List OptionRow) → filled_from 1 (rules_for rows) ≡ rules_built rows
rules_are_built [] = refl
rules_are_built (row ∷ rows) = ap (λ rules. option_built row ∷ rules) (rules_are_built rows)

-- the command is simple, and no argument has a rule on another
all_simple : (rows : List OptionRow) → list_all (λ (a : Rule). a.is_simple) (rules_for rows) ≡ true
all_simple [] = refl
all_simple (row ∷ rows) = all_simple rows

all_built_simple : (rows : List OptionRow) → list_all (λ (a : Rule). a.is_simple) (rules_built rows) ≡ true
all_built_simple [] = refl
all_built_simple (row ∷ rows) = all_built_simple rows

all_built_free : (rows : List OptionRow) → list_all (λ (a : Rule). a.is_free) (rules_built rows) ≡ true
all_built_free [] = refl
all_built_free (row ∷ rows) = all_built_free rows

one_positional : (rows : List OptionRow) → count_by (λ (a : Rule). is_some a.index) (rules_built rows) ≡ 1
one_positional [] = refl
one_positional (row ∷ rows) = one_positional rows

none_early : (rows : List OptionRow) → list_any (is_early_multiple 1) (rules_built rows) ≡ false
none_early [] = refl
none_early (row ∷ rows) = none_early rows

ready : (rules : List Rule) → list_all (λ (a : Rule). a.is_simple) rules ≡ true → count_by (λ (a : Rule). is_some a.index) rules ≡ 1
    → list_any (is_early_multiple 1) rules ≡ false
    → is_ready (record (new_shape []) {
      rules = rules;
      no_binary_name = true;
      disable_help_flag = true;
      disable_help_subcommand = true;
      is_built = true;
    }) ≡ true
ready rules simple one none = rw (simple, one, none) refl

pub simple_app : (rows : List OptionRow) → is_simple (app_for rows) ≡ true
simple_app rows =
    let e : filled_from 1 (rules_for rows) ≡ rules_built rows = rules_are_built rows in
    let s : list_all (λ (a : Rule). a.is_simple) (rules_for rows) ≡ true = all_simple rows in
    rw s (rw e (rw (all_built_simple rows, one_positional rows, none_early rows) refl))

pub simple_free_app : (rows : List OptionRow) → is_simple_and_free (app_for rows) ≡ true
simple_free_app rows =
    let e : filled_from 1 (rules_for rows) ≡ rules_built rows = rules_are_built rows in
    and_from (is_simple (app_for rows)) _ (simple_app rows) (rw e (rw (all_built_free rows) refl))

pub rules_more : (rows : List OptionRow) (i : ℕ) (d : OptionRow) → i < length rows
    → option_rules (take i rows) ++ option_rule (get_or rows i d) ∷ [] ≡ option_rules (take (i + 1) rows)
rules_more rows i d lt = sym (ap option_rules (take_more rows i d lt) ∙ map-append option_rule (take i rows) (get_or rows i d ∷ []))

pub named_alike : (a b : Text) (l m : Option ℕ) (n k : ℕ) → a ≡ b → l ≡ m → n ≡ k → named_rule a l n ≡ named_rule b m k
named_alike a b l m n k name letter count = ap₂ (λ x y. named_rule x y n) name letter ∙ ap (named_rule b m) count
