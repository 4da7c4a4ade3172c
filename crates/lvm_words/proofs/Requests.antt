-- What clap's matches ask for is what the words mean.
use Rattle.std.proofs.Common.{◌≡◌, ◌∙◌, ◌+◌, ℕ, ◌&&◌, Bool, if◌then◌else◌, true, false, List, [], ◌∷◌, length, Option, Some, None, Result}
use Rattle.std.proofs.Common.{Ok, Err, refl, ap, ap₂, sym, inl, inr, ◌⊎◌}
use Rattle.std.proofs.lemmas.Bool.{cases_Bool, true≢false}
use Rattle.std.proofs.Math.Path.{fun_ext}
use Rattle.std.specs.Prelude.{is_some, unwrap_or}
use Rattle.std.specs.List.{list_all}
use Rattle.std.specs.Option.{option_map_or}
use Rattle.std.specs.Result.{result_ok}
use Rattle.clap.specs.Walk.{Row}
use Rattle.command_table.specs.declared.table.CommandName.{CommandName}
use Rattle.command_table.specs.declared.fault.Fault.{Fault}
use Rattle.command_table.specs.declared.refusal.CommandRefusal.{CommandRefusal}
use Rattle.command_table.specs.declared.refusal.CommandRefusal.TheVariants.{Faulty, WrongWords, NoMemory}
use Rattle.command_table.specs.declared.option_key.OptionKey.{OptionKey}
use Rattle.command_table.specs.declared.request.Request.{Request}
use Rattle.command_table.specs.declared.line_fault.LineFault.TheVariants as fault
use Rattle.command_table.specs.declared.table.OptionRow.{OptionRow}
use Rattle.command_table.specs.Given.{value_in}
use Rattle.command_table.specs.Meaning.{at_place, meaning_with, request_by_name, request_named, request_of, request_read}
use Rattle.command_table.specs.Options.{Word}
use Rattle.command_table.specs.Table.{is_for_words, options_of}
use Rattle.command_table.specs.Words.{Split, is_complete, nothing_split, numbered_from, read}
use Rattle.lvm_words.specs.Parser.{Lists, arguments_in, arguments_pass, listed, no_stray, pairs_of, request_found, split_of, value_passes}
use Rattle.lvm_words.specs.Parser.{values_of, values_pass}
use Rattle.lvm_words.proofs.FaultFree.{all_pass, bare, distinct_options, fault_free, given_passes, split_read}
use Rattle.lvm_words.proofs.MatchedValues.{given_alike}
use Rattle.lvm_words.proofs.Passing.{row_passes, rows_pass}

-- places don't matter to what is asked for
at_any_place : (end : ℕ) (meaning : Result Request CommandRefusal) → result_ok meaning ≡ result_ok (at_place end meaning)
at_any_place end (Ok request) = refl
at_any_place end (Err (Faulty fault place)) = refl
at_any_place end (Err WrongWords) = refl
at_any_place end (Err NoMemory) = refl

bare_numbered : (number : ℕ) (words : List Word) → bare (numbered_from number words) ≡ words
bare_numbered number [] = refl
bare_numbered number (word ∷ words) = ap (λ more. word ∷ more) (bare_numbered (number + 1) words)

-- what the words after this name ask for
abbrev pub asked : CommandName → List Word → Option Request
asked name words = result_ok (request_read name (read name (numbered_from 1 words)))

split_is : (name : CommandName) (words : List Word) → (read name (numbered_from 1 words)).split ≡ split_of (options_of name) words
split_is name words = split_read name (numbered_from 1 words) nothing_split None ∙ ap (split_of (options_of name)) (bare_numbered 1 words)

fault_or_not : (fault : Option (Fault × ℕ)) → result_ok (meaning_with {A = Request} fault None) ≡ None
fault_or_not None = refl
fault_or_not (Some fault) = refl

-- a word strays
pub strays_mean_nothing : (name : CommandName) (words : List Word) (fine : Bool) → fine ≡ no_stray (options_of name) nothing_split words
    → fine ≡ false → None ≡ asked name words
strays_mean_nothing name words fine is off = go (read name (numbered_from 1 words)).fault refl
  where
    go : (fault : Option (Fault × ℕ)) → (read name (numbered_from 1 words)).fault ≡ fault
        → None ≡ result_ok (meaning_with fault (request_of name (read name (numbered_from 1 words)).split))
    go (Some fault) e = refl
    go None e =
        let yes : no_stray (options_of name) nothing_split words ≡ true =
        ap (no_stray (options_of name) nothing_split) (sym (bare_numbered 1 words)) ∙ ((fault_free name (numbered_from 1 words)).0 e).0 in
        absurd (true≢false (sym yes ∙ sym is ∙ off))

-- an option lacks its value
pub open_means_nothing : (name : CommandName) (words : List Word) → is_complete (split_of (options_of name) words) ≡ false
    → None ≡ asked name words
open_means_nothing name words open_is =
    let none : request_of name (split_of (options_of name) words) ≡ None = rw open_is refl in
    sym (ap (λ split. result_ok (meaning_with (read name (numbered_from 1 words)).fault (request_of name split))) (split_is name words)
    ∙ ap (λ o. result_ok (meaning_with (read name (numbered_from 1 words)).fault o)) none
    ∙ fault_or_not (read name (numbered_from 1 words)).fault)

result_of : (o : Option Request) → result_ok (meaning_with None o) ≡ o
result_of None = refl
result_of (Some request) = refl

-- no word strays, and no option lacks its value
fine_words : (name : CommandName) (words : List Word) → no_stray (options_of name) nothing_split words ≡ true
    → is_complete (split_of (options_of name) words) ≡ true
    → asked name words ≡ (if all_pass name (split_of (options_of name) words)
    then request_by_name name (value_in (split_of (options_of name) words).given) (split_of (options_of name) words).arguments else None)
fine_words name words fine complete =
    go (cases_Bool (all_pass name (split_of (options_of name) words))) (read name (numbered_from 1 words)).fault refl
  where
    same : bare (numbered_from 1 words) ≡ words
    same = bare_numbered 1 words

    whole : request_of name (read name (numbered_from 1 words)).split
        ≡ request_by_name name (value_in (split_of (options_of name) words).given) (split_of (options_of name) words).arguments
    whole = ap (request_of name) (split_is name words) ∙ rw complete refl

    go : (all_pass name (split_of (options_of name) words) ≡ true) ⊎ (all_pass name (split_of (options_of name) words) ≡ false)
        → (fault : Option (Fault × ℕ)) → (read name (numbered_from 1 words)).fault ≡ fault
        → result_ok (meaning_with fault (request_of name (read name (numbered_from 1 words)).split))
        ≡ (if all_pass name (split_of (options_of name) words)
        then request_by_name name (value_in (split_of (options_of name) words).given) (split_of (options_of name) words).arguments
        else None)
    go (inl e) None is = rw e (result_of _ ∙ whole)
    go (inr e) (Some fault) is = rw e refl
    go (inl e) (Some fault) is =
        let none : (read name (numbered_from 1 words)).fault ≡ None =
        (fault_free name (numbered_from 1 words)).1 (
          ap (no_stray (options_of name) nothing_split) same ∙ fine,
          ap (λ ws. all_pass name (split_of (options_of name) ws)) same ∙ e,
        ) in
        absurd (true≢false (ap is_some (sym is ∙ none)))
    go (inr e) None is =
        let passes : all_pass name (split_of (options_of name) words) ≡ true =
        ap (λ ws. all_pass name (split_of (options_of name) ws)) (sym same) ∙ ((fault_free name (numbered_from 1 words)).0 is).1 in
        absurd (true≢false (sym passes ∙ e))

-- ---- the same of the matches

all_listed : (p : Word → Bool) (words : List Word) → option_map_or (list_all p) (listed words) true ≡ list_all p words
all_listed p [] = refl
all_listed p (word ∷ words) = refl

row_alike : (options : List OptionRow) (split : Split) (rows : List Row) → Lists options split rows → (row : OptionRow)
    → values_pass rows row ≡ row_passes split.given row
row_alike options split rows lists row =
    ap (λ o. option_map_or (list_all (value_passes row.kind)) o true) (lists.options row.key)
    ∙ all_listed (value_passes row.kind) (values_of row.key split.given)

arguments_are : (words : List Word) → unwrap_or (listed words) [] ≡ words
arguments_are [] = refl
arguments_are (word ∷ words) = refl

pub matches_ask : (name : CommandName) (words : List Word) (rows : List Row) → no_stray (options_of name) nothing_split words ≡ true
    → is_complete (split_of (options_of name) words) ≡ true → Lists (options_of name) (split_of (options_of name) words) rows
    → request_found name rows ≡ asked name words
matches_ask name words rows fine complete lists =
    ap₂ (λ a ws. if a && arguments_pass name 0 ws then request_by_name name (value_in (pairs_of (options_of name) rows)) ws else None)
    passes arguments
    ∙ ap (λ given. if all_pass name split then request_by_name name given split.arguments else None)
    (given_alike (options_of name) split rows lists)
    ∙ sym (fine_words name words fine complete)
  where
    split : Split
    split = split_of (options_of name) words

    passes : list_all (values_pass rows) (options_of name)
        ≡ list_all (given_passes (options_of name)) (split_of (options_of name) words).given
    passes = ap (λ p. list_all p (options_of name)) (fun_ext (row_alike (options_of name) (split_of (options_of name) words) rows lists))
        ∙ rows_pass (options_of name) (split_of (options_of name) words).given (distinct_options name)

    arguments : arguments_in rows ≡ (split_of (options_of name) words).arguments
    arguments = ap (λ o. unwrap_or o []) lists.arguments ∙ arguments_are (split_of (options_of name) words).arguments

-- ---- the calls

pub request_alike : (name : CommandName) (rows : List Row) (pairs : List (OptionKey × Word)) (words : List Word)
    → pairs ≡ pairs_of (options_of name) rows
    → words ≡ arguments_in rows → list_all (values_pass rows) (options_of name) ≡ true → arguments_pass name 0 words ≡ true
    → request_by_name name (value_in pairs) words ≡ request_found name rows
request_alike name rows pairs words same_pairs same_words options_fine words_fine =
    let fine : arguments_pass name 0 (arguments_in rows) ≡ true = ap (arguments_pass name 0) (sym same_words) ∙ words_fine in
    ap₂ (λ ps ws. request_by_name name (value_in ps) ws) same_pairs same_words
    ∙ sym (ap₂ (λ a b. if a && b then request_by_name name (value_in (pairs_of (options_of name) rows)) (arguments_in rows) else None)
    options_fine fine)

pub named_words : (name : CommandName) (words : List Word) → is_for_words name ≡ true
    → asked name words ≡ result_ok (request_named (Some name) words)
named_words name words stands =
    at_any_place (length words + 1) (request_read name (read name (numbered_from 1 words)))
    ∙ sym (ap (λ b. result_ok (if b then at_place (length words + 1) (request_read name (read name (numbered_from 1 words))) else Err
    (fault.NotHere, 0))) stands)
