-- The value of an option among the matches and among the words.
use Rattle.std.proofs.Common.{◌≡◌, ◌∙◌, Bool, if◌then◌else◌, true, false, List, [], ◌∷◌, ◌++◌, Option, Some, None, refl, ap, sym, inl, inr}
use Rattle.std.proofs.Common.{◌⊎◌}
use Rattle.std.proofs.lemmas.Bool.{cases_Bool}
use Rattle.std.proofs.Math.Path.{fun_ext}
use Rattle.std.specs.Prelude.{is_some, find, option_map, slice_get}
use Rattle.std.specs.Option.{option_and_then}
use Rattle.std.specs.Str.{bytes_eq}
use Rattle.clap.specs.Walk.{Row, Text, all_of, first_of}
use Rattle.command_table.specs.declared.option_key.OptionKey.{OptionKey}
use Rattle.command_table.specs.declared.table.OptionRow.{OptionRow}
use Rattle.command_table.specs.Given.{value_in}
use Rattle.command_table.specs.Options.{Word, is_key, name_of}
use Rattle.command_table.specs.Words.{Split}
use Rattle.lvm_words.specs.Parser.{Lists, listed, pair_of, pairs_of, row_of_key, values_of}
use Rattle.lvm_words.proofs.Spellings.{same_key}

-- the first value among the words
first_given : (key : OptionKey) (given : List (OptionKey × Word)) → value_in given key ≡ slice_get (values_of key given) 0
first_given key [] = refl
first_given key (pair ∷ given) = go (first_given key given) (cases_Bool (is_key pair.0 key))
  where
    go : value_in given key ≡ slice_get (values_of key given) 0 → (is_key pair.0 key ≡ true) ⊎ (is_key pair.0 key ≡ false)
        → value_in (pair ∷ given) key ≡ slice_get (values_of key (pair ∷ given)) 0
    go rest (inl e) = rw e refl
    go rest (inr e) = rw e rest

-- the first value among the matches
first_found : (id : Text) (rows : List Row) → first_of id rows ≡ option_and_then (λ values. slice_get values 0) (all_of id rows)
first_found id rows = go (find (λ (r : Row). bytes_eq r.id id) rows)
  where
    go : (o : Option Row) → option_and_then (λ (r : Row). slice_get r.values 0) o
        ≡ option_and_then (λ (values : List Text). slice_get values 0) (option_map (λ (r : Row). r.values) o)
    go None = refl
    go (Some r) = refl

first_listed : (words : List Word) → option_and_then (λ (values : List Word). slice_get values 0) (listed words) ≡ slice_get words 0
first_listed [] = refl
first_listed (word ∷ words) = refl

-- the value of an option of the list
abbrev found_for : List OptionRow → List Row → OptionKey → Option Word
found_for options rows key = if is_some (row_of_key options key) then first_of (name_of key) rows else None

found_with : (options : List OptionRow) (rows : List Row) (key : OptionKey)
    → value_in (pairs_of options rows) key ≡ found_for options rows key
found_with [] rows key = refl
found_with (row ∷ options) rows key =
    go (found_with options rows key) (first_of (name_of row.key) rows) refl (cases_Bool (is_key row.key key))
  where
    unfound : (b : Bool) (o : Option Word) → o ≡ None → (if b then o else None) ≡ None
    unfound true o e = e
    unfound false o e = refl

    go : value_in (pairs_of options rows) key ≡ found_for options rows key → (o : Option Word) → first_of (name_of row.key) rows ≡ o
        → (is_key row.key key ≡ true) ⊎ (is_key row.key key ≡ false)
        → value_in (pair_of row.key o ++ pairs_of options rows) key ≡ found_for (row ∷ options) rows key
    go rest None is (inl e) =
        let here : first_of (name_of key) rows ≡ None = ap (λ k. first_of (name_of k) rows) (sym (same_key row.key key e)) ∙ is in
        rw e (rest ∙ unfound (is_some (row_of_key options key)) (first_of (name_of key) rows) here ∙ sym here)
    go rest (Some word) is (inl e) =
        let here : first_of (name_of key) rows ≡ Some word = ap (λ k. first_of (name_of k) rows) (sym (same_key row.key key e)) ∙ is in
        rw e (sym here)
    go rest None is (inr e) = rw e rest
    go rest (Some word) is (inr e) = rw e rest

value_alike : (options : List OptionRow) (split : Split) (rows : List Row) → Lists options split rows → (key : OptionKey)
    → value_in (pairs_of options rows) key ≡ value_in split.given key
value_alike options split rows lists key =
    found_with options rows key ∙ go (row_of_key options key) refl ∙ sym (first_given key split.given)
  where
    go : (o : Option OptionRow) → row_of_key options key ≡ o
        → (if is_some o then first_of (name_of key) rows else None) ≡ slice_get (values_of key split.given) 0
    go None is = ap (λ words. slice_get words 0) (sym (lists.others key is))
    go (Some row) is =
        first_found (name_of key) rows
        ∙ ap (option_and_then (λ (values : List Word). slice_get values 0)) (lists.options key)
        ∙ first_listed (values_of key split.given)

pub given_alike : (options : List OptionRow) (split : Split) (rows : List Row) → Lists options split rows
    → value_in (pairs_of options rows) ≡ value_in split.given
given_alike options split rows lists = fun_ext (value_alike options split rows lists)
