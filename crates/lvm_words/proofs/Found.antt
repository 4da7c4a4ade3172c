-- What the walk finds among the arguments.
use Rattle.std.proofs.Common.{◌≡◌, ◌∙◌, ℕ, ◌==◌, true, false, List, [], ◌∷◌, Option, Some, None, refl, ap, sym, inl, inr, ◌⊎◌}
use Rattle.std.proofs.lemmas.Bool.{cases_Bool, eqb-true, eq-eqb, true≢false}
use Rattle.std.specs.Prelude.{is_some, option_map}
use Rattle.std.specs.Option.{option_map_or}
use Rattle.std.specs.Str.{bytes_eq}
use Rattle.clap.specs.Walk.{arg_by_id, arg_by_index, arg_by_long, arg_by_short}
use Rattle.command_table.specs.declared.option_key.OptionKey.{OptionKey}
use Rattle.command_table.specs.declared.table.OptionRow.{OptionRow}
use Rattle.command_table.specs.Options.{is_key, letter_of, name_of}
use Rattle.lvm_words.specs.Parser.{rest_id, row_of_key}
use Rattle.lvm_words.proofs.Find.{option_built, rest_built, rules_built}
use Rattle.lvm_words.proofs.Spellings.{not_the_rest, same_key, same_letter, same_name}

-- the option is the first of the list with its key
abbrev pub Stands : List OptionRow → OptionRow → Type 0
Stands rows row = row_of_key rows row.key ≡ Some row

none_some : (row : OptionRow) → None ≡ Some row → ⊥
none_some row e = absurd (true≢false (sym (ap is_some e)))

-- two options, each the first of the list
built_alike : (a b : OptionRow) → Some a ≡ Some b → Some (option_built a) ≡ Some (option_built b)
built_alike a b e = ap (λ o. option_map option_built o) e

pub found_by_id : (rows : List OptionRow) (row : OptionRow) → Stands rows row
    → arg_by_id (rules_built rows) (name_of row.key) ≡ Some (option_built row)
found_by_id [] row stands = absurd (none_some row stands)
found_by_id (x ∷ xs) row stands = go (found_by_id xs row) (cases_Bool (bytes_eq (name_of x.key) (name_of row.key)))
  where
    go : (Stands xs row → arg_by_id (rules_built xs) (name_of row.key) ≡ Some (option_built row))
        → (bytes_eq (name_of x.key) (name_of row.key) ≡ true) ⊎ (bytes_eq (name_of x.key) (name_of row.key) ≡ false)
        → arg_by_id (rules_built (x ∷ xs)) (name_of row.key) ≡ Some (option_built row)
    go rest (inl e) = rw e (built_alike x row (rw e at stands))
    go rest (inr e) = rw e (rest (rw e at stands))

pub found_by_long : (rows : List OptionRow) (row : OptionRow) → Stands rows row
    → arg_by_long (rules_built rows) (name_of row.key) ≡ Some (option_built row)
found_by_long [] row stands = absurd (none_some row stands)
found_by_long (x ∷ xs) row stands = go (found_by_long xs row) (cases_Bool (bytes_eq (name_of x.key) (name_of row.key)))
  where
    go : (Stands xs row → arg_by_long (rules_built xs) (name_of row.key) ≡ Some (option_built row))
        → (bytes_eq (name_of x.key) (name_of row.key) ≡ true) ⊎ (bytes_eq (name_of x.key) (name_of row.key) ≡ false)
        → arg_by_long (rules_built (x ∷ xs)) (name_of row.key) ≡ Some (option_built row)
    go rest (inl e) = rw e (built_alike x row (rw e at stands))
    go rest (inr e) = rw e (rest (rw e at stands))

has_letter : (key : OptionKey) (letter : ℕ) → option_map_or (λ l. l == letter) (letter_of key) false ≡ true → letter_of key ≡ Some letter
has_letter key letter e = go (letter_of key) e
  where
    go : (o : Option ℕ) → option_map_or (λ l. l == letter) o false ≡ true → o ≡ Some letter
    go None e = absurd (true≢false (sym e))
    go (Some l) e = ap Some (eqb-true l letter e)

pub found_by_short : (rows : List OptionRow) (row : OptionRow) (letter : ℕ) → letter_of row.key ≡ Some letter → Stands rows row
    → arg_by_short (rules_built rows) letter ≡ Some (option_built row)
found_by_short [] row letter is stands = absurd (none_some row stands)
found_by_short (x ∷ xs) row letter is stands =
    go (found_by_short xs row letter is) (cases_Bool (option_map_or (λ l. l == letter) (letter_of x.key) false))
    (cases_Bool (bytes_eq (name_of x.key) (name_of row.key)))
  where
    go : (Stands xs row → arg_by_short (rules_built xs) letter ≡ Some (option_built row))
        → (option_map_or (λ l. l == letter) (letter_of x.key) false ≡ true)
        ⊎ (option_map_or (λ l. l == letter) (letter_of x.key) false ≡ false)
        → (bytes_eq (name_of x.key) (name_of row.key) ≡ true) ⊎ (bytes_eq (name_of x.key) (name_of row.key) ≡ false)
        → arg_by_short (rules_built (x ∷ xs)) letter ≡ Some (option_built row)
    go rest (inl e) (inl f) = rw e (built_alike x row (rw f at stands))
    go rest (inl e) (inr f) =
        let same : x.key ≡ row.key = same_letter x.key row.key letter (has_letter x.key letter e) is in
        absurd (true≢false (sym (same_name row.key) ∙ sym (ap (λ k. is_key k row.key) same) ∙ f))
    go rest (inr e) (inl f) =
        let here : option_map_or (λ l. l == letter) (letter_of x.key) false ≡ true =
        ap (λ k. option_map_or (λ l. l == letter) (letter_of k) false) (same_key x.key row.key f)
        ∙ ap (λ o. option_map_or (λ l. l == letter) o false) is ∙ eq-eqb letter letter refl in
        absurd (true≢false (sym here ∙ e))
    go rest (inr e) (inr f) = rw e (rest (rw f at stands))

pub found_rest : (rows : List OptionRow) → arg_by_index (rules_built rows) 1 ≡ Some rest_built
found_rest [] = refl
found_rest (row ∷ rows) = found_rest rows

pub found_rest_by_id : (rows : List OptionRow) → arg_by_id (rules_built rows) rest_id ≡ Some rest_built
found_rest_by_id [] = refl
found_rest_by_id (row ∷ rows) = rw (not_the_rest row.key) (found_rest_by_id rows)
