-- The values of the options pass, looked at by the options or in the order of the words.
use Rattle.std.proofs.Common.{◌≡◌, ◌∙◌, ◌&&◌, Bool, not, if◌then◌else◌, true, false, List, [], ◌∷◌, refl, ap, ap₂, sym, inl, inr, ◌⊎◌}
use Rattle.std.proofs.lemmas.Bool.{and_parts, cases_Bool, not-true, true≢false}
use Rattle.std.proofs.Math.Bool.{and-true}
use Rattle.std.proofs.Math.Path.{fun_ext}
use Rattle.std.specs.List.{list_all, list_any}
use Rattle.command_table.specs.declared.option_key.OptionKey.{OptionKey}
use Rattle.command_table.specs.declared.table.OptionRow.{OptionRow}
use Rattle.command_table.specs.Options.{Word, is_key}
use Rattle.lvm_words.specs.Parser.{value_passes, values_of}
use Rattle.lvm_words.proofs.FaultFree.{distinct, given_passes}
use Rattle.lvm_words.proofs.Spellings.{same_key}

key_either_way : (a b : OptionKey) → is_key a b ≡ is_key b a
key_either_way a b = go (cases_Bool (is_key a b)) (cases_Bool (is_key b a))
  where
    go : (is_key a b ≡ true) ⊎ (is_key a b ≡ false) → (is_key b a ≡ true) ⊎ (is_key b a ≡ false) → is_key a b ≡ is_key b a
    go (inl e) (inl f) = e ∙ sym f
    go (inr e) (inr f) = e ∙ sym f
    go (inl e) (inr f) = absurd (true≢false (sym e ∙ ap₂ is_key (same_key a b e) (sym (same_key a b e)) ∙ f))
    go (inr e) (inl f) = absurd (true≢false (sym f ∙ ap₂ is_key (same_key b a f) (sym (same_key b a f)) ∙ e))

-- the values of one option pass
abbrev pub row_passes : List (OptionKey × Word) → OptionRow → Bool
row_passes given row = list_all (value_passes row.kind) (values_of row.key given)

-- the value passes, if it is one of this option
abbrev pair_passes : OptionKey × Word → OptionRow → Bool
pair_passes pair row = if is_key pair.0 row.key then value_passes row.kind pair.1 else true

one_more : (pair : OptionKey × Word) (given : List (OptionKey × Word)) (row : OptionRow)
    → row_passes (pair ∷ given) row ≡ (pair_passes pair row && row_passes given row)
one_more pair given row = go (is_key pair.0 row.key)
  where
    go : (b : Bool) → list_all (value_passes row.kind) (if b then pair.1 ∷ values_of row.key given else values_of row.key given)
        ≡ ((if b then value_passes row.kind pair.1 else true) && row_passes given row)
    go true = refl
    go false = refl

exchange : (a b c d : Bool) → ((a && b) && (c && d)) ≡ ((a && c) && (b && d))
exchange true true c d = refl
exchange true false true d = refl
exchange true false false d = refl
exchange false b c d = refl

all_both : (p q : OptionRow → Bool) (rows : List OptionRow) → list_all (λ row. p row && q row) rows ≡ (list_all p rows && list_all q rows)
all_both p q [] = refl
all_both p q (row ∷ rows) =
    ap (λ b. (p row && q row) && b) (all_both p q rows) ∙ exchange (p row) (q row) (list_all p rows) (list_all q rows)

all_true : (rows : List OptionRow) → list_all (λ (row : OptionRow). true) rows ≡ true
all_true [] = refl
all_true (row ∷ rows) = all_true rows

-- no other option of the list has the key
others_pass : (pair : OptionKey × Word) (rows : List OptionRow) → list_any (λ (row : OptionRow). is_key pair.0 row.key) rows ≡ false
    → list_all (pair_passes pair) rows ≡ true
others_pass pair [] none = refl
others_pass pair (row ∷ rows) none = go (others_pass pair rows) (cases_Bool (is_key pair.0 row.key))
  where
    go : (list_any (λ (r : OptionRow). is_key pair.0 r.key) rows ≡ false → list_all (pair_passes pair) rows ≡ true)
        → (is_key pair.0 row.key ≡ true) ⊎ (is_key pair.0 row.key ≡ false) → list_all (pair_passes pair) (row ∷ rows) ≡ true
    go rest (inl e) = absurd (true≢false (rw e at none))
    go rest (inr e) = rw e (rest (rw e at none))

pair_alike : (pair : OptionKey × Word) (rows : List OptionRow) → distinct rows ≡ true
    → list_all (pair_passes pair) rows ≡ given_passes rows pair
unfolding distinct
pair_alike pair [] apart = refl
pair_alike pair (row ∷ rows) apart = go (pair_alike pair rows both.1) (cases_Bool (is_key pair.0 row.key))
  where
    both : (not (list_any (λ (r : OptionRow). is_key row.key r.key) rows) ≡ true) × (distinct rows ≡ true)
    both = and_parts (not (list_any (λ (r : OptionRow). is_key row.key r.key) rows)) (distinct rows) apart

    go : list_all (pair_passes pair) rows ≡ given_passes rows pair → (is_key pair.0 row.key ≡ true) ⊎ (is_key pair.0 row.key ≡ false)
        → list_all (pair_passes pair) (row ∷ rows) ≡ given_passes (row ∷ rows) pair
    go rest (inl e) =
        let back : is_key row.key pair.0 ≡ true = key_either_way row.key pair.0 ∙ e in
        let none : list_any (λ (r : OptionRow). is_key pair.0 r.key) rows ≡ false =
        ap (λ k. list_any (λ (r : OptionRow). is_key k r.key) rows) (same_key pair.0 row.key e)
        ∙ not-true (list_any (λ (r : OptionRow). is_key row.key r.key) rows) both.0 in
        rw (e, back) (ap (λ b. value_passes row.kind pair.1 && b) (others_pass pair rows none) ∙ and-true (value_passes row.kind pair.1))
    go rest (inr e) =
        let back : is_key row.key pair.0 ≡ false = key_either_way row.key pair.0 ∙ e in
        rw (e, back) rest

pub rows_pass : (rows : List OptionRow) (given : List (OptionKey × Word)) → distinct rows ≡ true
    → list_all (row_passes given) rows ≡ list_all (given_passes rows) given
rows_pass rows [] apart = all_true rows
rows_pass rows (pair ∷ given) apart =
    ap (λ p. list_all p rows) (fun_ext (λ row. one_more pair given row))
    ∙ all_both (pair_passes pair) (row_passes given) rows
    ∙ ap₂ (λ a b. a && b) (pair_alike pair rows apart) (rows_pass rows given apart)
