-- No word is faulty exactly where none strays and each value and each argument is what it has to be.
use Rattle.std.proofs.Common.{◌≡◌, ◌↔◌, ◌∙◌, ◌+◌, ℕ, suc, ◌&&◌, Bool, not, if◌then◌else◌, true, false, List, [], ◌∷◌, ◌++◌, length, map}
use Rattle.std.proofs.Common.{Option, Some, None, refl, ap, ap₂, sym, subst, inl, inr, ◌⊎◌, arith}
use Rattle.std.proofs.lemmas.Bool.{and_parts, cases_Bool, not-true, or_left, or_right, true≢false}
use Rattle.std.proofs.Math.Bool.{and-true}
use Rattle.std.proofs.Math.Nat.{add-zero, zero-add}
use Rattle.std.specs.Prelude.{fold, is_none, is_some, unwrap_or}
use Rattle.std.specs.List.{list_all, list_any}
use Rattle.std.specs.Option.{option_map_or}
use Rattle.command_table.specs.declared.fault.Fault.{Fault}
use Rattle.command_table.specs.declared.kind.Kind.{Kind}
use Rattle.command_table.specs.declared.kind.Kind.TheVariants.{Flag}
use Rattle.command_table.specs.declared.table.CommandName.{CommandName}
use Rattle.command_table.specs.declared.table.CommandName.TheVariants as name
use Rattle.command_table.specs.declared.option_key.OptionKey.{OptionKey}
use Rattle.command_table.specs.declared.role.Role.{Role}
use Rattle.command_table.specs.declared.role.Role.TheVariants as role
use Rattle.command_table.specs.declared.table.OptionRow.{OptionRow}
use Rattle.command_table.specs.Options.{Word, is_dashed, is_key, spells}
use Rattle.command_table.specs.Table.{options_of}
use Rattle.command_table.specs.Values.{fault_in}
use Rattle.command_table.specs.Words.{Read, Split, after_role, after_word, fault_of, first_fault, has_key, nothing_split, option_named}
use Rattle.command_table.specs.Words.{read, role_of, role_of_option, role_of_other, role_of_row}
use Rattle.lvm_words.specs.Parser.{after_split, argument_passes, arguments_pass, is_stray, no_stray, row_of_key, split_from, split_of}
use Rattle.lvm_words.specs.Parser.{value_passes}
use Rattle.lvm_words.proofs.Forms.{Form, flag, form, takes}
use Rattle.lvm_words.proofs.Spellings.{same_name}

-- what the value of an option has to be
abbrev pub kind_in : List OptionRow → OptionKey → Kind
kind_in rows key = option_map_or (λ row. row.kind) (row_of_key rows key) Flag

abbrev pub given_passes : List OptionRow → OptionKey × Word → Bool
given_passes rows pair = value_passes (kind_in rows pair.0) pair.1

-- each value and each argument is what it has to be
abbrev pub all_pass : CommandName → Split → Bool
all_pass name split = list_all (given_passes (options_of name)) split.given && arguments_pass name 0 split.arguments

-- the kind of an option that a word names is that of its key
abbrev HasKind : CommandName → OptionRow → Type 0
HasKind name row = kind_in (options_of name) row.key ≡ row.kind

some_row : (a b : OptionRow) → Some a ≡ Some b → a ≡ b
some_row a b e = ap (λ o. unwrap_or o a) e

none_some : (row : OptionRow) → None ≡ Some row → ⊥
none_some row e = absurd (true≢false (sym (ap is_some e)))

-- no two options of the list have the same key
unfoldable pub distinct : List OptionRow → Bool
distinct [] = true
distinct (x ∷ xs) = not (list_any (λ (row : OptionRow). is_key x.key row.key) xs) && distinct xs

pub distinct_options : (name : CommandName) → distinct (options_of name) ≡ true
unfolding distinct
distinct_options name.Demo = refl
distinct_options _ = refl

record IsNamed (rows : List OptionRow) (row : OptionRow) : Type 0 where
  kind : kind_in rows row.key ≡ row.kind
  member : (p : OptionRow → Bool) → p row ≡ true → list_any p rows ≡ true

named_in : (rows : List OptionRow) (row : OptionRow) (word : Word) → distinct rows ≡ true → option_named rows word ≡ Some row
    → IsNamed rows row
unfolding distinct
named_in [] row word apart found = absurd (none_some row found)
named_in (x ∷ xs) row word apart found = go (named_in xs row word) (cases_Bool (spells x.key word))
  where
    both : (not (list_any (λ (r : OptionRow). is_key x.key r.key) xs) ≡ true) × (distinct xs ≡ true)
    both = and_parts (not (list_any (λ (r : OptionRow). is_key x.key r.key) xs)) (distinct xs) apart

    other : IsNamed xs row → (is_key x.key row.key ≡ true) ⊎ (is_key x.key row.key ≡ false) → IsNamed (x ∷ xs) row
    other n (inl e) =
        absurd (true≢false (sym (n.member (λ r. is_key x.key r.key) e)
        ∙ not-true (list_any (λ (r : OptionRow). is_key x.key r.key) xs) both.0))
    other n (inr e) = record { kind = rw e n.kind; member = λ p at. or_right (p x) (list_any p xs) (n.member p at) }

    go : (distinct xs ≡ true → option_named xs word ≡ Some row → IsNamed xs row) → (spells x.key word ≡ true) ⊎ (spells x.key word ≡ false)
        → IsNamed (x ∷ xs) row
    go rest (inl e) =
        subst (IsNamed (x ∷ xs)) (some_row x row (rw e at found))
        (record { kind = rw (same_name x.key) refl; member = λ p at. or_left (p x) (list_any p xs) at })
    go rest (inr e) = other (rest both.1 (rw e at found)) (cases_Bool (is_key x.key row.key))

named_kind : (name : CommandName) (row : OptionRow) (word : Word) → option_named (options_of name) word ≡ Some row → HasKind name row
named_kind name row word found = (named_in (options_of name) row word (distinct_options name) found).kind

-- what a role says of the words before it
abbrev Facts : CommandName → Split → Role → Type 0
Facts name split role.Stray = Unit {0}
Facts name split (role.Option row) = HasKind name row
Facts name split (role.Flag key) = kind_in (options_of name) key ≡ Flag
Facts name split (role.Value row) = split.waiting ≡ Some row
Facts name split (role.Argument number) = number ≡ length split.arguments

facts_option : (name : CommandName) (split : Split) (o : Option OptionRow) → ((row : OptionRow) → o ≡ Some row → HasKind name row)
    → Facts name split (role_of_option split o)
facts_option name split None kinds = tt
facts_option name split (Some row) kinds = go (has_key split.seen row.key)
  where
    by_form : Form row → Facts name split (role_of_row row)
    by_form (flag is zero role_is) = subst (Facts name split) (sym role_is) (kinds row refl ∙ is)
    by_form (takes one role_is) = subst (Facts name split) (sym role_is) (kinds row refl)

    go : (b : Bool) → Facts name split (if b then role.Stray else role_of_row row)
    go true = tt
    go false = by_form (form row)

facts_other : (name : CommandName) (split : Split) (o : Option OptionRow) → split.waiting ≡ o → Facts name split (role_of_other split o)
facts_other name split None is = refl
facts_other name split (Some row) is = is

facts : (name : CommandName) (split : Split) (word : Word) → Facts name split (role_of (options_of name) split word)
facts name split word = go (cases_Bool (is_dashed word))
  where
    go : (is_dashed word ≡ true) ⊎ (is_dashed word ≡ false) → Facts name split (role_of (options_of name) split word)
    go (inl e) = rw e (facts_option name split (option_named (options_of name) word) (λ row is. named_kind name row word is))
    go (inr e) = rw e (facts_other name split split.waiting refl)

-- the option that waits has the kind of its key
abbrev WaitsWell : CommandName → Split → Type 0
WaitsWell name split = (row : OptionRow) → split.waiting ≡ Some row → HasKind name row

waits_on : (name : CommandName) (split : Split) (word : Word) (r : Role) → Facts name split r → WaitsWell name split
    → WaitsWell name (after_role split word r)
waits_on name split word role.Stray f well = λ row is. absurd (none_some row is)
waits_on name split word (role.Value v) f well = λ row is. absurd (none_some row is)
waits_on name split word (role.Argument number) f well = well
waits_on name split word (role.Flag key) f well = λ row is. absurd (none_some row is)
waits_on name split word (role.Option o) f well = λ row is. subst (HasKind name) (some_row o row is) f

all_push : (p : OptionKey × Word → Bool) (xs : List (OptionKey × Word)) (y : OptionKey × Word)
    → list_all p (xs ++ y ∷ []) ≡ (list_all p xs && p y)
all_push p [] y = and-true (p y)
all_push p (x ∷ xs) y = go (p x) (all_push p xs y)
  where
    go : (b : Bool) → list_all p (xs ++ y ∷ []) ≡ (list_all p xs && p y) → (b && list_all p (xs ++ y ∷ [])) ≡ ((b && list_all p xs) && p y)
    go true e = e
    go false e = refl

arguments_push : (name : CommandName) (n : ℕ) (xs : List Word) (y : Word)
    → arguments_pass name n (xs ++ y ∷ []) ≡ (arguments_pass name n xs && argument_passes name (n + length xs) y)
arguments_push name n [] y = and-true (argument_passes name n y) ∙ ap (λ k. argument_passes name k y) (sym (add-zero n))
arguments_push name n (x ∷ xs) y =
    go (argument_passes name n x) (arguments_push name (n + 1) xs y
    ∙ ap (λ k. arguments_pass name (n + 1) xs && argument_passes name k y) (omega arith))
  where
    go : (b : Bool) → arguments_pass name (n + 1) (xs ++ y ∷ [])
        ≡ (arguments_pass name (n + 1) xs && argument_passes name (n + suc (length xs)) y)
        → (b && arguments_pass name (n + 1) (xs ++ y ∷ []))
        ≡ ((b && arguments_pass name (n + 1) xs) && argument_passes name (n + suc (length xs)) y)
    go true e = e
    go false e = refl

swap_and : (a b c : Bool) → ((a && b) && c) ≡ ((a && c) && b)
swap_and true true c = sym (and-true c)
swap_and true false true = refl
swap_and true false false = refl
swap_and false b c = refl

and_again : (a b c : Bool) → (a && (b && c)) ≡ ((a && b) && c)
and_again true b c = refl
and_again false b c = refl

-- one more word passes where it has no fault
step_passes : (name : CommandName) (split : Split) (word : Word) (r : Role) → Facts name split r → WaitsWell name split → is_stray r ≡ false
    → all_pass name (after_role split word r) ≡ (all_pass name split && is_none (fault_of name word r))
step_passes name split word role.Stray f well fine = absurd (true≢false fine)
step_passes name split word (role.Option row) f well fine = sym (and-true (all_pass name split))
step_passes name split word (role.Flag key) f well fine =
    let none : given_passes (options_of name) (key, []) ≡ true = ap (λ k. is_none (fault_in k [])) f in
    let pushed : list_all (given_passes (options_of name)) (split.given ++ (key, []) ∷ [])
    ≡ list_all (given_passes (options_of name)) split.given =
    all_push (given_passes (options_of name)) split.given (key, [])
    ∙ ap (λ b. list_all (given_passes (options_of name)) split.given && b) none ∙ and-true _ in
    ap (λ b. b && arguments_pass name 0 split.arguments) pushed ∙ sym (and-true (all_pass name split))
step_passes name split word (role.Value row) f well fine =
    let kind_is : kind_in (options_of name) row.key ≡ row.kind = well row f in
    ap (λ b. b && arguments_pass name 0 split.arguments) (all_push (given_passes (options_of name)) split.given (row.key, word))
    ∙ ap (λ k. (list_all (given_passes (options_of name)) split.given && is_none (fault_in k word))
    && arguments_pass name 0 split.arguments) kind_is
    ∙ swap_and (list_all (given_passes (options_of name)) split.given) (is_none (fault_in row.kind word))
    (arguments_pass name 0 split.arguments)
step_passes name split word (role.Argument number) f well fine =
    ap (λ b. list_all (given_passes (options_of name)) split.given && b)
    (arguments_push name 0 split.arguments word
    ∙ ap (λ k. arguments_pass name 0 split.arguments && argument_passes name k word) (zero-add (length split.arguments) ∙ sym f))
    ∙ and_again (list_all (given_passes (options_of name)) split.given) (arguments_pass name 0 split.arguments)
    (argument_passes name number word)

abbrev pub bare : List (Word × ℕ) → List Word
bare = map (λ (word : Word × ℕ). word.0)

abbrev read_on : CommandName → Split → Option (Fault × ℕ) → List (Word × ℕ) → Read
read_on name split fault words = fold (after_word name) (record { split = split; fault = fault }) words

-- the first fault stays
stays : (name : CommandName) (words : List (Word × ℕ)) (split : Split) (fault : Fault × ℕ)
    → (read_on name split (Some fault) words).fault ≡ Some fault
stays name [] split fault = refl
stays name (word ∷ words) split fault = stays name words (after_split (options_of name) split word.0) fault

fine_role : (name : CommandName) (word : Word) (r : Role) → fault_of name word r ≡ None → is_stray r ≡ false
fine_role name word role.Stray e = absurd (true≢false (ap is_some e))
fine_role name word (role.Option row) e = refl
fine_role name word (role.Flag key) e = refl
fine_role name word (role.Value row) e = refl
fine_role name word (role.Argument number) e = refl

none_of : (o : Option Fault) → is_none o ≡ true → o ≡ None
none_of None e = refl
none_of (Some fault) e = absurd (true≢false (sym e))

pass_before : (name : CommandName) (words : List Word) (split : Split) → WaitsWell name split
    → no_stray (options_of name) split words ≡ true
    → all_pass name (split_from (options_of name) split words) ≡ true → all_pass name split ≡ true
unfolding no_stray
pass_before name [] split well fine all = all
pass_before name (word ∷ words) split well fine all =
    let r = role_of (options_of name) split word in
    let both = and_parts (not (is_stray r)) (no_stray (options_of name) (after_split (options_of name) split word) words) fine in
    let later : all_pass name (after_split (options_of name) split word) ≡ true =
    pass_before name words (after_split (options_of name) split word) (waits_on name split word r (facts name split word) well) both.1
    all in
    (and_parts (all_pass name split) (is_none (fault_of name word r))
    (sym (step_passes name split word r (facts name split word) well (not-true (is_stray r) both.0)) ∙ later)).0

none_faulty : (name : CommandName) (words : List (Word × ℕ)) (split : Split) → WaitsWell name split
    → no_stray (options_of name) split (bare words) ≡ true
    → all_pass name (split_from (options_of name) split (bare words)) ≡ true → (read_on name split None words).fault ≡ None
unfolding no_stray
none_faulty name [] split well fine all = refl
none_faulty name (word ∷ words) split well fine all =
    let r = role_of (options_of name) split word.0 in
    let next = after_split (options_of name) split word.0 in
    let both = and_parts (not (is_stray r)) (no_stray (options_of name) next (bare words)) fine in
    let well_on : WaitsWell name next = waits_on name split word.0 r (facts name split word.0) well in
    let later : all_pass name next ≡ true = pass_before name (bare words) next well_on both.1 all in
    let here = and_parts (all_pass name split) (is_none (fault_of name word.0 r))
    (sym (step_passes name split word.0 r (facts name split word.0) well (not-true (is_stray r) both.0)) ∙ later) in
    ap (λ o. (read_on name next (first_fault None o word.1) words).fault) (none_of (fault_of name word.0 r) here.1)
    ∙ none_faulty name words next well_on both.1 all

all_well : (name : CommandName) (words : List (Word × ℕ)) (split : Split) → WaitsWell name split → all_pass name split ≡ true
    → (read_on name split None words).fault ≡ None
    → (no_stray (options_of name) split (bare words) ≡ true) × (all_pass name (split_from (options_of name) split (bare words)) ≡ true)
unfolding no_stray
all_well name [] split well all none = (refl, all)
all_well name (word ∷ words) split well all none = go (fault_of name word.0 (role_of (options_of name) split word.0)) refl
    (λ a n. all_well name words (after_split (options_of name) split word.0)
    (waits_on name split word.0 (role_of (options_of name) split word.0) (facts name split word.0) well) a n)
  where
    go : (o : Option Fault) → fault_of name word.0 (role_of (options_of name) split word.0) ≡ o
        → (all_pass name (after_split (options_of name) split word.0) ≡ true
        → (read_on name (after_split (options_of name) split word.0) None words).fault ≡ None
        → (no_stray (options_of name) (after_split (options_of name) split word.0) (bare words) ≡ true)
        × (all_pass name (split_from (options_of name) (after_split (options_of name) split word.0) (bare words)) ≡ true))
        → ((not (is_stray (role_of (options_of name) split word.0))
        && no_stray (options_of name) (after_split (options_of name) split word.0) (bare words)) ≡ true)
        × (all_pass name (split_from (options_of name) (after_split (options_of name) split word.0) (bare words)) ≡ true)
    go (Some fault) is rest =
        let ends : (read_on name (after_split (options_of name) split word.0) (Some (fault, word.1)) words).fault ≡ None =
        ap (λ o. (read_on name (after_split (options_of name) split word.0) (first_fault None o word.1) words).fault) (sym is) ∙ none in
        absurd (true≢false (ap is_some (sym (stays name words (after_split (options_of name) split word.0) (fault, word.1)) ∙ ends)))
    go None is rest =
        let fine : is_stray (role_of (options_of name) split word.0) ≡ false =
        fine_role name word.0 (role_of (options_of name) split word.0) is in
        let on : (read_on name (after_split (options_of name) split word.0) None words).fault ≡ None =
        ap (λ o. (read_on name (after_split (options_of name) split word.0) (first_fault None o word.1) words).fault) (sym is) ∙ none in
        let passes : all_pass name (after_split (options_of name) split word.0) ≡ true =
        step_passes name split word.0 (role_of (options_of name) split word.0) (facts name split word.0) well fine
        ∙ ap₂ (λ a b. a && is_none b) all is in
        let later = rest passes on in
        (ap₂ (λ a b. not a && b) fine later.0, later.1)

starts_well : (name : CommandName) → WaitsWell name nothing_split
starts_well name = λ row is. absurd (none_some row is)

-- no word is faulty exactly where none strays and all pass
pub fault_free : (name : CommandName) (words : List (Word × ℕ)) → ((read name words).fault ≡ None)
    ↔ ((no_stray (options_of name) nothing_split (bare words) ≡ true) × (all_pass name (split_of (options_of name) (bare words)) ≡ true))
fault_free name words =
    (all_well name words nothing_split (starts_well name) refl, λ p. none_faulty name words nothing_split (starts_well name) p.0 p.1)

pub split_read : (name : CommandName) (words : List (Word × ℕ)) (split : Split) (fault : Option (Fault × ℕ))
    → (read_on name split fault words).split ≡ split_from (options_of name) split (bare words)
split_read name [] split fault = refl
split_read name (word ∷ words) split fault = split_read name words (after_split (options_of name) split word.0) _
