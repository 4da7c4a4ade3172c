-- The walk of clap and our reading of the words go side by side.
use Rattle.std.proofs.Common.{◌≡◌, ◌≢◌, ◌∙◌, ◌<◌, ◌+◌, ℕ, ◌==◌, ◌&&◌, ◌||◌, Bool, not, if◌then◌else◌, true, false, List, [], ◌∷◌, ◌++◌}
use Rattle.std.proofs.Common.{length, Option, Some, None, refl, ap, ap₂, sym, subst, inl, inr, ◌⊎◌, arith}
use Rattle.std.proofs.lemmas.Bool.{and_parts, cases_Bool, ne_eqb, eq-eqb, true≢false}
use Rattle.std.proofs.lemmas.List.{length_push}
use Rattle.std.proofs.Math.Nat.{add-zero}
use Rattle.std.proofs.lemmas.Slice.Eq.{bytes_eq-Decides}
use Rattle.std.specs.Prelude.{fold, unwrap_or, is_some}
use Rattle.std.specs.List.{list_any}
use Rattle.std.specs.Str.{bytes_eq}
use Rattle.clap.specs.Faults.{built_fault, check_fault, defaults_fault, entered_fault, fault_of, turn_fault, walk_fault, settle_fault}
use Rattle.clap.specs.Kinds.{Kinds, check_kinds, or_else}
use Rattle.clap.specs.Simple.{App, built, entered, matches_of, names_of}
use Rattle.clap.specs.Takes.{is_given}
use Rattle.clap.specs.Walk.{Row, Rule, Text, Walk, all_of, finished, has_row, nothing_held, rows_after, settled, walked, with_default}
use Rattle.clap.specs.Walk.{with_values}
use Rattle.clap.specs.declared.builder.value_parser.Reading.TheVariants as reading
use Rattle.clap.specs.declared.error.kind.ErrorKind.TheVariants as kind
use Rattle.clap.specs.declared.parser.matches.ValueSource.TheVariants.{CommandLine}
use Rattle.command_table.specs.declared.option_key.OptionKey.{OptionKey}
use Rattle.command_table.specs.declared.table.OptionRow.{OptionRow}
use Rattle.command_table.specs.declared.role.Role.TheVariants as role
use Rattle.command_table.specs.Options.{Word, is_dashed, is_key, name_of, spells}
use Rattle.command_table.specs.Words.{Split, is_complete, nothing_split, after_role, has_key, role_of, role_of_option, role_of_other}
use Rattle.command_table.specs.Words.{role_of_row, option_named}
use Rattle.lvm_words.specs.Parser.{Lists, after_split, app_for, is_stray, listed, no_stray, rest_id, row_of_key, split_from, split_of}
use Rattle.lvm_words.specs.Parser.{values_of}
use Rattle.lvm_words.proofs.Find.{rules_are_built, rules_built}
use Rattle.lvm_words.proofs.Forms.{Form, flag, form, takes}
use Rattle.lvm_words.proofs.Found.{Stands}
use Rattle.lvm_words.proofs.Rows.{all_of_other, all_of_same}
use Rattle.lvm_words.proofs.Spellings.{Spelled, not_the_rest, same_key, same_name, spelled}
use Rattle.lvm_words.proofs.Steps.{IsFlag, IsListed, Last, Settles, TakesValue, argument, argument_fault, argument_step, at_argument}
use Rattle.lvm_words.proofs.Steps.{at_none, at_valued, flag_fault, flag_step, lacks_value, none, option_fault, option_step, rows_with}
use Rattle.lvm_words.proofs.Steps.{settles_rows, settles_well, shape_at, value_fault, value_step, valued, waits, walk_at, with_value}

-- ---- an option that the word names

record IsNamed (options : List OptionRow) (word : Word) (row : OptionRow) : Type 0 where
  stands : Stands options row
  spells_it : spells row.key word ≡ true

or_true : (b : Bool) → (b || true) ≡ true
or_true true = refl
or_true false = refl

named : (options : List OptionRow) (word : Word) (row : OptionRow) → option_named options word ≡ Some row → IsNamed options word row
named [] word row found = absurd (true≢false (sym (ap is_some found)))
named (x ∷ xs) word row found = go (named xs word row) (cases_Bool (spells x.key word))
  where
    later : IsNamed xs word row → spells x.key word ≡ false → (is_key x.key row.key ≡ true) ⊎ (is_key x.key row.key ≡ false)
        → IsNamed (x ∷ xs) word row
    later facts not_this (inl e) =
        let same : x.key ≡ row.key = same_key x.key row.key e in
        absurd (true≢false (sym facts.spells_it ∙ sym (ap (λ k. spells k word) same) ∙ not_this))
    later facts not_this (inr e) =
        let stands : Stands xs row = facts.stands in
        record { stands = rw e stands; spells_it = facts.spells_it }

    go : (option_named xs word ≡ Some row → IsNamed xs word row) → (spells x.key word ≡ true) ⊎ (spells x.key word ≡ false)
        → IsNamed (x ∷ xs) word row
    go rest (inl e) =
        let here : x ≡ row = ap (λ o. unwrap_or o x) (rw e at found) in
        subst (IsNamed (x ∷ xs) word) here (record { stands = rw (same_name x.key) refl; spells_it = e })
    go rest (inr e) = later (rest (rw e at found)) e (cases_Bool (is_key x.key row.key))

-- ---- what is found for each option and for the arguments

listed_push : (words : List Word) (word : Word) → Some (unwrap_or (listed words) [] ++ word ∷ []) ≡ listed (words ++ word ∷ [])
listed_push [] word = refl
listed_push (x ∷ xs) word = refl

values_same : (key : OptionKey) (given : List (OptionKey × Word)) (k : OptionKey) (word : Word) → is_key k key ≡ true
    → values_of key (given ++ (k, word) ∷ []) ≡ values_of key given ++ word ∷ []
values_same key [] k word e = rw e refl
values_same key (pair ∷ rest) k word e = go (values_same key rest k word e) (cases_Bool (is_key pair.0 key))
  where
    go : values_of key (rest ++ (k, word) ∷ []) ≡ values_of key rest ++ word ∷ [] → (is_key pair.0 key ≡ true) ⊎ (is_key pair.0 key ≡ false)
        → values_of key ((pair ∷ rest) ++ (k, word) ∷ []) ≡ values_of key (pair ∷ rest) ++ word ∷ []
    go more (inl f) = rw f (ap (λ words. pair.1 ∷ words) more)
    go more (inr f) = rw f more

values_other : (key : OptionKey) (given : List (OptionKey × Word)) (k : OptionKey) (word : Word) → is_key k key ≡ false
    → values_of key (given ++ (k, word) ∷ []) ≡ values_of key given
values_other key [] k word e = rw e refl
values_other key (pair ∷ rest) k word e = go (values_other key rest k word e) (cases_Bool (is_key pair.0 key))
  where
    go : values_of key (rest ++ (k, word) ∷ []) ≡ values_of key rest → (is_key pair.0 key ≡ true) ⊎ (is_key pair.0 key ≡ false)
        → values_of key ((pair ∷ rest) ++ (k, word) ∷ []) ≡ values_of key (pair ∷ rest)
    go more (inl f) = rw f (ap (λ words. pair.1 ∷ words) more)
    go more (inr f) = rw f more

-- an option has one more value
lists_option : (options : List OptionRow) (split : Split) (rows : List Row) (row : OptionRow) (word : Word) → Stands options row
    → Lists options split rows
    → Lists options (record split { given = split.given ++ (row.key, word) ∷ []; waiting = None }) (with_value row word rows)
lists_option options split rows row word stands lists = record {
  options = λ other. go other (cases_Bool (is_key row.key other));
  others = λ other none_is. unlisted other none_is (cases_Bool (is_key row.key other));
  arguments = all_of_other rest_id (name_of row.key) _ _ (word ∷ []) rows (not_the_rest row.key) ∙ lists.arguments;
}
  where
    go : (other : OptionKey) → (is_key row.key other ≡ true) ⊎ (is_key row.key other ≡ false)
        → all_of (name_of other) (with_value row word rows) ≡ listed (values_of other (split.given ++ (row.key, word) ∷ []))
    go other (inl e) =
        let same : name_of row.key ≡ name_of other = (bytes_eq-Decides (name_of row.key) (name_of other)).0 e in
        subst (λ name. all_of (name_of other) (with_values name reading.AsWritten CommandLine (word ∷ []) rows)
        ≡ listed (values_of other (split.given ++ (row.key, word) ∷ []))) (sym same)
        (all_of_same (name_of other) reading.AsWritten CommandLine (word ∷ []) rows
        ∙ ap (λ o. Some (unwrap_or o [] ++ word ∷ [])) (lists.options other)
        ∙ listed_push (values_of other split.given) word
        ∙ ap listed (sym (values_same other split.given row.key word e)))
    go other (inr e) =
        all_of_other (name_of other) (name_of row.key) reading.AsWritten CommandLine (word ∷ []) rows e
        ∙ lists.options other
        ∙ ap listed (sym (values_other other split.given row.key word e))

    unlisted : (other : OptionKey) → row_of_key options other ≡ None → (is_key row.key other ≡ true) ⊎ (is_key row.key other ≡ false)
        → values_of other (split.given ++ (row.key, word) ∷ []) ≡ []
    unlisted other none_is (inl e) =
        let same : row.key ≡ other = same_key row.key other e in
        absurd (true≢false (ap is_some (sym stands ∙ ap (row_of_key options) same ∙ none_is)))
    unlisted other none_is (inr e) = values_other other split.given row.key word e ∙ lists.others other none_is

not_an_option : (key : OptionKey) → bytes_eq rest_id (name_of key) ≡ false
not_an_option key = go (cases_Bool (bytes_eq rest_id (name_of key)))
  where
    go : (bytes_eq rest_id (name_of key) ≡ true) ⊎ (bytes_eq rest_id (name_of key) ≡ false) → bytes_eq rest_id (name_of key) ≡ false
    go (inr e) = e
    go (inl e) =
        let same : rest_id ≡ name_of key = (bytes_eq-Decides rest_id (name_of key)).0 e in
        absurd (true≢false (sym ((bytes_eq-Decides (name_of key) rest_id).1 (sym same)) ∙ not_the_rest key))

lists_argument : (options : List OptionRow) (split : Split) (rows : List Row) (word : Word) → Lists options split rows
    → Lists options (record split { arguments = split.arguments ++ word ∷ [] }) (rows_with rows (argument word))
lists_argument options split rows word lists = record {
  options = λ key. all_of_other (name_of key) rest_id _ _ (word ∷ []) rows (not_an_option key) ∙ lists.options key;
  others = lists.others;
  arguments = all_of_same rest_id reading.AsWritten CommandLine (word ∷ []) rows
      ∙ ap (λ o. Some (unwrap_or o [] ++ word ∷ [])) lists.arguments
      ∙ listed_push split.arguments word;
}

-- ---- side by side

not_empty : kind.InvalidValue ∷ [] ≡ [] → ⊥
not_empty e = absurd (true≢false (sym (ap (λ (ks : Kinds). length ks == 0) e)))

abbrev WaitsFor : Option OptionRow → Last → Type 0
WaitsFor waiting (waits row) = waiting ≡ Some row
WaitsFor waiting _ = waiting ≡ None

abbrev lacking : Last → ℕ
lacking (waits row) = 1
lacking _ = 0

pub record Matches (options : List OptionRow) (split : Split) (rows : List Row) (last : Last) : Type 0 where
  pub waiting : WaitsFor split.waiting last
  pub is_listed : IsListed options last
  pub lists : Lists options split (rows_with rows last)
  pub count : length split.given + lacking last ≡ length split.seen

-- an option lacks its value, whatever follows
abbrev pub Lacks : Split → Type 0
Lacks split = length split.given + (if is_some split.waiting then 1 else 0) < length split.seen

pub data Linked (options : List OptionRow) (split : Split) (walk : Walk) (fault : Kinds) : Type 0 where
  fails : Lacks split → fault ≢ [] → Linked options split walk fault
  goes_on : (rows : List Row) (last : Last) → walk ≡ walk_at rows last → fault ≡ [] → Matches options split rows last
      → Linked options split walk fault

-- the walk after this word, beside the words that were split so
abbrev After : List OptionRow → Split → List Row → Last → Word → Type 0
After options split rows last word =
    Linked options split (walked (rules_built options) [] (walk_at rows last) word)
    (turn_fault (shape_at options) [] (walk_at rows last) word)

settles : (last : Last) → Settles last ⊎ ((row : OptionRow) × (last ≡ waits row))
settles none = inl at_none
settles (waits row) = inr (row, refl)
settles (valued row word) = inl (at_valued row word)
settles (argument word) = inl (at_argument word)

idle_now : (options : List OptionRow) (split : Split) (rows : List Row) (last : Last) → Settles last → Matches options split rows last
    → (split.waiting ≡ None) × (length split.given ≡ length split.seen)
idle_now options split rows none at_none m = (m.waiting, sym (add-zero (length split.given)) ∙ m.count)
idle_now options split rows _ (at_valued row word) m = (m.waiting, sym (add-zero (length split.given)) ∙ m.count)
idle_now options split rows _ (at_argument word) m = (m.waiting, sym (add-zero (length split.given)) ∙ m.count)

-- the words with an option that waits for its value, and with a flag
abbrev with_option : Split → OptionRow → Split
with_option split row = record split { seen = split.seen ++ row.key ∷ []; waiting = Some row }

abbrev with_flag : Split → OptionRow → Split
with_flag split row = record split { seen = split.seen ++ row.key ∷ []; given = split.given ++ (row.key, []) ∷ []; waiting = None }

-- an option is met
option_here : (options : List OptionRow) (split : Split) (rows : List Row) (last : Last) (word : Word) (row : OptionRow)
    → TakesValue options row
    → Spelled row.key word → Matches options split rows last → After options (with_option split row) rows last word
option_here options split rows last word row here spelling m = go (settles last)
  where
    stops : (before : OptionRow) → Matches options split rows (waits before)
        → After options (with_option split row) rows (waits before) word
    stops before n =
        let is : turn_fault (shape_at options) [] (walk_at rows (waits before)) word ≡ kind.InvalidValue ∷ [] =
        option_fault options row word rows (waits before) spelling here ∙ lacks_value options rows before n.is_listed in
        let count : length split.given + 1 ≡ length split.seen = n.count in
        let more : length (split.seen ++ row.key ∷ []) ≡ length split.seen + 1 = length_push split.seen row.key in
        fails (omega (arith, count, more)) (λ none_is. not_empty (sym is ∙ none_is))

    go : Settles last ⊎ ((before : OptionRow) × (last ≡ waits before)) → After options (with_option split row) rows last word
    go (inl s) =
        let now = idle_now options split rows last s m in
        goes_on (rows_with rows last) (waits row)
        (option_step options row word rows last spelling here
        ∙ ap (λ r. walk_at r (waits row)) (settles_rows options rows last s m.is_listed))
        (option_fault options row word rows last spelling here ∙ settles_well options rows last s m.is_listed)
        (record {
          waiting = refl;
          is_listed = here;
          lists = record { options = m.lists.options; others = m.lists.others; arguments = m.lists.arguments };
          count = ap (λ n. n + 1) now.1 ∙ sym (length_push split.seen row.key);
        })
    go (inr waiting) =
        subst (λ l. Matches options split rows l → After options (with_option split row) rows l word) (sym waiting.1) (stops waiting.0) m

-- a flag is met
flag_here : (options : List OptionRow) (split : Split) (rows : List Row) (last : Last) (word : Word) (row : OptionRow) → IsFlag options row
    → Spelled row.key word → Matches options split rows last → After options (with_flag split row) rows last word
flag_here options split rows last word row here spelling m = go (settles last)
  where
    more : length (split.seen ++ row.key ∷ []) ≡ length split.seen + 1
    more = length_push split.seen row.key

    more_given : length (split.given ++ (row.key, []) ∷ []) ≡ length split.given + 1
    more_given = length_push split.given (row.key, [])

    stops : (before : OptionRow) → Matches options split rows (waits before) → After options (with_flag split row) rows (waits before) word
    stops before n =
        let is : turn_fault (shape_at options) [] (walk_at rows (waits before)) word ≡ kind.InvalidValue ∷ [] =
        flag_fault options row word rows (waits before) spelling here ∙ lacks_value options rows before n.is_listed in
        let count : length split.given + 1 ≡ length split.seen = n.count in
        fails (omega (arith, count, more, more_given)) (λ none_is. not_empty (sym is ∙ none_is))

    go : Settles last ⊎ ((before : OptionRow) × (last ≡ waits before)) → After options (with_flag split row) rows last word
    go (inl s) =
        let now = idle_now options split rows last s m in
        let lists = lists_option options split (rows_with rows last) row [] here.stands m.lists in
        goes_on (with_value row [] (rows_with rows last)) none
        (flag_step options row word rows last spelling here
        ∙ ap (λ r. walk_at (with_value row [] r) none) (settles_rows options rows last s m.is_listed))
        (flag_fault options row word rows last spelling here ∙ settles_well options rows last s m.is_listed)
        (record {
          waiting = refl;
          is_listed = tt;
          lists = record { options = lists.options; others = lists.others; arguments = lists.arguments };
          count = add-zero (length (split.given ++ (row.key, []) ∷ [])) ∙ more_given ∙ ap (λ n. n + 1) now.1 ∙ sym more;
        })
    go (inr waiting) =
        subst (λ l. Matches options split rows l → After options (with_flag split row) rows l word) (sym waiting.1) (stops waiting.0) m

-- a word that is no option
value_here : (options : List OptionRow) (split : Split) (rows : List Row) (row : OptionRow) (word : Word) → is_dashed word ≡ false
    → Matches options split rows (waits row)
    → After options (record split { given = split.given ++ (row.key, word) ∷ []; waiting = None }) rows (waits row) word
value_here options split rows row word plain m =
    goes_on rows (valued row word) (value_step options row word rows plain m.is_listed) (value_fault options row word rows plain)
    (record {
      waiting = refl;
      is_listed = m.is_listed;
      lists = lists_option options split rows row word m.is_listed.stands m.lists;
      count = add-zero (length (split.given ++ (row.key, word) ∷ [])) ∙ length_push split.given (row.key, word) ∙ m.count;
    })

argument_here : (options : List OptionRow) (split : Split) (rows : List Row) (last : Last) (word : Word) → Settles last
    → is_dashed word ≡ false
    → Matches options split rows last → After options (record split { arguments = split.arguments ++ word ∷ [] }) rows last word
argument_here options split rows last word s plain m =
    let now = idle_now options split rows last s m in
    goes_on (rows_with rows last) (argument word)
    (argument_step options word rows last s plain ∙ ap (λ r. walk_at r (argument word)) (settles_rows options rows last s m.is_listed))
    (argument_fault options word rows last s plain ∙ settles_well options rows last s m.is_listed)
    (record {
      waiting = now.0;
      is_listed = tt;
      lists = lists_argument options split (rows_with rows last) word m.lists;
      count = add-zero (length split.given) ∙ now.1;
    })

-- one word
dashed_word : (options : List OptionRow) (split : Split) (rows : List Row) (last : Last) (word : Word)
    → Matches options split rows last → not (is_stray (role_of_option split (option_named options word))) ≡ true
    → After options (after_role split word (role_of_option split (option_named options word))) rows last word
dashed_word options split rows last word m = go (option_named options word) refl
  where
    by_form : (row : OptionRow) → IsNamed options word row → Form row
        → After options (after_role split word (role_of_row row)) rows last word
    by_form row facts (flag is zero role_is) = subst (λ r. After options (after_role split word r) rows last word) (sym role_is)
        (flag_here options split rows last word row (record { stands = facts.stands; zero = zero }) (spelled row.key word facts.spells_it)
        m)
    by_form row facts (takes one role_is) = subst (λ r. After options (after_role split word r) rows last word) (sym role_is)
        (option_here options split rows last word row (record { stands = facts.stands; one = one }) (spelled row.key word facts.spells_it)
        m)

    use_row : (row : OptionRow) → IsNamed options word row → (b : Bool) → not (is_stray (if b then role.Stray else role_of_row row)) ≡ true
        → After options (after_role split word (if b then role.Stray else role_of_row row)) rows last word
    use_row row facts true fine = absurd (true≢false (sym fine))
    use_row row facts false fine = by_form row facts (form row)

    go : (o : Option OptionRow) → option_named options word ≡ o → not (is_stray (role_of_option split o)) ≡ true
        → After options (after_role split word (role_of_option split o)) rows last word
    go None is fine = absurd (true≢false (sym fine))
    go (Some row) is fine = use_row row (named options word row is) (has_key split.seen row.key) fine

other_word : (options : List OptionRow) (split : Split) (rows : List Row) (last : Last) (word : Word) → is_dashed word ≡ false
    → Matches options split rows last → After options (after_role split word (role_of_other split split.waiting)) rows last word
other_word options split rows last word plain m = go (settles last)
  where
    as_value : (row : OptionRow) → Matches options split rows (waits row)
        → After options (after_role split word (role_of_other split split.waiting)) rows (waits row) word
    as_value row n = subst (λ o. After options (after_role split word (role_of_other split o)) rows (waits row) word) (sym n.waiting)
        (value_here options split rows row word plain n)

    go : Settles last ⊎ ((row : OptionRow) × (last ≡ waits row))
        → After options (after_role split word (role_of_other split split.waiting)) rows last word
    go (inl s) =
        let is : split.waiting ≡ None = (idle_now options split rows last s m).0 in
        subst (λ o. After options (after_role split word (role_of_other split o)) rows last word) (sym is)
        (argument_here options split rows last word s plain m)
    go (inr waiting) =
        subst (λ l. Matches options split rows l → After options (after_role split word (role_of_other split split.waiting)) rows l word)
        (sym waiting.1) (as_value waiting.0) m

one_word : (options : List OptionRow) (split : Split) (rows : List Row) (last : Last) (word : Word)
    → Matches options split rows last → not (is_stray (role_of options split word)) ≡ true
    → After options (after_split options split word) rows last word
one_word options split rows last word m fine = go (cases_Bool (is_dashed word))
  where
    go : (is_dashed word ≡ true) ⊎ (is_dashed word ≡ false) → After options (after_split options split word) rows last word
    go (inl e) = rw e (dashed_word options split rows last word m (rw e at fine))
    go (inr e) = rw e (other_word options split rows last word e m)

-- what lacks a value stays so
lacks_role : (split : Split) (word : Word) (waiting : Option OptionRow) → split.waiting ≡ waiting → Lacks split
    → Lacks (after_role split word (role_of_other split waiting))
lacks_role split word None is lacks =
    let less : length split.given + 0 < length split.seen = rw is at lacks in
    rw is less
lacks_role split word (Some row) is lacks =
    let less : length split.given + 1 < length split.seen = rw is at lacks in
    let more : length (split.given ++ (row.key, word) ∷ []) ≡ length split.given + 1 = length_push split.given (row.key, word) in
    omega (arith, less, more)

lacks_option : (split : Split) (word : Word) (o : Option OptionRow) → Lacks split → Lacks (after_role split word (role_of_option split o))
lacks_option split word None lacks = omega (arith, lacks)
lacks_option split word (Some row) lacks = go (has_key split.seen row.key)
  where
    more : length (split.seen ++ row.key ∷ []) ≡ length split.seen + 1
    more = length_push split.seen row.key

    more_given : length (split.given ++ (row.key, []) ∷ []) ≡ length split.given + 1
    more_given = length_push split.given (row.key, [])

    by_form : Form row → Lacks (after_role split word (role_of_row row))
    by_form (flag is zero role_is) = subst (λ r. Lacks (after_role split word r)) (sym role_is) (omega (arith, lacks, more, more_given))
    by_form (takes one role_is) = subst (λ r. Lacks (after_role split word r)) (sym role_is) (omega (arith, lacks, more))

    go : (b : Bool) → Lacks (after_role split word (if b then role.Stray else role_of_row row))
    go true = omega (arith, lacks)
    go false = by_form (form row)

lacks_stays : (options : List OptionRow) (split : Split) (word : Word) → Lacks split → Lacks (after_split options split word)
lacks_stays options split word lacks = go (cases_Bool (is_dashed word))
  where
    go : (is_dashed word ≡ true) ⊎ (is_dashed word ≡ false) → Lacks (after_split options split word)
    go (inl e) = rw e (lacks_option split word (option_named options word) lacks)
    go (inr e) = rw e (lacks_role split word split.waiting refl lacks)

lacks_on : (options : List OptionRow) (words : List Word) (split : Split) → Lacks split → Lacks (split_from options split words)
lacks_on options [] split lacks = lacks
lacks_on options (word ∷ words) split lacks = lacks_on options words (after_split options split word) (lacks_stays options split word lacks)

fails_first : (first next : Kinds) → first ≢ [] → or_else first next ≢ []
fails_first [] next some = absurd (some refl)
fails_first (k ∷ ks) next some = some

-- all the words
pub linked : (options : List OptionRow) (words : List Word) (split : Split) (rows : List Row) (last : Last)
    → Matches options split rows last → no_stray options split words ≡ true
    → Linked options (split_from options split words) (fold (walked (rules_built options) []) (walk_at rows last) words)
    (walk_fault (shape_at options) [] (walk_at rows last) words)
unfolding walk_fault no_stray
linked options [] split rows last m fine = goes_on rows last refl refl m
linked options (word ∷ words) split rows last m fine =
    go (one_word options split rows last word m both.0) (λ r l n. linked options words (after_split options split word) r l n both.1)
  where
    both : (not (is_stray (role_of options split word)) ≡ true) × (no_stray options (after_split options split word) words ≡ true)
    both = and_parts (not (is_stray (role_of options split word))) (no_stray options (after_split options split word) words) fine

    go : Linked options (after_split options split word) (walked (rules_built options) [] (walk_at rows last) word)
        (turn_fault (shape_at options) [] (walk_at rows last) word)
        → ((r : List Row) (l : Last) → Matches options (after_split options split word) r l
        → Linked options (split_from options (after_split options split word) words)
        (fold (walked (rules_built options) []) (walk_at r l) words)
        (walk_fault (shape_at options) [] (walk_at r l) words))
        → Linked options (split_from options (after_split options split word) words)
        (fold (walked (rules_built options) []) (walked (rules_built options) [] (walk_at rows last) word) words)
        (or_else (turn_fault (shape_at options) [] (walk_at rows last) word)
        (walk_fault (shape_at options) [] (walked (rules_built options) [] (walk_at rows last) word) words))
    go (fails lacks some) rest = fails (lacks_on options words (after_split options split word) lacks) (fails_first _ _ some)
    go (goes_on r l is fine_now n) rest =
        subst (λ k. Linked options (split_from options (after_split options split word) words)
        (fold (walked (rules_built options) []) (walked (rules_built options) [] (walk_at rows last) word) words)
        (or_else k (walk_fault (shape_at options) [] (walked (rules_built options) [] (walk_at rows last) word) words))) (sym fine_now)
        (subst (λ w. Linked options (split_from options (after_split options split word) words)
        (fold (walked (rules_built options) []) w words)
        (walk_fault (shape_at options) [] w words)) (sym is) (rest r l n))

-- ---- the end of the words

default_none : (rows : List Row) (id : Text) → (if has_row id rows then rows else rows) ≡ rows
default_none rows id = go (has_row id rows)
  where
    go : (b : Bool) → (if b then rows else rows) ≡ rows
    go true = refl
    go false = refl

no_default : (options : List OptionRow) (rows : List Row) → fold with_default rows (rules_built options) ≡ rows
no_default [] rows = default_none rows rest_id
no_default (row ∷ options) rows =
    ap (λ r. fold with_default r (rules_built options)) (default_none rows (name_of row.key)) ∙ no_default options rows

no_default_fault : (options : List OptionRow) (rows : List Row) → defaults_fault rows (rules_built options) ≡ []
unfolding defaults_fault
no_default_fault [] rows = rw (or_true (has_row rest_id rows)) refl
no_default_fault (row ∷ options) rows =
    rw (or_true (has_row (name_of row.key) rows))
    (ap (λ r. defaults_fault r (rules_built options)) (default_none rows (name_of row.key)) ∙ no_default_fault options rows)

none_required : (options : List OptionRow) (rows : List Row)
    → list_any (λ (a : Rule). a.required && not (is_given a.id rows)) (rules_built options) ≡ false
none_required [] rows = refl
none_required (row ∷ options) rows = none_required options rows

-- what the parse comes to
pub record Parsed (options : List OptionRow) (words : List Word) : Type 0 where
  -- it fails exactly where an option lacks its value
  pub fails : is_complete (split_of options words) ≡ false → fault_of (app_for options) words ≢ []
  pub passes : is_complete (split_of options words) ≡ true → fault_of (app_for options) words ≡ []
  -- each option has its values, and the arguments are those of the words
  pub lists : is_complete (split_of options words) ≡ true → Lists options (split_of options words) (matches_of (app_for options) words)

abbrev app_at : List OptionRow → App
app_at options = record { top = shape_at options; subs = [] }

built_is : (options : List OptionRow) → built (app_for options) ≡ app_at options
built_is options = ap (λ rules. record { top = record (shape_at options) { rules = rules }; subs = [] }) (rules_are_built options)

abbrev from_walk : List OptionRow → Walk → Kinds → Kinds
from_walk options w fault = or_else fault (or_else (entered_fault (app_at options) w.stopped)
    (or_else (settle_fault (rules_built options) false w.held)
    (or_else (defaults_fault (settled (rules_built options) w.held).rows (rules_built options))
    (check_fault (shape_at options) (finished (rules_built options) w.held) (is_some (entered (app_at options) w.stopped))))))

abbrev the_walk : List OptionRow → List Word → Walk
the_walk options words = fold (walked (rules_built options) []) (walk_at [] none) words

abbrev the_fault : List OptionRow → List Word → Kinds
the_fault options words = walk_fault (shape_at options) [] (walk_at [] none) words

fault_is : (options : List OptionRow) (words : List Word)
    → fault_of (app_for options) words ≡ from_walk options (the_walk options words) (the_fault options words)
fault_is options words = ap (λ a. built_fault a nothing_held words) (built_is options)

matches_are : (options : List OptionRow) (words : List Word)
    → matches_of (app_for options) words ≡ finished (rules_built options) (the_walk options words).held
matches_are options words = ap (λ a. rows_after a.top.rules (names_of a) words) (built_is options)

ends_well : (options : List OptionRow) (rows : List Row) (last : Last) → Settles last → IsListed options last
    → from_walk options (walk_at rows last) [] ≡ []
ends_well options rows last s has =
    ap (λ k. or_else k (or_else (defaults_fault (settled (rules_built options) (walk_at rows last).held).rows (rules_built options))
    (check_fault (shape_at options) (finished (rules_built options) (walk_at rows last).held) false)))
    (settles_well options rows last s has)
    ∙ ap (λ k. or_else k (check_fault (shape_at options) (finished (rules_built options) (walk_at rows last).held) false))
    (no_default_fault options _)
    ∙ ap (λ b. check_kinds false false b) (none_required options _)

ends_badly : (options : List OptionRow) (rows : List Row) (row : OptionRow) → TakesValue options row
    → from_walk options (walk_at rows (waits row)) [] ≡ kind.InvalidValue ∷ []
ends_badly options rows row here =
    ap (λ k. or_else k (or_else (defaults_fault (settled (rules_built options) (walk_at rows (waits row)).held).rows (rules_built options))
    (check_fault (shape_at options) (finished (rules_built options) (walk_at rows (waits row)).held) false)))
    (lacks_value options rows row here)

finished_is : (options : List OptionRow) (rows : List Row) (last : Last) → Settles last → IsListed options last
    → finished (rules_built options) (walk_at rows last).held ≡ rows_with rows last
finished_is options rows last s has = no_default options _ ∙ settles_rows options rows last s has

at_start : (options : List OptionRow) → Matches options nothing_split [] none
at_start options =
    record {
      waiting = refl;
      is_listed = tt;
      lists = record { options = λ key. refl; others = λ key none_is. refl; arguments = refl };
      count = refl;
    }

not_complete : (split : Split) → length split.given < length split.seen → is_complete split ≡ false
not_complete split less = ne_eqb (length split.seen) (length split.given) (λ e. omega (arith, less, e))

ends_whole : (options : List OptionRow) (words : List Word) (rows : List Row) (last : Last) → Settles last
    → the_walk options words ≡ walk_at rows last
    → the_fault options words ≡ [] → Matches options (split_of options words) rows last → Parsed options words
ends_whole options words rows last s is fine m =
    let fault : fault_of (app_for options) words ≡ [] =
    fault_is options words ∙ ap₂ (from_walk options) is fine ∙ ends_well options rows last s m.is_listed in
    let complete : is_complete (split_of options words) ≡ true =
    eq-eqb (length (split_of options words).seen) (length (split_of options words).given)
    (sym (idle_now options (split_of options words) rows last s m).1) in
    record {
      fails = λ e. absurd (true≢false (sym complete ∙ e));
      passes = λ e. fault;
      lists = λ e. subst (Lists options (split_of options words))
          (sym (matches_are options words ∙ ap (λ (w : Walk). finished (rules_built options) w.held) is
          ∙ finished_is options rows last s m.is_listed)) m.lists;
    }

ends_open : (options : List OptionRow) (words : List Word) (rows : List Row) (row : OptionRow)
    → the_walk options words ≡ walk_at rows (waits row)
    → the_fault options words ≡ [] → Matches options (split_of options words) rows (waits row) → Parsed options words
ends_open options words rows row is fine m =
    let fault : fault_of (app_for options) words ≡ kind.InvalidValue ∷ [] =
    fault_is options words ∙ ap₂ (from_walk options) is fine ∙ ends_badly options rows row m.is_listed in
    let count : length (split_of options words).given + 1 ≡ length (split_of options words).seen = m.count in
    let less : length (split_of options words).given < length (split_of options words).seen = omega (arith, count) in
    let not_all = not_complete (split_of options words) less in
    record {
      fails = λ e none_is. not_empty (sym fault ∙ none_is);
      passes = λ e. absurd (true≢false (sym e ∙ not_all));
      lists = λ e. absurd (true≢false (sym e ∙ not_all));
    }

pub parsed : (options : List OptionRow) (words : List Word) → no_stray options nothing_split words ≡ true → Parsed options words
parsed options words fine = go (linked options words nothing_split [] none (at_start options) fine)
  where
    go : Linked options (split_of options words) (the_walk options words) (the_fault options words) → Parsed options words
    go (fails lacks some) =
        let less : length (split_of options words).given < length (split_of options words).seen = omega (arith, lacks) in
        let not_all = not_complete (split_of options words) less in
        record {
          fails = λ e none_is. fails_first _ _ some (sym (fault_is options words) ∙ none_is);
          passes = λ e. absurd (true≢false (sym e ∙ not_all));
          lists = λ e. absurd (true≢false (sym e ∙ not_all));
        }
    go (goes_on rows last is fine_now m) = by_last (settles last)
      where
        by_last : Settles last ⊎ ((row : OptionRow) × (last ≡ waits row)) → Parsed options words
        by_last (inl s) = ends_whole options words rows last s is fine_now m
        by_last (inr waiting) =
            subst (λ l. the_walk options words ≡ walk_at rows l → Matches options (split_of options words) rows l → Parsed options words)
            (sym waiting.1) (λ i n. ends_open options words rows waiting.0 i fine_now n) is m
