-- Whether a word strays depends on the options before it alone.
use Rattle.std.proofs.Common.{◌≡◌, ◌∙◌, ◌<◌, ◌≤◌, ◌+◌, drop_of_length-le, ℕ, ◌&&◌, if◌then◌else◌, Bool, not, true, false, List, [], ◌∷◌}
use Rattle.std.proofs.Common.{◌++◌, drop, length, get_or, Option, Some, None, refl, ap, sym, subst, inl, inr, ◌⊎◌}
use Rattle.std.proofs.lemmas.Bool.{cases_Bool}
use Rattle.std.proofs.lemmas.List.{drop_more}
use Rattle.std.specs.declared.string.String.{String}
use Rattle.std.specs.String.{string_bytes}
use Rattle.command_table.specs.declared.option_key.OptionKey.{OptionKey}
use Rattle.command_table.specs.declared.role.Role.TheVariants as role
use Rattle.command_table.specs.declared.table.OptionRow.{OptionRow}
use Rattle.command_table.specs.Options.{Word, is_dashed, words_of}
use Rattle.command_table.specs.Words.{Split, after_role, has_key, nothing_split, option_named, role_of, role_of_option, role_of_other}
use Rattle.command_table.specs.Words.{role_of_row}
use Rattle.lvm_words.specs.Parser.{after_split, is_stray, next_seen, no_stray, seen_after}
use Rattle.lvm_words.proofs.Forms.{Form, flag, form, takes}

abbrev pub goes_fine : Option (List OptionKey) → (List OptionKey → Bool) → Bool
goes_fine None rest = false
goes_fine (Some seen) rest = rest seen

pub fine_from : List OptionRow → List OptionKey → List Word → Bool
fine_from rows seen [] = true
fine_from rows seen (word ∷ words) = goes_fine (seen_after rows seen word) (λ next. fine_from rows next words)

option_fine : (rows : List OptionRow) (split : Split) (word : Word) (rest : Split → Bool) (fine : List OptionKey → Bool)
    → ((s : Split) → rest s ≡ fine s.seen)
    → (o : Option OptionRow)
    → (not (is_stray (role_of_option split o)) && rest (after_role split word (role_of_option split o)))
    ≡ goes_fine (next_seen split.seen o) fine
option_fine rows split word rest fine same None = refl
option_fine rows split word rest fine same (Some row) = go (has_key split.seen row.key)
  where
    by_form : Form row → (not (is_stray (role_of_row row)) && rest (after_role split word (role_of_row row)))
        ≡ fine (split.seen ++ row.key ∷ [])
    by_form (flag is zero role_is) =
        subst (λ r. (not (is_stray r) && rest (after_role split word r)) ≡ fine (split.seen ++ row.key ∷ [])) (sym role_is) (same _)
    by_form (takes one role_is) =
        subst (λ r. (not (is_stray r) && rest (after_role split word r)) ≡ fine (split.seen ++ row.key ∷ [])) (sym role_is) (same _)

    go : (b : Bool)
        → (not (is_stray (if b then role.Stray else role_of_row row))
        && rest (after_role split word (if b then role.Stray else role_of_row row)))
        ≡ goes_fine (if b then None else Some (split.seen ++ row.key ∷ [])) fine
    go true = refl
    go false = by_form (form row)

other_fine : (split : Split) (word : Word) (rest : Split → Bool) (fine : List OptionKey → Bool) → ((s : Split) → rest s ≡ fine s.seen)
    → (o : Option OptionRow)
    → (not (is_stray (role_of_other split o)) && rest (after_role split word (role_of_other split o))) ≡ fine split.seen
other_fine split word rest fine same None = same _
other_fine split word rest fine same (Some row) = same _

pub strays_alike : (rows : List OptionRow) (words : List Word) (split : Split) → no_stray rows split words ≡ fine_from rows split.seen words
unfolding no_stray fine_from
strays_alike rows [] split = refl
strays_alike rows (word ∷ words) split = go (λ s. strays_alike rows words s) (cases_Bool (is_dashed word))
  where
    go : ((s : Split) → no_stray rows s words ≡ fine_from rows s.seen words) → (is_dashed word ≡ true) ⊎ (is_dashed word ≡ false)
        → (not (is_stray (role_of rows split word)) && no_stray rows (after_split rows split word) words)
        ≡ goes_fine (seen_after rows split.seen word) (λ next. fine_from rows next words)
    go rest (inl e) =
        rw e (option_fine rows split word (λ s. no_stray rows s words) (λ seen. fine_from rows seen words) rest (option_named rows word))
    go rest (inr e) = rw e (other_fine split word (λ s. no_stray rows s words) (λ seen. fine_from rows seen words) rest split.waiting)

-- one more word of a loop
pub fine_more : (rows : List OptionRow) (seen : List OptionKey) {A : Type 0} (words : List (String A)) (i : ℕ) (d : String A)
    → i < length words
    → fine_from rows seen (words_of (drop i words))
    ≡ goes_fine (seen_after rows seen (string_bytes (get_or words i d))) (λ next. fine_from rows next (words_of (drop (i + 1) words)))
unfolding fine_from
fine_more rows seen {A = A} words i d lt = ap (λ (ws : List (String A)). fine_from rows seen (words_of ws)) (drop_more words i d lt)

pub stops_here : (rows : List OptionRow) (seen next : List OptionKey) {A : Type 0} (words : List (String A)) (i : ℕ) (d : String A)
    (b : Bool) → i < length words
    → seen_after rows seen (string_bytes (get_or words i d)) ≡ (if b then Some next else None) → b ≡ false
    → fine_from rows seen (words_of (drop i words)) ≡ fine_from rows [] (words_of words)
    → false ≡ no_stray rows nothing_split (words_of words)
stops_here rows seen next words i d b lt is off same =
    let none : seen_after rows seen (string_bytes (get_or words i d)) ≡ None = is ∙ ap (λ x. if x then Some next else None) off in
    sym (ap (λ o. goes_fine o (λ s. fine_from rows s (words_of (drop (i + 1) words)))) none)
    ∙ sym (fine_more rows seen words i d lt) ∙ same ∙ sym (strays_alike rows (words_of words) nothing_split)

pub goes_on_here : (rows : List OptionRow) (seen next : List OptionKey) {A : Type 0} (words : List (String A)) (i : ℕ) (d : String A)
    (b : Bool) → i < length words
    → seen_after rows seen (string_bytes (get_or words i d)) ≡ (if b then Some next else None) → b ≡ true
    → fine_from rows seen (words_of (drop i words)) ≡ fine_from rows [] (words_of words)
    → fine_from rows next (words_of (drop (i + 1) words)) ≡ fine_from rows [] (words_of words)
goes_on_here rows seen next words i d b lt is on same =
    let some : seen_after rows seen (string_bytes (get_or words i d)) ≡ Some next = is ∙ ap (λ x. if x then Some next else None) on in
    sym (ap (λ o. goes_fine o (λ s. fine_from rows s (words_of (drop (i + 1) words)))) some)
    ∙ sym (fine_more rows seen words i d lt) ∙ same

pub all_fine : (rows : List OptionRow) (seen : List OptionKey) {A : Type 0} (words : List (String A)) (i : ℕ) → length words ≤ i
    → fine_from rows seen (words_of (drop i words)) ≡ fine_from rows [] (words_of words)
    → true ≡ no_stray rows nothing_split (words_of words)
unfolding fine_from
all_fine rows seen {A = A} words i past same =
    sym (ap (λ (ws : List (String A)). fine_from rows seen (words_of ws)) (drop_of_length-le words past)) ∙ same
    ∙ sym (strays_alike rows (words_of words) nothing_split)
