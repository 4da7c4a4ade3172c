-- The first word of a line.
use Rattle.std.proofs.Common.{◌≡◌, ◌∙◌, ◌<◌, ◌≤◌, ◌+◌, ◌==◌, ℕ, zero, suc, Bool, true, false, if◌then◌else◌, List, [], ◌∷◌, get_or, length}
use Rattle.std.proofs.Common.{drop, Some, None, refl, ap, sym, subst, inl, inr, ◌⊎◌, arith}
use Rattle.std.specs.Prelude.{not}
use Rattle.std.proofs.lemmas.Bool.{cases_lt}
use Rattle.std.proofs.lemmas.List.{drop_more, length-drop, length-take-le, nil_from_length}
use Rattle.std.proofs.lemmas.List.Splits.{slice_split-cons_yes}
use Rattle.std.proofs.lemmas.List.Sums.{fails_before_first, passes_at_first, prefix_len-le-length}
use Rattle.std.specs.List.{before_first, position_or_len, slice_split}
use Rattle.command_table.specs.Options.{Word}
use Rattle.lvm_script.specs.Script.{some_from, words_in}
use Rattle.session_run.specs.SessionScript.{is_unrun, unrun_in}
use Rattle.session_run.proofs.Cuts.{fails_first, first_part}

abbrev is_space : ℕ → Bool
is_space byte = byte == 32

-- how many spaces a line begins with
abbrev spaces : List ℕ → ℕ
spaces line = position_or_len (λ byte. not (byte == 32)) line

passed : (b : Bool) → not b ≡ false → b ≡ true
passed true e = refl
passed false e = cc

failed : (b : Bool) → not b ≡ true → b ≡ false
failed true e = cc
failed false e = refl

-- a space is passed
behind_space : (line : List ℕ) (i : ℕ) → i < length line → (get_or line i 0 == 32) ≡ true
    → some_from i (slice_split is_space (drop i line)) ≡ some_from (i + 1) (slice_split is_space (drop (i + 1) line))
behind_space line i within space =
    let next : i + 0 + 1 ≡ i + 1 = omega arith in
    ap (λ (bytes : List ℕ). some_from i (slice_split is_space bytes)) (drop_more line i 0 within)
    ∙ ap (λ (parts : List Word). some_from i parts) (slice_split-cons_yes is_space (get_or line i 0) (drop (i + 1) line) space)
    ∙ ap (λ (n : ℕ). some_from n (slice_split is_space (drop (i + 1) line))) next

-- so many of the first spaces are passed
behind_spaces : (line : List ℕ) (i : ℕ) → i ≤ spaces line → words_in line ≡ some_from i (slice_split is_space (drop i line))
behind_spaces line zero below = refl
behind_spaces line (suc i) below =
    let most = prefix_len-le-length (λ (byte : ℕ). not (not (byte == 32))) line in
    let space = passed (get_or line i 0 == 32) (fails_before_first (λ (byte : ℕ). not (byte == 32)) line i 0 (omega (arith, below))) in
    let next : i + 1 ≡ suc i = omega arith in
    behind_spaces line i (omega (arith, below)) ∙ behind_space line i (omega (arith, below, most)) space
    ∙ ap (λ (n : ℕ). some_from n (slice_split is_space (drop n line))) next

-- what is asked of the first word, which begins there, if there is one
abbrev Asks : List ℕ → ℕ → List ℕ → Type 0
Asks line n bytes = unrun_in (words_in line) ≡ (if is_unrun (before_first is_space bytes) then Some n else None)

-- a line of spaces
no_word : (line : List ℕ) (n : ℕ) → n ≡ spaces line → length line ≤ n → Asks line n (drop n line)
no_word line n is all =
    let left = length-drop n line in
    let none : drop n line ≡ [] = nil_from_length (drop n line) (omega (arith, left, all)) in
    subst (Asks line n) (sym none) (ap unrun_in (behind_spaces line n (omega (arith, is))
    ∙ ap (λ (bytes : List ℕ). some_from n (slice_split is_space bytes)) none))

some_first : (part : Word) (parts : List Word) (place : ℕ) → 0 < length part
    → some_from place (part ∷ parts) ≡ (part, place) ∷ some_from (place + length part + 1) parts
some_first [] parts place some = absurd (omega (arith, some))
some_first (byte ∷ part) parts place some = refl

-- what doesn't begin with a space begins with a word
begins : (bytes : List ℕ) (byte : ℕ) (rest : List ℕ) → bytes ≡ byte ∷ rest → (byte == 32) ≡ false
    → 0 < length (before_first is_space bytes)
begins bytes byte rest is no_space =
    let some : 0 < position_or_len is_space bytes =
    subst (λ (bs : List ℕ). 0 < position_or_len is_space bs) (sym is) (fails_first is_space byte rest no_space) in
    let most = prefix_len-le-length (λ (b : ℕ). not (b == 32)) bytes in
    let long = length-take-le (position_or_len is_space bytes) bytes (omega (arith, most)) in
    omega (arith, some, long)

-- a line with a word
word_there : (line : List ℕ) (n : ℕ) → n ≡ spaces line → n < length line → Asks line n (drop n line)
word_there line n is within =
    let there : not (get_or line n 0 == 32) ≡ true =
    subst (λ (k : ℕ). not (get_or line k 0 == 32) ≡ true) (sym is)
    (passes_at_first (λ (byte : ℕ). not (byte == 32)) line 0 (subst (λ (k : ℕ). k < length line) is within)) in
    let long =
    begins (drop n line) (get_or line n 0) (drop (n + 1) line) (drop_more line n 0 within) (failed (get_or line n 0 == 32) there) in
    let part = first_part is_space (drop n line) 0 in
    ap unrun_in (behind_spaces line n (omega (arith, is)) ∙ ap (λ (parts : List Word). some_from n parts) part.1
    ∙ some_first (before_first is_space (drop n line)) part.0 n long)

pub first_asked : (line : List ℕ) (n : ℕ) → n ≡ spaces line → Asks line n (drop n line)
first_asked line n is = go (cases_lt n (length line))
  where
    go : (n < length line) ⊎ (length line ≤ n) → Asks line n (drop n line)
    go (inl within) = word_there line n is within
    go (inr past) = no_word line n is past
