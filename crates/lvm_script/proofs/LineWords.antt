-- The words of a line, up to a place in it.
use Rattle.std.proofs.Common.{◌≡◌, ◌∙◌, ◌<◌, ◌≤◌, ◌+◌, ◌-◌, ◌==◌, ℕ, true, false, Bool, nat_lt, List, [], ◌∷◌, ◌++◌, length, take, drop}
use Rattle.std.proofs.Common.{refl, ap, sym, subst, inl, inr, ◌⊎◌, arith, ltb-true, ltb-false}
use Rattle.std.proofs.Math.ListN.{get_or}
use Rattle.std.proofs.lemmas.Bool.{cases_Bool}
use Rattle.std.proofs.lemmas.List.{append_assoc, append-nil, drop-drop, get_or-drop, length-drop, length-take-le, take_all}
use Rattle.std.proofs.lemmas.List.Elements.{All-from_get_or}
use Rattle.std.proofs.lemmas.List.Splits.{slice_split_first, slice_split_none}
use Rattle.std.proofs.lemmas.List.Sums.{position_or_len_is}
use Rattle.std.specs.List.{position_or_len, slice_split}
use Rattle.command_table.specs.Options.{Word}
use Rattle.lvm_script.specs.Script.{some_from, word_between, words_in}

abbrev is_space : ℕ → Bool
is_space byte = byte == 32

-- these words stand before `from`, and from there to `at` there is no space
pub record Named (line : List ℕ) (from at : ℕ) (words : List (Word × ℕ)) : Type 0 where
  pub within : from ≤ at
  pub most : at ≤ length line
  pub bare : (k : ℕ) → from ≤ k → k < at → (get_or line k 0 == 32) ≡ false
  pub all : words ++ some_from from (slice_split is_space (drop from line)) ≡ words_in line

pub at_start : (line : List ℕ) → Named line 0 0 []
at_start line = record { within = omega arith; most = omega arith; bare = λ k least below. absurd (omega (arith, below)); all = refl }

-- a byte that is no space
pub goes_on : {line : List ℕ} {from at : ℕ} {words : List (Word × ℕ)} → Named line from at words → at < length line
    → (get_or line at 0 == 32) ≡ false
    → Named line from (at + 1) words
goes_on {line} {from} {at} {words} named below other = record {
  within = omega (arith, named.within);
  most = omega (arith, below);
  bare = bare;
  all = named.all;
}
  where
    bare : (k : ℕ) → from ≤ k → k < at + 1 → (get_or line k 0 == 32) ≡ false
    bare k least below1 = go (cases_Bool (nat_lt k at))
      where
        go : (nat_lt k at ≡ true) ⊎ (nat_lt k at ≡ false) → (get_or line k 0 == 32) ≡ false
        go (inl e) = named.bare k least (ltb-true k at e)
        go (inr e) = let past = ltb-false k at e in subst (λ n. (get_or line n 0 == 32) ≡ false) (omega (arith, past, below1)) other

-- the part that a space ends
cut : (line : List ℕ) (from at : ℕ) → from ≤ at → at < length line → ((k : ℕ) → from ≤ k → k < at → (get_or line k 0 == 32) ≡ false)
    → (get_or line at 0 == 32) ≡ true
    → slice_split is_space (drop from line) ≡ take (at - from) (drop from line) ∷ slice_split is_space (drop (at + 1) line)
cut line from at within below bare space =
    let left = length-drop from line in
    let is : position_or_len is_space (drop from line) ≡ at - from = position_or_len_is is_space (drop from line) (at - from) 0
    (omega (arith, within, below, left)) (λ k less. rw (get_or-drop from line k 0)
    (bare (from + k) (omega arith) (omega (arith, less, within))))
    (λ _. rw (get_or-drop from line (at - from) 0) (subst (λ n. (get_or line n 0 == 32) ≡ true) (omega (arith, within)) space)) in
    let split = slice_split_first is_space (drop from line) 0 (rw is (omega (arith, within, below, left))) in
    let rest : drop (at - from + 1) (drop from line) ≡ drop (at + 1) line =
    drop-drop (at - from + 1) from line ∙ ap (λ n. drop n line) (omega (arith, within)) in
    subst (λ more. slice_split is_space (drop from line) ≡ take (at - from) (drop from line) ∷ slice_split is_space more) rest
    (subst (λ n. slice_split is_space (drop from line) ≡ take n (drop from line) ∷ slice_split is_space (drop (n + 1) (drop from line))) is
    split)

-- the last part
uncut : (line : List ℕ) (from : ℕ) → from ≤ length line → ((k : ℕ) → from ≤ k → k < length line → (get_or line k 0 == 32) ≡ false)
    → slice_split is_space (drop from line) ≡ drop from line ∷ []
uncut line from within bare =
    let left = length-drop from line in
    slice_split_none is_space (drop from line) (All-from_get_or (λ byte. (byte == 32) ≡ false) (drop from line) 0
    (λ k less. rw (get_or-drop from line k 0) (bare (from + k) (omega arith) (omega (arith, less, left, within)))))

-- a part that isn't empty, and one that is
some_first : (part : Word) (parts : List Word) (place : ℕ) → 0 < length part
    → some_from place (part ∷ parts) ≡ (part, place) ∷ some_from (place + length part + 1) parts
some_first [] parts place some = absurd (omega (arith, some))
some_first (byte ∷ part) parts place some = refl

none_first : (part : Word) (parts : List Word) (place : ℕ) → length part ≡ 0
    → some_from place (part ∷ parts) ≡ some_from (place + 0 + 1) parts
none_first [] parts place none = refl
none_first (byte ∷ part) parts place none = absurd (omega (arith, none))

-- a word ends
ends : {line : List ℕ} {from at : ℕ} {words : List (Word × ℕ)} → Named line from at words → from < at → at < length line
    → (get_or line at 0 == 32) ≡ true
    → Named line (at + 1) (at + 1) (words ++ (take (at - from) (drop from line), from) ∷ [])
ends {line} {from} {at} {words} named some below space =
    let left = length-drop from line in
    let long = length-take-le (at - from) (drop from line) (omega (arith, below, left)) in
    let next : from + length (take (at - from) (drop from line)) + 1 ≡ at + 1 = omega (arith, long, some) in
    let split = cut line from at named.within below named.bare space in
    let first =
    some_first (take (at - from) (drop from line)) (slice_split is_space (drop (at + 1) line)) from (omega (arith, long, some)) in
    record {
      within = omega arith;
      most = omega (arith, below);
      bare = λ k least less. absurd (omega (arith, least, less));
      all = append_assoc words _ _
          ∙ ap (λ more. words ++ more) (sym (ap (some_from from) split ∙ first
          ∙ ap (λ n. (take (at - from) (drop from line), from) ∷ some_from n (slice_split is_space (drop (at + 1) line))) next))
          ∙ named.all;
    }

-- a space after a space
skips : {line : List ℕ} {from at : ℕ} {words : List (Word × ℕ)} → Named line from at words → ¬ (from < at) → at < length line
    → (get_or line at 0 == 32) ≡ true
    → Named line (at + 1) (at + 1) words
skips {line} {from} {at} {words} named none below space =
    let left = length-drop from line in
    let long = length-take-le (at - from) (drop from line) (omega (arith, below, left)) in
    let within = named.within in
    let split = cut line from at named.within below named.bare space in
    let first =
    none_first (take (at - from) (drop from line)) (slice_split is_space (drop (at + 1) line)) from (omega (arith, long, none)) in
    record {
      within = omega arith;
      most = omega (arith, below);
      bare = λ k least less. absurd (omega (arith, least, less));
      all =
          ap (λ more. words ++ more) (sym (ap (some_from from) split ∙ first
          ∙ ap (λ n. some_from n (slice_split is_space (drop (at + 1) line))) (omega (arith, within, none)))) ∙ named.all;
    }

-- the line ends in a word
ends_last : {line : List ℕ} {from : ℕ} {words : List (Word × ℕ)} → Named line from (length line) words → from < length line
    → words ++ (take (length line - from) (drop from line), from) ∷ [] ≡ words_in line
ends_last {line} {from} {words} named some =
    let left = length-drop from line in
    let whole = take_all (length line - from) (drop from line) (omega (arith, left)) in
    rw whole (ap (λ more. words ++ more) (sym
    (ap (some_from from) (uncut line from named.within named.bare) ∙ some_first (drop from line) [] from (omega (arith, left, some))))
    ∙ named.all)

-- the line ends after a space, or is empty
ends_bare : {line : List ℕ} {from : ℕ} {words : List (Word × ℕ)} → Named line from (length line) words → ¬ (from < length line)
    → words ≡ words_in line
ends_bare {line} {from} {words} named none =
    let left = length-drop from line in
    let within = named.within in
    sym (append-nil words) ∙ ap (λ more. words ++ more)
    (sym (ap (some_from from) (uncut line from named.within named.bare)
    ∙ none_first (drop from line) [] from (omega (arith, left, within, none)))) ∙ named.all

-- a space ends what stands before it
pub space : {line : List ℕ} {from at : ℕ} {words : List (Word × ℕ)} → Named line from at words → at < length line
    → (get_or line at 0 == 32) ≡ true
    → Named line (at + 1) (at + 1) (words ++ word_between line from at)
space {line} {from} {at} {words} named below is = go (cases_Bool (nat_lt from at))
  where
    go : (nat_lt from at ≡ true) ⊎ (nat_lt from at ≡ false) → Named line (at + 1) (at + 1) (words ++ word_between line from at)
    go (inl e) = rw e (ends named (ltb-true from at e) below is)
    go (inr e) = let past = ltb-false from at e in rw (e, append-nil words) (skips named (λ less. omega (arith, past, less)) below is)

-- the line's end ends what stands before it
pub line_end : {line : List ℕ} {from : ℕ} {words : List (Word × ℕ)} → Named line from (length line) words
    → words ++ word_between line from (length line) ≡ words_in line
line_end {line} {from} {words} named = go (cases_Bool (nat_lt from (length line)))
  where
    go : (nat_lt from (length line) ≡ true) ⊎ (nat_lt from (length line) ≡ false)
        → words ++ word_between line from (length line) ≡ words_in line
    go (inl e) = rw e (ends_last named (ltb-true from (length line) e))
    go (inr e) = let past = ltb-false from (length line) e in rw (e, append-nil words) (ends_bare named (λ less. omega (arith, past, less)))
