-- The first line of a text, and the lines after it.
use Rattle.std.proofs.Common.{◌≡◌, ◌≢◌, ◌∙◌, ◌<◌, ◌≤◌, ◌+◌, ◌-◌, ◌==◌, ℕ, true, false, nat_lt, if◌then◌else◌, List, [], ◌∷◌, length, take}
use Rattle.std.proofs.Common.{drop, Some, None, refl, ap, sym, subst, inl, inr, ◌⊎◌, arith, ltb-false}
use Rattle.std.proofs.lemmas.Bool.{cases_Bool}
use Rattle.std.proofs.lemmas.Option.{none-some}
use Rattle.std.proofs.lemmas.List.{take_all, length-drop}
use Rattle.std.proofs.lemmas.List.Elements.{All-from_get_or}
use Rattle.std.proofs.lemmas.List.Quantifiers.{position-Some}
use Rattle.std.proofs.lemmas.List.Splits.{length-slice_split, slice_split_first, slice_split_none}
use Rattle.std.proofs.lemmas.List.Sums.{fails_before_first, position_or_len_is}
use Rattle.std.specs.List.{position, position_or_len, slice_split}
use Rattle.lvm_script.specs.Script.{lines_in, without_last_empty}

not_last : (part : List ℕ) (parts : List (List ℕ)) → 0 < length parts → without_last_empty (part ∷ parts) ≡ part ∷ without_last_empty parts
not_last part [] some = absurd (omega (arith, some))
not_last [] (next ∷ parts) some = refl
not_last (byte ∷ part) (next ∷ parts) some = refl

alone : (text : List ℕ) → text ≢ [] → without_last_empty (text ∷ []) ≡ text ∷ []
alone [] some = absurd (some refl)
alone (byte ∷ text) some = refl

-- the place of the first line feed, in two words for it
found_at : (text : List ℕ) (at : ℕ) → position (λ byte. byte == 10) text ≡ Some at → position_or_len (λ byte. byte == 10) text ≡ at
found_at text at found =
    let is = position-Some (λ (byte : ℕ). byte == 10) text at 0 found in
    position_or_len_is (λ (byte : ℕ). byte == 10) text at 0 (omega (arith, is.0)) is.2 (λ _. is.1)

none_found : (text : List ℕ) → position (λ byte. byte == 10) text ≡ None → length text ≤ position_or_len (λ byte. byte == 10) text
none_found text none = go (cases_Bool (nat_lt (position_or_len (λ byte. byte == 10) text) (length text)))
  where
    go : (nat_lt (position_or_len (λ byte. byte == 10) text) (length text) ≡ true)
        ⊎ (nat_lt (position_or_len (λ byte. byte == 10) text) (length text) ≡ false)
        → length text ≤ position_or_len (λ byte. byte == 10) text
    go (inl e) =
        absurd (none-some (position_or_len (λ byte. byte == 10) text)
        (sym (subst (λ b. (if b then Some (position_or_len (λ byte. byte == 10) text) else None) ≡ None) e none)))
    go (inr e) = ltb-false (position_or_len (λ byte. byte == 10) text) (length text) e

-- a line that ends with a line feed
pub ended_line : (text : List ℕ) (at : ℕ) → position (λ byte. byte == 10) text ≡ Some at → at < length text
    → lines_in text ≡ take at text ∷ lines_in (take (length text - (at + 1)) (drop (at + 1) text))
ended_line text at found within =
    let is = found_at text at found in
    let split = slice_split_first (λ (byte : ℕ). byte == 10) text 0 (subst (λ n. n < length text) (sym is) within) in
    let more = length-slice_split (λ (byte : ℕ). byte == 10) (drop (at + 1) text) in
    let left = length-drop (at + 1) text in
    let rest : take (length text - (at + 1)) (drop (at + 1) text) ≡ drop (at + 1) text =
    take_all (length text - (at + 1)) (drop (at + 1) text) (omega (arith, left)) in
    rw rest (ap without_last_empty (subst (λ n. slice_split (λ byte. byte == 10) text
    ≡ take n text ∷ slice_split (λ byte. byte == 10) (drop (n + 1) text)) is split)
    ∙ not_last (take at text) (slice_split (λ byte. byte == 10) (drop (at + 1) text)) (omega (arith, more)))

-- a line without one
pub last_line : (text : List ℕ) → text ≢ [] → position (λ byte. byte == 10) text ≡ None → lines_in text ≡ text ∷ []
last_line text some none =
    let past = none_found text none in
    ap without_last_empty (slice_split_none (λ (byte : ℕ). byte == 10) text
    (All-from_get_or (λ byte. (byte == 10) ≡ false) text 0
    (λ k within. fails_before_first (λ (byte : ℕ). byte == 10) text k 0 (omega (arith, within, past)))))
    ∙ alone text some
