-- The lines of a text, one after another, and those that stand before one of them.
use Rattle.std.proofs.Common.{◌≡◌, ◌∙◌, ◌<◌, ◌≤◌, ◌+◌, ◌-◌, ◌==◌, ℕ, Bool, true, false, nat_lt, List, [], ◌∷◌, ◌++◌, get_or, length}
use Rattle.std.proofs.Common.{take, Option, Some, None, refl, ap, sym, inl, inr, ◌⊎◌, arith, eqb-true, ltb-true, ltb-false}
use Rattle.std.specs.Option.{option_map, option_or}
use Rattle.std.proofs.lemmas.Bool.{cases_Bool}
use Rattle.std.proofs.lemmas.List.{append_assoc, append-nil, length-append, length-drop, nil_from_length, take-append-le, take_all}
use Rattle.std.proofs.lemmas.List.Splits.{length-slice_split, slice_split_at, slice_split_first}
use Rattle.std.proofs.lemmas.List.Sums.{passes_at_first, split_at_first}
use Rattle.std.specs.List.{after_first, before_first, position_or_len, slice_split}
use Rattle.lvm_script.specs.Script.{lines_in, without_last_empty}
use Rattle.session_run.specs.SessionScript.{first_unrun, unrun_line}
use Rattle.session_run.proofs.Cuts.{all_before, fails_before, none_after, one_part}

abbrev is_end : ℕ → Bool
is_end byte = byte == 10

-- ---- the first line

not_last : (part : List ℕ) (parts : List (List ℕ)) → 0 < length parts → without_last_empty (part ∷ parts) ≡ part ∷ without_last_empty parts
not_last part [] some = absurd (omega (arith, some))
not_last [] (next ∷ parts) some = refl
not_last (byte ∷ part) (next ∷ parts) some = refl

alone : (text : List ℕ) → 0 < length text → without_last_empty (text ∷ []) ≡ text ∷ []
alone [] some = absurd (omega (arith, some))
alone (byte ∷ text) some = refl

ended : (text : List ℕ) → position_or_len is_end text < length text
    → lines_in text ≡ before_first is_end text ∷ lines_in (after_first is_end text)
ended text inside =
    let more = length-slice_split is_end (after_first is_end text) in
    ap without_last_empty (slice_split_first is_end text 0 inside)
    ∙ not_last (before_first is_end text) (slice_split is_end (after_first is_end text)) (omega (arith, more))

last : (text : List ℕ) → 0 < length text → length text ≤ position_or_len is_end text
    → lines_in text ≡ before_first is_end text ∷ lines_in (after_first is_end text)
last text some past =
    ap without_last_empty (one_part is_end text 0 past) ∙ alone text some
    ∙ ap (λ (line : List ℕ). line ∷ []) (sym (all_before is_end text past))
    ∙ ap (λ (rest : List ℕ). before_first is_end text ∷ lines_in rest) (sym (none_after is_end text past))

-- with any text behind the line feed
with_more : (text more : List ℕ) → position_or_len is_end text < length text
    → lines_in ((before_first is_end text ++ 10 ∷ []) ++ more) ≡ before_first is_end text ∷ lines_in more
with_more text more inside =
    let first = before_first is_end text in
    let many = length-slice_split is_end more in
    ap lines_in (append_assoc first (10 ∷ []) more)
    ∙ ap without_last_empty (slice_split_at is_end first 10 more (fails_before is_end text 0) refl)
    ∙ not_last first (slice_split is_end more) (omega (arith, many))

-- the text again
line_and_rest : (text : List ℕ) → position_or_len is_end text < length text
    → text ≡ (before_first is_end text ++ 10 ∷ []) ++ after_first is_end text
line_and_rest text inside =
    let feed : get_or text (position_or_len is_end text) 0 ≡ 10 =
    eqb-true (get_or text (position_or_len is_end text) 0) 10 (passes_at_first is_end text 0 inside) in
    split_at_first is_end text 0 inside
    ∙ ap (λ (byte : ℕ). before_first is_end text ++ (byte ∷ after_first is_end text)) feed
    ∙ sym (append_assoc (before_first is_end text) (10 ∷ []) (after_first is_end text))

-- what follows a line is shorter
pub shorter : (text : List ℕ) → 0 < length text → length (after_first is_end text) < length text
shorter text some = let left = length-drop (position_or_len is_end text + 1) text in omega (arith, left, some)

-- ---- the lines before one

-- so many lines stand before the rest of a text, and none of them begins with a name that doesn't run
pub record Passed (text rest : List ℕ) (number : ℕ) : Type 0 where
  pub front : List ℕ
  pub all : text ≡ front ++ rest
  pub lines : length (lines_in front) ≡ number
  pub most : number ≤ length front
  pub apart : 0 < length rest → (more : List ℕ) → lines_in (front ++ more) ≡ lines_in front ++ lines_in more
  pub none : first_unrun 1 (lines_in text) ≡ first_unrun (number + 1) (lines_in rest)

pub at_start : (text : List ℕ) → Passed text text 0
at_start text = record { front = []; all = refl; lines = refl; most = omega arith; apart = λ some more. refl; none = refl }

-- the next number fits
pub counted : {text rest : List ℕ} {number : ℕ} → Passed text rest number → 0 < length rest → number + 1 ≤ length text
counted {text} {rest} {number} so_far some =
    let both = ap length so_far.all ∙ length-append so_far.front rest in
    omega (arith, both, some, so_far.most)

-- the rest is no longer than all
pub within : {text rest : List ℕ} {number : ℕ} → Passed text rest number → length rest ≤ length text
within {text} {rest} {number} so_far =
    let both = ap length so_far.all ∙ length-append so_far.front rest in
    omega (arith, both)

-- a line that doesn't begin with such a name is passed
goes_on : (number : ℕ) (line : List ℕ) (lines : List (List ℕ)) → unrun_line line ≡ None
    → first_unrun (number + 1) (line ∷ lines) ≡ first_unrun (number + 1 + 1) lines
goes_on number line lines is =
    ap (λ (o : Option ℕ). option_or (option_map (λ (place : ℕ). (number + 1, place)) o) (first_unrun (number + 1 + 1) lines)) is

one_more : (lines : List (List ℕ)) (line : List ℕ) (rest : List (List ℕ)) (number : ℕ) → length lines ≡ number → length rest ≡ 0
    → length (lines ++ line ∷ rest) ≡ number + 1
one_more lines line rest number many none =
    let both = length-append lines (line ∷ rest) in
    omega (arith, both, many, none)

next_ended : {text rest : List ℕ} {number : ℕ} → Passed text rest number → position_or_len is_end rest < length rest
    → unrun_line (before_first is_end rest) ≡ None
    → Passed text (after_first is_end rest) (number + 1)
next_ended {text} {rest} {number} so_far inside is =
    let line = before_first is_end rest ++ 10 ∷ [] in
    let after = after_first is_end rest in
    let some : 0 < length rest = omega (arith, inside) in
    let parted : (more : List ℕ)
    → lines_in ((so_far.front ++ line) ++ more) ≡ lines_in so_far.front ++ before_first is_end rest ∷ lines_in more =
    λ more. ap lines_in (append_assoc so_far.front line more) ∙ so_far.apart some (line ++ more)
    ∙ ap (λ (ls : List (List ℕ)). lines_in so_far.front ++ ls) (with_more rest more inside) in
    let fronted : lines_in (so_far.front ++ line) ≡ lines_in so_far.front ++ before_first is_end rest ∷ [] =
    ap lines_in (sym (append-nil (so_far.front ++ line))) ∙ parted [] in
    let long = length-append so_far.front line in
    let long_line = length-append (before_first is_end rest) (10 ∷ []) in
    record {
      front = so_far.front ++ line;
      all = so_far.all ∙ ap (λ (bs : List ℕ). so_far.front ++ bs) (line_and_rest rest inside)
          ∙ sym (append_assoc so_far.front line after);
      lines = ap length fronted ∙ one_more (lines_in so_far.front) (before_first is_end rest) [] number so_far.lines refl;
      most = omega (arith, so_far.most, long, long_line);
      apart = λ behind more. parted more
          ∙ sym (append_assoc (lines_in so_far.front) (before_first is_end rest ∷ []) (lines_in more))
          ∙ ap (λ (ls : List (List ℕ)). ls ++ lines_in more) (sym fronted);
      none = so_far.none ∙ ap (first_unrun (number + 1)) (ended rest inside)
          ∙ goes_on number (before_first is_end rest) (lines_in after) is;
    }

next_last : {text rest : List ℕ} {number : ℕ} → Passed text rest number → 0 < length rest → length rest ≤ position_or_len is_end rest
    → unrun_line (before_first is_end rest) ≡ None
    → Passed text (after_first is_end rest) (number + 1)
next_last {text} {rest} {number} so_far some past is =
    let none : after_first is_end rest ≡ [] = none_after is_end rest past in
    let is_last = last rest some past in
    let whole : lines_in (so_far.front ++ rest) ≡ lines_in so_far.front ++ before_first is_end rest ∷ lines_in (after_first is_end rest) =
    so_far.apart some rest ∙ ap (λ (ls : List (List ℕ)). lines_in so_far.front ++ ls) is_last in
    let long = length-append so_far.front rest in
    record {
      front = so_far.front ++ rest;
      all = so_far.all ∙ sym (append-nil (so_far.front ++ rest))
          ∙ ap (λ (bs : List ℕ). (so_far.front ++ rest) ++ bs) (sym none);
      lines = ap length whole ∙ one_more (lines_in so_far.front) (before_first is_end rest) (lines_in (after_first is_end rest)) number
          so_far.lines (ap (λ (bs : List ℕ). length (lines_in bs)) none);
      most = omega (arith, so_far.most, long, some);
      apart = λ more_left more. absurd (let gone = ap length none in omega (arith, gone, more_left));
      none = so_far.none ∙ ap (first_unrun (number + 1)) is_last
          ∙ goes_on number (before_first is_end rest) (lines_in (after_first is_end rest)) is;
    }

pub next_passed : {text rest : List ℕ} {number : ℕ} → Passed text rest number → 0 < length rest
    → unrun_line (before_first is_end rest) ≡ None
    → Passed text (after_first is_end rest) (number + 1)
next_passed {text} {rest} {number} so_far some is = go (cases_Bool (nat_lt (position_or_len is_end rest) (length rest)))
  where
    go : (nat_lt (position_or_len is_end rest) (length rest) ≡ true) ⊎ (nat_lt (position_or_len is_end rest) (length rest) ≡ false)
        → Passed text (after_first is_end rest) (number + 1)
    go (inl e) = next_ended so_far (ltb-true (position_or_len is_end rest) (length rest) e) is
    go (inr e) = next_last so_far some (ltb-false (position_or_len is_end rest) (length rest) e) is

-- the lines from a text's first line on
first_line : (text : List ℕ) → 0 < length text → lines_in text ≡ before_first is_end text ∷ lines_in (after_first is_end text)
first_line text some = go (cases_Bool (nat_lt (position_or_len is_end text) (length text)))
  where
    go : (nat_lt (position_or_len is_end text) (length text) ≡ true) ⊎ (nat_lt (position_or_len is_end text) (length text) ≡ false)
        → lines_in text ≡ before_first is_end text ∷ lines_in (after_first is_end text)
    go (inl e) = ended text (ltb-true (position_or_len is_end text) (length text) e)
    go (inr e) = last text some (ltb-false (position_or_len is_end text) (length text) e)

-- a line that begins with such a name
pub found : {text rest : List ℕ} {number : ℕ} (place : ℕ) → Passed text rest number → 0 < length rest
    → unrun_line (before_first is_end rest) ≡ Some place
    → (first_unrun 1 (lines_in text) ≡ Some (number + 1, place)) × (length text - length rest ≤ length text)
    × (lines_in (take (length text - length rest) text) ≡ take (number + 1 - 1) (lines_in text))
found {text} {rest} {number} place so_far some is =
    let both = ap length so_far.all ∙ length-append so_far.front rest in
    let front : take (length text - length rest) text ≡ so_far.front =
    ap (take (length text - length rest)) so_far.all
    ∙ take-append-le (length text - length rest) so_far.front rest (omega (arith, both))
    ∙ take_all (length text - length rest) so_far.front (omega (arith, both)) in
    let lines : take (number + 1 - 1) (lines_in text) ≡ lines_in so_far.front =
    ap (λ (bs : List ℕ). take (number + 1 - 1) (lines_in bs)) so_far.all
    ∙ ap (take (number + 1 - 1)) (so_far.apart some rest)
    ∙ take-append-le (number + 1 - 1) (lines_in so_far.front) (lines_in rest) (let many = so_far.lines in omega (arith, many))
    ∙ take_all (number + 1 - 1) (lines_in so_far.front) (let many = so_far.lines in omega (arith, many)) in (
      so_far.none ∙ ap (first_unrun (number + 1)) (first_line rest some)
          ∙ ap (λ (o : Option ℕ). option_or (option_map (λ (place : ℕ). (number + 1, place)) o)
          (first_unrun (number + 1 + 1) (lines_in (after_first is_end rest)))) is,
      omega arith,
      ap lines_in front ∙ sym lines,
    )

-- no line more
pub at_end : {text rest : List ℕ} {number : ℕ} → Passed text rest number → length rest ≡ 0 → first_unrun 1 (lines_in text) ≡ None
at_end {text} {rest} {number} so_far none =
    so_far.none ∙ ap (λ (bytes : List ℕ). first_unrun (number + 1) (lines_in bytes)) (nil_from_length rest none)
