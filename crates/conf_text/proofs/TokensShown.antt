-- What is taken of a text is its tokens, or the cause why it has none.
use Rattle.std.proofs.Common.{◌≡◌, ℕ, ◌+◌, Bool, true, false, List, [], ◌∷◌, ◌++◌, length, Option, Some, None, Ok, Err, refl, sym, ap}
use Rattle.std.proofs.Common.{subst, ◌∙◌, append_assoc, inl, inr, arith}
use Rattle.std.specs.Prelude.{if◌then◌else◌}
use Rattle.std.proofs.lemmas.List.Folds.{list_all-append}
use Rattle.std.proofs.lemmas.List.{append-nil, length-append}
use Rattle.conf_text.specs.declared.kind.Kind.{Kind}
use Rattle.conf_text.specs.declared.kind.Kind.TheVariants.{Quote, Backslash, LineFeed, Zero}
use Rattle.conf_text.specs.declared.refusal.ConfRefusal.{ConfRefusal}
use Rattle.conf_text.specs.declared.refusal.ConfRefusal.TheVariants.{BadToken, Unclosed}
use Rattle.conf_text.specs.declared.token.Token.{Token}
use Rattle.conf_text.specs.declared.token.TokenKind.TheVariants.{Word, Text, Mark}
use Rattle.conf_text.specs.Bytes.{kind}
use Rattle.conf_text.specs.Grammar.{is_name, IsName, IsGap, gap_byte, after_gap, is_escaped, is_allowed, IsContent, escaped}
use Rattle.conf_text.specs.Scan.{Mode, Between, InWord, InString, Scanned, is_quote, token, gap_went, between, closes, string_byte}
use Rattle.conf_text.specs.Scan.{string_went, after_word, step, ended, with_tokens, proceed, scan}
use Rattle.conf_text.specs.Tokens.{is_mark, BeginsToken, AreTokens, inside, Stops, StopsAfterTokens}
use Rattle.conf_text.proofs.KindTests.{quote_is, backslash_is, in_comment_bad, nothing_bad, escaped_allowed}
use Rattle.conf_text.proofs.ScanBytes.{with_none, after_word_goes}
use Rattle.conf_text.proofs.Pieces.{gap_append}
use Rattle.conf_text.proofs.Standing.{content_more, escaped_plain, escaped_mark}

-- ---- an outcome of a text from a place on

abbrev pub Shows : ℕ → List ℕ → Scanned → Type 0
Shows start text (Ok tokens) = AreTokens start text tokens
Shows start text (Err e) = StopsAfterTokens start text e

-- a token before it
shows_token : (start : ℕ) (text : List ℕ) (t : Token) (more : List ℕ) (s : Scanned) → BeginsToken start text t more → Shows t.to more s
    → Shows start text (with_tokens (t ∷ []) s)
shows_token start text t more (Ok ts) first h = record { gap = h.gap; begun = (more, first, h.begun); ended = h.ended }
shows_token start text t more (Err e) first h =
    let place : t.to + length more ≡ start + length text =
    omega (
      arith,
      first.from_is,
      first.to_is,
      ap length first.text_is,
      length-append first.gap (first.bytes ++ more),
      length-append first.bytes more,
    ) in
    record { before = t ∷ h.before; at = h.at; rest = h.rest; begun = (more, first, h.begun); at_is = h.at_is ∙ place; stops = h.stops }

shows_stop : (start : ℕ) (text : List ℕ) (e : ConfRefusal) → Stops start text e → Shows start text (Err e)
shows_stop start text e h = record { before = []; at = start; rest = text; begun = refl; at_is = refl; stops = h }

shows_as : (start : ℕ) (text other : List ℕ) (s : Scanned) → Shows start text s → text ≡ other → Shows start other s
shows_as start text other s h e = subst (λ t. Shows start t s) e h

shows_none : (start : ℕ) (text : List ℕ) (s : Scanned) → Shows start text s → Shows start text (with_tokens [] s)
shows_none start text s h = rw (with_none s) h

-- ---- what is claimed in each mode, of the bytes before and the rest

abbrev pub Claim : Mode → ℕ → List ℕ → Scanned → Type 0
Claim (Between c) at rest s =
    (start : ℕ) (gap : List ℕ) → after_gap false gap ≡ Some c → at ≡ start + length gap → Shows start (gap ++ rest) s
Claim (InWord from) at rest s =
    (start : ℕ) (gap word : List ℕ) → IsGap gap → IsName word → from ≡ start + length gap → at ≡ from + length word
    → Shows start (gap ++ (word ++ rest)) s
Claim (InString slash from) at rest s =
    (start : ℕ) (gap content : List ℕ) → IsGap gap → IsContent content → from ≡ start + length gap
    → at ≡ from + 1 + length (inside content slash) → Shows start (gap ++ 34 ∷ (inside content slash ++ rest)) s

-- ---- the end

end_claim : (mode : Mode) (at : ℕ) → Claim mode at [] (ended mode at)
end_claim (Between c) at = λ start gap so_far place. record { gap = gap ++ []; begun = refl; ended = rw (append-nil gap, so_far) refl }
end_claim (InWord from) at = λ start gap word is name begins place.
    record {
      gap = [];
      begun = (
        [],
        record {
          gap = gap;
          bytes = word;
          text_is = refl;
          gap_is = is;
          bytes_are = name;
          ends = tt;
          from_is = begins;
          to_is = place;
        },
        refl,
      );
      ended = refl;
    }
end_claim (InString slash from) at = λ start gap content is allowed begins place.
    shows_stop start _ (Unclosed from) (record {
      gap = gap;
      content = content;
      slash = slash;
      text_is = ap (λ s. gap ++ 34 ∷ s) (append-nil (inside content slash));
      gap_is = is;
      content_is = allowed;
      place_is = begins;
    })

-- ---- one byte more

name_more : (word : List ℕ) (b : ℕ) → IsName word → is_name (kind b) ≡ true → IsName (word ++ b ∷ [])
name_more word b name e = (
  λ none. absurd (omega (arith, ap length none, length-append word (b ∷ []))),
  list_all-append (λ c. is_name (kind c)) word (b ∷ []) ∙ rw (name.1, e) refl,
)

module _ (at b : ℕ) (bs : List ℕ) (later : (m : Mode) → Claim m (at + 1) bs (scan m (at + 1) bs)) where
  token_claim : (n q m : Bool) → is_name (kind b) ≡ n → is_quote (kind b) ≡ q → is_mark (kind b) ≡ m → gap_byte false (kind b) ≡ None
      → Claim (Between false) at (b ∷ bs) (proceed
      (if n then Ok ([], InWord at) else if q then Ok ([], InString false at) else if m then Ok (token at (at + 1) Mark ∷ [], Between false)
      else Err (BadToken at)) (λ next. scan next (at + 1) bs))
  token_claim true q m is_n is_q is_m none = λ start gap so_far place.
      shows_none start _ _ (later (InWord at) start gap (b ∷ []) so_far (λ e. cc, rw is_n refl) place (omega arith))
  token_claim false true m is_n is_q is_m none = λ start gap so_far place.
      shows_none start _ _ (shows_as start _ _ _ (later (InString false at) start gap [] so_far refl place (omega arith))
      (ap (λ c. gap ++ c ∷ bs) (sym (quote_is b is_q))))
  token_claim false false true is_n is_q is_m none = λ start gap so_far place.
      shows_token start _ (token at (at + 1) Mark) bs _
      (record {
        gap = gap;
        bytes = b ∷ [];
        text_is = refl;
        gap_is = so_far;
        bytes_are = (b, is_m, refl);
        ends = tt;
        from_is = place;
        to_is = omega arith;
      })
      (later (Between false) (at + 1) [] refl (omega arith))
  token_claim false false false is_n is_q is_m none = λ start gap so_far place.
      shows_stop start _ (BadToken at) (inl (record {
        gap = gap;
        comment = false;
        byte = b;
        more = bs;
        text_is = refl;
        gap_is = so_far;
        bad = nothing_bad (kind b) none is_n is_q is_m;
        place_is = place;
      }))

  gap_claim : (c : Bool) (o : Option Bool) → gap_byte c (kind b) ≡ o
      → Claim (Between c) at (b ∷ bs) (proceed (gap_went c o (kind b) at) (λ next. scan next (at + 1) bs))
  gap_claim c (Some d) e = λ start gap so_far place.
      let here : at + 1 ≡ start + length (gap ++ b ∷ []) = omega (arith, length-append gap (b ∷ [])) in
      shows_none start _ _ (shows_as start _ _ _
      (later (Between d) start (gap ++ b ∷ []) (gap_append false gap (b ∷ []) c d so_far (rw e refl)) here)
      (append_assoc gap (b ∷ []) bs))
  gap_claim true None e = λ start gap so_far place.
      shows_stop start _ (BadToken at) (inl (record {
        gap = gap;
        comment = true;
        byte = b;
        more = bs;
        text_is = refl;
        gap_is = so_far;
        bad = in_comment_bad (kind b) e;
        place_is = place;
      }))
  gap_claim false None e = token_claim (is_name (kind b)) (is_quote (kind b)) (is_mark (kind b)) refl refl refl e

  word_claim : (from : ℕ) (n : Bool) → is_name (kind b) ≡ n
      → Claim (InWord from) at (b ∷ bs) (proceed
      (if n then Ok ([], InWord from) else after_word (token from at Word) (between false (kind b) at)) (λ next. scan next (at + 1) bs))
  word_claim from true e = λ start gap word is name begins place.
      let here : at + 1 ≡ from + length (word ++ b ∷ []) = omega (arith, length-append word (b ∷ [])) in
      shows_none start _ _ (shows_as start _ _ _ (later (InWord from) start gap (word ++ b ∷ []) is (name_more word b name e) begins here)
      (ap (λ s. gap ++ s) (append_assoc word (b ∷ []) bs)))
  word_claim from false e = λ start gap word is name begins place.
      let next : Claim (Between false) at (b ∷ bs) (proceed (between false (kind b) at) (λ next. scan next (at + 1) bs)) =
      gap_claim false (gap_byte false (kind b)) refl in
      rw (after_word_goes (token from at Word) (between false (kind b) at) (λ next. scan next (at + 1) bs))
      (shows_token start _ (token from at Word) (b ∷ bs) _
      (record { gap = gap; bytes = word; text_is = refl; gap_is = is; bytes_are = name; ends = e; from_is = begins; to_is = place })
      (next at [] refl (omega arith)))

  escape_claim : (from : ℕ) (x : Bool) → is_escaped (kind b) ≡ x
      → Claim (InString true from) at (b ∷ bs)
      (proceed (string_went from (if x then Some false else None) at) (λ next. scan next (at + 1) bs))
  escape_claim from true e = λ start gap content is allowed begins place.
      let longer : escaped (content ++ b ∷ []) ≡ escaped content ++ 92 ∷ b ∷ [] = escaped_mark content b e in
      let here : at + 1 ≡ from + 1 + length (escaped (content ++ b ∷ [])) =
      rw longer (omega (arith, length-append (escaped content) (92 ∷ b ∷ []), length-append (escaped content) (92 ∷ []))) in
      let same : escaped (content ++ b ∷ []) ++ bs ≡ (escaped content ++ 92 ∷ []) ++ b ∷ bs = rw longer (simp append_assoc refl) in
      shows_none start _ _ (shows_as start _ _ _
      (later (InString false from) start gap (content ++ b ∷ []) is (content_more content b allowed (escaped_allowed (kind b) e)) begins
      here) (ap (λ s. gap ++ 34 ∷ s) same))
  escape_claim from false e = λ start gap content is allowed begins place.
      shows_stop start _ (BadToken at) (inr (record {
        gap = gap;
        content = content;
        slash = true;
        byte = b;
        more = bs;
        text_is = refl;
        gap_is = is;
        content_is = allowed;
        bad = e;
        place_is = place ∙ ap (λ n. n + 1 + length (inside content true)) begins;
      }))

  content_claim : (from : ℕ) → is_escaped (kind b) ≡ false → is_allowed (kind b) ≡ true
      → Claim (InString false from) at (b ∷ bs) (with_tokens [] (scan (InString false from) (at + 1) bs))
  content_claim from e f = λ start gap content is allowed begins place.
      let longer : escaped (content ++ b ∷ []) ≡ escaped content ++ b ∷ [] = escaped_plain content b e in
      let here : at + 1 ≡ from + 1 + length (escaped (content ++ b ∷ [])) =
      rw longer (omega (arith, length-append (escaped content) (b ∷ []))) in
      let same : escaped (content ++ b ∷ []) ++ bs ≡ escaped content ++ b ∷ bs = rw longer (simp append_assoc refl) in
      shows_none start _ _ (shows_as start _ _ _
      (later (InString false from) start gap (content ++ b ∷ []) is (content_more content b allowed f) begins here)
      (ap (λ s. gap ++ 34 ∷ s) same))

  bad_claim : (from : ℕ) → is_allowed (kind b) ≡ false → Claim (InString false from) at (b ∷ bs) (Err (BadToken at))
  bad_claim from e = λ start gap content is allowed begins place.
      shows_stop start _ (BadToken at) (inr (record {
        gap = gap;
        content = content;
        slash = false;
        byte = b;
        more = bs;
        text_is = refl;
        gap_is = is;
        content_is = allowed;
        bad = e;
        place_is = place ∙ ap (λ n. n + 1 + length (inside content false)) begins;
      }))

  slash_claim : (from : ℕ) → kind b ≡ Backslash
      → Claim (InString false from) at (b ∷ bs) (with_tokens [] (scan (InString true from) (at + 1) bs))
  slash_claim from e = λ start gap content is allowed begins place.
      let here : at + 1 ≡ from + 1 + length (escaped content ++ 92 ∷ []) = omega (arith, length-append (escaped content) (92 ∷ [])) in
      let same : (escaped content ++ 92 ∷ []) ++ bs ≡ escaped content ++ b ∷ bs = rw (backslash_is b e) (simp append_assoc refl) in
      shows_none start _ _ (shows_as start _ _ _ (later (InString true from) start gap content is allowed begins here)
      (ap (λ s. gap ++ 34 ∷ s) same))

  plain_claim : (from : ℕ) (k : Kind) → kind b ≡ k → is_quote k ≡ false
      → Claim (InString false from) at (b ∷ bs) (proceed (string_went from (string_byte false k) at) (λ next. scan next (at + 1) bs))
  plain_claim from Quote e f = absurd cc
  plain_claim from Backslash e f = slash_claim from e
  plain_claim from LineFeed e f = bad_claim from (rw e refl)
  plain_claim from Zero e f = bad_claim from (rw e refl)
  plain_claim from _ e f = content_claim from (rw e refl) (rw e refl)

  string_claim : (slash : Bool) (from : ℕ) (q : Bool) → closes slash (kind b) ≡ q
      → Claim (InString slash from) at (b ∷ bs)
      (proceed (if q then Ok (token from (at + 1) Text ∷ [], Between false) else string_went from (string_byte slash (kind b)) at)
      (λ next. scan next (at + 1) bs))
  string_claim true from true e = absurd cc
  string_claim true from false e = escape_claim from (is_escaped (kind b)) refl
  string_claim false from true e = λ start gap content is allowed begins place.
      let whole : gap ++ 34 ∷ (escaped content ++ b ∷ bs) ≡ gap ++ ((34 ∷ escaped content ++ 34 ∷ []) ++ bs) =
      rw (quote_is b e) (simp append_assoc refl) in
      let long : at + 1 ≡ from + length (34 ∷ escaped content ++ 34 ∷ []) = omega (arith, length-append (escaped content) (34 ∷ [])) in
      shows_token start _ (token from (at + 1) Text) bs _
      (record {
        gap = gap;
        bytes = 34 ∷ escaped content ++ 34 ∷ [];
        text_is = whole;
        gap_is = is;
        bytes_are = (content, allowed, refl);
        ends = tt;
        from_is = begins;
        to_is = long;
      })
      (later (Between false) (at + 1) [] refl (omega arith))
  string_claim false from false e = plain_claim from (kind b) refl e

  step_claim : (mode : Mode) → Claim mode at (b ∷ bs) (proceed (step mode (kind b) at) (λ next. scan next (at + 1) bs))
  step_claim (Between c) = gap_claim c (gap_byte c (kind b)) refl
  step_claim (InWord from) = word_claim from (is_name (kind b)) refl
  step_claim (InString slash from) = string_claim slash from (closes slash (kind b)) refl

claims : (rest : List ℕ) (mode : Mode) (at : ℕ) → Claim mode at rest (scan mode at rest)
unfolding scan
claims [] mode at = end_claim mode at
claims (b ∷ bs) mode at = step_claim at b bs (λ m. claims bs m (at + 1)) mode

-- what is taken of a text is its tokens, or the cause why it has none
pub shown : (text : List ℕ) → Shows 0 text (scan (Between false) 0 text)
shown text = claims text (Between false) 0 0 [] refl refl
