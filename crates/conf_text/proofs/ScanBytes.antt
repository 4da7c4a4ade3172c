-- What a byte does while a text's tokens are taken.
use Rattle.std.proofs.Common.{◌≡◌, ℕ, ◌+◌, ◌<◌, ◌≤◌, Bool, true, false, List, [], ◌∷◌, length, get_or, drop, Option, Some, None, Ok, Err}
use Rattle.std.proofs.Common.{refl, sym, ap, ◌∙◌, add-one}
use Rattle.std.proofs.Math.Seq.{drop-cons}
use Rattle.std.proofs.lemmas.List.{drop_all}
use Rattle.conf_text.specs.declared.refusal.ConfRefusal.TheVariants.{BadToken}
use Rattle.conf_text.specs.declared.token.Token.{Token}
use Rattle.conf_text.specs.declared.token.TokenKind.TheVariants.{Word, Text, Mark}
use Rattle.conf_text.specs.Bytes.{kind}
use Rattle.conf_text.specs.Grammar.{is_name, gap_byte}
use Rattle.conf_text.specs.Tokens.{is_mark}
use Rattle.conf_text.specs.Scan.{Mode, Between, InWord, InString, is_quote, Scanned, Step, token, gap_went, between, after_word}
use Rattle.conf_text.specs.Scan.{string_byte, closes, step, ended, with_tokens, proceed, scan, scan_at}
use Rattle.conf_text.proofs.KindTests.{name_no_gap, quote_no_gap, quote_no_name, mark_no_gap, mark_no_name, mark_no_quote}

pub with_none : (s : Scanned) → with_tokens [] s ≡ s
with_none (Ok ts) = refl
with_none (Err e) = refl

pub with_more : (t : Token) (ts : List Token) (s : Scanned) → with_tokens (t ∷ ts) s ≡ with_tokens (t ∷ []) (with_tokens ts s)
with_more t ts (Ok us) = refl
with_more t ts (Err e) = refl

pub after_word_goes : (word : Token) (s : Step) (f : Mode → Scanned) → proceed (after_word word s) f ≡ with_tokens (word ∷ []) (proceed s f)
after_word_goes word (Ok went) f = with_more word went.0 (f went.1)
after_word_goes word (Err e) f = refl

-- ---- at a place of a text

-- what is taken from a place on is what its byte does
pub scan_here : (text : List ℕ) (mode : Mode) (at : ℕ) → at < length text
    → scan_at text mode at ≡ scan mode at (get_or text at 0 ∷ drop (at + 1) text)
scan_here text mode at within = ap (scan mode at) (rw add-one (drop-cons text at 0 within))

pub scan_end : (text : List ℕ) (mode : Mode) (at : ℕ) → length text ≤ at → scan_at text mode at ≡ ended mode at
unfolding scan
scan_end text mode at over = rw (drop_all at text over) refl

-- ---- a byte and the rest

pub scan_byte : (mode : Mode) (at b : ℕ) (bs : List ℕ)
    → scan mode at (b ∷ bs) ≡ proceed (step mode (kind b) at) (λ next. scan next (at + 1) bs)
unfolding scan
scan_byte mode at b bs = refl

pub scan_none : (mode : Mode) (at : ℕ) → scan mode at [] ≡ ended mode at
unfolding scan
scan_none mode at = refl

module _ (at b : ℕ) (bs : List ℕ) where
  -- between tokens
  gap_went_by : (c : Bool) {o : Option Bool} → gap_byte c (kind b) ≡ o
      → scan (Between c) at (b ∷ bs) ≡ proceed (gap_went c o (kind b) at) (λ m. scan m (at + 1) bs)
  gap_went_by c e = scan_byte (Between c) at b bs ∙ ap (λ o. proceed (gap_went c o (kind b) at) (λ m. scan m (at + 1) bs)) e

  pub gap_goes : (c d : Bool) → gap_byte c (kind b) ≡ Some d → scan (Between c) at (b ∷ bs) ≡ scan (Between d) (at + 1) bs
  gap_goes c d e = gap_went_by c e ∙ with_none _

  pub comment_stuck : (c : Bool) → c ≡ true → gap_byte c (kind b) ≡ None → scan (Between c) at (b ∷ bs) ≡ Err (BadToken at)
  comment_stuck true h e = gap_went_by true e
  comment_stuck false h e = absurd cc

  pub word_begins : is_name (kind b) ≡ true → scan (Between false) at (b ∷ bs) ≡ scan (InWord at) (at + 1) bs
  word_begins e = gap_went_by false (name_no_gap (kind b) e) ∙ rw e (with_none _)

  pub string_begins : is_quote (kind b) ≡ true → scan (Between false) at (b ∷ bs) ≡ scan (InString false at) (at + 1) bs
  string_begins e = gap_went_by false (quote_no_gap (kind b) e) ∙ rw (quote_no_name (kind b) e, e) (with_none _)

  pub mark_taken : is_mark (kind b) ≡ true
      → scan (Between false) at (b ∷ bs) ≡ with_tokens (token at (at + 1) Mark ∷ []) (scan (Between false) (at + 1) bs)
  mark_taken e = gap_went_by false (mark_no_gap (kind b) e) ∙ rw (mark_no_name (kind b) e, mark_no_quote (kind b) e, e) refl

  pub nothing_begins : gap_byte false (kind b) ≡ None → is_name (kind b) ≡ false → is_quote (kind b) ≡ false → is_mark (kind b) ≡ false
      → scan (Between false) at (b ∷ bs) ≡ Err (BadToken at)
  nothing_begins none name quote mark = gap_went_by false none ∙ rw (name, quote, mark) refl

  -- in a word
  pub word_goes : (from : ℕ) → is_name (kind b) ≡ true → scan (InWord from) at (b ∷ bs) ≡ scan (InWord from) (at + 1) bs
  word_goes from e = scan_byte (InWord from) at b bs ∙ rw e (with_none _)

  pub word_stops : (from : ℕ) → is_name (kind b) ≡ false
      → scan (InWord from) at (b ∷ bs) ≡ with_tokens (token from at Word ∷ []) (scan (Between false) at (b ∷ bs))
  word_stops from e =
      scan_byte (InWord from) at b bs ∙ rw e (after_word_goes (token from at Word) (between false (kind b) at) (λ m. scan m (at + 1) bs))
      ∙ ap (with_tokens (token from at Word ∷ [])) (sym (scan_byte (Between false) at b bs))

  -- in a string
  pub string_goes : (slash next : Bool) (from : ℕ) → closes slash (kind b) ≡ false → string_byte slash (kind b) ≡ Some next
      → scan (InString slash from) at (b ∷ bs) ≡ scan (InString next from) (at + 1) bs
  string_goes slash next from e f = scan_byte (InString slash from) at b bs ∙ rw (e, f) (with_none _)

  pub string_stuck : (slash : Bool) (from : ℕ) → closes slash (kind b) ≡ false → string_byte slash (kind b) ≡ None
      → scan (InString slash from) at (b ∷ bs) ≡ Err (BadToken at)
  string_stuck slash from e f = scan_byte (InString slash from) at b bs ∙ rw (e, f) refl

  pub string_closes : (slash : Bool) (from : ℕ) → closes slash (kind b) ≡ true
      → scan (InString slash from) at (b ∷ bs) ≡ with_tokens (token from (at + 1) Text ∷ []) (scan (Between false) (at + 1) bs)
  string_closes slash from e = scan_byte (InString slash from) at b bs ∙ rw e refl
