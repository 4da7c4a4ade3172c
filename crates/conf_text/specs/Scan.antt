-- Taking a text's tokens byte by byte.
use Rattle.std.specs.Prelude.{◌≡◌, ℕ, ◌+◌, Bool, true, false, if◌then◌else◌, List, [], ◌∷◌, ◌++◌, drop, Option, Some, None, Result, Ok, Err}
use Rattle.conf_text.specs.declared.kind.Kind.{Kind}
use Rattle.conf_text.specs.declared.kind.Kind.TheVariants.{Quote, Backslash}
use Rattle.conf_text.specs.declared.refusal.ConfRefusal.{ConfRefusal}
use Rattle.conf_text.specs.declared.refusal.ConfRefusal.TheVariants.{NoMemory, BadToken, Unclosed}
use Rattle.conf_text.specs.declared.token.Token.{Token}
use Rattle.conf_text.specs.declared.token.TokenKind.{TokenKind}
use Rattle.conf_text.specs.declared.token.TokenKind.TheVariants.{Word, Text, Mark}
use Rattle.conf_text.specs.Bytes.{kind}
use Rattle.conf_text.specs.Grammar.{is_name, gap_byte, is_escaped, is_allowed}
use Rattle.conf_text.specs.Tokens.{is_mark}

-- between tokens with a comment open or not, in a word from this place on, or in a string behind a backslash or not
pub data Mode : Type 0 where
  Between : Bool → Mode
  InWord : ℕ → Mode
  InString : Bool → ℕ → Mode

-- the tokens of a text, or why it has none
abbrev pub Scanned : Type 0
Scanned = Result (List Token) ConfRefusal

-- the tokens that a byte ends, and what comes after it
abbrev pub Step : Type 0
Step = Result (List Token × Mode) ConfRefusal

-- a token with its places
abbrev pub token : ℕ → ℕ → TokenKind → Token
token from to k = record { from = from; to = to; kind = k }

-- the kind of a quote
abbrev pub is_quote : Kind → Bool
is_quote Quote = true
is_quote _ = false

-- a byte that is no part of a gap
abbrev pub token_begun : Kind → ℕ → Step
token_begun k at =
    if is_name k then Ok ([], InWord at)
    else if is_quote k then Ok ([], InString false at)
    else if is_mark k then Ok (token at (at + 1) Mark ∷ [], Between false)
    else Err (BadToken at)

-- what a byte does between tokens, by what it does to the gap: it goes on with it, or ends it
abbrev pub gap_went : Bool → Option Bool → Kind → ℕ → Step
gap_went comment (Some next) k at = Ok ([], Between next)
gap_went true None k at = Err (BadToken at)
gap_went false None k at = token_begun k at

-- a byte between tokens
abbrev pub between : Bool → Kind → ℕ → Step
between comment k at = gap_went comment (gap_byte comment k) k at

-- the word before the tokens that a byte ends
abbrev pub after_word : Token → Step → Step
after_word word (Ok went) = Ok (word ∷ went.0, went.1)
after_word word (Err e) = Err e

-- a byte where a word is open
abbrev pub in_word : ℕ → Kind → ℕ → Step
in_word from k at = if is_name k then Ok ([], InWord from) else after_word (token from at Word) (between false k at)

-- whether a backslash is open after a byte of a string, or None where the byte can't stand there
abbrev pub string_byte : Bool → Kind → Option Bool
string_byte true k = if is_escaped k then Some false else None
string_byte false Backslash = Some true
string_byte false k = if is_allowed k then Some false else None

-- the quote that ends a string
abbrev pub closes : Bool → Kind → Bool
closes true k = false
closes false k = is_quote k

-- what a byte does in a string that it doesn't end
abbrev pub string_went : ℕ → Option Bool → ℕ → Step
string_went from (Some slash) at = Ok ([], InString slash from)
string_went from None at = Err (BadToken at)

-- a byte where a string is open
abbrev pub in_string : Bool → ℕ → Kind → ℕ → Step
in_string slash from k at =
    if closes slash k then Ok (token from (at + 1) Text ∷ [], Between false) else string_went from (string_byte slash k) at

-- a byte in any of the modes
abbrev pub step : Mode → Kind → ℕ → Step
step (Between comment) k at = between comment k at
step (InWord from) k at = in_word from k at
step (InString slash from) k at = in_string slash from k at

-- the text's end in any of the modes
abbrev pub ended : Mode → ℕ → Scanned
ended (Between comment) at = Ok []
ended (InWord from) at = Ok (token from at Word ∷ [])
ended (InString slash from) at = Err (Unclosed from)

-- tokens before those of the rest
abbrev pub with_tokens : List Token → Scanned → Scanned
with_tokens ts (Ok us) = Ok (ts ++ us)
with_tokens ts (Err e) = Err e

-- the tokens of a byte, and those that the rest has in the mode behind it
abbrev pub proceed : Step → (Mode → Scanned) → Scanned
proceed (Ok went) f = with_tokens went.0 (f went.1)
proceed (Err e) f = Err e

-- the tokens of the rest of a text, from this place on
unfoldable pub scan : Mode → ℕ → List ℕ → Scanned
scan mode at [] = ended mode at
scan mode at (b ∷ bs) = proceed (step mode (kind b) at) (λ next. scan next (at + 1) bs)

-- the same of a text from a place in it on
abbrev pub scan_at : List ℕ → Mode → ℕ → Scanned
scan_at text mode at = scan mode at (drop at text)

-- the refusal comes of this, or memory is wanting
abbrev pub IsRefused : Scanned → ConfRefusal → Type 0
IsRefused scanned NoMemory = Unit {0}
IsRefused scanned refusal = scanned ≡ Err refusal

-- from this place on there is the token, and what is taken behind it
abbrev pub Takes : List ℕ → Mode → ℕ → Token → Type 0
Takes text mode at t = scan_at text mode at ≡ with_tokens (t ∷ []) (scan_at text (Between false) t.to)

-- from this place on there is no token, and this is why
abbrev pub Refuses : List ℕ → Mode → ℕ → ConfRefusal → Type 0
Refuses text mode at refusal = scan_at text mode at ≡ Err refusal
