-- The tokens of a text with their places, or why it has none.
use Rattle.std.specs.Prelude.{◌≡◌, ℕ, ◌+◌, Bool, true, false, ◌⊎◌, List, [], ◌∷◌, ◌++◌, length, Some, IsTrue}
use Rattle.conf_text.specs.declared.kind.Kind.{Kind}
use Rattle.conf_text.specs.declared.kind.Kind.TheVariants.{Backslash, OpenBrace, CloseBrace, OpenBracket, CloseBracket, Equals, Comma, Zero}
use Rattle.conf_text.specs.declared.kind.Kind.TheVariants.{Other}
use Rattle.conf_text.specs.declared.refusal.ConfRefusal.{ConfRefusal}
use Rattle.conf_text.specs.declared.refusal.ConfRefusal.TheVariants.{NoMemory, BadToken, Unclosed}
use Rattle.conf_text.specs.declared.token.Token.{Token}
use Rattle.conf_text.specs.declared.token.TokenKind.{TokenKind}
use Rattle.conf_text.specs.declared.token.TokenKind.TheVariants.{Word, Text, Mark}
use Rattle.conf_text.specs.Bytes.{kind}
use Rattle.conf_text.specs.Grammar.{IsName, EndsWord, after_gap, IsGap, IsLastGap, is_escaped, is_allowed, IsContent, escaped}

-- one of `{ } [ ] = ,`
abbrev pub is_mark : Kind → Bool
is_mark OpenBrace = true
is_mark CloseBrace = true
is_mark OpenBracket = true
is_mark CloseBracket = true
is_mark Equals = true
is_mark Comma = true
is_mark _ = false

-- the bytes of a token: of a name or a number, of a string in quotes, or a mark
abbrev pub IsTokenBytes : TokenKind → List ℕ → Type 0
IsTokenBytes Word bytes = IsName bytes
IsTokenBytes Text bytes = (s : List ℕ) × IsContent s × (bytes ≡ 34 ∷ escaped s ++ 34 ∷ [])
IsTokenBytes Mark bytes = (b : ℕ) × IsTrue (is_mark (kind b)) × (bytes ≡ b ∷ [])

-- what comes next: no byte of a name behind a word
abbrev pub EndsToken : TokenKind → List ℕ → Type 0
EndsToken Word rest = EndsWord rest
EndsToken _ rest = Unit {0}

-- from this place on the text is a gap, the token and the rest
pub record BeginsToken (start : ℕ) (text : List ℕ) (token : Token) (rest : List ℕ) : Type 0 where
  pub gap : List ℕ
  pub bytes : List ℕ
  pub text_is : text ≡ gap ++ (bytes ++ rest)
  pub gap_is : IsGap gap
  pub bytes_are : IsTokenBytes token.kind bytes
  pub ends : EndsToken token.kind rest
  pub from_is : token.from ≡ start + length gap
  pub to_is : token.to ≡ token.from + length bytes

-- from this place on the text is these tokens, with gaps before them, and the rest
abbrev pub BeginsTokens : ℕ → List ℕ → List Token → List ℕ → Type 0
BeginsTokens start text [] rest = text ≡ rest
BeginsTokens start text (t ∷ ts) rest = (more : List ℕ) × BeginsToken start text t more × BeginsTokens t.to more ts rest

-- these are the tokens of a text that begins at this place
pub record AreTokens (start : ℕ) (text : List ℕ) (tokens : List Token) : Type 0 where
  pub gap : List ℕ
  pub begun : BeginsTokens start text tokens gap
  pub ended : IsLastGap gap

-- these are the tokens of the text
abbrev pub IsTokensOf : List ℕ → List Token → Type 0
IsTokensOf text tokens = AreTokens 0 text tokens

-- whether a byte may stand where no token is open: in a comment, or to go on with a gap or to begin a token
abbrev pub may_stand : Bool → Kind → Bool
may_stand true Zero = false
may_stand true _ = true
may_stand false Backslash = false
may_stand false Zero = false
may_stand false Other = false
may_stand false _ = true

-- whether a byte may stand in a string, behind a backslash or not
abbrev pub may_stand_in_string : Bool → Kind → Bool
may_stand_in_string true k = is_escaped k
may_stand_in_string false k = is_allowed k

-- what stands in a string so far, and a backslash behind it or not
abbrev pub inside : List ℕ → Bool → List ℕ
inside content true = escaped content ++ 92 ∷ []
inside content false = escaped content

-- a byte that begins no token, or a zero in a comment
pub record IsBadBetween (start : ℕ) (text : List ℕ) (place : ℕ) : Type 0 where
  pub gap : List ℕ
  pub comment : Bool
  pub byte : ℕ
  pub more : List ℕ
  pub text_is : text ≡ gap ++ byte ∷ more
  pub gap_is : after_gap false gap ≡ Some comment
  pub bad : may_stand comment (kind byte) ≡ false
  pub place_is : place ≡ start + length gap

-- a byte that may not stand in a string
pub record IsBadInString (start : ℕ) (text : List ℕ) (place : ℕ) : Type 0 where
  pub gap : List ℕ
  pub content : List ℕ
  pub slash : Bool
  pub byte : ℕ
  pub more : List ℕ
  pub text_is : text ≡ gap ++ 34 ∷ (inside content slash ++ byte ∷ more)
  pub gap_is : IsGap gap
  pub content_is : IsContent content
  pub bad : may_stand_in_string slash (kind byte) ≡ false
  pub place_is : place ≡ start + length gap + 1 + length (inside content slash)

-- a string that the text's end cuts
pub record IsCutString (start : ℕ) (text : List ℕ) (place : ℕ) : Type 0 where
  pub gap : List ℕ
  pub content : List ℕ
  pub slash : Bool
  pub text_is : text ≡ gap ++ 34 ∷ inside content slash
  pub gap_is : IsGap gap
  pub content_is : IsContent content
  pub place_is : place ≡ start + length gap

-- why there is no token from this place on
abbrev pub Stops : ℕ → List ℕ → ConfRefusal → Type 0
Stops start text (BadToken place) = IsBadBetween start text place ⊎ IsBadInString start text place
Stops start text (Unclosed place) = IsCutString start text place
Stops start text _ = ⊥

-- why a text that begins at this place has no tokens: some are there before the cause
pub record StopsAfterTokens (start : ℕ) (text : List ℕ) (refusal : ConfRefusal) : Type 0 where
  pub before : List Token
  pub at : ℕ
  pub rest : List ℕ
  pub begun : BeginsTokens start text before rest
  pub at_is : at + length rest ≡ start + length text
  pub stops : Stops at rest refusal

-- why a text has no tokens; memory may be wanting whatever the text
abbrev pub IsTokenCause : List ℕ → ConfRefusal → Type 0
IsTokenCause text NoMemory = Unit {0}
IsTokenCause text refusal = StopsAfterTokens 0 text refusal
