-- lvm2's text metadata: which text stands for which tree.
use Rattle.std.specs.Prelude.{◌≡◌, ◌≢◌, ℕ, Bool, true, false, if◌then◌else◌, List, [], ◌∷◌, ◌++◌, Option, Some, None, IsTrue, IsSome}
use Rattle.std.specs.Option.{option_and_then}
use Rattle.std.specs.List.{list_all}
use Rattle.std.specs.Str.Parse.{digits_value}
use Rattle.conf_text.specs.declared.kind.Kind.{Kind}
use Rattle.conf_text.specs.declared.kind.Kind.TheVariants.{Digit, Letter, Blank, LineFeed, Hash, Quote, Backslash, Zero}
use Rattle.conf_text.specs.Bytes.{kind}
use Rattle.conf_text.specs.Entries.{Scalar, Number, Text, Value, One, Many, ConfEntry, Open, Close, Assign, IsBalanced, KeepsLimits}

-- a digit
abbrev pub is_digit : Kind → Bool
is_digit Digit = true
is_digit _ = false

-- a byte of a name
abbrev pub is_name : Kind → Bool
is_name Digit = true
is_name Letter = true
is_name _ = false

-- letters, digits, `_`, `.`, `+` and `-`, one or more
abbrev pub IsName : List ℕ → Type 0
IsName name = (name ≢ []) × IsTrue (list_all (λ b. is_name (kind b)) name)

-- digits, one or more
abbrev pub IsDigits : List ℕ → Type 0
IsDigits digits = (digits ≢ []) × IsTrue (list_all (λ b. is_digit (kind b)) digits)

-- no byte of a name comes next
abbrev pub EndsWord : List ℕ → Type 0
EndsWord [] = Unit {0}
EndsWord (b ∷ bs) = is_name (kind b) ≡ false

-- Whether a comment is open after this byte between tokens, or None where the byte can't stand there.
abbrev pub gap_byte : Bool → Kind → Option Bool
gap_byte true LineFeed = Some false
gap_byte true Zero = None
gap_byte true _ = Some true
gap_byte false Blank = Some false
gap_byte false LineFeed = Some false
gap_byte false Hash = Some true
gap_byte false _ = None

-- the same of several bytes
abbrev pub after_gap : Bool → List ℕ → Option Bool
after_gap comment [] = Some comment
after_gap comment (b ∷ bs) = option_and_then (λ next. after_gap next bs) (gap_byte comment (kind b))

-- blanks and whole comments, or nothing
abbrev pub IsGap : List ℕ → Type 0
IsGap bytes = after_gap false bytes ≡ Some false

-- the same, and the last comment may go on to the end of the text
abbrev pub IsLastGap : List ℕ → Type 0
IsLastGap bytes = IsSome (after_gap false bytes)

-- a backslash stands before it in a string
abbrev pub is_escaped : Kind → Bool
is_escaped Quote = true
is_escaped Backslash = true
is_escaped _ = false

-- it may stand in a string
abbrev pub is_allowed : Kind → Bool
is_allowed LineFeed = false
is_allowed Zero = false
is_allowed _ = true

-- without line feeds and zeros
abbrev pub IsContent : List ℕ → Type 0
IsContent s = IsTrue (list_all (λ b. is_allowed (kind b)) s)

-- with a backslash before each quote and backslash
abbrev pub escaped : List ℕ → List ℕ
escaped [] = []
escaped (b ∷ bs) = if is_escaped (kind b) then 92 ∷ b ∷ escaped bs else b ∷ escaped bs

-- digits with their number, or a string in quotes
abbrev pub IsScalar : List ℕ → Scalar → Type 0
IsScalar bytes (Number n) = IsDigits bytes × (n ≡ digits_value 10 bytes)
IsScalar bytes (Text s) = IsContent s × (bytes ≡ 34 ∷ escaped s ++ 34 ∷ [])

-- scalars with gaps round them and commas between
abbrev pub IsArray : List ℕ → List Scalar → Type 0
IsArray bytes [] = IsGap bytes
IsArray bytes (s ∷ []) = (g x h : List ℕ) × IsGap g × IsScalar x s × IsGap h × (bytes ≡ g ++ x ++ h)
IsArray bytes (s ∷ t ∷ ss) =
    (g x h rest : List ℕ) × IsGap g × IsScalar x s × IsGap h × IsArray rest (t ∷ ss) × (bytes ≡ g ++ x ++ h ++ 44 ∷ rest)

-- a scalar, or an array in brackets
abbrev pub IsValue : List ℕ → Value → Type 0
IsValue bytes (One s) = IsScalar bytes s
IsValue bytes (Many ss) = (inner : List ℕ) × IsArray inner ss × (bytes ≡ 91 ∷ inner ++ 93 ∷ [])

-- what stands before a brace
abbrev pub IsHeader : List ℕ → List ℕ → Type 0
IsHeader bytes name = (g h : List ℕ) × IsGap g × IsName name × IsGap h × (bytes ≡ g ++ name ++ h)

-- what stands before a value
abbrev pub IsKey : List ℕ → List ℕ → Type 0
IsKey bytes name = (g h k : List ℕ) × IsGap g × IsName name × IsGap h × IsGap k × (bytes ≡ g ++ name ++ h ++ 61 ∷ k)

-- the bytes of an entry, with the gap before it
abbrev pub IsEntry : List ℕ → ConfEntry → Type 0
IsEntry bytes (Open name) = (front : List ℕ) × IsHeader front name × (bytes ≡ front ++ 123 ∷ [])
IsEntry bytes Close = (g : List ℕ) × IsGap g × (bytes ≡ g ++ 125 ∷ [])
IsEntry bytes (Assign name value) = (key x : List ℕ) × IsKey key name × IsValue x value × (bytes ≡ key ++ x)

-- a number ends where no byte of a name comes next
abbrev pub EndsEntry : ConfEntry → List ℕ → Type 0
EndsEntry (Assign name (One (Number n))) rest = EndsWord rest
EndsEntry _ rest = Unit {0}

-- the text begins with these entries, and goes on with the rest
abbrev pub BeginsWith : List ℕ → List ConfEntry → List ℕ → Type 0
BeginsWith text [] rest = text ≡ rest
BeginsWith text (e ∷ es) rest = (x more : List ℕ) × (text ≡ x ++ more) × IsEntry x e × EndsEntry e more × BeginsWith more es rest

-- the text has these entries, whether they keep the limits or not
pub record Spells (text : List ℕ) (es : List ConfEntry) : Type 0 where
  pub gap : List ℕ
  pub entries : BeginsWith text es gap
  pub ended : IsLastGap gap
  pub balanced : IsBalanced es

-- the text stands for this tree
pub record IsTextOf (text : List ℕ) (es : List ConfEntry) : Type 0 where
  pub spelled : Spells text es
  pub limits : KeepsLimits es
