-- Reading a text byte by byte.
use Rattle.std.specs.Prelude.{ℕ, ◌+◌, ◌-◌, ◌^◌, nat_lt, if◌then◌else◌, List, [], ◌∷◌, ◌++◌, length, Result, Ok, Err}
use Rattle.std.specs.Str.Parse.{digits_value}
use Rattle.conf_text.specs.declared.refusal.ConfRefusal.{ConfRefusal}
use Rattle.conf_text.specs.declared.refusal.ConfRefusal.TheVariants.{BadToken, Unclosed, DuplicateKey, NumberTooWide, TooDeep}
use Rattle.conf_text.specs.declared.reader.Mode.{Mode}
use Rattle.conf_text.specs.declared.reader.Mode.TheVariants.{Between, Comment, Word, String, Escape}
use Rattle.conf_text.specs.declared.reader.Phase.{Phase}
use Rattle.conf_text.specs.declared.reader.Phase.TheVariants.{Item, Named, Wanted, First, Next, After}
use Rattle.conf_text.specs.declared.kind.Kind.{Kind}
use Rattle.conf_text.specs.declared.kind.Kind.TheVariants.{Digit, Letter, Blank, LineFeed, Hash, Quote, Backslash, OpenBrace, CloseBrace}
use Rattle.conf_text.specs.declared.kind.Kind.TheVariants.{OpenBracket, CloseBracket, Equals, Comma, Zero}
use Rattle.conf_text.specs.Bytes.{kind}
use Rattle.conf_text.specs.Entries.{Scalar, Number, Text, One, Many, ConfEntry, Open, Close, Assign, sections, is_given}

-- word: the bytes of the word or string so far; name and scalars: of the entry so far; braces: the places of those open
pub record Reader : Type 0 where
  pub mode : Mode
  pub phase : Phase
  pub word : List ℕ
  pub name : List ℕ
  pub scalars : List Scalar
  pub entries : List ConfEntry
  pub braces : List ℕ

-- nothing was read
abbrev pub start : Reader
start = record { mode = Between; phase = Item; word = []; name = []; scalars = []; entries = []; braces = [] }

-- a reader, or why the text is refused
abbrev pub Read : Type 0
Read = Result Reader ConfRefusal

-- goes on where nothing was refused
infixl 10 ◌>>=◌
abbrev pub ◌>>=◌ : {A B : Type 0} → Result A ConfRefusal → (A → Result B ConfRefusal) → Result B ConfRefusal
(Ok x) >>= f = f x
(Err e) >>= f = Err e

-- an entry may begin
abbrev pub entry_begun : Reader → Reader
entry_begun r = record r { phase = Item; name = []; scalars = [] }

-- an entry more
abbrev pub with_entry : Reader → ConfEntry → Reader
with_entry r e = record (entry_begun r) { entries = r.entries ++ e ∷ [] }

-- a scalar more: of an array, or the whole value
abbrev pub with_scalar : Phase → Reader → Scalar → Reader
with_scalar (First q) r s = record r { phase = After q; scalars = r.scalars ++ s ∷ [] }
with_scalar (Next q) r s = record r { phase = After q; scalars = r.scalars ++ s ∷ [] }
with_scalar _ r s = with_entry r (Assign r.name (One s))

-- a section begins, by a brace at this place
abbrev pub opened : ℕ → Reader → Read
opened at r =
    if nat_lt (length (sections r.entries)) 17 then Ok (with_entry (record r { braces = at ∷ r.braces }) (Open r.name)) else Err
    (TooDeep at)

-- the section of the innermost brace ends
abbrev pub closed : ℕ → Reader → List ℕ → Read
closed at r [] = Err (BadToken at)
closed at r (b ∷ braces) = Ok (with_entry (record r { braces = braces }) Close)

-- a word begins with this byte
abbrev pub word_begun : ℕ → Reader → Reader
word_begun b r = record r { mode = Word; word = b ∷ [] }

-- the word or string has a byte more
abbrev pub with_byte : ℕ → Reader → Reader
with_byte b r = record r { word = r.word ++ b ∷ [] }

-- a byte where an entry may begin
abbrev pub item_begun : Kind → ℕ → ℕ → Reader → Read
item_begun Digit b at r = Ok (word_begun b r)
item_begun Letter b at r = Ok (word_begun b r)
item_begun CloseBrace b at r = closed at r r.braces
item_begun _ b at r = Err (BadToken at)

-- after a name
abbrev pub named_begun : Kind → ℕ → Reader → Read
named_begun Equals at r = Ok (record r { phase = Wanted })
named_begun OpenBrace at r = opened at r
named_begun _ at r = Err (BadToken at)

-- after `=`
abbrev pub value_begun : Kind → ℕ → ℕ → Reader → Read
value_begun Digit b at r = Ok (word_begun b r)
value_begun Quote b at r = Ok (record r { mode = String at })
value_begun OpenBracket b at r = Ok (record r { phase = First at })
value_begun _ b at r = Err (BadToken at)

-- after `[`
abbrev pub first_begun : Kind → ℕ → ℕ → Reader → Read
first_begun Digit b at r = Ok (word_begun b r)
first_begun Quote b at r = Ok (record r { mode = String at })
first_begun CloseBracket b at r = Ok (with_entry r (Assign r.name (Many [])))
first_begun _ b at r = Err (BadToken at)

-- after a comma
abbrev pub next_begun : Kind → ℕ → ℕ → Reader → Read
next_begun Digit b at r = Ok (word_begun b r)
next_begun Quote b at r = Ok (record r { mode = String at })
next_begun _ b at r = Err (BadToken at)

-- after a scalar of an array
abbrev pub after_begun : ℕ → Kind → ℕ → Reader → Read
after_begun q Comma at r = Ok (record r { phase = Next q })
after_begun q CloseBracket at r = Ok (with_entry r (Assign r.name (Many r.scalars)))
after_begun q _ at r = Err (BadToken at)

-- a byte that begins a token, by what may come next
abbrev pub token_begun : Phase → Kind → ℕ → ℕ → Reader → Read
token_begun Item k b at r = item_begun k b at r
token_begun Named k b at r = named_begun k at r
token_begun Wanted k b at r = value_begun k b at r
token_begun (First q) k b at r = first_begun k b at r
token_begun (Next q) k b at r = next_begun k b at r
token_begun (After q) k b at r = after_begun q k at r

-- a byte outside of words, strings and comments
abbrev pub begun : Phase → Kind → ℕ → ℕ → Reader → Read
begun p Blank b at r = Ok (record r { mode = Between })
begun p LineFeed b at r = Ok (record r { mode = Between })
begun p Hash b at r = Ok (record r { mode = Comment })
begun p k b at r = token_begun p k b at r

-- the word ends before this place
abbrev pub named : ℕ → Reader → Read
named at r =
    if is_given (sections r.entries) r.word then Err (DuplicateKey at)
    else Ok (record r { mode = Between; phase = Named; name = r.word; word = [] })

-- the number at hand ends; it begins at this place
abbrev pub numbered : ℕ → Reader → Read
numbered at r =
    if nat_lt (digits_value 10 r.word) (2 ^ 64)
    then Ok (with_scalar r.phase (record r { mode = Between; word = [] }) (Number (digits_value 10 r.word)))
    else Err (NumberTooWide at)

-- the word at hand ends, a name or a number; it begins at this place
abbrev pub word_ended : Phase → ℕ → Reader → Read
word_ended Item at r = named at r
word_ended _ at r = numbered at r

-- a byte in a word, or the first one behind it
abbrev pub in_word : Phase → Kind → ℕ → ℕ → Reader → Read
in_word _ Digit b at r = Ok (with_byte b r)
in_word Item Letter b at r = Ok (with_byte b r)
in_word _ Letter b at r = Err (BadToken at)
in_word p k b at r = word_ended p (at - length r.word) r >>= λ s. begun s.phase k b at s

-- a byte in a string that begins at the first place
abbrev pub in_string : ℕ → Kind → ℕ → ℕ → Reader → Read
in_string q Quote b at r = Ok (with_scalar r.phase (record r { mode = Between; word = [] }) (Text r.word))
in_string q Backslash b at r = Ok (record r { mode = Escape q })
in_string q LineFeed b at r = Err (BadToken at)
in_string q Zero b at r = Err (BadToken at)
in_string q _ b at r = Ok (with_byte b r)

-- a byte behind a backslash
abbrev pub in_escape : ℕ → Kind → ℕ → ℕ → Reader → Read
in_escape q Quote b at r = Ok (record r { mode = String q; word = r.word ++ b ∷ [] })
in_escape q Backslash b at r = Ok (record r { mode = String q; word = r.word ++ b ∷ [] })
in_escape q _ b at r = Err (BadToken at)

-- a byte in a comment
abbrev pub in_comment : Kind → ℕ → Reader → Read
in_comment LineFeed at r = Ok (record r { mode = Between })
in_comment Zero at r = Err (BadToken at)
in_comment _ at r = Ok r

-- a byte, by what the one before belongs to
abbrev pub in_mode : Mode → Kind → ℕ → ℕ → Reader → Read
in_mode Between k b at r = begun r.phase k b at r
in_mode Comment k b at r = in_comment k at r
in_mode Word k b at r = in_word r.phase k b at r
in_mode (String q) k b at r = in_string q k b at r
in_mode (Escape q) k b at r = in_escape q k b at r

-- one byte at this place
unfoldable pub step : ℕ → ℕ → Reader → Read
step at b r = in_mode r.mode (kind b) b at r

-- the end of the text, outside of words and strings
abbrev pub ended_between : Phase → List ℕ → ℕ → Reader → Result (List ConfEntry) ConfRefusal
ended_between (First q) braces at r = Err (Unclosed q)
ended_between (Next q) braces at r = Err (Unclosed q)
ended_between (After q) braces at r = Err (Unclosed q)
ended_between _ (brace ∷ braces) at r = Err (Unclosed brace)
ended_between Item [] at r = Ok r.entries
ended_between _ [] at r = Err (BadToken at)

-- the end of the text, by what the last byte belongs to
abbrev pub ended_in : Mode → ℕ → Reader → Result (List ConfEntry) ConfRefusal
ended_in (String q) at r = Err (Unclosed q)
ended_in (Escape q) at r = Err (Unclosed q)
ended_in Word at r = word_ended r.phase (at - length r.word) r >>= λ s. ended_between s.phase s.braces at s
ended_in _ at r = ended_between r.phase r.braces at r

-- the end of the text at this place
unfoldable pub ended : ℕ → Reader → Result (List ConfEntry) ConfRefusal
ended at r = ended_in r.mode at r

-- the entries of a text, or its refusal, from this place and reader on
unfoldable pub outcome : ℕ → Reader → List ℕ → Result (List ConfEntry) ConfRefusal
outcome at r [] = ended at r
outcome at r (b ∷ bs) = step at b r >>= λ s. outcome (at + 1) s bs

-- those of the whole text
abbrev pub reading : List ℕ → Result (List ConfEntry) ConfRefusal
reading text = outcome 0 start text
