-- The printed form of entries: one on a line.
use Rattle.std.specs.Prelude.{ℕ, ◌<◌, ◌^◌, List, [], ◌∷◌, ◌++◌}
use Rattle.std.specs.Fmt.{decimal}
use Rattle.conf_text.specs.Entries.{Scalar, Number, Text, Value, One, Many, ConfEntry, Open, Close, Assign}
use Rattle.conf_text.specs.Grammar.{IsName, IsContent, escaped}

-- a number in decimal, or a string in double quotes
abbrev pub printed_scalar : Scalar → List ℕ
printed_scalar (Number n) = decimal n
printed_scalar (Text s) = 34 ∷ escaped s ++ 34 ∷ []

-- with a comma and a space between
abbrev pub printed_list : List Scalar → List ℕ
printed_list [] = []
printed_list (s ∷ []) = printed_scalar s
printed_list (s ∷ t ∷ ss) = printed_scalar s ++ 44 ∷ 32 ∷ printed_list (t ∷ ss)

-- a scalar, or a list in brackets
abbrev pub printed_value : Value → List ℕ
printed_value (One s) = printed_scalar s
printed_value (Many ss) = 91 ∷ printed_list ss ++ 93 ∷ []

-- an entry, without its line feed
abbrev pub printed_entry : ConfEntry → List ℕ
printed_entry (Open name) = name ++ 32 ∷ 123 ∷ []
printed_entry Close = 125 ∷ []
printed_entry (Assign name value) = name ++ 32 ∷ 61 ∷ 32 ∷ printed_value value

-- each entry on a line of its own
abbrev pub printed : List ConfEntry → List ℕ
printed [] = []
printed (e ∷ es) = printed_entry e ++ 10 ∷ printed es

-- what can be printed: names that are names, and strings without line feeds and zeros
abbrev pub CanPrintScalar : Scalar → Type 0
CanPrintScalar (Number n) = n < 2 ^ 64
CanPrintScalar (Text s) = IsContent s

-- all of these scalars can be printed
abbrev pub CanPrintAll : List Scalar → Type 0
CanPrintAll [] = Unit {0}
CanPrintAll (s ∷ ss) = CanPrintScalar s × CanPrintAll ss

-- the entry can be printed
abbrev pub CanPrintEntry : ConfEntry → Type 0
CanPrintEntry (Open name) = IsName name
CanPrintEntry Close = Unit {0}
CanPrintEntry (Assign name (One s)) = IsName name × CanPrintScalar s
CanPrintEntry (Assign name (Many ss)) = IsName name × CanPrintAll ss

-- all of these entries can be printed
abbrev pub CanPrint : List ConfEntry → Type 0
CanPrint [] = Unit {0}
CanPrint (e ∷ es) = CanPrintEntry e × CanPrint es
