-- What a byte of a text is for.
use Rattle.std.specs.Prelude.{ℕ, Bool, ◌||◌, ◌==◌, if◌then◌else◌}
use Rattle.conf_text.specs.declared.kind.Kind.{Kind}
use Rattle.conf_text.specs.declared.kind.Kind.TheVariants.{Digit, Letter, Blank, LineFeed, Hash, Quote, Backslash, OpenBrace, CloseBrace}
use Rattle.conf_text.specs.declared.kind.Kind.TheVariants.{OpenBracket, CloseBracket, Equals, Comma, Zero, Other}
use Rattle.std.specs.Char.{is_ascii_digit, is_ascii_alphabetic}

-- a letter, `_`, `.`, `+` or `-`
abbrev pub is_letter : ℕ → Bool
is_letter b = is_ascii_alphabetic b || b == 95 || b == 46 || b == 43 || b == 45

-- what a mark is for
abbrev pub mark : ℕ → Kind
mark b =
    if b == 35 then Hash
    else if b == 34 then Quote
    else if b == 92 then Backslash
    else if b == 123 then OpenBrace
    else if b == 125 then CloseBrace
    else if b == 91 then OpenBracket
    else if b == 93 then CloseBracket
    else if b == 61 then Equals
    else if b == 44 then Comma
    else if b == 0 then Zero
    else Other

-- what a byte is for
unfoldable pub kind : ℕ → Kind
kind b =
    if is_ascii_digit b then Digit
    else if is_letter b then Letter
    else if b == 32 || b == 9 || b == 13 then Blank
    else if b == 10 then LineFeed
    else mark b
