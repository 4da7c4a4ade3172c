-- How refusals and answers are printed: a kind, and its values.
use Rattle.std.specs.Prelude.{ℕ, ◌-◌, ◌^◌, false, List, [], ◌++◌, codes, decimal}
use Rattle.std.specs.Fmt.{digits, format_spec, padded_integral}
use Rattle.std.specs.List.{flat_map}
use Rattle.sector_base.specs.declared.shown.Shown.{Shown}
use Rattle.sector_base.specs.declared.shown.Shown.TheVariants.{Number, Sum, Text}

-- a value: a number, a checksum, or a text such as a name or an id
pub data Value : Type 0 where
  number : ℕ → Value
  sum : ℕ → Value
  text : List ℕ → Value

-- a checksum: eight lower-case hex digits, as `{:08x}` writes them
abbrev pub sum_text : ℕ → List ℕ
sum_text n = padded_integral (format_spec 32 0 4 8 (2 ^ 64 - 1)) false [] (digits 16 false n)

-- a value as it is printed: a number in decimal, a checksum in hex digits, a text as it stands
abbrev pub value_text : Value → List ℕ
value_text (number n) = decimal n
value_text (sum n) = sum_text n
value_text (text bytes) = bytes

-- a kind and its values as they are printed: the kind, and each value behind a space
abbrev pub shown_text : List ℕ × List Value → List ℕ
shown_text shown = shown.0 ++ flat_map (λ value. codes " " ++ value_text value) shown.1

-- the value that the code shows
abbrev pub value_of : Shown → Value
value_of (Number n) = number n
value_of (Sum n) = sum n
value_of (Text bytes) = text bytes.now
