-- Texts with bytes put into them.
use Rattle.std.specs.Prelude.{ℕ, ◌+◌, List, length, take, drop, ◌++◌}

-- the text with these bytes in place of as many from a place on
abbrev pub with_bytes : List ℕ → ℕ → List ℕ → List ℕ
with_bytes text at bytes = take at text ++ bytes ++ drop (at + length bytes) text
