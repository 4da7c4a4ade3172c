-- Columns of a report: a text or a number in so many places, one space between two. Longer ones aren't cut.
use Rattle.std.specs.Prelude.{ℕ, ◌-◌, List, ◌++◌, length, replicate, decimal}

-- a text, left in so many places
abbrev pub left : ℕ → List ℕ → List ℕ
left places text = text ++ replicate (places - length text) 32

-- a number, right in so many places
abbrev pub right : ℕ → ℕ → List ℕ
right places number = replicate (places - length (decimal number)) 32 ++ decimal number
