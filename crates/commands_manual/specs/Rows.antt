-- The rows of a table, and those that it has to have.
use Rattle.std.specs.Prelude.{ℕ, Bool, not, ◌&&◌, ◌==◌, nat_eq, List, length, filter, string_bytes}
use Rattle.std.specs.Borrow.{Bor}
use Rattle.std.specs.List.{list_any, starts_with}
use Rattle.std.specs.declared.string.String.{String}

-- the row begins so
abbrev pub begins : List ℕ → List ℕ → Bool
begins front row = starts_with nat_eq row front

-- exactly one of the rows begins so
abbrev pub stands_once : List (Bor (List ℕ)) → List ℕ → Bool
stands_once rows front = length (filter (λ row. begins front row.now) rows) == 1

-- the row begins with one of these
abbrev pub is_wanted : {A : Type 0} → List (String A) → List ℕ → Bool
is_wanted wanted row = list_any (λ front. begins (string_bytes front) row) wanted

-- those of the wanted rows that don't stand among the rows, or more than once
abbrev pub missing : {A : Type 0} → List (String A) → List (Bor (List ℕ)) → List (String A)
missing wanted rows = filter (λ row. not (stands_once rows (string_bytes row))) wanted

-- those of the rows that aren't wanted
abbrev pub unknown : {A : Type 0} → List (String A) → List (Bor (List ℕ)) → List (Bor (List ℕ))
unknown wanted rows = filter (λ row. not (is_wanted wanted row.now)) rows

-- the rows are those that are wanted, each once
abbrev pub agrees : {A : Type 0} → List (String A) → List (Bor (List ℕ)) → Bool
agrees wanted rows = length (missing wanted rows) == 0 && length (unknown wanted rows) == 0
