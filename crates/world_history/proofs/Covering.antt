-- The pieces of a request cover each of its sectors once.
use Rattle.std.proofs.Common.{◌≡◌, ◌≤◌, ℕ, ◌+◌, true, false, cond, ◌&&◌, ◌==◌, nat_le, nat_lt, List, [], ◌∷◌, count_by, refl, sym, ap}
use Rattle.std.proofs.Common.{arith}
use Rattle.std.proofs.lemmas.Bool.Decides.{nat_tests}
use Rattle.std.proofs.lemmas.List.Sums.{sum_by-cons}
use Rattle.sector_base.specs.declared.places.Piece.{Piece}
use Rattle.data_lines.specs.DataLines.{in_range}
use Rattle.piece_split.specs.Laws.{Cover}
use Rattle.world_acts.proofs.LinesKept.{hit}

-- how many of the pieces cover a sector
abbrev pub covering : ℕ → List Piece → ℕ
covering x pieces = count_by (λ (p : Piece). in_range p.first p.count x) pieces

pub covering_more : (x : ℕ) (piece : Piece) (pieces : List Piece)
    → covering x (piece ∷ pieces) ≡ hit (in_range piece.first piece.count x) + covering x pieces
covering_more x piece pieces = sum_by-cons (λ (p : Piece). hit (in_range p.first p.count x)) piece pieces

-- of pieces still to enter of one line
abbrev pub coming_of : ℕ → List Piece → ℕ → ℕ → ℕ
coming_of line pieces q x = cond (line == q) (covering x pieces) 0

-- a range that is cut in two
split_range : (a m b x : ℕ) → a ≤ m → m ≤ b
    → hit (nat_le a x && nat_lt x b) ≡ hit (nat_le a x && nat_lt x m) + hit (nat_le m x && nat_lt x b)
split_range a m b x low high =
    elim (nat_lt x m) as (λ t. nat_lt x m ≡ t → hit (nat_le a x && nat_lt x b) ≡ hit (nat_le a x && t) + hit (nat_le m x && nat_lt x b)) [
      | true ↦ λ below.
          let not_later : nat_le m x ≡ false = grind (arith, nat_tests) in
          let before : nat_lt x b ≡ true = grind (arith, nat_tests) in
          rw (not_later, before) (plus_zero (hit (nat_le a x && true)))
      | false ↦ λ above.
          let later : nat_le m x ≡ true = grind (arith, nat_tests) in
          let from : nat_le a x ≡ true = grind (arith, nat_tests) in
          rw (later, from) (zero_plus (hit (nat_lt x b)))
    ] refl
  where
    plus_zero : (n : ℕ) → n ≡ n + 0
    plus_zero n = omega arith

    zero_plus : (n : ℕ) → n ≡ 0 + n
    zero_plus n = omega arith

cover_most : (from to : ℕ) (pieces : List Piece) → Cover from to pieces → from ≤ to
cover_most from to [] is = omega (arith, is)
cover_most from to (piece ∷ pieces) is =
    let most = cover_most (piece.first + piece.count) to pieces is.1 in omega (arith, is.0, most)

pub covers_once : (from to : ℕ) (pieces : List Piece) (x : ℕ) → Cover from to pieces
    → covering x pieces ≡ hit (nat_le from x && nat_lt x to)
covers_once from to [] x is =
    let none : (nat_le from x && nat_lt x to) ≡ false = grind (arith, nat_tests) in sym (ap hit none)
covers_once from to (piece ∷ pieces) x is =
    let rest = covers_once (piece.first + piece.count) to pieces x is.1 in
    let most = cover_most (piece.first + piece.count) to pieces is.1 in
    let cut = split_range piece.first (piece.first + piece.count) to x (omega arith) most in
    let same : hit (nat_le piece.first x && nat_lt x to) ≡ hit (nat_le from x && nat_lt x to) =
    ap (λ (n : ℕ). hit (nat_le n x && nat_lt x to)) is.0 in
    let more = covering_more x piece pieces in omega (arith, rest, cut, same, more)
