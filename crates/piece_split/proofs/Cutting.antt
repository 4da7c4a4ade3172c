-- The first piece of a request, and those of what is left.
use Rattle.std.proofs.Common.{◌≡◌, ℕ, zero, suc, ◌+◌, ◌-◌, ◌*◌, ◌/◌, ◌%◌, ◌≤◌, Bool, cond, List, [], ◌∷◌, ◌++◌, map, max, min, inl, inr}
use Rattle.std.proofs.Common.{refl, sym, ap, subst, ◌∙◌, arith, append_assoc, append-nil}
use Rattle.std.specs.List.{range_with_len}
use Rattle.std.proofs.lemmas.Bool.{cases_lt, ne_eqb}
use Rattle.sector_base.specs.declared.places.Piece.{Piece}
use Rattle.piece_split.specs.Pieces.{blocks_of, piece_in, pieces_of}

-- a piece by its first sector and its number of sectors
abbrev pub piece : ℕ → Bool → ℕ → ℕ → Piece
piece volume write first count = record { volume = volume; first = first; count = count; write = write }

some_blocks : (first count : ℕ) → 1 ≤ count → blocks_of first count ≡ range_with_len (first / 8) ((first + count - 1) / 8 - first / 8 + 1)
some_blocks first count some =
    ap (λ (b : Bool). cond b [] (range_with_len (first / 8) ((first + count - 1) / 8 - first / 8 + 1)))
    (ne_eqb count 0 (λ none. omega arith))

-- two requests that end at one sector have the same of a block that lies in both
same_piece : (volume first count later left : ℕ) (write : Bool) (block : ℕ) → first + count ≡ later + left → first ≤ 8 * block
    → later ≤ 8 * block → piece_in volume first count write block ≡ piece_in volume later left write block
same_piece volume first count later left write block ends from from' =
    let start : max first (8 * block) ≡ max later (8 * block) = omega arith in
    ap (λ (a : ℕ). piece volume write a (min (first + count) (8 * block + 8) - a)) start
    ∙ ap (λ (e : ℕ). piece volume write (max later (8 * block)) (min e (8 * block + 8) - max later (8 * block))) ends

same_pieces : (volume first count later left : ℕ) (write : Bool) (from n : ℕ) → first + count ≡ later + left → first ≤ 8 * from
    → later ≤ 8 * from
    → map (piece_in volume first count write) (range_with_len from n) ≡ map (piece_in volume later left write) (range_with_len from n)
same_pieces volume first count later left write from zero ends low low' = refl
same_pieces volume first count later left write from (suc n) ends low low' =
    ap (λ (p : Piece). p ∷ map (piece_in volume first count write) (range_with_len (from + 1) n))
    (same_piece volume first count later left write from ends low low')
    ∙ ap (λ (ps : List Piece). piece_in volume later left write from ∷ ps)
    (same_pieces volume first count later left write (from + 1) n ends (omega arith) (omega arith))

-- what a request has of its first block
first_piece : (volume first count : ℕ) (write : Bool)
    → piece_in volume first count write (first / 8) ≡ piece volume write first (min (8 - first % 8) count)
first_piece volume first count write =
    let start : max first (8 * (first / 8)) ≡ first = omega arith in
    let sectors : min (first + count) (8 * (first / 8) + 8) - first ≡ min (8 - first % 8) count = omega arith in
    ap (λ (a : ℕ). piece volume write a (min (first + count) (8 * (first / 8) + 8) - a)) start ∙ ap (piece volume write first) sectors

-- without sectors there is none
pub no_pieces : (volume first : ℕ) (write : Bool) → pieces_of volume first 0 write ≡ []
unfolding pieces_of
no_pieces volume first write = refl

-- the blocks behind the first are those of what is left
later_blocks : (volume first count : ℕ) (write : Bool) → 1 ≤ count
    → map (piece_in volume first count write) (range_with_len (first / 8 + 1) ((first + count - 1) / 8 - first / 8))
    ≡ pieces_of volume (first + min (8 - first % 8) count) (count - min (8 - first % 8) count) write
unfolding pieces_of
later_blocks volume first count write some =
    let step : ℕ = min (8 - first % 8) count in
    let n : ℕ = (first + count - 1) / 8 - first / 8 in
    elim (cases_lt (8 - first % 8) count) [
      | inr all ↦
          let none : n ≡ 0 = omega arith in
          let left : count - step ≡ 0 = omega arith in
          ap (λ (k : ℕ). map (piece_in volume first count write) (range_with_len (first / 8 + 1) k)) none
          ∙ sym (ap (λ (k : ℕ). pieces_of volume (first + step) k write) left ∙ no_pieces volume (first + step) write)
      | inl more ↦
          let later : ℕ = first + step in
          let left : ℕ = count - step in
          let left_some : 1 ≤ left = omega arith in
          let ends : first + count ≡ later + left = omega arith in
          let low : first ≤ 8 * (first / 8 + 1) = omega arith in
          let low' : later ≤ 8 * (first / 8 + 1) = omega arith in
          let next : later / 8 ≡ first / 8 + 1 = omega arith in
          let many : n ≡ (later + left - 1) / 8 - later / 8 + 1 = omega arith in
          same_pieces volume first count later left write (first / 8 + 1) n ends low low'
          ∙ ap (λ (a : ℕ). map (piece_in volume later left write) (range_with_len a n)) (sym next)
          ∙ ap (λ (k : ℕ). map (piece_in volume later left write) (range_with_len (later / 8) k)) many
          ∙ ap (map (piece_in volume later left write)) (sym (some_blocks later left left_some))
    ]

one_suc : (n : ℕ) → n + 1 ≡ suc n
one_suc n = omega arith

-- the first piece, and then those of what is left
pub split_first : (volume first count : ℕ) (write : Bool) → 1 ≤ count
    → pieces_of volume first count write ≡ piece volume write first (min (8 - first % 8) count)
    ∷ pieces_of volume (first + min (8 - first % 8) count) (count - min (8 - first % 8) count) write
unfolding pieces_of
split_first volume first count write some =
    let f : ℕ → Piece = piece_in volume first count write in
    let n : ℕ = (first + count - 1) / 8 - first / 8 in
    ap (map f) (some_blocks first count some)
    ∙ ap (λ (k : ℕ). map f (range_with_len (first / 8) k)) (one_suc n)
    ∙ ap (λ (p : Piece). p ∷ map f (range_with_len (first / 8 + 1) n)) (first_piece volume first count write)
    ∙ ap (λ (ps : List Piece). piece volume write first (min (8 - first % 8) count) ∷ ps) (later_blocks volume first count write some)

-- the pieces so far, one more, and those of what is left
pub more_pieces : (volume at left count : ℕ) (write : Bool) (before whole : List Piece) → 1 ≤ left → count ≡ min (8 - at % 8) left
    → before ++ pieces_of volume at left write ≡ whole
    → (before ++ piece volume write at count ∷ []) ++ pieces_of volume (at + count) (left - count) write ≡ whole
more_pieces volume at left count write before whole some is so_far =
    let next : pieces_of volume at left write ≡ piece volume write at count ∷ pieces_of volume (at + count) (left - count) write =
    subst (λ (n : ℕ). pieces_of volume at left write ≡ piece volume write at n ∷ pieces_of volume (at + n) (left - n) write) (sym is)
    (split_first volume at left write some) in
    append_assoc before (piece volume write at count ∷ []) (pieces_of volume (at + count) (left - count) write)
    ∙ ap (λ (l : List Piece). before ++ l) (sym next) ∙ so_far

-- where nothing is left, they are all
pub all_pieces : (volume at left : ℕ) (write : Bool) (before whole : List Piece) → left ≡ 0
    → before ++ pieces_of volume at left write ≡ whole → before ≡ whole
all_pieces volume at left write before whole none so_far =
    sym (append-nil before) ∙ ap (λ (l : List Piece). before ++ l)
    (sym (ap (λ (n : ℕ). pieces_of volume at n write) none ∙ no_pieces volume at write)) ∙ so_far
