-- Sectors of a piece are put at their place in the buffer of a read.
use Rattle.std.proofs.Common.{◌≡◌, ◌≤◌, ℕ, ◌+◌, ◌-◌, Bool, cond, ◌&&◌, nat_lt, List, [], length, get_or, inl, inr, sym, ap, ◌∙◌, arith}
use Rattle.std.proofs.lemmas.Bool.{cases_lt, le-leb, le-ltb, lt-leb, lt-ltb}
use Rattle.sector_base.specs.declared.places.Piece.{Piece}
use Rattle.data_lines.specs.DataLines.{in_range}
use Rattle.line_table.specs.Machine.{put_at}
use Rattle.world_acts.proofs.Filled.{all_len, before_put, behind_put, in_put}
use Rattle.world_history.proofs.Contents.Brought.{IsPut}

module _ (start : ℕ) (piece : Piece) (sectors buffer : List (List ℕ)) (many : length sectors ≡ piece.count) (low : start ≤ piece.first)
    (within : piece.first + piece.count ≤ start + length buffer) where
  fits : (piece.first - start) + length sectors ≤ length buffer
  fits = omega (arith, many, low, within)

  abbrev new : List (List ℕ)
  new = put_at (piece.first - start) sectors buffer

  at : (x : ℕ) → start ≤ x
      → get_or new (x - start) []
      ≡ cond (in_range piece.first piece.count x) (get_or sectors (x - piece.first) []) (get_or buffer (x - start) [])
  at x le = elim (cases_lt x piece.first) [
    | inl before ↦
        sym (ap (λ (b : Bool). cond (b && nat_lt x (piece.first + piece.count)) (get_or sectors (x - piece.first) [])
        (get_or buffer (x - start) [])) (lt-leb piece.first x before)
        ∙ before_put (piece.first - start) sectors buffer fits (x - start) (omega (arith, before, le, low)))
    | inr from ↦
        sym (ap (λ (b : Bool). cond (b && nat_lt x (piece.first + piece.count)) (get_or sectors (x - piece.first) [])
        (get_or buffer (x - start) [])) (le-leb piece.first x from)
        ∙ elim (cases_lt x (piece.first + piece.count)) [
          | inl below ↦
              ap (λ (b : Bool). cond b (get_or sectors (x - piece.first) []) (get_or buffer (x - start) []))
              (lt-ltb x (piece.first + piece.count) below)
              ∙ ap (λ (k : ℕ). get_or sectors k []) (omega (arith, le, from, low))
              ∙ in_put (piece.first - start) sectors buffer fits (x - start) (omega (arith, le, from, low))
              (omega (arith, le, from, low, below, many))
          | inr past ↦
              ap (λ (b : Bool). cond b (get_or sectors (x - piece.first) []) (get_or buffer (x - start) []))
              (le-ltb x (piece.first + piece.count) past)
              ∙ behind_put (piece.first - start) sectors buffer fits (x - start) (omega (arith, le, low, past, many))
        ])
  ]

  pub is_put : IsPut start piece sectors buffer (put_at (piece.first - start) sectors buffer)
  is_put = record { length = all_len (piece.first - start) sectors buffer fits; at = at }
