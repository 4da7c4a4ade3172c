-- What holds of all pieces, piece by piece.
use Rattle.std.proofs.Common.{◌≡◌, ℕ, zero, suc, ◌+◌, ◌-◌, ◌%◌, ◌≤◌, ◌⊎◌, Bool, List, [], ◌∷◌, drop, min, inl, inr, refl, sym, subst, arith}
use Rattle.std.specs.List.{AllByRecursion}
use Rattle.std.proofs.lemmas.Bool.{cases_lt}
use Rattle.sector_base.specs.declared.places.Piece.{Piece}
use Rattle.piece_split.specs.Laws.{Cover, IsInOneBlock}
use Rattle.piece_split.specs.Pieces.{pieces_of}
use Rattle.piece_split.proofs.Cutting.{no_pieces, piece, split_first}

-- a statement of the pieces of what is left holds of all, where one piece more keeps it
by_pieces : (volume : ℕ) (write : Bool) (P : ℕ → ℕ → List Piece → Type 0) → ((first : ℕ) → P first 0 [])
    → ((first count step : ℕ) (rest : List Piece) → 1 ≤ count → step ≡ min (8 - first % 8) count → P (first + step) (count - step) rest
    → P first count (piece volume write first step ∷ rest))
    → (most first count : ℕ) → count ≤ most → P first count (pieces_of volume first count write)
by_pieces volume write P none more most first zero le = subst (P first 0) (sym (no_pieces volume first write)) (none first)
by_pieces volume write P none more zero first (suc n) le = absurd (omega arith)
by_pieces volume write P none more (suc most) first (suc n) le =
    let step : ℕ = min (8 - first % 8) (suc n) in
    let rest : P (first + step) (suc n - step) (pieces_of volume (first + step) (suc n - step) write) =
    by_pieces volume write P none more most (first + step) (suc n - step) (omega arith) in
    subst (P first (suc n)) (sym (split_first volume first (suc n) write (omega arith)))
    (more first (suc n) step (pieces_of volume (first + step) (suc n - step) write) (omega arith) refl rest)

-- they follow each other from the first sector to the last
pub all_cover : (volume first count : ℕ) (write : Bool) → Cover first (first + count) (pieces_of volume first count write)
all_cover volume first count write =
    by_pieces volume write (λ (from n : ℕ) (ps : List Piece). Cover from (from + n) ps) (λ from. omega arith)
    (λ from n step rest some is later. let ends : from + step + (n - step)
    ≡ from + n = omega arith in (refl, subst (λ (to : ℕ). Cover (from + step) to rest) ends later)) count first count (omega arith)

-- they are of the request
pub all_of_request : (volume first count : ℕ) (write : Bool)
    → AllByRecursion (λ (p : Piece). (p.volume ≡ volume) × (p.write ≡ write)) (pieces_of volume first count write)
all_of_request volume first count write =
    by_pieces volume write (λ (from n : ℕ) (ps : List Piece). AllByRecursion (λ (p : Piece). (p.volume ≡ volume) × (p.write ≡ write)) ps)
    (λ from. tt)
    (λ from n step rest some is later. ((refl, refl), later)) count first count (omega arith)

-- each lies in one block
pub all_in_blocks : (volume first count : ℕ) (write : Bool) → AllByRecursion IsInOneBlock (pieces_of volume first count write)
all_in_blocks volume first count write =
    by_pieces volume write (λ (from n : ℕ) (ps : List Piece). AllByRecursion IsInOneBlock ps) (λ from. tt)
    (λ from n step rest some is later. ((omega arith, λ k lt. omega arith), later)) count first count (omega arith)

-- behind a piece stands a multiple of eight, or nothing is left
cut : (from n step : ℕ) → step ≡ min (8 - from % 8) n → ((from + step) % 8 ≡ 0) ⊎ (n - step ≡ 0)
cut from n step is = elim (cases_lt (8 - from % 8) n) [
  | inl more ↦ inl (omega arith)
  | inr all ↦ inr (omega arith)
]

-- from a multiple of eight on each begins at one
begin_at_multiples : (volume first count : ℕ) (write : Bool) → ((first % 8 ≡ 0) ⊎ (count ≡ 0))
    → AllByRecursion (λ (p : Piece). p.first % 8 ≡ 0) (pieces_of volume first count write)
begin_at_multiples volume first count write =
    by_pieces volume write (λ (from n : ℕ) (ps : List Piece). ((from % 8 ≡ 0) ⊎ (n ≡ 0))
    → AllByRecursion (λ (p : Piece). p.first % 8 ≡ 0) ps) (λ from start. tt)
    (λ from n step rest some is later start. first_begins from n step rest some later (cut from n step is) start) count first count
    (omega arith)
  where
    first_begins : (from n step : ℕ) (rest : List Piece) → 1 ≤ n
        → (((from + step) % 8 ≡ 0) ⊎ (n - step ≡ 0) → AllByRecursion (λ (p : Piece). p.first % 8 ≡ 0) rest)
        → ((from + step) % 8 ≡ 0) ⊎ (n - step ≡ 0) → ((from % 8 ≡ 0) ⊎ (n ≡ 0))
        → (from % 8 ≡ 0) × AllByRecursion (λ (p : Piece). p.first % 8 ≡ 0) rest
    first_begins from n step rest some later behind (inl start) = (start, later behind)
    first_begins from n step rest some later behind (inr none) = absurd (omega arith)

-- so do all behind the first
pub later_begin : (volume first count : ℕ) (write : Bool)
    → AllByRecursion (λ (p : Piece). p.first % 8 ≡ 0) (drop 1 (pieces_of volume first count write))
later_begin volume first zero write =
    subst (λ (ps : List Piece). AllByRecursion (λ (p : Piece). p.first % 8 ≡ 0) (drop 1 ps)) (sym (no_pieces volume first write)) tt
later_begin volume first (suc n) write =
    let step : ℕ = min (8 - first % 8) (suc n) in
    subst (λ (ps : List Piece). AllByRecursion (λ (p : Piece). p.first % 8 ≡ 0) (drop 1 ps))
    (sym (split_first volume first (suc n) write (omega arith)))
    (begin_at_multiples volume (first + step) (suc n - step) write (cut first (suc n) step refl))
