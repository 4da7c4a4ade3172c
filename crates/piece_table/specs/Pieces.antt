-- The pieces under way.
use Rattle.std.specs.Prelude.{◌≡◌, ◌≤◌, All, ℕ, ◌+◌, Bool, false, true, not, ◌&&◌, ◌==◌, nat_eq, List, [], count_by, is_some, if◌then◌else◌}
use Rattle.std.specs.Prelude.{Option, None, Some, option_map}
use Rattle.std.specs.Option.{option_map_or}
use Rattle.std.specs.List.{list_any}
use Rattle.std.specs.Map.{lookup}
use Rattle.sector_base.specs.declared.places.Piece.{Piece}
use Rattle.claim_table.specs.declared.claim.Claim.{Claim}
use Rattle.claim_table.specs.Claims.{Claims}
use Rattle.claim_table.specs.Steps.{has_number, no_claims}
use Rattle.piece_table.specs.declared.live.LivePiece.{LivePiece}
use Rattle.piece_table.specs.declared.live.Owner.{Owner}
use Rattle.piece_table.specs.declared.live.Stage.{Stage}
use Rattle.piece_table.specs.declared.live.Stage.TheVariants.{Started, Waiting}

-- the claims, the pieces by their numbers, whose each operation in flight is, by its tag, the number of the next piece, and how many
-- operations more there is room for
pub record Pieces : Type 0 where
  pub claims : Claims
  pub lives : List (ℕ × LivePiece)
  pub owners : List (ℕ × Owner)
  pub next : ℕ
  pub spare_ops : ℕ

-- none
abbrev pub no_pieces : Pieces
no_pieces = record { claims = no_claims; lives = []; owners = []; next = 0; spare_ops = 0 }

-- the piece with this number
abbrev pub live_at : List (ℕ × LivePiece) → ℕ → Option LivePiece
live_at lives number = lookup (nat_eq number) lives

-- whether it is under way
abbrev pub is_among : Pieces → ℕ → Bool
is_among pieces number = is_some (live_at pieces.lives number)

-- whose the operation with this tag is
abbrev pub owner_at : List (ℕ × Owner) → ℕ → Option Owner
owner_at owners tag = lookup (nat_eq tag) owners

-- how many operations are in flight at a stage
abbrev pub flying_of : Stage → ℕ
flying_of (Started flying lost) = flying
flying_of _ = 0

-- the sectors that wait
abbrev pub sectors_of : Stage → List (List ℕ)
sectors_of (Waiting sectors) = sectors
sectors_of _ = []

-- whether nothing of the piece was submitted
abbrev pub is_waiting_stage : Stage → Bool
is_waiting_stage (Waiting sectors) = true
is_waiting_stage _ = false

-- whether it is started, and hasn't taken place
abbrev pub is_started_stage : Stage → Bool
is_started_stage (Started flying lost) = true
is_started_stage _ = false

-- the same of the piece with a number
abbrev pub flying_in : List (ℕ × LivePiece) → ℕ → ℕ
flying_in lives number = option_map_or (λ (l : LivePiece). flying_of l.stage) (live_at lives number) 0

abbrev pub flying_at : Pieces → ℕ → ℕ
flying_at pieces number = flying_in pieces.lives number

abbrev pub sectors_at : Pieces → ℕ → List (List ℕ)
sectors_at pieces number = option_map_or (λ (l : LivePiece). sectors_of l.stage) (live_at pieces.lives number) []

abbrev pub is_waiting : Pieces → ℕ → Bool
is_waiting pieces number = option_map_or (λ (l : LivePiece). is_waiting_stage l.stage) (live_at pieces.lives number) false

abbrev pub is_started : Pieces → ℕ → Bool
is_started pieces number = option_map_or (λ (l : LivePiece). is_started_stage l.stage) (live_at pieces.lives number) false

-- whether the piece is to start: nothing of it was submitted, and it isn't deferred
abbrev pub may_start : Pieces → ℕ → Bool
may_start pieces number = is_waiting pieces number && not (list_any (has_number number) pieces.claims.deferred)

-- the claim of a piece
abbrev pub claim_of : ℕ → Piece → Option ℕ → Claim
claim_of number piece region = record { number = number; piece = piece; region = region }

-- it is the claim of the piece with its number
abbrev pub IsLive : List (ℕ × LivePiece) → Claim → Type 0
IsLive lives c = option_map (λ (l : LivePiece). l.piece) (live_at lives c.number) ≡ Some c.piece

-- the claims are those of the pieces, each with one claim
pub record AreClaimed (claims : Claims) (lives : List (ℕ × LivePiece)) : Type 0 where
  pub started : All (IsLive lives) claims.started
  pub deferred : All (IsLive lives) claims.deferred
  pub once :
      (number : ℕ)
      → count_by (has_number number) claims.started + count_by (has_number number) claims.deferred
      ≡ (if is_some (live_at lives number) then 1 else 0)

-- nothing of a deferred piece was submitted
abbrev pub AreWaiting : List Claim → List (ℕ × LivePiece) → Type 0
AreWaiting deferred lives =
    All (λ c. option_map_or (λ (l : LivePiece). is_waiting_stage l.stage) (live_at lives c.number) false ≡ true) deferred

-- none has a number from the next on
abbrev pub AreNumbered : ℕ → List (ℕ × LivePiece) → Type 0
AreNumbered next lives = (number : ℕ) → next ≤ number → live_at lives number ≡ None

-- a piece has as many operations in flight as are its
abbrev pub AreFlying : List (ℕ × LivePiece) → List (ℕ × Owner) → Type 0
AreFlying lives owners = (number : ℕ) → flying_in lives number ≡ count_by (λ (e : ℕ × Owner). e.1.piece == number) owners
