-- What each call does to the pieces.
use Rattle.std.specs.Prelude.{ℕ, ◌+◌, ◌-◌, Bool, false, nat_eq, List, [], ◌∷◌, ◌++◌, max, unwrap_or}
use Rattle.std.specs.Prelude.{Option, None}
use Rattle.std.specs.Map.{set_value}
use Rattle.indexmap.specs.IndexMap.{swap_remove_entry}
use Rattle.sector_base.specs.declared.places.Piece.{Piece}
use Rattle.claim_table.specs.declared.claim.Entry.{Entry}
use Rattle.claim_table.specs.Steps as claims
use Rattle.piece_table.specs.declared.live.LivePiece.{LivePiece}
use Rattle.piece_table.specs.declared.live.Stage.{Stage}
use Rattle.piece_table.specs.declared.live.Stage.TheVariants.{Started, Taken, Waiting}
use Rattle.piece_table.specs.Pieces.{Pieces, claim_of, live_at}

-- so many pieces and operations are spare
abbrev pub after_reserve : Pieces → ℕ → ℕ → Pieces
after_reserve pieces more operations = record pieces {
  claims = record pieces.claims { spare = max more pieces.claims.spare };
  spare_ops = max operations pieces.spare_ops;
}

-- stands for a piece where there is none
abbrev pub no_live : LivePiece
no_live = record { line = 0; piece = record { volume = 0; first = 0; count = 0; write = false }; stage = Taken 0; ticket = None }

-- the piece with this number
abbrev pub live_of : Pieces → ℕ → LivePiece
live_of pieces number = unwrap_or (live_at pieces.lives number) no_live

-- the piece with this number is this one
abbrev pub with_live : Pieces → ℕ → LivePiece → Pieces
with_live pieces number live = record pieces { lives = set_value (nat_eq number) pieces.lives live }

-- it has come to this stage
abbrev pub with_stage : Pieces → ℕ → Stage → Pieces
with_stage pieces number stage = with_live pieces number (record (live_of pieces number) { stage = stage })

-- it has no room to wait
abbrev pub without_ticket : Pieces → ℕ → Pieces
without_ticket pieces number = with_live pieces number (record (live_of pieces number) { ticket = None })

-- a piece of the line entered, and was started or deferred
abbrev pub after_enter : Pieces → ℕ → Piece → Option ℕ → List (List ℕ) → Option (Unit {0}) → Entry → Pieces
after_enter pieces line piece region sectors ticket entry = record pieces {
  claims = claims.after_enter pieces.claims (claim_of pieces.next piece region) entry;
  lives = pieces.lives ++ (pieces.next, record { line = line; piece = piece; stage = Waiting sectors; ticket = ticket }) ∷ [];
  next = pieces.next + 1;
}

-- the first deferred piece that conflicts with nothing is to start
abbrev pub after_ready : Pieces → Pieces
after_ready pieces = record pieces { claims = claims.after_ready pieces.claims }

-- a stage with so many operations in flight
abbrev pub with_flying : Stage → (ℕ → ℕ) → Stage
with_flying (Started flying lost) change = Started (change flying) lost
with_flying stage change = stage

-- an operation of the piece was submitted under this tag
abbrev pub after_flies : Pieces → ℕ → ℕ → Bool → Pieces
after_flies pieces number tag primary = record (with_stage pieces number (with_flying (live_of pieces number).stage (λ n. n + 1))) {
  owners = pieces.owners ++ (tag, record { piece = number; primary = primary }) ∷ [];
  spare_ops = pieces.spare_ops - 1;
}

-- the operation of the piece with this tag has completed; its place isn't spare again
abbrev pub after_lands : Pieces → ℕ → ℕ → Pieces
after_lands pieces tag number = record (with_stage pieces number (with_flying (live_of pieces number).stage (λ n. n - 1))) {
  owners = swap_remove_entry (nat_eq tag) pieces.owners;
}

-- the piece left
abbrev pub after_leave : Pieces → ℕ → Pieces
after_leave pieces number = record pieces {
  claims = claims.after_leave pieces.claims number;
  lives = swap_remove_entry (nat_eq number) pieces.lives;
}
