-- The pieces that write, as places see them while their writes are in flight.
use Rattle.std.specs.Prelude.{ℕ, true, if◌then◌else◌, List, [], ◌∷◌, ◌++◌, Option, None, Some, slice_get}
use Rattle.piece_table.specs.declared.live.LivePiece.{LivePiece}
use Rattle.piece_table.specs.declared.live.Owner.{Owner}
use Rattle.piece_table.specs.Pieces.{live_at}
use Rattle.volume_history.specs.Chronicles.{ChronicleEntry, Origin}
use Rattle.world_places.specs.Lives.{Flying, Leg, Live, Started, Written}
use Rattle.world_places.specs.Tracked.{Scene}
use Rattle.world_acts.specs.declared.state.Core.{Core}
use Rattle.world_acts.specs.Owners.{values_of}
use Rattle.world_acts.specs.Volumes.{span_of}

-- the write of a piece, in flight under this tag
abbrev pub leg_of : Core → ℕ → LivePiece → Leg
leg_of c tag l =
    record { pv = (span_of c.volumes l.piece).pv; first = (span_of c.volumes l.piece).first; primary = true; state = Flying tag }

-- a piece whose write is
abbrev pub live_of : Core → ℕ → ℕ → LivePiece → Live
live_of c tag number l = record {
  number = number;
  line = l.line;
  piece = l.piece;
  sectors = values_of (slice_get c.lines.begun l.line) l.piece;
  region = None;
  stage = Started;
  legs = leg_of c tag l ∷ [];
}

-- the piece of an operation in flight, if it writes
abbrev pub lives_under : Core → ℕ → ℕ → Option LivePiece → List Live
lives_under c tag number None = []
lives_under c tag number (Some l) = if l.piece.write then live_of c tag number l ∷ [] else []

-- those of all operations of pieces
abbrev pub lives_in : Core → List (ℕ × Owner) → List Live
lives_in c [] = []
lives_in c (e ∷ es) = lives_under c e.0 e.1.piece (live_at c.pieces.lives e.1.piece) ++ lives_in c es

-- what places are held against
abbrev pub scene_of : Origin → Core → List ChronicleEntry → List Written → Scene
scene_of o c es notes = record { origin = o; entries = es; lives = lives_in c c.pieces.owners; written = notes; plan = c.waits.plan }
