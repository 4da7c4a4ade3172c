-- What happens to a world.
use Rattle.std.specs.Prelude.{Bool, true, Option, Some}

-- an event: a line is begun, or comes back since memory was wanted for it; an operation completes, or none is ready; the commit
-- of a move starts, or memory was wanted for it, or the move is given up
pub data Event (L : Type 0) : Type 0 where
  Begins : L → Event L
  RefusesLine : L → Event L
  Completes : Event L
  Idles : Event L
  Tends : Event L
  RefusesCommit : Event L
  Halts : Event L

module _ {L : Type 0} where
  -- whether memory was wanted, after an event
  abbrev pub wanted_after : Event L → Bool → Bool
  wanted_after (RefusesLine line) wanted = true
  wanted_after RefusesCommit wanted = true
  wanted_after _ wanted = wanted

  -- the line that came back, after an event
  abbrev pub refused_after : Event L → Option L → Option L
  refused_after (RefusesLine line) refused = Some line
  refused_after _ refused = refused
