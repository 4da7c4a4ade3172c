-- The events of a world.
use Rattle.std.specs.Prelude.{◌≡◌, ◌<◌, ℕ, Bool, false, true, if◌then◌else◌, is_some, List, filter, length, slice_get, Option, None, Some}
use Rattle.std.specs.Prelude.{option_map}
use Rattle.std.specs.Option.{option_map_or}
use Rattle.sector_base.specs.declared.places.Piece.{Piece}
use Rattle.command_table.specs.declared.command.Command.TheVariants.{Wait}
use Rattle.lvm_script.specs.declared.line.Line.{Line}
use Rattle.data_lines.specs.DataLines.{is_flush}
use Rattle.disk_model.specs.Calls.{MakesReady}
use Rattle.disk_model.specs.State.{IsLawful, State}
use Rattle.disk_model.specs.declared.ops.Done.{Done}
use Rattle.line_table.specs.Steps.{is_open}
use Rattle.claim_table.specs.declared.claim.By.{By}
use Rattle.io_session.specs.Events.{Event, Begins as BeginsLine, Completes as CompletesOne, Halts, Idles as IdlesAt, RefusesCommit}
use Rattle.io_session.specs.Events.{RefusesLine, Tends}
use Rattle.piece_table.specs.declared.live.Owner.{Owner}
use Rattle.piece_table.specs.Pieces.{owner_at}
use Rattle.world_acts.specs.declared.open_line.OpenLine.{OpenLine}
use Rattle.world_acts.specs.OpenLines.{open_at}
use Rattle.line_plans.specs.Plans.{opened_for, pieces_for}
use Rattle.world_acts.specs.Acts.{Act, Allowed, Begins, Ends, EndsFlush, Holds, IsGrown, MayBegin, Prepares, Reaches, SettlesAndGoes, World}
use Rattle.world_acts.specs.Acts.{after}
use Rattle.world_acts.specs.Acts.{flushing, follows, settling}
use Rattle.io_core.specs.Beginning.{AwaitsAll}
use Rattle.io_core.specs.Rest.{IsAtRest}
use Rattle.io_core.specs.declared.beginning.Begun.{Begun}
use Rattle.io_core.specs.declared.beginning.Begun.TheVariants.{Answered, Deferred, Started}

-- a line that was begun is prepared, with these pieces, of which the first that waits conflicts with this, before anything is answered,
-- where one that flushes its volume waits on each disk, and then what follows is done
pub record IsPreparedAndGoes (line : ℕ) (pieces : List Piece) (first : Option By) (w v : World) : Type 0 where
  pub mid : World
  pub prepares : Prepares line pieces first w mid
  pub awaits :
      option_map_or (λ (l : Line). is_flush l.command) (slice_get mid.core.lines.begun line) false ≡ true → AwaitsAll mid.core line
  pub goes : Reaches follows mid v

-- how a line was begun: deferred, where a piece of it waits; else it is open, or answered
abbrev pub begun_as : Option By → Bool → Begun
begun_as (Some by) opened = Deferred by
begun_as None opened = if opened then Started else Answered

-- the line is begun, while none waits for all others: open as its command says and as it is judged, prepared with the pieces of its
-- request, and carried on. A wait waits for all others before anything else is done, where another is open.
pub record BeginsIn (w : World) (line : Line) (begun : Begun) (v : World) : Type 0 where
  pub free : w.core.barrier ≡ None
  pub opened : OpenLine
  pub is : opened ≡ opened_for w.core.volumes line.command
  pub may : MayBegin w opened
  pub first : Option By
  pub carried : IsPreparedAndGoes (length w.core.lines.begun) (pieces_for w.core.volumes line.command) first (after w (Begins line opened))
      v
  pub how : begun ≡ begun_as first (is_some (open_at v.core.opens (length w.core.lines.begun)))
  pub holds :
      line.command ≡ Wait → 0 < length (filter is_open w.core.lines.answers)
      → Reaches follows (after (after w (Begins line opened)) (Holds (length w.core.lines.begun))) v

-- a line is begun so, once there is room for it, and then nothing is left to do until an operation completes
pub record IsBegunAs (w : World) (line : Line) (begun : Begun) (v : World) : Type 0 where
  pub grown : World
  pub grows : IsGrown w grown
  pub begins : BeginsIn grown line begun v
  pub rest : IsAtRest v.core

abbrev pub IsBegun : World → Line → World → Type 0
IsBegun w line v = (begun : Begun) × IsBegunAs w line begun v

-- more may be ready, and nothing else happens
pub record IsIdle (w v : World) : Type 0 where
  pub same : v.core ≡ w.core
  pub looked : MakesReady w.shelf v.shelf
  pub lawful : IsLawful v.shelf

-- the end of an operation: of a piece's, or of a flush
abbrev pub ending : Option ℕ → Done → State → Act
ending (Some piece) done now = Ends done now
ending None done now = EndsFlush done now

-- what it comes to
abbrev pub settling_of : Option ℕ → Done → List Act
settling_of (Some number) done = settling number done.op done.well
settling_of None done = flushing done.op done.well

-- an operation has completed, a piece's or a flush: what it came to is settled, and nothing else is, and what follows is done
pub record Follows (w : World) (done : Done) (now : State) (v : World) : Type 0 where
  pub piece : Option ℕ
  pub whose : piece ≡ option_map (λ (owner : Owner). owner.piece) (owner_at w.core.pieces.owners done.tag)
  pub allowed : Allowed w (ending piece done now)
  pub ends : SettlesAndGoes (settling_of piece done) (after w (ending piece done now)) v

-- an operation completes, and what follows is done, until nothing is left to do
pub record IsCompleted (w v : World) : Type 0 where
  pub done : Done
  pub now : State
  pub completes : Follows w done now v
  pub rest : IsAtRest v.core

-- what an event makes of a world
abbrev pub Makes : World → Event Line → World → Type 0
Makes w (BeginsLine line) v = IsBegun w line v
Makes w (RefusesLine line) v = IsGrown w v
Makes w CompletesOne v = IsCompleted w v
Makes w IdlesAt v = IsIdle w v
Makes w Tends v = ⊥
Makes w RefusesCommit v = ⊥
Makes w Halts v = ⊥
