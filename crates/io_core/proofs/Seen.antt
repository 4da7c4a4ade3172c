-- What holds of a world holds of it as contracts see it.
use Rattle.std.proofs.Common.{◌≡◌, ◌<◌, [], None, false, refl, ap, subst, ◌∙◌}
use Rattle.std.specs.List.{list_any}
use Rattle.line_table.specs.Steps.{is_open}
use Rattle.disk_model.specs.Calls.{MakesReady}
use Rattle.disk_model.specs.State.{IsLawful, State}
use Rattle.disk_model.specs.declared.ops.Done.{Done}
use Rattle.lvm_script.specs.declared.line.Line.{Line}
use Rattle.piece_table.specs.Pieces.{AreClaimed}
use Rattle.world_acts.specs.declared.state.Core.{Core}
use Rattle.world_acts.specs.Acts.{IsGrown, World, left_in, world}
use Rattle.io_core.specs.declared.beginning.Begun.{Begun}
use Rattle.io_core.specs.Events.{BeginsIn, Follows, IsBegunAs, IsCompleted, IsIdle}
use Rattle.io_core.specs.Rest.{IsAtRest, IsKept}
use Rattle.io_core.specs.Worlds.{WorldOn}
use Rattle.io_core.proofs.Happened.{follows_left}
use Rattle.io_core.proofs.Resting.{resting}

-- more of it is spare, and its barrier is as it was
pub grown_free : (w v : World) → IsGrown w v → w.core.barrier ≡ None → v.core.barrier ≡ None
grown_free w v grows free = ap (λ (c : Core). c.barrier) grows.core ∙ free

module _ {S : Type 0} (state : S → State) (d now : WorldOn S) (view : d ≡ now) where
  pub seen : (P : World → Type 0) → P (world (state d.shelf) d.core) → P (world (state now.shelf) now.core)
  seen P is = subst (λ (w : WorldOn S). P (world (state w.shelf) w.core)) view is

  -- an operation has completed
  pub turned_well : (mid : State) (v : World) (done : Done) → IsKept (world (state d.shelf) d.core)
      → Follows (world (state d.shelf) d.core) done mid v
      → IsAtRest v.core
      → IsCompleted (world (state now.shelf) now.core) v × (left_in v < left_in (world (state now.shelf) now.core))
  turned_well mid v done kept goes rest =
      let w : World = world (state d.shelf) d.core in
      seen (λ (x : World). IsCompleted x v × (left_in v < left_in x)) (
        record { done = done; now = mid; completes = goes; rest = rest },
        follows_left w v done mid kept.orderly goes,
      )

  -- none has
  pub turned_idle : (mid : State) → MakesReady (state d.shelf) mid → IsLawful mid
      → IsIdle (world (state now.shelf) now.core) (world mid d.core)
  turned_idle mid makes lawful = seen (λ (x : World). IsIdle x (world mid d.core)) (record { same = refl; looked = makes; lawful = lawful })

  -- nothing is in flight
  pub rested : IsKept (world (state d.shelf) d.core) → AreClaimed d.core.pieces.claims d.core.pieces.lives
      → (state d.shelf).in_flight ≡ []
      → ((state now.shelf).in_flight ≡ []) × (list_any is_open now.core.lines.answers ≡ false) × (now.core.barrier ≡ None)
  rested kept claimed none =
      let still = resting (world (state d.shelf) d.core) kept claimed none in
      seen (λ (x : World). (x.shelf.in_flight ≡ []) × (list_any is_open x.core.lines.answers ≡ false) × (x.core.barrier ≡ None))
      (none, still.0, still.1)

  -- a line was begun, once there was room for it
  pub seen_begun : (mid v : World) (line : Line) (begun : Begun) → IsGrown (world (state d.shelf) d.core) mid → BeginsIn mid line begun v
      → IsAtRest v.core
      → IsBegunAs (world (state now.shelf) now.core) line begun v
  seen_begun mid v line begun grows begins rest =
      seen (λ (x : World). IsBegunAs x line begun v) (record { grown = mid; grows = grows; begins = begins; rest = rest })
