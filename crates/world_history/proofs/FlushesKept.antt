-- Acts submit a flush of a disk only where none of it is in flight, so a run has one of each disk in flight at the most.
use Rattle.std.proofs.Common.{◌≡◌, All, ℕ, Bool, true, false, cond, not, nat_eq, List, [], ◌∷◌, length, find, Option, None, Some}
use Rattle.std.proofs.Common.{option_map, refl, sym, ap, subst, ◌∙◌, true≢false}
use Rattle.std.proofs.lemmas.Bool.{and_parts, eq-eqb, eqb-true}
use Rattle.std.proofs.lemmas.Option.{none-some, same_Some}
use Rattle.lvm_script.specs.declared.line.Line.{Line}
use Rattle.disk_model.specs.State.{State}
use Rattle.disk_model.specs.Steps.{Flushing, Reading, Record, Writing, disk_of_work}
use Rattle.disk_model.specs.declared.ops.Op.TheVariants.{Flush as FlushOp}
use Rattle.flush_plan.specs.declared.records.Flush.{Flush}
use Rattle.flush_plan.specs.Plans.{flight_of}
use Rattle.flush_waits.specs.Waits.{disk_waits}
use Rattle.piece_split.specs.Laws.{PiecesCoverRequest}
use Rattle.piece_table.specs.declared.live.LivePiece.{LivePiece}
use Rattle.piece_table.specs.declared.live.Owner.{Owner}
use Rattle.piece_table.specs.Pieces.{live_at, owner_at}
use Rattle.piece_table.specs.Steps.{live_of}
use Rattle.vg_found.specs.declared.found.Found.{Found}
use Rattle.volume_history.specs.Chronicles.{ChronicleEntry, Origin}
use Rattle.io_session.specs.Events.{Event}
use Rattle.io_session.specs.Traces.{HasTimelyTrace}
use Rattle.world_acts.specs.declared.state.Core.{Core}
use Rattle.world_acts.specs.Acts.{Act, Allowed, Asks, AsksFlush, Ends, EndsFlush, Grows, Readies, Runs, World, after, world}
use Rattle.world_acts.specs.Orderly.{IsOrderly}
use Rattle.world_acts.specs.Owners.{flush_at, line_of, owned_work, piece_work, values_of}
use Rattle.world_acts.specs.Volumes.{span_of}
use Rattle.world_acts.proofs.Orderly.{orderly_after}
use Rattle.io_core.specs.Events.{Makes, ending, settling_of}
use Rattle.io_core.specs.Rest.{IsKept}
use Rattle.io_core.specs.Worlds.{IsOpenedOn, WorldOn}
use Rattle.io_core.proofs.WantedFlushes.{flight_found, none_is}
use Rattle.world_history.specs.Contents.{origin_with}
use Rattle.world_history.specs.Flushing.{FlushesOneByOne}
use Rattle.world_history.specs.Told.{IsSessionLine}
use Rattle.world_history.proofs.Acts.{KeepsAlso}
use Rattle.world_history.proofs.Contents.Keeps.{told_steps}
use Rattle.world_history.proofs.OpenFlushes.{IsUnflushed, ShelfLeavesOne, flushes, flushes_not, leaves_completed, leaves_none, leaves_one}
use Rattle.world_history.proofs.OpenFlushes.{leaves_same, leaves_submitted}
use Rattle.world_history.proofs.Runs.{opened_told, trace_going}

-- what a test finds passes no other by which nothing is found
found_fails : {X : Type 0} (test other : X → Bool) (xs : List X) (x : X) → find test xs ≡ Some x → find other xs ≡ None
    → other x ≡ true → ⊥
found_fails test other [] x found none passes = none-some x found
found_fails {X} test other (y ∷ xs) x found none passes =
    elim (other y) as (λ b. other y ≡ b → cond b (Some y) (find other xs) ≡ None → ⊥) [
      | true ↦ λ is h. none-some y (sym h)
      | false ↦ λ fails h.
          elim (test y) as (λ b. cond b (Some y) (find test xs) ≡ Some x → ⊥) [
            | true ↦ λ same. true≢false (sym passes ∙ ap other (sym (same_Some y x same)) ∙ fails)
            | false ↦ λ later. found_fails test other xs x later h passes
          ] found
    ] refl none

-- a piece flushes nothing
piece_flushes : (c : Core) (l : LivePiece) (pv : ℕ) → flushes pv (piece_work c l) ≡ false
piece_flushes c l pv =
    elim l.piece.write as
    (λ b. flushes pv (cond b (Writing (span_of c.volumes l.piece) (values_of (line_of c l) l.piece)) (Reading (span_of c.volumes l.piece)))
    ≡ false) [
      | true ↦ refl
      | false ↦ refl
    ]

-- a disk of which the plan has no flush has none in flight
unflushed : (w : World) (pv : ℕ) → IsOrderly w → flight_of w.core.waits.plan pv ≡ None → IsUnflushed w.shelf pv
unflushed w pv o none tag at =
    by (owner_at w.core.pieces.owners tag) (flush_at w.core.waits.plan tag) refl (sym (o.backed.known.owned tag) ∙ at)
  where
    no_piece : (l : Option LivePiece) → option_map (piece_work w.core) l ≡ Some (Flushing pv) → ⊥
    no_piece None is = none-some (Flushing pv) is
    no_piece (Some l) is =
        flushes_not pv (piece_work w.core l) (piece_flushes w.core l pv) (same_Some (piece_work w.core l) (Flushing pv) is)

    by : (owner : Option Owner) (flush : Option Flush) → flush_at w.core.waits.plan tag ≡ flush
        → owned_work w.core.pieces.lives (piece_work w.core) flush owner ≡ Some (Flushing pv)
        → ⊥
    by (Some owner) flush found is = no_piece (live_at w.core.pieces.lives owner.piece) is
    by None None found is = none-some (Flushing pv) is
    by None (Some f) found is =
        found_fails (λ (g : Flush). nat_eq g.tag tag) (λ (g : Flush). nat_eq g.pv pv) w.core.waits.plan.flushes f found
        (sym (flight_found w.core.waits.plan pv) ∙ none)
        (eq-eqb f.pv pv (ap disk_of_work (same_Some (Flushing f.pv) (Flushing pv) is)))

module _ (o : Origin) where
  -- ---- acts

  leaves_act : (w : World) (a : Act) → IsOrderly w → Allowed w a → ShelfLeavesOne o w.shelf → ShelfLeavesOne o (after w a).shelf
  leaves_act w (Asks number op tag now) orderly may =
      leaves_submitted o w.shelf now op tag orderly.backed.lawful may.0
      (λ pv is. absurd (true≢false (sym is ∙ ap (flushes pv) may.3 ∙ piece_flushes w.core (live_of w.core.pieces number) pv)))
  leaves_act w (AsksFlush pv tag now) orderly may =
      leaves_submitted o w.shelf now (FlushOp pv) tag orderly.backed.lawful may.0
      (λ q is. subst (IsUnflushed w.shelf) (eqb-true pv q is)
      (unflushed w pv orderly
      (none_is (flight_of w.core.waits.plan pv) (and_parts (not (nat_eq (length (disk_waits w.core.waits pv).next) 0)) _ may.2).1)))
  leaves_act w (Ends done now) orderly may = leaves_completed o w.shelf now done orderly.backed.lawful may.0
  leaves_act w (EndsFlush done now) orderly may = leaves_completed o w.shelf now done orderly.backed.lawful may.0
  leaves_act w (Readies now) orderly may =
      leaves_same o w.shelf now (ap (λ (s : State). s.told) may.0.same) (ap (λ (s : State). s.in_flight) may.0.same)
  leaves_act w (Grows v) orderly may =
      leaves_same o w.shelf v.shelf (ap (λ (s : State). s.told) may.shelf) (ap (λ (s : State). s.in_flight) may.shelf)
  leaves_act w a orderly may = λ h. h

  leaves_runs : (acts : List Act) (w v : World) → IsOrderly w → Runs w acts v → ShelfLeavesOne o w.shelf → ShelfLeavesOne o v.shelf
  leaves_runs [] w v orderly run h = subst (λ (x : World). ShelfLeavesOne o x.shelf) (sym run) h
  leaves_runs (a ∷ acts) w v orderly run h =
      leaves_runs acts (after w a) v (orderly_after w a orderly run.0) run.1 (leaves_act w a orderly run.0 h)

  -- ---- all of it

  keeps_flushes : (start : ℕ) → KeepsAlso start (λ line w es. ShelfLeavesOne o w.shelf) (λ w es. ShelfLeavesOne o w.shelf)
  keeps_flushes start = record {
    goes = λ a is orderly t may ordered. leaves_act _ a orderly may;
    readies_line = λ line a is orderly t may ordered. leaves_act _ a orderly may;
    begins = λ line opened barrier is orderly t ordered h. h;
    prepared = λ line orderly t awaits h. h;
    ends = λ piece done now whose orderly t may run ordered h.
        leaves_runs (settling_of piece done) _ _ (orderly_after _ (ending piece done now) orderly may) run
        (leaves_act _ (ending piece done now) orderly may h);
    grows = λ orderly grows. leaves_act _ (Grows _) orderly grows;
    readies = λ now orderly may. leaves_act _ (Readies now) orderly may;
  }

  -- ---- a run of a session's script

  pub run_flushes : {S : Type 0} (state : S → State) → PiecesCoverRequest → (start : WorldOn S) (script : List Line)
      → All IsSessionLine script
      → (found : Found) (disks : ℕ) (allows : WorldOn S → Line → Bool) (ended : WorldOn S) (wanted : Bool) (refused : Option Line)
      → IsOpenedOn found disks start.core
      → IsKept (world (state start.shelf) start.core)
      → HasTimelyTrace (λ (w : WorldOn S). w.core.lines.begun) allows
      (λ (old : WorldOn S) (event : Event Line) (new : WorldOn S).
      Makes (world (state old.shelf) old.core) event (world (state new.shelf) new.core)) start script ended wanted refused
      → (state start.shelf).told ≡ Some o.told → o.start ≡ length o.told.steps
      → (told : Record) → (state ended.shelf).told ≡ Some told → FlushesOneByOne (origin_with o told)
  run_flushes state law start script session found disks allows ended wanted refused opened kept run is starts told ends =
      let w = world (state start.shelf) start.core in
      let g = trace_going state law start script session o.start (keeps_flushes o.start) allows run.steps ended run.trace run.timely
      (record {
        has = record {
          orderly = kept.orderly;
          entries = [];
          told = opened_told found disks w opened o.start (told_steps kept.orderly o.told is ∙ sym starts);
          also = leaves_none o w.shelf is;
        };
        rest = kept.rest;
      }) in
      leaves_one o (state ended.shelf) told starts (g.has.also told ends)
