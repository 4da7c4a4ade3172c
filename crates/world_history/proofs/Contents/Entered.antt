-- What is told or entered while the machine has what the disks show: a step that leaves what a read gives, and entries that leave the
-- machine.
use Rattle.std.proofs.Common.{◌≡◌, ℕ, ◌-◌, drop, List, ◌∷◌, length, Option, refl, sym, ap, subst, ◌∙◌, arith}
use Rattle.std.specs.Option.{option_and_then}
use Rattle.sector_base.specs.declared.places.Piece.{Piece}
use Rattle.line_answers.specs.declared.answer.Answer.{Answer}
use Rattle.line_answers.specs.declared.answer.Answer.TheVariants as answer
use Rattle.lvm_script.specs.declared.line.Line.{Line}
use Rattle.data_lines.specs.DataLines.{volume_named}
use Rattle.disk_model.specs.Steps.{Flushing, Step, Submitted, step_on}
use Rattle.line_table.specs.Machine.{Nothing, PlainState, plain_after}
use Rattle.volume_history.specs.Chronicles.{Answered, Begun, ChronicleEntry, Origin, Took, in_force, moment_of, origin_at, origin_on}
use Rattle.volume_history.specs.Legal.{GivesMachine, IsFaithful, IsOrdered, LeavesGroup, key_in}
use Rattle.volume_history.specs.Laws.{HistoriesGrow}
use Rattle.volume_history.specs.Replay.{plain_state, step_of}
use Rattle.volume_history.proofs.EarlierMoments.{force_stays, replay_stays, upto_longer}
use Rattle.world_history.specs.Shown.{IsSoFar, Shows, now_of, shown_state}

-- ---- a step

pub so_far_step : (grow : HistoriesGrow) (o : Origin) (es : List ChronicleEntry) (step : Step) → IsSoFar o es
    → IsSoFar (origin_on step o) es
so_far_step grow o es step s = record {
  legal = (grow (record { origin = o; entries = es }) (Answered 0 0 answer.Fine) step s.legal).1;
  first = omega (arith, s.first);
  upto = upto_longer (length o.told.steps) (length (step_on step o.told).steps) es (omega arith) s.upto;
  force = force_stays step o es ∙ s.force;
}

-- the machine is what the disks showed before the step
pub machine_step : (o : Origin) (es : List ChronicleEntry) (step : Step) → Shows o es
    → plain_state (origin_on step o) es ≡ shown_state o.version (now_of o.told)
machine_step o es step s = replay_stays step o es s.so_far.first s.so_far.upto ∙ s.machine

pub shows_step : (grow : HistoriesGrow) (o : Origin) (es : List ChronicleEntry) (step : Step)
    → now_of (step_on step o.told) ≡ now_of o.told
    → Shows o es
    → Shows (origin_on step o) es
shows_step grow o es step same s = record {
  so_far = so_far_step grow o es step s.so_far;
  machine = machine_step o es step s ∙ ap (shown_state o.version) (sym same);
}

-- ---- an entry

-- the origin at the last moment is itself
pub origin_now : (o : Origin) → origin_at (length o.told.steps) o ≡ o
origin_now o =
    let e : length o.told.steps - length o.told.steps ≡ 0 = omega arith in
    ap (λ (k : ℕ). record o { told = record { opened = o.told.opened; steps = drop k o.told.steps } }) e

-- an entry of this moment
pub so_far_entry : (grow : HistoriesGrow) (o : Origin) (es : List ChronicleEntry) (e : ChronicleEntry) → IsSoFar o es
    → IsOrdered o.start es e
    → moment_of e ≡ length o.told.steps
    → IsFaithful o es e
    → in_force o (e ∷ es) ≡ in_force o es
    → IsSoFar o (e ∷ es)
so_far_entry grow o es e s ordered now faithful force = record {
  legal =
      (grow (record { origin = o; entries = es }) e (Submitted 0 (Flushing 0)) s.legal).0 ordered
      (subst (λ (p : Origin). IsFaithful p es e) (sym (ap (λ (m : ℕ). origin_at m o) now ∙ origin_now o)) faithful) (omega (arith, now));
  first = s.first;
  upto = (omega (arith, now), s.upto);
  force = force ∙ s.force;
}

-- a line is begun
pub shows_begun : (grow : HistoriesGrow) (o : Origin) (es : List ChronicleEntry) (m n : ℕ) (line : Line) (key : Option ℕ) → Shows o es
    → IsOrdered o.start es (Begun m n line key)
    → m ≡ length o.told.steps
    → key ≡ option_and_then (key_in (shown_state o.version (now_of o.told))) (volume_named line.command)
    → Shows o (Begun m n line key ∷ es)
shows_begun grow o es m n line key s ordered now is =
    record {
      so_far =
          so_far_entry grow o es (Begun m n line key) s.so_far ordered now
          (is ∙ ap (λ (x : PlainState). option_and_then (key_in x) (volume_named line.command)) (sym s.machine)) refl;
      machine = s.machine;
    }

-- a piece takes place that writes nothing
pub shows_took : (grow : HistoriesGrow) (o : Origin) (es : List ChronicleEntry) (m n : ℕ) (piece : Piece) → Shows o es
    → IsOrdered o.start es (Took m n piece)
    → m ≡ length o.told.steps
    → step_of o (plain_state o es) es (Took m n piece) ≡ Nothing
    → Shows o (Took m n piece ∷ es)
shows_took grow o es m n piece s ordered now none = record {
  so_far = so_far_entry grow o es (Took m n piece) s.so_far ordered now tt refl;
  machine = ap (plain_after (plain_state o es)) none ∙ s.machine;
}

-- a line is answered
pub shows_answered : (grow : HistoriesGrow) (o : Origin) (es : List ChronicleEntry) (m n : ℕ) (a : Answer) → Shows o es
    → IsOrdered o.start es (Answered m n a)
    → m ≡ length o.told.steps
    → GivesMachine o es n a
    → LeavesGroup o es n m
    → Shows o (Answered m n a ∷ es)
shows_answered grow o es m n a s ordered now gives leaves = record {
  so_far = so_far_entry grow o es (Answered m n a) s.so_far ordered now (gives, leaves) refl;
  machine = s.machine;
}
