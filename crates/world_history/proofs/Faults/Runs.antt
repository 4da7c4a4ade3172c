-- A run of a session's script names a disk in an answer only where an operation of that disk failed in it.
use Rattle.std.proofs.Common.{ℕ, zero, suc, All, Bool, List, [], Option, get_or, replicate, refl, sym, ap, subst, ◌∙◌, arith, true≢false}
use Rattle.std.specs.FinSet as set
use Rattle.std.specs.Ordering.{nat_cmp}
use Rattle.std.proofs.lemmas.List.Elements.{All-contains, All-nil}
use Rattle.lvm_script.specs.declared.line.Line.{Line}
use Rattle.line_table.specs.Steps.{Lines}
use Rattle.disk_model.specs.State.{State}
use Rattle.flush_plan.specs.Plans.{marks_of, no_marks}
use Rattle.flush_waits.specs.Waits.{Waits}
use Rattle.piece_split.specs.Laws.{PiecesCoverRequest}
use Rattle.vg_found.specs.declared.found.Found.{Found}
use Rattle.io_session.specs.Events.{Event}
use Rattle.io_session.specs.Traces.{HasTimelyTrace}
use Rattle.world_acts.specs.Acts.{World, world}
use Rattle.world_acts.specs.OpenLines.{Opens}
use Rattle.io_core.specs.Events.{Makes}
use Rattle.io_core.specs.Rest.{IsKept}
use Rattle.io_core.specs.Worlds.{IsOpenedOn, WorldOn}
use Rattle.world_history.specs.Faults.{NameFaults}
use Rattle.world_history.specs.Told.{IsSessionLine}
use Rattle.world_history.proofs.Faults.Keeps.{HasRisen, Rises, keeps_faults}
use Rattle.world_history.proofs.Faults.Names.{IsBehind, OpenNames, SaidNames}
use Rattle.world_history.proofs.Runs.{opened_told, trace_going}

-- nothing is lost or named yet
none_behind : (disks pv : ℕ) → IsBehind (get_or (replicate disks no_marks) pv no_marks) → ⊥
none_behind zero pv is = absurd (omega (arith, is))
none_behind (suc n) zero is = absurd (omega (arith, is))
none_behind (suc n) (suc pv) is = none_behind n pv is

opened_risen : (found : Found) (disks : ℕ) (w : World) → IsOpenedOn found disks w.core → HasRisen w.shelf w
opened_risen found disks w is =
    let R : ℕ → Type 0 = Rises w.shelf w.shelf in
    record {
      least = λ pv. omega arith;
      names = record {
        failed = λ pv has. absurd (true≢false (sym has ∙ ap (λ (s : set.FinSet nat_cmp). set.contains s pv) is.failed
            ∙ set.contains-empty nat_cmp pv));
        behind = λ pv behind. absurd (none_behind disks pv (subst (λ (x : Waits). IsBehind (marks_of x.plan pv)) is.waits behind));
        opens = subst (λ (x : Opens). All (OpenNames R) x.list) (sym is.opens) (All-nil (OpenNames R));
        answers = subst (λ (x : Lines). All (SaidNames R) x.answers) (sym is.lines) (All-nil (SaidNames R));
      };
    }

pub run_faults : {S : Type 0} (state : S → State) → PiecesCoverRequest → (start : WorldOn S) (script : List Line) → All IsSessionLine script
    → (found : Found) (disks : ℕ) (allows : WorldOn S → Line → Bool) (ended : WorldOn S) (wanted : Bool) (refused : Option Line)
    → IsOpenedOn found disks start.core
    → IsKept (world (state start.shelf) start.core)
    → HasTimelyTrace (λ (w : WorldOn S). w.core.lines.begun) allows
    (λ (old : WorldOn S) (event : Event Line) (new : WorldOn S).
    Makes (world (state old.shelf) old.core) event (world (state new.shelf) new.core)) start script ended wanted refused
    → NameFaults (state start.shelf) (state ended.shelf) ended.core.lines.answers
run_faults state law start script session found disks allows ended wanted refused opened kept run number pv said has =
    let w : World = world (state start.shelf) start.core in
    let g = trace_going state law start script session w.shelf.steps (keeps_faults w.shelf w.shelf.steps) allows run.steps ended
    run.trace run.timely
    (record {
      has = record {
        orderly = kept.orderly;
        entries = [];
        told = opened_told found disks w opened w.shelf.steps refl;
        also = opened_risen found disks w opened;
      };
      rest = kept.rest;
    }) in
    All-contains (SaidNames (Rises w.shelf (state ended.shelf))) ended.core.lines.answers _ g.has.also.names.answers has pv
