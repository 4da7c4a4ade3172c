-- What a run comes to, from the opening of its world on, is one history in order.
use Rattle.std.proofs.Common.{◌≡◌, All, ℕ, suc, Bool, List, [], ◌∷◌, ◌++◌, Option, None, get_or, length, refl, sym, ap, subst, ◌∙◌, arith}
use Rattle.std.proofs.lemmas.List.Elements.{All-nil}
use Rattle.std.proofs.lemmas.Option.{none-some}
use Rattle.lvm_script.specs.declared.line.Line.{Line}
use Rattle.line_table.specs.Steps.{Lines}
use Rattle.disk_model.specs.State.{State}
use Rattle.piece_split.specs.Laws.{PiecesCoverRequest}
use Rattle.piece_table.specs.Pieces.{Pieces}
use Rattle.vg_found.specs.declared.found.Found.{Found}
use Rattle.io_session.specs.Events.{Event, Begins as BeginsLine, Completes as CompletesOne, Halts, Idles, RefusesCommit, RefusesLine, Tends}
use Rattle.io_session.specs.Traces.{HasTimelyTrace, IsTimely, IsTimelyAt, IsTrace, TraceStep, was_wanted}
use Rattle.world_acts.specs.Acts.{World, world}
use Rattle.world_acts.specs.OpenLines.{Opens, open_at}
use Rattle.io_core.specs.Events.{Makes}
use Rattle.io_core.specs.Rest.{IsKept}
use Rattle.io_core.specs.Worlds.{IsOpenedOn, WorldOn}
use Rattle.world_history.specs.Ordered.{IsOrderedHistory, lines_with}
use Rattle.world_history.specs.Told.{IsOfThrough, IsSessionLine, IsTold, none_coming}
use Rattle.volume_history.specs.Chronicles.{ChronicleEntry}
use Rattle.world_history.proofs.Acts.{KeepsAlso}
use Rattle.world_history.proofs.Events.{IsGoing, IsOfSession, event_going}
use Rattle.world_history.proofs.Lines.{lines_told}

-- where nothing was begun yet
pub opened_told : (found : Found) (disks : ℕ) (w : World) → IsOpenedOn found disks w.core → (start : ℕ) → w.shelf.steps ≡ start
    → IsTold start none_coming w []
opened_told found disks w is start from = record {
  journal = sym (ap (λ (l : Lines). l.journal) is.lines);
  ordered = tt;
  moment = omega (arith, from);
  committed = refl;
  count = sym (ap (λ (l : Lines). length l.begun) is.lines);
  begun = sym (ap (λ (l : Lines). l.begun) is.lines);
  answers = λ n. sym (ap (λ (l : Lines). (get_or l.answers n (0, None)).1) is.lines ∙ refl);
  lines = λ n o at. absurd (none-some o (ap (λ (x : Opens). open_at x n) (sym is.opens) ∙ at));
  through =
      subst (λ (p : Pieces). All (IsOfThrough w.core.lines.begun) p.lives) (sym is.pieces) (All-nil (IsOfThrough w.core.lines.begun));
  waits = λ n o line at. absurd (none-some o (ap (λ (x : Opens). open_at x n) (sym is.opens) ∙ at));
}

-- nothing else is kept
abbrev nothing : World → List ChronicleEntry → Type 0
nothing w es = Unit {0}

keeps_nothing : (start : ℕ) → KeepsAlso start (λ line. nothing) nothing
keeps_nothing start = record {
  goes = λ a is o t may ordered also. tt;
  readies_line = λ line a is o t may ordered also. tt;
  begins = λ line opened barrier is o t ordered also. tt;
  prepared = λ line o t awaits also. tt;
  ends = λ piece done now whose o t may run ordered also. tt;
  grows = λ o grows also. tt;
  readies = λ now o may also. tt;
}

module _ {S : Type 0} (state : S → State) (law : PiecesCoverRequest) (start : WorldOn S) (script : List Line)
    (session : All IsSessionLine script) where
  -- the world, as it is seen
  abbrev seen : WorldOn S → World
  seen w = world (state w.shelf) w.core

  abbrev makes : WorldOn S → Event Line → WorldOn S → Type 0
  makes old event new = Makes (seen old) event (seen new)

  -- a line that is begun in time is one of the script's
  of_session : (wanted : Bool) (allows : WorldOn S → Line → Bool) (w : WorldOn S) (event : Event Line)
      → IsTimelyAt (λ x. x.core.lines.begun) allows script wanted w event
      → IsOfSession event
  of_session wanted allows w (BeginsLine line) timely =
      next w.core.lines.begun timely.1.0 (subst (λ (l : List Line). All IsSessionLine l) timely.1.1 session)
    where
      next : (begun later : List Line) → All IsSessionLine (begun ++ line ∷ later) → IsSessionLine line
      next [] later all = all 0 line (omega arith)
      next (x ∷ begun) later all = next begun later (λ k d within. all (suc k) d (omega (arith, within)))
  of_session wanted allows w (RefusesLine line) timely = tt
  of_session wanted allows w CompletesOne timely = tt
  of_session wanted allows w Idles timely = tt
  of_session wanted allows w Tends timely = tt
  of_session wanted allows w RefusesCommit timely = tt
  of_session wanted allows w Halts timely = tt

  pub trace_going : (moment : ℕ) {Preparing : ℕ → World → List ChronicleEntry → Type 0} {Also : World → List ChronicleEntry → Type 0}
      → KeepsAlso moment Preparing Also
      → (allows : WorldOn S → Line → Bool) (steps : List (TraceStep (WorldOn S) Line)) (w : WorldOn S)
      → IsTrace makes start steps w
      → IsTimely (λ x. x.core.lines.begun) allows script steps
      → IsGoing moment Also (seen start)
      → IsGoing moment Also (seen w)
  trace_going moment {Preparing} {Also} keeps allows [] w trace timely g =
      subst (λ (x : WorldOn S). IsGoing moment Also (seen x)) (sym trace) g
  trace_going moment keeps allows (s ∷ steps) w trace timely g =
      event_going keeps law s.event (of_session (was_wanted steps) allows s.before s.event timely.0) trace.0
      (trace_going moment keeps allows steps s.before trace.1 timely.1 g)

  -- all of it
  pub run_ordered : (found : Found) (disks : ℕ) (allows : WorldOn S → Line → Bool) (ended : WorldOn S) (wanted : Bool)
      (refused : Option Line)
      → IsOpenedOn found disks start.core
      → IsKept (seen start)
      → HasTimelyTrace (λ w. w.core.lines.begun) allows makes start script ended wanted refused
      → IsOrderedHistory (state start.shelf).steps ended.core.lines.journal
      (lines_with 0 ended.core.lines.begun ended.core.lines.answers)
  run_ordered found disks allows ended wanted refused opened kept run =
      let g = trace_going (state start.shelf).steps (keeps_nothing (state start.shelf).steps) allows run.steps ended run.trace run.timely
      (record {
        has = record {
          orderly = kept.orderly;
          entries = [];
          told = opened_told found disks (seen start) opened (state start.shelf).steps refl;
          also = tt;
        };
        rest = kept.rest;
      }) in
      let t = g.has.told in
      record {
        entries = g.has.entries;
        journal_is = t.journal;
        lines_is =
            lines_told (state start.shelf).steps g.has.entries g.has.entries ended.core.lines.answers t.ordered t.answers
            ∙ ap (λ (l : List Line). lines_with 0 l ended.core.lines.answers) t.begun;
        ordered = t.ordered;
      }
