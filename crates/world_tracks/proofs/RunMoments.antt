-- A run of a session's script over a shelf that tells has one history, each moment of which is consistent, where what its acts keep says
-- that each sector is tracked.
use Rattle.std.proofs.Common.{◌≡◌, All, ℕ, Bool, true, List, [], ◌∷◌, ◌++◌, length, Contains, Option, Some, ⊎_elim, refl, sym, ap, subst}
use Rattle.std.proofs.Common.{◌∙◌, arith}
use Rattle.std.proofs.lemmas.List.Elements.{All-contains, Contains-append_right, Contains-push_cases}
use Rattle.std.proofs.lemmas.Option.{same_Some}
use Rattle.lvm_script.specs.declared.line.Line.{Line}
use Rattle.line_table.specs.Steps.{Lines}
use Rattle.data_lines.specs.DataLines.{runs_beside}
use Rattle.disk_model.specs.Durability.{IsBase}
use Rattle.disk_model.specs.State.{State}
use Rattle.disk_model.specs.Steps.{Image, Record}
use Rattle.piece_split.specs.Laws.{PiecesCoverRequest}
use Rattle.vg_found.specs.declared.found.Found.{Found}
use Rattle.volume_history.specs.Chronicles.{ChronicleEntry, Origin}
use Rattle.io_session.specs.Events.{Event, Begins as BeginsLine, Completes as CompletesOne, Halts, Idles, RefusesCommit, RefusesLine, Tends}
use Rattle.io_session.specs.Traces.{HasTimelyTrace, IsTimely, IsTimelyAt, IsTrace, TraceStep, was_wanted}
use Rattle.world_acts.specs.declared.state.Core.{Core}
use Rattle.world_acts.specs.Acts.{Begins, World, after, world}
use Rattle.world_acts.proofs.Lasting.{begun_reaches}
use Rattle.world_acts.proofs.Reaching.{going_carried}
use Rattle.io_core.specs.Events.{IsBegun, IsCompleted, Makes, ending}
use Rattle.io_core.specs.Rest.{IsKept}
use Rattle.io_core.specs.Worlds.{IsOpenedOn, WorldOn}
use Rattle.io_core.proofs.Continued.{carried_reaches, follows_going}
use Rattle.world_history.specs.Causes.{AreCaused}
use Rattle.world_history.specs.Contents.{origin_with}
use Rattle.world_history.specs.Ordered.{lines_with}
use Rattle.world_history.specs.Told.{IsSessionLine}
use Rattle.world_history.proofs.Acts.{KeepsAlso}
use Rattle.world_history.proofs.Contents.Keeps.{told_steps}
use Rattle.world_history.proofs.FlushesKept.{run_flushes}
use Rattle.world_history.proofs.Lines.{lines_told}
use Rattle.world_history.proofs.Runs.{opened_told, trace_going}
use Rattle.world_tracks.specs.Histories.{HasConsistentHistory}
use Rattle.world_tracks.specs.Moments.{ArePast, HasBase, HasMoments}
use Rattle.world_tracks.proofs.ConsistentNow.{MomentLaws}
use Rattle.world_tracks.proofs.KeepsMoments.{AllBeside, IsTracked, Moments, all_consistent, begun_end, keeps_moments}
use Rattle.world_tracks.proofs.MomentActs.{opening_moments}

-- ---- the lines that were begun are the script's

begun_more : (w v : World) (line : Line) → IsBegun w line v → v.core.lines.begun ≡ w.core.lines.begun ++ line ∷ []
begun_more w v line is =
    let b = is.1.begins in
    begun_reaches (after is.1.grown (Begins line b.opened)) v (carried_reaches b.carried)
    ∙ ap (λ (c : Core). c.lines.begun ++ line ∷ []) is.1.grows.core

begun_completed : (w v : World) → IsCompleted w v → v.core.lines.begun ≡ w.core.lines.begun
begun_completed w v is =
    let mid : World = after w (ending is.completes.piece is.done is.now) in
    begun_reaches mid v (going_carried mid v (follows_going w v is.done is.now is.completes))
    ∙ begun_end w is.completes.piece is.done is.now

-- one more that runs beside others
beside_more : (begun : List Line) (line : Line) → runs_beside line.command ≡ true → AllBeside begun → AllBeside (begun ++ line ∷ [])
beside_more begun line beside all l among =
    ⊎_elim (λ old. all l old) (λ (same : line ≡ l). subst (λ (x : Line). runs_beside x.command ≡ true) same beside)
    (Contains-push_cases begun line l among)

module _ (script : List Line) (session : All IsSessionLine script) where
  script_beside : AllBeside script
  script_beside line among = let is : IsSessionLine line = All-contains IsSessionLine script line session among in is.beside

  next_beside : (begun later : List Line) (line : Line) → script ≡ begun ++ line ∷ later → runs_beside line.command ≡ true
  next_beside begun later line is =
      script_beside line
      (subst (λ (l : List Line). Contains l line) (sym is) (Contains-append_right begun (line ∷ later) line (0, omega arith, refl)))

  module _ {S : Type 0} (state : S → State) (start : WorldOn S) (allows : WorldOn S → Line → Bool) where
    abbrev seen : WorldOn S → World
    seen w = world (state w.shelf) w.core

    event_beside : (wanted : Bool) (w v : WorldOn S) (event : Event Line) → Makes (seen w) event (seen v)
        → IsTimelyAt (λ (x : WorldOn S). x.core.lines.begun) allows script wanted w event → AllBeside w.core.lines.begun
        → AllBeside v.core.lines.begun
    event_beside wanted w v (BeginsLine line) made timely all =
        subst AllBeside (sym (begun_more (seen w) (seen v) line made))
        (beside_more w.core.lines.begun line (next_beside w.core.lines.begun timely.1.0 line timely.1.1) all)
    event_beside wanted w v (RefusesLine line) made timely all =
        subst AllBeside (sym (ap (λ (c : Core). c.lines.begun) made.core)) all
    event_beside wanted w v CompletesOne made timely all = subst AllBeside (sym (begun_completed (seen w) (seen v) made)) all
    event_beside wanted w v Idles made timely all = subst AllBeside (sym (ap (λ (c : Core). c.lines.begun) made.same)) all
    event_beside wanted w v Tends made timely all = absurd made
    event_beside wanted w v RefusesCommit made timely all = absurd made
    event_beside wanted w v Halts made timely all = absurd made

    pub trace_beside : (steps : List (TraceStep (WorldOn S) Line)) (w : WorldOn S)
        → IsTrace (λ (old : WorldOn S) (event : Event Line) (new : WorldOn S). Makes (seen old) event (seen new)) start steps w
        → IsTimely (λ (x : WorldOn S). x.core.lines.begun) allows script steps → AllBeside start.core.lines.begun
        → AllBeside w.core.lines.begun
    trace_beside [] w trace timely all = subst (λ (x : WorldOn S). AllBeside x.core.lines.begun) (sym trace) all
    trace_beside (s ∷ steps) w trace timely all =
        event_beside (was_wanted steps) s.before w s.event trace.0 timely.0 (trace_beside steps s.before trace.1 timely.1 all)

-- ---- the run

-- at the opening none was begun
none_begun : (begun : List Line) → begun ≡ [] → AllBeside begun
none_begun begun none = subst AllBeside (sym none) (λ line among. absurd (let lt = among.1 in omega (arith, lt)))

pub run_consistent : {S : Type 0} (state : S → State) → PiecesCoverRequest → (start : WorldOn S) (script : List Line)
    → All IsSessionLine script
    → (found : Found) (disks : ℕ) (allows : WorldOn S → Line → Bool) (ended : WorldOn S) (wanted : Bool) (refused : Option Line)
    → IsOpenedOn found disks start.core
    → IsKept (world (state start.shelf) start.core)
    → HasTimelyTrace (λ (w : WorldOn S). w.core.lines.begun) allows
    (λ (old : WorldOn S) (event : Event Line) (new : WorldOn S).
    Makes (world (state old.shelf) old.core) event (world (state new.shelf) new.core)) start script ended wanted refused
    → MomentLaws → (o : Origin) (base : Image) → HasBase o base
    → (P : ℕ → World → List ChronicleEntry → Type 0) (T : World → List ChronicleEntry → Type 0)
    → ((line : ℕ) (w : World) (es : List ChronicleEntry) → P line w es → IsTracked o w es)
    → ((w : World) (es : List ChronicleEntry) → T w es → IsTracked o w es)
    → ((w : World) (es : List ChronicleEntry) → T w es → (told : Record) → w.shelf.told ≡ Some told → AreCaused (origin_with o told) es)
    → KeepsAlso o.start P T
    → (state start.shelf).told ≡ Some o.told → o.start ≡ length o.told.steps → T (world (state start.shelf) start.core) []
    → IsBase o.told base → ArePast o o.told []
    → HasConsistentHistory o base (state ended.shelf) ended.core.lines.journal
    (lines_with 0 ended.core.lines.begun ended.core.lines.answers)
run_consistent state law start script session found disks allows ended wanted refused opened kept run laws o base has P T preparing gives
    caused keeps is starts tracked stands past =
    let w = world (state start.shelf) start.core in
    let at_start : Moments o base w [] = λ beside told' is'.
    subst (λ (r : Record). HasMoments o base r []) (same_Some o.told told' (sym is ∙ is')) (opening_moments o base o.told stands past) in
    let g =
    trace_going state law start script session o.start (keeps_moments laws o base has P T preparing gives keeps) allows run.steps ended
    run.trace run.timely
    (record {
      has = record {
        orderly = kept.orderly;
        entries = [];
        told = opened_told found disks w opened o.start (told_steps kept.orderly o.told is ∙ sym starts);
        also = (tracked, at_start);
      };
      rest = kept.rest;
    }) in
    let t = g.has.told in
    let k : IsTracked o (world (state ended.shelf) ended.core) g.has.entries =
    gives (world (state ended.shelf) ended.core) g.has.entries g.has.also.0 in
    let beside : AllBeside ended.core.lines.begun =
    trace_beside script session state start allows run.steps ended run.trace run.timely
    (none_begun start.core.lines.begun (ap (λ (l : Lines). l.begun) opened.lines)) in
    record {
      told = k.contents.told;
      is = k.contents.is;
      history = record {
        chronicle = record { origin = origin_with o k.contents.told; entries = g.has.entries };
        of_run = record {
          told = refl;
          first = refl;
          sizes = refl;
          names = refl;
          clock = refl;
          journal_is = t.journal;
          lines_is =
              lines_told o.start g.has.entries g.has.entries ended.core.lines.answers t.ordered t.answers
              ∙ ap (λ (l : List Line). lines_with 0 l ended.core.lines.answers) t.begun;
        };
        legal = k.contents.holds.shows.so_far.legal;
        consistent = all_consistent laws o base has g.has.orderly t k g.has.also.1 beside;
      };
      shown = k.contents.holds.shows.machine;
      flushes =
          run_flushes o state law start script session found disks allows ended wanted refused opened kept run is starts k.contents.told
          k.contents.is;
      beside = (g.has.also.1 beside k.contents.told k.contents.is).beside;
      causes =
          caused (world (state ended.shelf) ended.core) g.has.entries g.has.also.0 k.contents.told k.contents.is;
    }
