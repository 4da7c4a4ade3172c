-- Whatever the shelf tells, the answers of a run are of its lines, each with the line's number, and none is one that a line never has which
-- runs beside others.
use Rattle.std.proofs.Common.{◌≡◌, ◌<◌, ◌≤◌, ℕ, zero, suc, ◌&&◌, Bool, true, false, All, List, [], ◌∷◌, ◌++◌, Option, None, Some, IfSome}
use Rattle.std.proofs.Common.{get_or, is_none, is_some, length, map, set as set_at, unwrap_or, ⊎_elim, refl, sym, ap, subst, ◌∙◌}
use Rattle.std.proofs.Common.{true≢false}
use Rattle.std.specs.Option.{option_map_or}
use Rattle.std.proofs.lemmas.Bool.{cases_lt, cond_both}
use Rattle.std.proofs.lemmas.List.{get_or_past, map_push}
use Rattle.std.proofs.lemmas.List.Elements.{All-nil, All-push, All-set}
use Rattle.sector_base.specs.declared.places.Piece.{Piece}
use Rattle.command_table.specs.declared.command.Command.{Command}
use Rattle.command_table.specs.declared.command.Command.TheVariants as command
use Rattle.line_answers.specs.declared.answer.Answer.{Answer}
use Rattle.line_answers.specs.declared.answer.Answer.TheVariants as answer
use Rattle.line_answers.specs.declared.op_refusal.OpRefusal.{OpRefusal}
use Rattle.lvm_script.specs.declared.line.Line.{Line}
use Rattle.line_table.specs.Steps as lines
use Rattle.disk_model.specs.State.{State}
use Rattle.disk_model.specs.declared.ops.Done.{Done}
use Rattle.flush_plan.specs.Plans.{marks_of}
use Rattle.flush_waits.specs.declared.ticket.Waiter.{Waiter}
use Rattle.flush_waits.specs.declared.ticket.Waiter.TheVariants as waiter
use Rattle.flush_waits.specs.declared.ticket.Waiting.{Waiting}
use Rattle.piece_table.specs.declared.live.LivePiece.{LivePiece}
use Rattle.piece_table.specs.Steps.{live_of}
use Rattle.vg_found.specs.declared.found.Found.{Found}
use Rattle.io_session.specs.Events.{Event, Begins as BeginsLine, Completes as CompletesOne, Halts, Idles, RefusesCommit, RefusesLine, Tends}
use Rattle.io_session.specs.Events.{refused_after, wanted_after}
use Rattle.io_session.specs.Traces.{HasTimelyTrace, IsTrace, TraceStep, refused_in, was_wanted}
use Rattle.world_acts.specs.declared.open_line.OpenLine.{OpenLine}
use Rattle.world_acts.specs.declared.open_line.Work.{Work}
use Rattle.world_acts.specs.declared.open_line.Work.TheVariants.{Read, Whole, Write}
use Rattle.world_acts.specs.declared.state.Core.{Core}
use Rattle.world_acts.specs.declared.volumes.Volumes.{Volumes}
use Rattle.world_acts.specs.Acts.{Act, Allowed, Answers, Asks, AsksFlush, Awaits, Begins, Enters, Fails, Holds, IsFailure, IsGrown}
use Rattle.world_acts.specs.Acts.{LineFails}
use Rattle.world_acts.specs.Acts.{Marks, Passes, Reaches, Reads, Releases, SettlesAndGoes, Starts, Wakes, World, Writes, after, carries_on}
use Rattle.world_acts.specs.Acts.{core_released, goes_on, released_at, world}
use Rattle.world_acts.specs.OpenLines.{Opens, after_failure, after_filled, answer_of, filled, is_pv_failed, is_whole, no_open, open_of}
use Rattle.world_acts.specs.OpenLines.{with_open, work_answer}
use Rattle.world_acts.specs.Steps.{after_answers, after_begins, after_fails, after_leaves, after_reads, after_released, after_stays}
use Rattle.world_acts.specs.Steps.{after_written}
use Rattle.world_acts.specs.Steps.{after_wrote}
use Rattle.world_acts.proofs.Reaching.{flush_goes, going_carried, piece_goes, prepared_carried, reaches_carried, reaches_keep}
use Rattle.line_plans.specs.Judging.{refusal_of}
use Rattle.line_plans.specs.Plans.{key_for, opened_for, opened_on, opened_refused, pieces_for, work_for}
use Rattle.io_core.specs.Events.{IsBegun, IsCompleted, Makes, ending, settling_of}
use Rattle.io_core.specs.Worlds.{IsOpenedOn, WorldOn}

-- ---- answers

-- whether a line that runs beside others may be answered so: none is fenced, or stops or ends a move, and its memory is taken before it is
-- begun
abbrev pub is_plain : Answer → Bool
is_plain (answer.Fenced pv) = false
is_plain (answer.Stopped pv) = false
is_plain answer.Aborted = false
is_plain answer.NoMemory = false
is_plain said = true

abbrev pub IsPlain : Answer → Type 0
IsPlain said = is_plain said ≡ true

-- that of a line, as it is open now, and of one that has its answer
abbrev pub OpenPlain : Option OpenLine → Type 0
OpenPlain line = IsPlain (answer_of (unwrap_or line no_open))

abbrev pub SaidPlain : ℕ × Option Answer → Type 0
SaidPlain line = IfSome line.1 IsPlain

-- the answers are of the lines that were begun, in order, each with the line's number, and all are plain
pub record HasPlainAnswers (c : Core) : Type 0 where
  pub numbers : map (λ (a : ℕ × Option Answer). a.0) c.lines.answers ≡ map (λ (l : Line). l.number) c.lines.begun
  pub opens : All OpenPlain c.opens.list
  pub answers : All SaidPlain c.lines.answers

-- an answer keeps its line's number
same_numbers : (answers : List (ℕ × Option Answer)) (at : ℕ) (said : Option Answer)
    → map (λ (a : ℕ × Option Answer). a.0) (set_at answers at ((get_or answers at lines.no_line).0, said))
    ≡ map (λ (a : ℕ × Option Answer). a.0) answers
same_numbers [] at said = refl
same_numbers (a ∷ answers) zero said = refl
same_numbers (a ∷ answers) (suc at) said = ap (λ (l : List ℕ). a.0 ∷ l) (same_numbers answers at said)

-- ---- open lines

open_plain : (opens : Opens) (line : ℕ) → All OpenPlain opens.list → IsPlain (answer_of (open_of opens line))
open_plain opens line all =
    ⊎_elim (λ (lt : line < length opens.list). all line None lt)
    (λ (ge : length opens.list ≤ line). subst OpenPlain (sym (get_or_past opens.list line None ge)) refl)
    (cases_lt line (length opens.list))

-- so much is left of one now
left_plain : (opens : Opens) (line left : ℕ) → All OpenPlain opens.list
    → All OpenPlain (with_open opens line (record (open_of opens line) { left = left })).list
left_plain opens line left all =
    All-set OpenPlain opens.list line (Some (record (open_of opens line) { left = left })) (open_plain opens line all) all

-- it is to answer so
failure_plain : (opens : Opens) (line : ℕ) (why : Answer) → IsPlain why → All OpenPlain opens.list
    → All OpenPlain (after_failure opens line why).list
failure_plain opens line why plain all =
    let failed : OpenLine = record (open_of opens line) { failure = Some why } in
    cond_both (is_pv_failed (open_of opens line).failure) opens (with_open opens line failed) (λ (x : Opens). All OpenPlain x.list)
    (λ is. all)
    (λ is. All-set OpenPlain opens.list line (Some failed) plain all)

-- sectors that it reads have come
filled_plain : (opens : Opens) (line first : ℕ) (sectors : List (List ℕ)) → All OpenPlain opens.list
    → All OpenPlain (after_filled opens line first sectors).list
filled_plain opens line first sectors all =
    let o : OpenLine = open_of opens line in
    All-set OpenPlain opens.list line (Some (record o { work = filled o.work first sectors }))
    (same o.failure o.work (open_plain opens line all)) all
  where
    same : (failure : Option Answer) (work : Work) → IsPlain (unwrap_or failure (work_answer work))
        → IsPlain (unwrap_or failure (work_answer (filled work first sectors)))
    same (Some why) work is = is
    same None (Read start buffer) is = refl
    same None Write is = refl
    same None (Whole said) is = is

-- how a line is open first
work_plain : (volumes : Volumes) (key : ℕ) (c : Command) → IsPlain (answer_of (opened_on key (work_for volumes c)))
work_plain volumes key command.List = refl
work_plain volumes key (command.Read path start count) = refl
work_plain volumes key (command.Fill path start count value through) = refl
work_plain volumes key (command.Write path start hex through) = refl
work_plain volumes key c = refl

opened_plain : (volumes : Volumes) (c : Command) → IsPlain (answer_of (opened_for volumes c))
opened_plain volumes c = by (refusal_of volumes.group c)
  where
    by : (r : Option OpRefusal)
        → IsPlain (answer_of (option_map_or (opened_refused (key_for volumes c)) r (opened_on (key_for volumes c) (work_for volumes c))))
    by None = work_plain volumes (key_for volumes c) c
    by (Some refusal) = refl

-- what makes a piece fail
failure_is_plain : (c : Core) (piece : Piece) (why : Answer) → IsFailure c piece why → IsPlain why
failure_is_plain c piece (answer.PvFailed pv) is = refl
failure_is_plain c piece (answer.ReadFailed pv) is = refl
failure_is_plain c piece why is = absurd is

-- ---- acts

module _ {c : Core} (h : HasPlainAnswers c) where
  begins_plain : (line : Line) (opened : OpenLine) (moment : ℕ) → IsPlain (answer_of opened)
      → HasPlainAnswers (after_begins c line opened moment)
  begins_plain line opened moment plain = record {
    numbers =
        map_push (λ (a : ℕ × Option Answer). a.0) c.lines.answers (line.number, None)
        ∙ ap (λ (l : List ℕ). l ++ line.number ∷ []) h.numbers
        ∙ sym (map_push (λ (l : Line). l.number) c.lines.begun line);
    opens = All-push OpenPlain c.opens.list (Some opened) h.opens plain;
    answers = All-push SaidPlain c.lines.answers (line.number, None) h.answers tt;
  }

  answers_plain : (barrier : Option ℕ) (line moment : ℕ) → HasPlainAnswers (after_answers (record c { barrier = barrier }) line moment)
  answers_plain barrier line moment =
      let opened : OpenLine = open_of c.opens line in
      let took : lines.Lines = lines.after_took c.lines line (lines.no_piece opened.key) moment in
      let whole : Bool = is_whole opened.work && is_none opened.failure in
      record {
        numbers =
            cond_both whole took c.lines
            (λ (t : lines.Lines).
            map (λ (a : ℕ × Option Answer). a.0) (lines.after_answer t line (answer_of opened) moment).answers
            ≡ map (λ (l : Line). l.number) (lines.after_answer t line (answer_of opened) moment).begun)
            (λ is. numbered) (λ is. numbered);
        opens = All-set OpenPlain c.opens.list line None refl h.opens;
        answers =
            cond_both whole took c.lines
            (λ (t : lines.Lines). All SaidPlain (lines.after_answer t line (answer_of opened) moment).answers) (λ is. said) (λ is. said);
      }
    where
      numbered : map (λ (a : ℕ × Option Answer). a.0) (lines.after_answer c.lines line (answer_of (open_of c.opens line)) moment).answers
          ≡ map (λ (l : Line). l.number) c.lines.begun
      numbered = same_numbers c.lines.answers line (Some (answer_of (open_of c.opens line))) ∙ h.numbers

      said : All SaidPlain (lines.after_answer c.lines line (answer_of (open_of c.opens line)) moment).answers
      said =
          All-set SaidPlain c.lines.answers line
          ((get_or c.lines.answers line lines.no_line).0, Some (answer_of (open_of c.opens line))) (open_plain c.opens line h.opens)
          h.answers

  fails_plain : (number : ℕ) (why : Answer) (moment : ℕ) → IsPlain why → HasPlainAnswers (after_fails c number why moment)
  fails_plain number why moment plain =
      let line : ℕ = (live_of c.pieces number).line in
      record {
        numbers = h.numbers;
        opens = left_plain (after_failure c.opens line why) line _ (failure_plain c.opens line why plain h.opens);
        answers = h.answers;
      }

  reads_plain : (number : ℕ) (sectors : List (List ℕ)) (moment : ℕ) → HasPlainAnswers (after_reads c number sectors moment)
  reads_plain number sectors moment =
      let l : LivePiece = live_of c.pieces number in
      record {
        numbers = h.numbers;
        opens = left_plain (after_filled c.opens l.line l.piece.first sectors) l.line _
            (filled_plain c.opens l.line l.piece.first sectors h.opens);
        answers = h.answers;
      }

  writes_plain : (number pv moment : ℕ) → HasPlainAnswers (after_wrote c number pv moment)
  writes_plain number pv moment =
      let written : Core = after_written c number pv moment in
      cond_both (is_some (live_of c.pieces number).ticket) (after_stays written number pv (marks_of written.waits.plan pv).written)
      (after_leaves written number pv) HasPlainAnswers
      (λ is. record { numbers = h.numbers; opens = h.opens; answers = h.answers })
      (λ is. record {
        numbers = h.numbers;
        opens = left_plain c.opens (live_of c.pieces number).line _ h.opens;
        answers = h.answers;
      })

  released_plain : (pv : ℕ) (first : Option Waiting) → HasPlainAnswers (core_released c pv first)
  released_plain pv None = h
  released_plain pv (Some it) = of it.waiter
    where
      of : (who : Waiter) → HasPlainAnswers (after_released c who pv)
      of (waiter.Line line) = record { numbers = h.numbers; opens = left_plain c.opens line _ h.opens; answers = h.answers }
      of (waiter.Piece number) = record {
        numbers = h.numbers;
        opens = left_plain c.opens (live_of c.pieces number).line _ h.opens;
        answers = h.answers;
      }

abbrev IsPlainWorld : World → Type 0
IsPlainWorld w = HasPlainAnswers w.core

act_plain : (w : World) (a : Act) → carries_on a ≡ true → Allowed w a → IsPlainWorld w → IsPlainWorld (after w a)
act_plain w (Enters n piece sectors ticket entry) is may h =
    record { numbers = h.numbers; opens = left_plain w.core.opens n _ h.opens; answers = h.answers }
act_plain w (Awaits n pv) is may h = record { numbers = h.numbers; opens = left_plain w.core.opens n _ h.opens; answers = h.answers }
act_plain w (LineFails n why) is may h = record {
  numbers = h.numbers;
  opens = failure_plain w.core.opens n why (ap is_plain may.1.is) h.opens;
  answers = h.answers;
}
act_plain w (Answers n) is may h = answers_plain h w.core.barrier n w.shelf.steps
act_plain w (Holds n) is may h = record { numbers = h.numbers; opens = h.opens; answers = h.answers }
act_plain w (Passes n) is may h = answers_plain h None n w.shelf.steps
act_plain w Wakes is may h = record { numbers = h.numbers; opens = h.opens; answers = h.answers }
act_plain w (Starts number) is may h = record { numbers = h.numbers; opens = h.opens; answers = h.answers }
act_plain w (Asks number op tag now) is may h = record { numbers = h.numbers; opens = h.opens; answers = h.answers }
act_plain w (Marks pv) is may h = record { numbers = h.numbers; opens = h.opens; answers = h.answers }
act_plain w (Fails number why) is may h =
    fails_plain h number why w.shelf.steps (failure_is_plain w.core (live_of w.core.pieces number).piece why may.2)
act_plain w (Writes number pv) is may h = writes_plain h number pv w.shelf.steps
act_plain w (Reads number sectors) is may h = reads_plain h number sectors w.shelf.steps
act_plain w (AsksFlush pv tag now) is may h = record { numbers = h.numbers; opens = h.opens; answers = h.answers }
act_plain w (Releases pv) is may h = released_plain h pv (released_at w.core pv)
act_plain w a is may h = absurd (true≢false (sym is))

on_plain : (w v : World) → Reaches carries_on w v → IsPlainWorld w → IsPlainWorld v
on_plain w v goes h = reaches_keep carries_on IsPlainWorld act_plain w v goes h

-- ---- events

grown_plain : (w v : World) → IsGrown w v → IsPlainWorld w → IsPlainWorld v
grown_plain w v grows h =
    subst HasPlainAnswers (sym grows.core) (record { numbers = h.numbers; opens = h.opens; answers = h.answers })

begun_plain : (w v : World) (line : Line) → IsBegun w line v → IsPlainWorld w → IsPlainWorld v
begun_plain w v line made h =
    let b = made.1.begins in
    let u : World = made.1.grown in
    let n : ℕ = length u.core.lines.begun in
    let opened : IsPlain (answer_of b.opened) =
    subst (λ (o : OpenLine). IsPlain (answer_of o)) (sym b.is) (opened_plain u.core.volumes line.command) in
    let begun : IsPlainWorld (after u (Begins line b.opened)) =
    begins_plain (grown_plain w u made.1.grows h) line b.opened u.shelf.steps opened in
    on_plain b.carried.mid v (reaches_carried b.carried.mid v b.carried.goes)
    (on_plain (after u (Begins line b.opened)) b.carried.mid
    (prepared_carried n (pieces_for u.core.volumes line.command) b.first (after u (Begins line b.opened)) b.carried.mid b.carried.prepares)
    begun)

settled_goes : (piece : Option ℕ) (done : Done) (w v : World) → SettlesAndGoes (settling_of piece done) w v → Reaches goes_on w v
settled_goes (Some number) done w v s = piece_goes number done.op done.well w v s
settled_goes None done w v s = flush_goes done.op done.well w v s

ended_plain : (piece : Option ℕ) (done : Done) (now : State) (w : World) → IsPlainWorld w → IsPlainWorld (after w (ending piece done now))
ended_plain (Some number) done now w h = record { numbers = h.numbers; opens = h.opens; answers = h.answers }
ended_plain None done now w h = record { numbers = h.numbers; opens = h.opens; answers = h.answers }

completed_plain : (w v : World) → IsCompleted w v → IsPlainWorld w → IsPlainWorld v
completed_plain w v is h =
    let f = is.completes in
    let at_end : World = after w (ending f.piece is.done is.now) in
    on_plain at_end v (going_carried at_end v (settled_goes f.piece is.done at_end v f.ends)) (ended_plain f.piece is.done is.now w h)

event_plain : (event : Event Line) (w v : World) → Makes w event v → IsPlainWorld w → IsPlainWorld v
event_plain (BeginsLine line) w v made h = begun_plain w v line made h
event_plain (RefusesLine line) w v made h = grown_plain w v made h
event_plain CompletesOne w v made h = completed_plain w v made h
event_plain Idles w v made h = subst HasPlainAnswers (sym made.same) h
event_plain Tends w v made h = absurd made
event_plain RefusesCommit w v made h = absurd made
event_plain Halts w v made h = absurd made

-- where memory is wanted it is for a line, which comes back
wanted_line : (event : Event Line) (w v : World) → Makes w event v → (wanted : Bool) (refused : Option Line)
    → (wanted ≡ true → is_some refused ≡ true)
    → wanted_after event wanted ≡ true
    → is_some (refused_after event refused) ≡ true
wanted_line (BeginsLine line) w v made wanted refused before is = before is
wanted_line (RefusesLine line) w v made wanted refused before is = refl
wanted_line CompletesOne w v made wanted refused before is = before is
wanted_line Idles w v made wanted refused before is = before is
wanted_line Tends w v made wanted refused before is = absurd made
wanted_line RefusesCommit w v made wanted refused before is = absurd made
wanted_line Halts w v made wanted refused before is = absurd made

-- ---- runs

none_plain : (found : Found) (disks : ℕ) (c : Core) → IsOpenedOn found disks c → HasPlainAnswers c
none_plain found disks c is = record {
  numbers =
      subst (λ (x : lines.Lines). map (λ (a : ℕ × Option Answer). a.0) x.answers ≡ map (λ (l : Line). l.number) x.begun) (sym is.lines)
      refl;
  opens = subst (λ (x : Opens). All OpenPlain x.list) (sym is.opens) (All-nil OpenPlain);
  answers = subst (λ (x : lines.Lines). All SaidPlain x.answers) (sym is.lines) (All-nil SaidPlain);
}

module _ {S : Type 0} (state : S → State) (start : WorldOn S) where
  -- the world, as it is seen
  abbrev seen : WorldOn S → World
  seen w = world (state w.shelf) w.core

  abbrev makes : WorldOn S → Event Line → WorldOn S → Type 0
  makes old event new = Makes (seen old) event (seen new)

  trace_plain : (steps : List (TraceStep (WorldOn S) Line)) (w : WorldOn S) → IsTrace makes start steps w → HasPlainAnswers start.core
      → HasPlainAnswers w.core
  trace_plain [] w trace h = subst (λ (x : WorldOn S). HasPlainAnswers x.core) (sym trace) h
  trace_plain (s ∷ steps) w trace h = event_plain s.event (seen s.before) (seen w) trace.0 (trace_plain steps s.before trace.1 h)

  trace_wanted : (steps : List (TraceStep (WorldOn S) Line)) (w : WorldOn S) → IsTrace makes start steps w → was_wanted steps ≡ true
      → is_some (refused_in steps) ≡ true
  trace_wanted [] w trace is = absurd (true≢false (sym is))
  trace_wanted (s ∷ steps) w trace is =
      wanted_line s.event (seen s.before) (seen w) trace.0 (was_wanted steps) (refused_in steps) (trace_wanted steps s.before trace.1) is

  -- all of it
  pub run_plain : (script : List Line) (found : Found) (disks : ℕ) (allows : WorldOn S → Line → Bool) (ended : WorldOn S) (wanted : Bool)
      (refused : Option Line)
      → IsOpenedOn found disks start.core
      → HasTimelyTrace (λ (w : WorldOn S). w.core.lines.begun) allows makes start script ended wanted refused
      → HasPlainAnswers ended.core × (wanted ≡ true → is_some refused ≡ true)
  run_plain script found disks allows ended wanted refused opened run = (
    trace_plain run.steps ended run.trace (none_plain found disks start.core opened),
    λ is. subst (λ (o : Option Line). is_some o ≡ true) run.told_line (trace_wanted run.steps ended run.trace (run.told ∙ is)),
  )
