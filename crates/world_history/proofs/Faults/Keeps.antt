-- What is kept along a run over any shelf: counts of faults never fall, and each disk that is lost or named has one more than at the start.
use Rattle.std.proofs.Common.{◌≡◌, ◌≤◌, ◌<◌, ℕ, ◌+◌, ◌==◌, ◌&&◌, Bool, true, false, cond, not, List, Option, None, Some}
use Rattle.std.proofs.Common.{refl, sym, ap, subst, ◌∙◌, arith, true≢false}
use Rattle.std.specs.Option.{option_map_or}
use Rattle.std.proofs.lemmas.Bool.{eq-eqb}
use Rattle.command_table.specs.declared.command.Command.{Command}
use Rattle.command_table.specs.declared.command.Command.TheVariants as command
use Rattle.line_answers.specs.declared.answer.Answer.{Answer}
use Rattle.line_answers.specs.declared.answer.Answer.TheVariants.{PvFailed, ReadFailed}
use Rattle.line_answers.specs.declared.op_refusal.OpRefusal.{OpRefusal}
use Rattle.disk_model.specs.Calls.{Completes}
use Rattle.disk_model.specs.Operations.{disk_of}
use Rattle.disk_model.specs.State.{State}
use Rattle.disk_model.specs.Steps.{disk_of_work}
use Rattle.disk_model.specs.declared.ops.Done.{Done}
use Rattle.disk_model.specs.declared.ops.Op.{Op}
use Rattle.disk_model.specs.declared.ops.Op.TheVariants.{Flush as FlushOp, Read as ReadOp, Write as WriteOp}
use Rattle.volume_history.specs.Chronicles.{ChronicleEntry}
use Rattle.world_acts.specs.declared.open_line.OpenLine.{OpenLine}
use Rattle.world_acts.specs.declared.state.Core.{Core}
use Rattle.world_acts.specs.declared.volumes.Volumes.{Volumes}
use Rattle.world_acts.specs.Acts.{Act, Allowed, Answers, Asks, AsksFlush, Awaits, Ends, EndsFlush, Enters, Fails, Holds, IsGrown, LineFails}
use Rattle.world_acts.specs.Acts.{Marks as MarksDisk, Passes, Releases, Runs, Starts, Wakes, World, after, flushing, follows}
use Rattle.world_acts.specs.Acts.{prepares, released_at, settling}
use Rattle.world_acts.specs.OpenLines.{answer_of}
use Rattle.world_acts.specs.Orderly.{IsOrderly}
use Rattle.line_plans.specs.Judging.{refusal_of}
use Rattle.line_plans.specs.Plans.{key_for, opened_for, opened_on, opened_refused, work_for}
use Rattle.io_core.specs.Events.{ending, settling_of}
use Rattle.world_history.specs.Faults.{disk_named}
use Rattle.world_history.proofs.Acts.{KeepsAlso}
use Rattle.world_history.proofs.EndedFlush.{WasFlush, was_flush}
use Rattle.world_history.proofs.Faults.Cores.{answers_names, awaits_names, begins_names, enters_names, fails_names, flushed_names}
use Rattle.world_history.proofs.Faults.Cores.{line_fails_names, marks_names, reads_names, released_names, writes_names}
use Rattle.world_history.proofs.Faults.Names.{NamesOnly, Names, names_lost, names_more, names_none, names_one, names_still}

-- ---- counts

-- an operation of the disk failed between these two states
abbrev pub Rises : State → State → ℕ → Type 0
Rises old new pv = old.faults pv < new.faults pv

-- no count falls where an operation completes, and that of its disk rises where it completes badly
completed_least : (s now : State) (done : Done) → Completes s done now → (pv : ℕ) → s.faults pv ≤ now.faults pv
completed_least s now done c pv = by (not done.well && (disk_of done.op == pv)) (c.faults pv)
  where
    by : (b : Bool) → now.faults pv ≡ cond b (s.faults pv + 1) (s.faults pv) → s.faults pv ≤ now.faults pv
    by true is = omega (arith, is)
    by false is = omega (arith, is)

completed_badly : (s now : State) (done : Done) → Completes s done now → done.well ≡ false → Rises s now (disk_of done.op)
completed_badly s now done c bad =
    by (not done.well && (disk_of done.op == disk_of done.op)) (λ i. not (bad i) && eq-eqb (disk_of done.op) (disk_of done.op) refl i)
    (c.faults (disk_of done.op))
  where
    by : (b : Bool) → b ≡ true
        → now.faults (disk_of done.op) ≡ cond b (s.faults (disk_of done.op) + 1) (s.faults (disk_of done.op))
        → Rises s now (disk_of done.op)
    by true same is = omega (arith, is)
    by false same is = absurd (true≢false (sym same))

-- ---- how a line is open first

work_named : (volumes : Volumes) (key : ℕ) (c : Command) → disk_named (answer_of (opened_on key (work_for volumes c))) ≡ None
work_named volumes key command.List = refl
work_named volumes key (command.Read path start count) = refl
work_named volumes key (command.Fill path start count value through) = refl
work_named volumes key (command.Write path start hex through) = refl
work_named volumes key c = refl

opened_named : (volumes : Volumes) (c : Command) → disk_named (answer_of (opened_for volumes c)) ≡ None
opened_named volumes c = by (refusal_of volumes.group c)
  where
    by : (r : Option OpRefusal)
        → disk_named (answer_of (option_map_or (opened_refused (key_for volumes c)) r
        (opened_on (key_for volumes c) (work_for volumes c)))) ≡ None
    by None = work_named volumes (key_for volumes c) c
    by (Some refusal) = refl

-- ---- what is kept

pub record HasRisen (old : State) (w : World) : Type 0 where
  pub least : (pv : ℕ) → old.faults pv ≤ w.shelf.faults pv
  pub names : NamesOnly (Rises old w.shelf) w.core

-- the same, whatever the entries
abbrev pub AreRisen : State → World → List ChronicleEntry → Type 0
AreRisen old w es = HasRisen old w

module _ (old : State) where
  -- the shelf is as it was
  onward : {w : World} → HasRisen old w → (d : Core) → NamesOnly (Rises old w.shelf) d → HasRisen old (record w { core = d })
  onward h d names = record { least = h.least; names = names }

  -- it goes on, and the core is as it was
  stepped : {w : World} (now : State) → ((pv : ℕ) → w.shelf.faults pv ≤ now.faults pv) → HasRisen old w
      → HasRisen old (record w { shelf = now })
  stepped {w} now more h = record {
    least = λ pv. omega (arith, h.least pv, more pv);
    names = names_more (λ pv risen. let rise : old.faults pv < w.shelf.faults pv = risen in omega (arith, rise, more pv)) w.core h.names;
  }

  -- and nothing of the core that counts differs
  still : {w : World} → HasRisen old w → (d : Core) → d.failed ≡ w.core.failed → d.waits.plan.marks ≡ w.core.waits.plan.marks
      → d.opens.list ≡ w.core.opens.list
      → d.lines.answers ≡ w.core.lines.answers
      → HasRisen old (record w { core = d })
  still {w} h d failed marks opens answers =
      onward h d (names_still (Rises old w.shelf) w.core d failed marks opens answers h.names)

  same_faults : (s now : State) → now.faults ≡ s.faults → (pv : ℕ) → s.faults pv ≤ now.faults pv
  same_faults s now same pv = let e : now.faults pv ≡ s.faults pv = ap (λ (f : ℕ → ℕ). f pv) same in omega (arith, e)

  module _ {w : World} (h : HasRisen old w) where
    abbrev R : ℕ → Type 0
    R = Rises old w.shelf

    -- ---- what follows, and what prepares a line

    line_fails_risen : (line : ℕ) (why : Answer) → Allowed w (LineFails line why) → HasRisen old (after w (LineFails line why))
    line_fails_risen line why may =
        let tells = may.1 in
        onward h _ (line_fails_names R h.names line why (names_lost R w.core why tells.pv tells.is tells.lost h.names))

    asks_risen : (number : ℕ) (op : Op) (tag : ℕ) (now : State) → Allowed w (Asks number op tag now)
        → HasRisen old (after w (Asks number op tag now))
    asks_risen number op tag now may =
        still (stepped now (same_faults w.shelf now may.0.faults) h) (after w (Asks number op tag now)).core refl refl refl refl

    asks_flush_risen : (pv tag : ℕ) (now : State) → Allowed w (AsksFlush pv tag now) → HasRisen old (after w (AsksFlush pv tag now))
    asks_flush_risen pv tag now may =
        still (stepped now (same_faults w.shelf now may.0.faults) h) (after w (AsksFlush pv tag now)).core refl refl refl refl

    fails_risen : (number : ℕ) (why : Answer) → Names R why → HasRisen old (after w (Fails number why))
    fails_risen number why named = onward h _ (fails_names R h.names number why w.shelf.steps named)

    -- since its disk has failed
    fails_failed : (number pv : ℕ) → Allowed w (Fails number (PvFailed pv)) → HasRisen old (after w (Fails number (PvFailed pv)))
    fails_failed number pv may =
        fails_risen number (PvFailed pv) (names_one R (PvFailed pv) pv refl (h.names.failed pv may.2.1))

    goes_risen : (a : Act) → follows a ≡ true → Allowed w a → HasRisen old (after w a)
    goes_risen (LineFails line why) is may = line_fails_risen line why may
    goes_risen (Answers line) is may = onward h _ (answers_names R h.names w.core.barrier line w.shelf.steps)
    goes_risen (Holds line) is may = still h (after w (Holds line)).core refl refl refl refl
    goes_risen (Passes line) is may = onward h _ (answers_names R h.names None line w.shelf.steps)
    goes_risen Wakes is may = still h (after w Wakes).core refl refl refl refl
    goes_risen (Starts number) is may = still h (after w (Starts number)).core refl refl refl refl
    goes_risen (Asks number op tag now) is may = asks_risen number op tag now may
    goes_risen (Fails number (PvFailed pv)) is may = fails_failed number pv may
    goes_risen (Fails number (ReadFailed pv)) is may = absurd (true≢false (sym is))
    goes_risen (Fails number why) is may = absurd may.2
    goes_risen (AsksFlush pv tag now) is may = asks_flush_risen pv tag now may
    goes_risen (Releases pv) is may = onward h _ (released_names R h.names pv (released_at w.core pv))
    goes_risen a is may = absurd (true≢false (sym is))

    prepares_risen : (line : ℕ) (a : Act) → prepares line a ≡ true → Allowed w a → HasRisen old (after w a)
    prepares_risen line (Enters n piece sectors ticket entry) is may =
        onward h _ (enters_names R h.names n piece sectors ticket entry)
    prepares_risen line (Awaits n pv) is may = onward h _ (awaits_names R h.names n pv _)
    prepares_risen line (LineFails n why) is may = line_fails_risen n why may
    prepares_risen line (Starts number) is may = still h (after w (Starts number)).core refl refl refl refl
    prepares_risen line (Asks number op tag now) is may = asks_risen number op tag now may
    prepares_risen line (Fails number (PvFailed pv)) is may = fails_failed number pv may
    prepares_risen line a is may = absurd (true≢false (sym is))

    marks_risen : (pv : ℕ) → R pv → HasRisen old (after w (MarksDisk pv))
    marks_risen pv risen = onward h _ (marks_names R h.names pv risen)

  -- ---- an operation has completed

  module _ {w : World} (h : HasRisen old w) (done : Done) (now : State) where
    -- badly
    ended_badly : Completes w.shelf done now → done.well ≡ false → Rises old now (disk_of done.op)
    ended_badly c bad =
        let rise : w.shelf.faults (disk_of done.op) < now.faults (disk_of done.op) = completed_badly w.shelf now done c bad in
        let least = h.least (disk_of done.op) in omega (arith, rise, least)

    piece_ends_risen : (number : ℕ) (mid : World) → Allowed w (Ends done now)
        → Runs (after w (Ends done now)) (settling number done.op done.well) mid
        → HasRisen old mid
    piece_ends_risen number mid may = by done.op done.well (ended_badly may.0)
      where
        ended : HasRisen old (after w (Ends done now))
        ended = still (stepped now (completed_least w.shelf now done may.0) h) (after w (Ends done now)).core refl refl refl refl

        by : (op : Op) (well : Bool) → (well ≡ false → Rises old now (disk_of op))
            → Runs (after w (Ends done now)) (settling number op well) mid
            → HasRisen old mid
        by (WriteOp span sectors) true bad run =
            subst (HasRisen old) (sym run.1)
            (onward ended _ (writes_names (Rises old now) ended.names number span.pv now.steps))
        by (WriteOp span sectors) false bad run =
            subst (HasRisen old) (sym run.1.1)
            (fails_risen (marks_risen ended span.pv (bad refl)) number (PvFailed span.pv)
            (names_one (Rises old now) (PvFailed span.pv) span.pv refl (bad refl)))
        by (ReadOp span sectors) true bad run =
            subst (HasRisen old) (sym run.1) (onward ended _ (reads_names (Rises old now) ended.names number sectors now.steps))
        by (ReadOp span sectors) false bad run =
            subst (HasRisen old) (sym run.1)
            (fails_risen ended number (ReadFailed span.pv)
            (names_one (Rises old now) (ReadFailed span.pv) span.pv refl (bad refl)))
        by (FlushOp pv) well bad run = subst (HasRisen old) (sym run) ended

    flush_ends_risen : (mid : World) → IsOrderly w → (may : Allowed w (EndsFlush done now))
        → Runs (after w (EndsFlush done now)) (flushing done.op done.well) mid
        → HasRisen old mid
    flush_ends_risen mid o may = by done.op done.well (ended_badly may.0)
      where
        f : WasFlush w done
        f = was_flush w done now o may

        ended : HasRisen old (after w (EndsFlush done now))
        ended =
            let s : HasRisen old (record w { shelf = now }) = stepped now (completed_least w.shelf now done may.0) h in
            onward s _
            (flushed_names (Rises old now) s.names done.tag done.well (omega (arith, f.its, f.within))
            (λ bad. subst (Rises old now) (ap disk_of_work f.does ∙ sym f.its) (ended_badly may.0 bad)))

        by : (op : Op) (well : Bool) → (well ≡ false → Rises old now (disk_of op))
            → Runs (after w (EndsFlush done now)) (flushing op well) mid
            → HasRisen old mid
        by (FlushOp pv) true bad run = subst (HasRisen old) (sym run) ended
        by (FlushOp pv) false bad run = subst (HasRisen old) (sym run.1) (marks_risen ended pv (bad refl))
        by (WriteOp span sectors) well bad run = subst (HasRisen old) (sym run) ended
        by (ReadOp span sectors) well bad run = subst (HasRisen old) (sym run) ended

  ends_risen : {w mid : World} (piece : Option ℕ) (done : Done) (now : State) → IsOrderly w → Allowed w (ending piece done now)
      → Runs (after w (ending piece done now)) (settling_of piece done) mid
      → HasRisen old w
      → HasRisen old mid
  ends_risen {w} {mid} (Some number) done now o may run h = piece_ends_risen h done now number mid may run
  ends_risen {w} {mid} None done now o may run h = flush_ends_risen h done now mid o may run

  -- ---- all of it

  grows_risen : {w v : World} → IsGrown w v → HasRisen old w → HasRisen old v
  grows_risen {w} {v} g h =
      still (stepped v.shelf (same_faults w.shelf v.shelf (ap (λ (s : State). s.faults) g.shelf)) h) v.core
      (ap (λ (c : Core). c.failed) g.core) (ap (λ (c : Core). c.waits.plan.marks) g.core) (ap (λ (c : Core). c.opens.list) g.core)
      (ap (λ (c : Core). c.lines.answers) g.core)

  pub keeps_faults : (start : ℕ) → KeepsAlso start (λ line. AreRisen old) (AreRisen old)
  keeps_faults start = record {
    goes = λ a is o t may ordered h. goes_risen h a is may;
    readies_line = λ line a is o t may ordered h. prepares_risen h line a is may;
    begins =
        λ {w} line opened barrier is o t ordered h.
        onward h _
        (begins_names (Rises old w.shelf) h.names line opened w.shelf.steps barrier
        (names_none (Rises old w.shelf) (answer_of opened)
        (ap (λ (x : OpenLine). disk_named (answer_of x)) is ∙ opened_named w.core.volumes line.command)));
    prepared = λ line o t awaits h. h;
    ends = λ piece done now whose o t may run ordered h. ends_risen piece done now o may run h;
    grows = λ o g h. grows_risen g h;
    readies =
        λ {w} now o may h. stepped now (same_faults w.shelf now (ap (λ (s : State). s.faults) may.0.same)) h;
  }
