-- What each act that follows, or prepares a line, makes of what is known of causes.
use Rattle.std.proofs.Common.{◌≡◌, ◌≤◌, ◌<◌, ◌⊎◌, ℕ, ◌+◌, ◌-◌, ◌*◌, Bool, true, false, cond, ◌&&◌, List, [], ◌∷◌, ◌++◌, length, get_or}
use Rattle.std.proofs.Common.{Contains, Option, None, Some, is_none, is_some, inl, inr, ⊎_elim, refl, sym, ap, subst, ◌∙◌, arith}
use Rattle.std.proofs.Common.{true≢false, drop, unwrap_or}
use Rattle.std.specs.FinSet as set
use Rattle.std.specs.Ordering.{nat_cmp}
use Rattle.std.proofs.lemmas.Bool.{cond_both}
use Rattle.std.proofs.lemmas.List.{length-set}
use Rattle.std.proofs.lemmas.List.Elements.{Contains-push_cases}
use Rattle.std.proofs.lemmas.Option.{none-some}
use Rattle.sector_base.specs.declared.places.Piece.{Piece}
use Rattle.line_answers.specs.declared.answer.Answer.{Answer}
use Rattle.line_answers.specs.declared.answer.Answer.TheVariants as answer
use Rattle.lvm_script.specs.declared.line.Line.{Line}
use Rattle.disk_model.specs.State.{State}
use Rattle.disk_model.specs.Steps.{Flushing, Step, Submitted}
use Rattle.disk_model.specs.declared.ops.Done.{Done}
use Rattle.disk_model.specs.declared.ops.Op.{Op}
use Rattle.flush_plan.specs.declared.records.Flush.{Flush}
use Rattle.flush_plan.specs.declared.records.Marks.{Marks}
use Rattle.flush_plan.specs.Plans.{marks_of, no_marks}
use Rattle.claim_table.specs.declared.claim.Entry.{Entry}
use Rattle.flush_waits.specs.declared.ticket.Waiter.{Waiter}
use Rattle.flush_waits.specs.declared.ticket.Waiter.TheVariants as waiter
use Rattle.flush_waits.specs.declared.ticket.Waiting.{Waiting}
use Rattle.flush_waits.specs.Steps.{after_release, with_waiting}
use Rattle.flush_waits.specs.Waits.{Waits, awaited, dirty_at, disk_waits}
use Rattle.piece_table.specs.declared.live.LivePiece.{LivePiece}
use Rattle.piece_table.specs.declared.live.Stage.{Stage}
use Rattle.piece_table.specs.declared.live.Stage.TheVariants.{Started, Taken, Waiting as Unsubmitted}
use Rattle.piece_table.specs.Pieces.{Pieces}
use Rattle.piece_table.specs.Steps.{live_of, no_live, with_flying, with_stage}
use Rattle.volume_history.specs.Chronicles.{ChronicleEntry, Origin, Took, origin_on}
use Rattle.volume_history.specs.Commands.{is_good}
use Rattle.volume_history.specs.Runs.{zero_piece}
use Rattle.world_acts.specs.declared.open_line.OpenLine.{OpenLine}
use Rattle.world_acts.specs.declared.open_line.Work.{Work}
use Rattle.world_acts.specs.declared.open_line.Work.TheVariants.{Read, Whole, Write}
use Rattle.world_acts.specs.declared.state.Core.{Core}
use Rattle.world_acts.specs.Acts.{Allowed, Asks, AsksFlush, Awaits, Ends, Enters, IsLost, LineFails, Reads, Releases, Starts, World, after}
use Rattle.world_acts.specs.Acts.{core_released, piece_at}
use Rattle.world_acts.specs.Counts.{is_taken}
use Rattle.world_acts.specs.OpenLines.{Opens, after_closed, after_filled, after_finished, answer_of, filled, is_whole, open_at, open_of}
use Rattle.world_acts.specs.OpenLines.{work_answer}
use Rattle.world_acts.specs.Orderly.{IsOrderly}
use Rattle.world_acts.specs.Steps.{after_released}
use Rattle.world_acts.proofs.LinesKept.{open_is}
use Rattle.world_acts.proofs.PiecesKept.{PieceAt}
use Rattle.world_acts.proofs.Releasing.{open_by_left}
use Rattle.world_acts.proofs.Tables.{appended, changes_both, own_at, removed, some_of}
use Rattle.io_core.proofs.LiveLines.{set_open}
use Rattle.world_history.specs.Causes.{AreCaused, HasCause, is_asked}
use Rattle.world_history.specs.Entries.{answered}
use Rattle.world_history.specs.Told.{IsTold, IsWorkOf}
use Rattle.world_history.proofs.Stages.{flown_untaken}
use Rattle.world_history.proofs.LineActs.{IsServed, served_first, taken_piece, waiting_line}
use Rattle.world_tracks.proofs.ActWaits.{HasFree, HasPiece, flying, next_free, piece_of, stage_change, startable, started}
use Rattle.world_tracks.proofs.WaitSteps.{waiters}
use Rattle.world_tracks.proofs.Causes.Growing.{Extends, cause_extended, extends_answered, extends_both, extends_none, extends_took}
use Rattle.world_tracks.proofs.Causes.Known.{CausesGo, HasWritten, IsWaitOf, Knows, ToOlder, WaitsForOlder}
use Rattle.world_tracks.proofs.Causes.LineFailing.{flushes_volume, line_caused}
use Rattle.world_tracks.proofs.Causes.Lines.{FailedBefore, before_added, before_both, before_closed, before_filled, before_finished}
use Rattle.world_tracks.proofs.Causes.Lines.{before_itself, but_failed}
use Rattle.world_tracks.proofs.Causes.Lives.{LivesWere, lives_changed, lives_itself, lives_untaken}
use Rattle.world_tracks.proofs.Causes.Since.{IsLater, asks_now, now_in, since_now, steps_since, told_since}
use Rattle.world_tracks.proofs.Causes.Waiters.{released_before, submitted_before, waited_before}

-- ---- what is noted and lasts stays

-- where what has failed is the same, as flushes have ended and volumes were written, and who waits did, or is known
pub queue_go : (b b' : Origin) (c d : Core) (es : List ChronicleEntry) → IsLater b b' → d.waits.plan.marks ≡ c.waits.plan.marks
    → d.waits.dirty ≡ c.waits.dirty
    → length d.waits.disks ≡ length c.waits.disks
    → d.failed ≡ c.failed
    → FailedBefore c.opens d.opens
    → LivesWere c d
    → ((f : Flush) → Contains d.waits.plan.flushes f
    → Contains c.waits.plan.flushes f ⊎ ((since : ℕ) → since ≤ now_in b → told_since (is_asked f.tag) b' since (now_in b') ≡ true))
    → ((pv : ℕ) (it : Waiting) → Contains (waiters (disk_waits d.waits pv)) it
    → Contains (waiters (disk_waits c.waits pv)) it ⊎ IsWaitOf b' d es pv it.place it.waiter)
    → CausesGo b b' c d es es
queue_go b b' c d es later marks dirty long failed lines lives flushes waits = record {
  later = later;
  more = extends_none es;
  lost = λ pv lost. inl (lost_same pv lost);
  failing = λ n p why at fails. inl (lines n p why at fails);
  dirty =
      λ key pv lt some. let same : dirty_at d.waits key pv ≡ dirty_at c.waits key pv =
      λ i. get_or (dirty i) (key * long i + pv) 0 in inl (omega (arith, lt, long), omega (arith, some, same));
  waits = waits;
  lives = lives;
  marks =
      λ pv place ended unstable. inl (
        subst (λ (l : List Marks). place ≤ (get_or l pv no_marks).ended) marks ended,
        subst (λ (l : List Marks). (get_or l pv no_marks).stable < place) marks unstable,
      );
  flushes = flushes;
  answered = λ are. are;
}
  where
    lost_same : (pv : ℕ) → IsLost d pv → IsLost c pv
    lost_same pv (inl is) = inl (ap (λ (x : set.FinSet nat_cmp). set.contains x pv) (sym failed) ∙ is)
    lost_same pv (inr far) = inr (subst (λ (l : List Marks). (get_or l pv no_marks).stable < (get_or l pv no_marks).ended) marks far)

-- where lines and pieces alone change
pub quiet_go : (b b' : Origin) (c d : Core) (es : List ChronicleEntry) → IsLater b b' → d.waits ≡ c.waits → d.failed ≡ c.failed
    → FailedBefore c.opens d.opens
    → LivesWere c d
    → CausesGo b b' c d es es
quiet_go b b' c d es later same failed lines lives =
    queue_go b b' c d es later (ap (λ (x : Waits). x.plan.marks) same) (ap (λ (x : Waits). x.dirty) same)
    (ap (λ (x : Waits). length x.disks) same) failed lines lives
    (λ f has. inl (subst (λ (x : Waits). Contains x.plan.flushes f) same has))
    (λ pv it has. inl (subst (λ (x : Waits). Contains (waiters (disk_waits x pv)) it) same has))

-- ---- each act

module _ {start : ℕ} {coming : ℕ → ℕ → ℕ} {w : World} {es : List ChronicleEntry} (b : Origin) (o : IsOrderly w)
    (t : IsTold start coming w es) (k : Knows b w.core es) where
  abbrev c : Core
  c = w.core

  -- a piece enters
  pub enters_go : (n : ℕ) (piece : Piece) (sectors : List (List ℕ)) (ticket : Option (Unit {0})) (entry : Entry)
      → Allowed w (Enters n piece sectors ticket entry)
      → CausesGo b b c (after w (Enters n piece sectors ticket entry)).core es es
  enters_go n piece sectors ticket entry may =
      let d : Core = (after w (Enters n piece sectors ticket entry)).core in
      let new : LivePiece = record { line = n; piece = piece; stage = Unsubmitted sectors; ticket = ticket } in
      let m = may.0 in
      quiet_go b b c d es (inl refl) refl refl (before_added c.opens n m.opened m.is_open)
      (lives_changed c d (appended c.pieces.lives c.pieces.next new o.tidy.pieces.single (next_free w o))
      (lives_untaken c c.pieces.next new refl))

  -- a line is to answer that a disk failed
  pub line_fails_go : (line : ℕ) (why : Answer) → Allowed w (LineFails line why)
      → CausesGo b b c (after w (LineFails line why)).core es es
  line_fails_go line why may =
      let d : Core = (after w (LineFails line why)).core in
      let found = some_of (open_at c.opens line) may.0 in
      record {
        later = inl refl;
        more = extends_none es;
        lost = λ pv lost. inl lost;
        failing =
            λ n p a at fails. ⊎_elim (λ was. inl was)
            (λ (is : (n ≡ line) × (a ≡ why)).
            inr (subst (λ (m : ℕ). HasCause b es (now_in b) m a) (sym is.0)
            (subst (λ (y : Answer). HasCause b es (now_in b) line y) (sym is.1) (line_caused o t b k line why may))))
            (but_failed c.opens line why found.0 found.1 n p a at fails);
        dirty = λ key pv lt some. inl (lt, some);
        waits = λ pv it has. inl has;
        lives = lives_itself c d refl;
        marks = λ pv place ended unstable. inl (ended, unstable);
        flushes = λ f has. inl has;
        answered = λ are. are;
      }

  -- a piece starts, or is asked for
  pub starts_go : (number : ℕ) → Allowed w (Starts number) → CausesGo b b c (after w (Starts number)).core es es
  starts_go number may =
      let d : Core = (after w (Starts number)).core in
      let x : HasFree w number = startable w number o may in
      quiet_go b b c d es (inl refl) refl refl (before_itself c.opens)
      (lives_changed c d (stage_change c.pieces number x.piece.live (Started 0 None) o.tidy.pieces.single x.piece.at)
      (lives_untaken c number (record x.piece.live { stage = Started 0 None }) refl))

  pub asks_go : (b' : Origin) (number : ℕ) (op : Op) (tag : ℕ) (now : State) → IsLater b b' → Allowed w (Asks number op tag now)
      → CausesGo b b' c (after w (Asks number op tag now)).core es es
  asks_go b' number op tag now later may =
      let d : Core = (after w (Asks number op tag now)).core in
      let x : HasFree w number = startable w number o may.2 in
      let one = stage_change c.pieces number x.piece.live (Started 0 None) o.tidy.pieces.single x.piece.at in
      let p : Pieces = with_stage c.pieces number (Started 0 None) in
      let stage : Stage = with_flying (live_of p number).stage (λ n. n + 1) in
      let two = stage_change p number (record x.piece.live { stage = Started 0 None }) stage one.single (own_at one) in
      let is : is_taken (live_of p number).stage ≡ false =
      ap (λ (l : Option LivePiece). is_taken (unwrap_or l no_live).stage) (own_at one) in
      quiet_go b b' c d es later refl refl (before_itself c.opens)
      (lives_changed c d (changes_both one two)
      (lives_untaken c number (record x.piece.live { stage = stage }) (flown_untaken (live_of p number).stage (λ n. n + 1) is)))

  -- its operation has completed
  pub ends_go : (b' : Origin) (done : Done) (now : State) → IsLater b b' → Allowed w (Ends done now)
      → CausesGo b b' c (after w (Ends done now)).core es es
  ends_go b' done now later may =
      let d : Core = (after w (Ends done now)).core in
      let number : ℕ = piece_at c done.tag in
      let x : HasFree w number = flying w done.tag o may.2 in
      let stage : Stage = with_flying (live_of c.pieces number).stage (λ n. n - 1) in
      let is : is_taken (live_of c.pieces number).stage ≡ false = ap (λ (l : LivePiece). is_taken l.stage) x.piece.is ∙ x.free in
      quiet_go b b' c d es later refl refl (before_itself c.opens)
      (lives_changed c d (stage_change c.pieces number x.piece.live stage o.tidy.pieces.single x.piece.at)
      (lives_untaken c number (record x.piece.live { stage = stage }) (flown_untaken (live_of c.pieces number).stage (λ n. n - 1) is)))

  -- it has read, and leaves
  pub reads_go : (number : ℕ) (sectors : List (List ℕ)) → Allowed w (Reads number sectors)
      → CausesGo b b c (after w (Reads number sectors)).core es
      (Took w.shelf.steps (live_of c.pieces number).line (live_of c.pieces number).piece ∷ es)
  reads_go number sectors may =
      let d : Core = (after w (Reads number sectors)).core in
      let x : HasFree w number = started w number o may.0 in
      let line : ℕ = (live_of c.pieces number).line in
      let from : ℕ = (live_of c.pieces number).piece.first in
      let mid : Opens = after_filled c.opens line from sectors in
      let now : OpenLine = record (open_of c.opens line) { work = filled (open_of c.opens line).work from sectors } in
      let lines : FailedBefore c.opens d.opens =
      before_both c.opens mid (after_finished mid line) (before_filled c.opens line from sectors x.piece.opened x.piece.is_open)
      (before_finished mid line now (set_open c.opens line x.piece.opened now x.piece.is_open)) in
      record {
        later = inl refl;
        more = extends_took w.shelf.steps line (live_of c.pieces number).piece es;
        lost = λ pv lost. inl lost;
        failing = λ n p why at fails. inl (lines n p why at fails);
        dirty = λ key pv lt some. inl (lt, some);
        waits = λ pv it has. inl has;
        lives = lives_changed c d (removed c.pieces.lives number x.piece.live o.tidy.pieces.single x.piece.at) tt;
        marks = λ pv place ended unstable. inl (ended, unstable);
        flushes = λ f has. inl has;
        answered = λ are. are;
      }

  -- a flush is submitted
  pub asks_flush_go : (pv tag : ℕ) (now : State)
      → CausesGo b (origin_on (Submitted tag (Flushing pv)) b) c (after w (AsksFlush pv tag now)).core es es
  asks_flush_go pv tag now =
      let step : Step = Submitted tag (Flushing pv) in
      let d : Core = (after w (AsksFlush pv tag now)).core in
      queue_go b (origin_on step b) c d es (inr (step, refl)) refl refl
      (length-set c.waits.disks pv (record { served = (disk_waits c.waits pv).next; next = [] })) refl
      (before_itself c.opens) (lives_itself c d refl)
      (λ f has. ⊎_elim (λ old. inl old)
      (λ (is : record { tag = tag; pv = pv; after = c.waits.plan.held } ≡ f).
      inr (λ since le. since_now (is_asked f.tag) step b since le
      (subst (λ (x : Flush). is_asked x.tag (step ∷ steps_since b since) ≡ true) is (asks_now tag (Flushing pv) (steps_since b since)))))
      (Contains-push_cases c.waits.plan.flushes (record { tag = tag; pv = pv; after = c.waits.plan.held }) f has))
      (λ q who has. inl (submitted_before c.waits pv tag q who has))

  -- a line waits, by notes from before it
  pub awaits_go : (line pv : ℕ) → Allowed w (Awaits line pv) → ToOlder es line → CausesGo b b c (after w (Awaits line pv)).core es es
  awaits_go line pv m older =
      let d : Core = (after w (Awaits line pv)).core in
      let place : ℕ = dirty_at c.waits (open_of c.opens line).key pv in
      let it : Waiting = record { waiter = waiter.Line line; place = place } in
      let disk : pv < length w.shelf.sizes = m.disk in
      let far : (marks_of c.waits.plan pv).ended < dirty_at c.waits m.opened.key pv = m.behind in
      let h : HasWritten b es m.opened.key pv = k.dirty m.opened.key pv (omega (arith, disk, o.backed.places.many)) (omega (arith, far)) in
      let own : WaitsForOlder b es line pv = record {
        since = h.since;
        writer = h.writer;
        piece = h.piece;
        flushes = flushes_volume o t line m.opened m.is_open m.flushes m.well h.piece.volume h.volume;
        write = record {
          place = h.write.place;
          wrote = h.write.wrote;
          stands = h.write.stands;
          disk = h.write.disk;
          took = older h.since h.writer h.piece h.write.took;
        };
      } in
      queue_go b b c d es (inl refl) refl refl
      (length-set c.waits.disks pv (with_waiting (disk_waits c.waits pv) it (awaited c.waits pv place))) refl
      (before_added c.opens line m.opened m.is_open) (lives_itself c d refl) (λ f has. inl has)
      (λ q who has. ⊎_elim (λ old. inl old)
      (λ (is : (pv ≡ q) × (it ≡ who)).
      inr (subst (λ (n : ℕ). IsWaitOf b d es n who.place who.waiter) is.0
      (subst (λ (y : Waiting). IsWaitOf b d es pv y.place y.waiter) is.1 own))) (waited_before c.waits it pv q who has))

  -- the first that was served waits no more
  pub releases_go : (pv : ℕ) → Allowed w (Releases pv) → CausesGo b b c (after w (Releases pv)).core es es
  releases_go pv may = by (served_first t pv may.1)
    where
      long : length (after_release c.waits pv).disks ≡ length c.waits.disks
      long = length-set c.waits.disks pv (record (disk_waits c.waits pv) { served = drop 1 (disk_waits c.waits pv).served })

      of : (it : Waiting) → IsServed t pv it → (who : Waiter) → it.waiter ≡ who → CausesGo b b c (after_released c who pv) es es
      of it served (waiter.Line line) who =
          let d : Core = after_released c (waiter.Line line) pv in
          let some = waiting_line t pv line it served who in
          let left = o.tidy.counts.left line in
          let found = open_by_left c.opens line (omega (arith, some, left)) in
          queue_go b b c d es (inl refl) refl refl long refl (before_finished c.opens line found.0 found.1) (lives_itself c d refl)
          (λ f has. inl has) (λ q x has. inl (released_before c.waits pv q x has))
      of it served (waiter.Piece number) who = taken (taken_piece t o pv number it served who)
        where
          taken : (many : ℕ) × PieceAt c.pieces.lives number (Taken many) → CausesGo b b c (after_released c (waiter.Piece number) pv) es es
          taken p =
              let d : Core = after_released c (waiter.Piece number) pv in
              let l : LivePiece = record { line = p.1.line; piece = p.1.piece; stage = Taken p.0; ticket = p.1.ticket } in
              let x : HasPiece w number = piece_of w number l o p.1.at in
              queue_go b b c d es (inl refl) refl refl long refl
              (before_finished c.opens (live_of c.pieces number).line x.opened x.is_open)
              (lives_changed c d (removed c.pieces.lives number l o.tidy.pieces.single p.1.at) tt) (λ f has. inl has)
              (λ q y has. inl (released_before c.waits pv q y has))

      by : (it : Waiting) × IsServed t pv it → CausesGo b b c (after w (Releases pv)).core es es
      by s =
          subst (λ (r : Option Waiting). CausesGo b b c (core_released c pv r) es es) (sym s.1.first) (of s.0 s.1 s.0.waiter refl)

  -- ---- a line is answered

  -- what it answers has its cause
  answer_caused : (n : ℕ) (x : OpenLine) → open_at c.opens n ≡ Some x → HasCause b es (now_in b) n (answer_of x)
  answer_caused n x at = by x.failure refl
    where
      good : (a : Answer) → is_good a ≡ true → HasCause b es (now_in b) n a
      good (answer.ReadFailed pv) is = absurd (true≢false (sym is))
      good (answer.PvFailed pv) is = absurd (true≢false (sym is))
      good a is = tt

      works : (line : Line) (key : Option ℕ) (work : Work) → IsWorkOf line.command key work None
          → HasCause b es (now_in b) n (work_answer work)
      works line key (Read from buffer) does = tt
      works line key Write does = tt
      works line key (Whole a) (inl refused) = absurd (none-some (answer.Refused refused.why) refused.is)
      works line key (Whole a) (inr whole) = good a whole.good

      by : (failure : Option Answer) → x.failure ≡ failure → HasCause b es (now_in b) n (unwrap_or failure (work_answer x.work))
      by (Some why) fails = k.failing n x why at fails
      by None fails =
          let l = t.lines n x at in
          works l.0.0 l.0.1 x.work (subst (λ (f : Option Answer). IsWorkOf l.0.0.command l.0.1 x.work f) fails l.2.does)

  -- with the entries of its answer
  pub answers_go : (moment : w.shelf.steps ≡ now_in b) (line : ℕ) (d : Core) → is_some (open_at c.opens line) ≡ true
      → d.opens ≡ after_closed c.opens line
      → d.waits ≡ c.waits
      → d.failed ≡ c.failed
      → d.pieces.lives ≡ c.pieces.lives
      → CausesGo b b c d es (answered w.shelf.steps line (open_of c.opens line) ++ es)
  answers_go moment line d some opens waits failed lives =
      let found = some_of (open_at c.opens line) some in
      let x : OpenLine = open_of c.opens line in
      let whole : Bool = is_whole x.work && is_none x.failure in
      let took : ChronicleEntry = Took w.shelf.steps line (zero_piece x.key) in
      let rest : List ChronicleEntry = cond whole (took ∷ []) [] in
      let lines : FailedBefore c.opens d.opens = subst (λ (y : Opens). FailedBefore c.opens y) (sym opens) (before_closed c.opens line) in
      let q : CausesGo b b c d es es = quiet_go b b c d es (inl refl) waits failed lines (lives_itself c d lives) in
      let more : Extends es (rest ++ es) =
      cond_both whole (took ∷ []) [] (λ l. Extends es (l ++ es)) (λ t. extends_took w.shelf.steps line (zero_piece x.key) es)
      (λ t. extends_none es) in
      let cause : HasCause b es (now_in b) line (answer_of x) =
      subst (λ (y : OpenLine). HasCause b es (now_in b) line (answer_of y)) (sym (open_is c.opens line found.0 found.1))
      (answer_caused line found.0 found.1) in
      record {
        later = inl refl;
        more = extends_both more (extends_answered w.shelf.steps line (answer_of x) (rest ++ es));
        lost = q.lost;
        failing = λ n p why at fails. inl (lines n p why at fails);
        dirty =
            λ key pv lt some. inl (
              subst (λ (y : Waits). pv < length y.disks) waits lt,
              subst (λ (y : Waits). 0 < dirty_at y key pv) waits some,
            );
        waits = λ pv it has. inl (subst (λ (y : Waits). Contains (waiters (disk_waits y pv)) it) waits has);
        lives = q.lives;
        marks = q.marks;
        flushes = q.flushes;
        answered = λ are. (
          subst (λ (m : ℕ). HasCause b (rest ++ es) m line (answer_of x)) (sym moment)
              (cause_extended more b (now_in b) line (answer_of x) cause),
          cond_both whole (took ∷ []) [] (λ l. AreCaused b (l ++ es)) (λ t. are) (λ t. are),
        );
      }
