-- Which disks answers name after each act, where nothing is known of the shelf.
use Rattle.std.proofs.Common.{◌≡◌, ◌<◌, ℕ, ◌+◌, ◌-◌, ◌&&◌, ◌||◌, Bool, true, false, nat_eq, All, List, Option, None, Some, get_or, is_none}
use Rattle.std.proofs.Common.{is_some, length, set as set_at, max, refl, sym, ap, subst, ◌∙◌, arith}
use Rattle.std.specs.Cmp.{nat_cmp_total, unsigned_tied}
use Rattle.std.specs.FinSet as set
use Rattle.std.proofs.lemmas.Bool.{cond_both, eqb-true}
use Rattle.std.proofs.lemmas.List.Elements.{All-push, All-set}
use Rattle.std.proofs.lemmas.Option.{none-some}
use Rattle.sector_base.specs.declared.places.Piece.{Piece}
use Rattle.line_answers.specs.declared.answer.Answer.{Answer}
use Rattle.line_answers.specs.declared.answer.Answer.TheVariants as answer
use Rattle.lvm_script.specs.declared.line.Line.{Line}
use Rattle.line_table.specs.Steps as lines
use Rattle.claim_table.specs.declared.claim.Entry.{Entry}
use Rattle.flush_plan.specs.declared.records.Flush.{Flush}
use Rattle.flush_plan.specs.declared.records.Marks.{Marks}
use Rattle.flush_plan.specs.Plans.{Plan, flush_of, marks_of, no_marks}
use Rattle.flush_plan.proofs.Flights.{mark_kept}
use Rattle.flush_waits.specs.declared.ticket.Waiter.{Waiter}
use Rattle.flush_waits.specs.declared.ticket.Waiter.TheVariants as waiter
use Rattle.flush_waits.specs.declared.ticket.Waiting.{Waiting}
use Rattle.piece_table.specs.declared.live.LivePiece.{LivePiece}
use Rattle.piece_table.specs.Steps.{live_of}
use Rattle.world_acts.specs.declared.open_line.OpenLine.{OpenLine}
use Rattle.world_acts.specs.declared.state.Core.{Core}
use Rattle.world_acts.specs.Acts.{core_released}
use Rattle.world_acts.specs.OpenLines.{after_failure, after_filled, answer_of, is_whole, open_of}
use Rattle.world_acts.specs.Steps.{after_answers, after_awaits, after_begins, after_enters, after_fails, after_flushed, after_leaves}
use Rattle.world_acts.specs.Steps.{after_line_fails, after_marks, after_reads, after_released, after_stays, after_written, after_wrote}
use Rattle.world_history.proofs.Faults.Names.{IsBehind, NamesOnly, Names, OpenNames, SaidNames, failure_names, filled_names, left_names}
use Rattle.world_history.proofs.Faults.Names.{marked_behind, names_none, open_names}

module _ (R : ℕ → Type 0) {c : Core} (n : NamesOnly R c) where
  -- ---- lines

  pub begins_names : (line : Line) (opened : OpenLine) (moment : ℕ) (barrier : Option ℕ) → Names R (answer_of opened)
      → NamesOnly R (record (after_begins c line opened moment) { barrier = barrier })
  begins_names line opened moment barrier named = record {
    failed = n.failed;
    behind = n.behind;
    opens = All-push (OpenNames R) c.opens.list (Some opened) n.opens named;
    answers = All-push (SaidNames R) c.lines.answers (line.number, None) n.answers (λ pv is. absurd (none-some pv is));
  }

  pub enters_names : (line : ℕ) (piece : Piece) (sectors : List (List ℕ)) (ticket : Option (Unit {0})) (entry : Entry)
      → NamesOnly R (after_enters c line piece sectors ticket entry)
  enters_names line piece sectors ticket entry = record {
    failed = n.failed;
    behind = n.behind;
    opens = left_names R c.opens line _ n.opens;
    answers = n.answers;
  }

  pub awaits_names : (line pv place : ℕ) → NamesOnly R (after_awaits c line pv place)
  awaits_names line pv place =
      record { failed = n.failed; behind = n.behind; opens = left_names R c.opens line _ n.opens; answers = n.answers }

  pub line_fails_names : (line : ℕ) (why : Answer) → Names R why → NamesOnly R (after_line_fails c line why)
  line_fails_names line why named =
      record { failed = n.failed; behind = n.behind; opens = failure_names R c.opens line why named n.opens; answers = n.answers }

  pub answers_names : (barrier : Option ℕ) (line moment : ℕ) → NamesOnly R (after_answers (record c { barrier = barrier }) line moment)
  answers_names barrier line moment =
      let opened : OpenLine = open_of c.opens line in
      record {
        failed = n.failed;
        behind = n.behind;
        opens = All-set (OpenNames R) c.opens.list line None (names_none R answer.Fine refl) n.opens;
        answers =
            cond_both (is_whole opened.work && is_none opened.failure) (lines.after_took c.lines line (lines.no_piece opened.key) moment)
            c.lines (λ (t : lines.Lines). All (SaidNames R) (lines.after_answer t line (answer_of opened) moment).answers)
            (λ is. said) (λ is. said);
      }
    where
      said : All (SaidNames R) (lines.after_answer c.lines line (answer_of (open_of c.opens line)) moment).answers
      said = All-set (SaidNames R) c.lines.answers line _ (open_names R c.opens line n.opens) n.answers

  -- ---- pieces

  pub fails_names : (number : ℕ) (why : Answer) (moment : ℕ) → Names R why → NamesOnly R (after_fails c number why moment)
  fails_names number why moment named =
      let line : ℕ = (live_of c.pieces number).line in
      record {
        failed = n.failed;
        behind = n.behind;
        opens = left_names R (after_failure c.opens line why) line _ (failure_names R c.opens line why named n.opens);
        answers = n.answers;
      }

  pub reads_names : (number : ℕ) (sectors : List (List ℕ)) (moment : ℕ) → NamesOnly R (after_reads c number sectors moment)
  reads_names number sectors moment =
      let l : LivePiece = live_of c.pieces number in
      record {
        failed = n.failed;
        behind = n.behind;
        opens = left_names R (after_filled c.opens l.line l.piece.first sectors) l.line _
            (filled_names R c.opens l.line l.piece.first sectors n.opens);
        answers = n.answers;
      }

  -- a write that completes leaves what lasts
  wrote_behind : (number pv moment q : ℕ) → IsBehind (marks_of (after_written c number pv moment).waits.plan q) → R q
  wrote_behind number pv moment q is =
      let plan : Plan = c.waits.plan in
      let m : Marks = record (marks_of plan pv) { written = plan.held + 1 } in
      let stable : (get_or (set_at plan.marks pv m) q no_marks).stable ≡ (marks_of plan q).stable =
      mark_kept (λ (x : Marks). x.stable) plan.marks pv m no_marks refl q in
      let ended : (get_or (set_at plan.marks pv m) q no_marks).ended ≡ (marks_of plan q).ended =
      mark_kept (λ (x : Marks). x.ended) plan.marks pv m no_marks refl q in
      n.behind q (omega (arith, stable, ended, is))

  pub writes_names : (number pv moment : ℕ) → NamesOnly R (after_wrote c number pv moment)
  writes_names number pv moment =
      let written : Core = after_written c number pv moment in
      cond_both (is_some (live_of c.pieces number).ticket) (after_stays written number pv (marks_of written.waits.plan pv).written)
      (after_leaves written number pv) (λ (d : Core). NamesOnly R d)
      (λ is. record { failed = n.failed; behind = wrote_behind number pv moment; opens = n.opens; answers = n.answers })
      (λ is. record {
        failed = n.failed;
        behind = wrote_behind number pv moment;
        opens = left_names R c.opens (live_of c.pieces number).line _ n.opens;
        answers = n.answers;
      })

  -- ---- disks

  pub marks_names : (pv : ℕ) → R pv → NamesOnly R (after_marks c pv)
  marks_names pv holds = record {
    failed = λ q is.
        by q (nat_eq q pv) refl
        (sym (set.contains-insert nat_cmp_total c.failed pv q ∙ ap (λ (b : Bool). b || set.contains c.failed q) (unsigned_tied q pv)) ∙ is);
    behind = n.behind;
    opens = n.opens;
    answers = n.answers;
  }
    where
      by : (q : ℕ) (b : Bool) → nat_eq q pv ≡ b → (b || set.contains c.failed q) ≡ true → R q
      by q true e is = subst R (sym (eqb-true q pv e)) holds
      by q false e is = n.failed q is

  -- a flush has ended: where it didn't go well, it holds of its disk
  pub flushed_names : (tag : ℕ) (well : Bool) → (flush_of c.waits.plan tag).pv < length c.waits.plan.marks
      → (well ≡ false → R (flush_of c.waits.plan tag).pv)
      → NamesOnly R (after_flushed c tag well)
  flushed_names tag true within bad =
      let f : Flush = flush_of c.waits.plan tag in
      let m : Marks = marks_of c.waits.plan f.pv in
      record {
        failed = n.failed;
        behind =
            marked_behind R c.waits.plan f.pv (record m { ended = max m.ended f.after; stable = max m.stable f.after }) within n.behind
            (λ is. n.behind f.pv (omega (arith, is)));
        opens = n.opens;
        answers = n.answers;
      }
  flushed_names tag false within bad =
      let f : Flush = flush_of c.waits.plan tag in
      let m : Marks = marks_of c.waits.plan f.pv in
      record {
        failed = n.failed;
        behind =
            marked_behind R c.waits.plan f.pv (record m { ended = max m.ended f.after }) within n.behind (λ is. bad refl);
        opens = n.opens;
        answers = n.answers;
      }

  -- the first that was served waits no more, if there is one
  pub released_names : (pv : ℕ) (first : Option Waiting) → NamesOnly R (core_released c pv first)
  released_names pv None = n
  released_names pv (Some it) = of it.waiter
    where
      of : (who : Waiter) → NamesOnly R (after_released c who pv)
      of (waiter.Line line) =
          record { failed = n.failed; behind = n.behind; opens = left_names R c.opens line _ n.opens; answers = n.answers }
      of (waiter.Piece number) = record {
        failed = n.failed;
        behind = n.behind;
        opens = left_names R c.opens (live_of c.pieces number).line _ n.opens;
        answers = n.answers;
      }
