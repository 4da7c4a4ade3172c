-- A line that is answered, and the line that waits for all others.
use Rattle.std.proofs.Common.{◌≡◌, ◌≤◌, ◌<◌, ℕ, ◌+◌, Bool, true, false, cond, nat_eq, ◌&&◌, List, length, get_or, set}
use Rattle.std.proofs.Common.{Option, None, Some, is_none, is_some, IfSome, sum_by, refl, sym, ap, subst, ◌∙◌, arith, true≢false}
use Rattle.std.specs.Option.{option_map_or}
use Rattle.std.proofs.lemmas.Bool.{and_parts, eqb-false, eqb-true}
use Rattle.std.proofs.lemmas.List.{get_or-set_other, get_or-set_same, length-set, map-set}
use Rattle.std.proofs.lemmas.List.Sums.{sum_by-set}
use Rattle.std.proofs.lemmas.Option.{none-some}
use Rattle.lvm_script.specs.declared.line.Line.{Line}
use Rattle.line_table.specs.declared.journal.JournalEntry.{JournalEntry}
use Rattle.line_table.specs.Steps as lines
use Rattle.line_table.specs.Steps.{is_open, last_moment}
use Rattle.piece_table.specs.declared.live.LivePiece.{LivePiece}
use Rattle.world_acts.specs.declared.state.Core.{Core}
use Rattle.world_acts.specs.declared.open_line.OpenLine.{OpenLine}
use Rattle.world_acts.specs.declared.open_line.Work.{Work}
use Rattle.world_acts.specs.declared.open_line.Work.TheVariants.{Read, Whole, Write}
use Rattle.world_acts.specs.Acts.{Allowed, Answers, Holds, Passes, World, after}
use Rattle.world_acts.specs.Counts.{is_line, line_entries, pieces_of, waiting}
use Rattle.world_acts.specs.OpenLines.{IsBarrier, Opens, after_closed, answer_of, is_whole, left_of, open_at}
use Rattle.world_acts.specs.Orderly.{IsLive, IsOrderly}
use Rattle.world_acts.specs.Rooms.{fewer, line_room, work_entries}
use Rattle.world_acts.specs.Steps.{taken_whole}
use Rattle.world_acts.proofs.Begun.{last_pushed}
use Rattle.world_acts.proofs.LinesKept.{open_is, open_within}
use Rattle.world_acts.proofs.ShortActs.{with_others}
use Rattle.world_acts.proofs.RoomsKept.{spare_fewer}
use Rattle.world_acts.proofs.Tables.{none_counted, some_of}

-- what is left of the lines, where one of which nothing is left is closed
left_closed : (opens : Opens) (line : ℕ) → line < length opens.list → left_of opens line ≡ 0 → (q : ℕ)
    → left_of (after_closed opens line) q ≡ left_of opens q
left_closed opens line within none q =
    elim (nat_eq line q) as (λ b. nat_eq line q ≡ b → left_of (after_closed opens line) q ≡ left_of opens q) [
      | true ↦ λ t. subst (λ (n : ℕ). left_of (after_closed opens line) n ≡ left_of opens n) (eqb-true line q t)
          (ap (λ (x : Option OpenLine). option_map_or (λ (y : OpenLine). y.left) x 0) (get_or-set_same opens.list line None None within)
          ∙ sym none)
      | false ↦ λ t. ap (λ (x : Option OpenLine). option_map_or (λ (y : OpenLine). y.left) x 0)
          (get_or-set_other opens.list line q None None (λ e. eqb-false line q t (sym e)))
    ] refl

open_other : (opens : Opens) (line q : ℕ) → (q ≡ line → ⊥) → open_at (after_closed opens line) q ≡ open_at opens q
open_other opens line q other = get_or-set_other opens.list line q None None other

barrier_closed : (opens : Opens) (line : ℕ) (barrier : Option ℕ) → (barrier ≡ Some line → ⊥) → IfSome barrier (IsBarrier opens)
    → IfSome barrier (IsBarrier (after_closed opens line))
barrier_closed opens line None other is = tt
barrier_closed opens line (Some b) other is = record {
  opened = is.opened;
  is_open = open_other opens line b (λ e. other (ap Some e)) ∙ is.is_open;
  whole = is.whole;
  alone = is.alone;
}

-- a line of which nothing is left has no piece
live_closed : (begun : List Line) (opens : Opens) (line next : ℕ) (e : ℕ × LivePiece) → nat_eq e.1.line line ≡ false
    → IsLive begun opens next e
    → IsLive begun (after_closed opens line) next e
live_closed begun opens line next e apart is =
    let f = is.of_line in
    record {
      below = is.below;
      of_line = record {
        opened = f.opened;
        is_open = open_other opens line e.1.line (eqb-false e.1.line line apart) ∙ f.is_open;
        key = f.key;
        part = f.part;
      };
      sectors = is.sectors;
      awaits = is.awaits;
    }

pub whole_entries : (work : Work) → is_whole work ≡ true → work_entries work ≡ 2
whole_entries (Read start buffer) whole = absurd (true≢false (sym whole))
whole_entries Write whole = absurd (true≢false (sym whole))
whole_entries (Whole answer) whole = refl

pub some_entries : (work : Work) → 1 ≤ work_entries work
some_entries (Read start buffer) = omega arith
some_entries Write = omega arith
some_entries (Whole answer) = omega arith

-- with this journal and these spare entries
answered_with : (w : World) (line : ℕ) (opened : OpenLine) (journal : List JournalEntry) (spare : ℕ) → IsOrderly w
    → open_at w.core.opens line ≡ Some opened
    → opened.left ≡ 0
    → (w.core.barrier ≡ Some line → ⊥)
    → w.core.lines.spare_entries + 1 ≤ spare + work_entries opened.work
    → IsOrderly (record w {
      core = record w.core {
        lines =
            lines.after_answer (record w.core.lines { journal = journal; spare_entries = spare }) line (answer_of opened) w.shelf.steps;
        opens = after_closed w.core.opens line;
        owed = fewer w.core.owed (line_room opened);
      };
    })
answered_with w line opened journal spare o at none other enough =
    let c : Core = w.core in
    let table = record c.lines { journal = journal; spare_entries = spare } in
    let d : Core = record c {
      lines = lines.after_answer table line (answer_of opened) w.shelf.steps;
      opens = after_closed c.opens line;
      owed = fewer c.owed (line_room opened);
    } in
    let t = o.tidy in
    let b = o.backed in
    let within : line < length c.opens.list = open_within c.opens line opened at in
    let left : left_of c.opens line ≡ 0 = ap (λ (x : Option OpenLine). option_map_or (λ (y : OpenLine). y.left) x 0) at ∙ none in
    let no_pieces : pieces_of line c.pieces.lives ≡ 0 =
    let e : left_of c.opens line ≡ pieces_of line c.pieces.lives + waiting (is_line line) c.waits.disks =
    t.counts.left line in omega arith in
    let apart = none_counted (λ (e : ℕ × LivePiece). nat_eq e.1.line line) c.pieces.lives no_pieces in
    let sums : sum_by line_entries (set c.opens.list line None) + line_entries (get_or c.opens.list line None)
    ≡ sum_by line_entries c.opens.list + line_entries None =
    sum_by-set line_entries c.opens.list line None None within in
    let was : line_entries (get_or c.opens.list line None) ≡ work_entries opened.work = ap line_entries at in
    record {
      tidy = record {
        lines = record {
          many = t.lines.many ∙ sym (length-set c.lines.answers line _);
          opened =
              map-set is_some c.opens.list line None ∙ ap (λ (l : List Bool). set l line false) t.lines.opened
              ∙ sym (map-set is_open c.lines.answers line _);
          holds = barrier_closed c.opens line c.barrier other t.lines.holds;
        };
        pieces = record {
          single = t.pieces.single;
          each =
              λ k x lt. live_closed c.lines.begun c.opens line c.pieces.next (get_or c.pieces.lives k x) (apart k x lt)
              (t.pieces.each k x lt);
        };
        owners = t.owners;
        counts = record { left = λ q. left_closed c.opens line within left q ∙ t.counts.left q; awaited = t.counts.awaited };
        room =
            spare_fewer c d (line_room opened) t.room refl
            (record {
              ops = omega arith;
              sectors = omega arith;
              writes = omega arith;
              waits = omega arith;
              entries = omega (arith, sums, was);
            })
            (record { writes = omega arith; waits = omega arith; entries = omega (arith, enough); owners = omega arith });
        flushes = t.flushes;
      };
      backed = record {
        lawful = b.lawful;
        known = record { owned = b.known.owned; apart = b.known.apart };
        places = b.places;
        spare_ops = omega (arith, b.spare_ops);
        spare_sectors = omega (arith, b.spare_sectors);
        moments = let last : last_moment d.lines.journal ≡ w.shelf.steps = last_pushed journal _ in omega arith;
      };
    }

answered : (w : World) (line : ℕ) (opened : OpenLine) → IsOrderly w → open_at w.core.opens line ≡ Some opened → opened.left ≡ 0
    → (w.core.barrier ≡ Some line → ⊥)
    → IsOrderly (record w {
      core = record w.core {
        lines = lines.after_answer (taken_whole w.core.lines line opened w.shelf.steps) line (answer_of opened) w.shelf.steps;
        opens = after_closed w.core.opens line;
        owed = fewer w.core.owed (line_room opened);
      };
    })
answered w line opened o at none other =
    let table = w.core.lines in
    let took = lines.after_took table line (lines.no_piece opened.key) w.shelf.steps in
    elim (is_whole opened.work && is_none opened.failure) as (λ b. (is_whole opened.work && is_none opened.failure) ≡ b
    → IsOrderly (record w {
      core = record w.core {
        lines = lines.after_answer (cond b took table) line (answer_of opened) w.shelf.steps;
        opens = after_closed w.core.opens line;
        owed = fewer w.core.owed (line_room opened);
      };
    })) [
      | true ↦ λ e.
          answered_with w line opened took.journal took.spare_entries o at none other
          (let two : work_entries opened.work ≡ 2 =
          whole_entries opened.work (and_parts (is_whole opened.work) (is_none opened.failure) e).0 in
          omega arith)
      | false ↦ λ e.
          answered_with w line opened table.journal table.spare_entries o at none other (omega (arith, some_entries opened.work))
    ] refl

pub after_answered : (w : World) (line : ℕ) → IsOrderly w → Allowed w (Answers line) → IsOrderly (after w (Answers line))
after_answered w line o allowed =
    let found : (x : OpenLine) × (open_at w.core.opens line ≡ Some x) = some_of (open_at w.core.opens line) allowed.0 in
    let left : left_of w.core.opens line ≡ found.0.left =
    ap (λ (x : Option OpenLine). option_map_or (λ (y : OpenLine). y.left) x 0) found.1 in
    subst (λ (x : OpenLine). IsOrderly (record w {
      core = record w.core {
        lines = lines.after_answer (taken_whole w.core.lines line x w.shelf.steps) line (answer_of x) w.shelf.steps;
        opens = after_closed w.core.opens line;
        owed = fewer w.core.owed (line_room x);
      };
    })) (sym (open_is w.core.opens line found.0 found.1))
    (answered w line found.0 o found.1 (sym left ∙ allowed.1) allowed.2)

-- another line waits for all others, or none
pub after_hold : (w : World) (line : ℕ) → IsOrderly w → Allowed w (Holds line) → IsOrderly (after w (Holds line))
after_hold w line o allowed = with_others w w.core.pieces.claims w.core.failed (Some line) o allowed.1

pub after_pass : (w : World) (line : ℕ) → IsOrderly w → Allowed w (Passes line) → IsOrderly (after w (Passes line))
after_pass w line o allowed =
    let is : IsBarrier w.core.opens line = subst (λ (x : Option ℕ). IfSome x (IsBarrier w.core.opens)) allowed.0 o.tidy.lines.holds in
    let left : left_of w.core.opens line ≡ is.opened.left =
    ap (λ (x : Option OpenLine). option_map_or (λ (y : OpenLine). y.left) x 0) is.is_open in
    after_answered (record w { core = record w.core { barrier = None } }) line (with_others w w.core.pieces.claims w.core.failed None o tt)
    (ap is_some is.is_open, left ∙ is.alone, λ e. none-some line e)
