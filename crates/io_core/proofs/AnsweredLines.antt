-- A line is answered, or the one that waits for all others: what the calls ask, and what is quiet then.
use Rattle.std.proofs.Common.{◌≡◌, ◌≤◌, ◌<◌, ℕ, Bool, true, false, nat_eq, cond, ◌&&◌, filter, get_or, length, Option, None, Some, IfSome}
use Rattle.std.proofs.Common.{inl, is_none, is_some, sum_by, refl, sym, ap, subst, ◌∙◌, arith}
use Rattle.std.specs.Option.{option_map_or}
use Rattle.std.proofs.lemmas.Bool.{and_parts, eqb-false, ne_eqb}
use Rattle.std.proofs.lemmas.List.{get_or-set_same}
use Rattle.std.proofs.lemmas.List.Sums.{get_or-le-sum_by}
use Rattle.std.proofs.lemmas.Option.{none-some, same_Some}
use Rattle.world_acts.specs.declared.state.Core.{Core}
use Rattle.world_acts.specs.declared.open_line.OpenLine.{OpenLine}
use Rattle.world_acts.specs.declared.room.Room.{Room}
use Rattle.disk_model.specs.State.{State}
use Rattle.line_table.specs.Steps.{Lines, after_took, is_open, last_moment, may_enter, no_piece}
use Rattle.world_acts.specs.Acts.{Answers, Passes, Reaches, World, follows, world}
use Rattle.world_acts.specs.Counts.{line_entries, room_of}
use Rattle.world_acts.specs.OpenLines.{IsBarrier, Opens, after_closed, is_whole, left_of, open_at, open_of}
use Rattle.world_acts.specs.Orderly.{IsOrderly}
use Rattle.world_acts.specs.Rooms.{Covers, line_room, work_entries}
use Rattle.world_acts.specs.Steps.{after_answers, taken_whole}
use Rattle.world_acts.proofs.Answered.{after_answered, some_entries, whole_entries}
use Rattle.world_acts.proofs.Begun.{last_pushed}
use Rattle.world_acts.proofs.LinesKept.{open_is, open_within}
use Rattle.world_acts.proofs.ShortActs.{with_others}
use Rattle.world_acts.proofs.Reaching.{reaches_act, reaches_both}
use Rattle.world_acts.proofs.Tables.{some_of}
use Rattle.io_core.specs.Rest.{IsCalm, IsQuiet, just, no_one}
use Rattle.io_core.proofs.Calm.{asked_same, others_set, unfinished_changed}
use Rattle.io_core.proofs.LiveLines.{entered}

-- ---- what is asked

-- the entries of an open line are owed, and so they are spare
line_owed : (w : World) (line : ℕ) → IsOrderly w → is_some (open_at w.core.opens line) ≡ true
    → work_entries (open_of w.core.opens line).work ≤ w.core.owed.entries
line_owed w line o some =
    let c : Core = w.core in
    let found : (x : OpenLine) × (open_at c.opens line ≡ Some x) = some_of (open_at c.opens line) some in
    let most : line_entries (get_or c.opens.list line None) ≤ sum_by line_entries c.opens.list =
    get_or-le-sum_by line_entries c.opens.list line None (open_within c.opens line found.0 found.1) in
    let was : line_entries (get_or c.opens.list line None) ≡ work_entries found.0.work = ap line_entries found.1 in
    let owed : c.owed.entries ≡ (room_of c).entries = ap (λ (r : Room). r.entries) o.tidy.room.owed in
    subst (λ (x : OpenLine). work_entries x.work ≤ c.owed.entries) (sym (open_is c.opens line found.0 found.1))
    (omega (arith, most, was, owed))

pub line_covered : (w : World) (line : ℕ) → IsOrderly w → is_some (open_at w.core.opens line) ≡ true
    → Covers w.core.owed (line_room (open_of w.core.opens line))
line_covered w line o some = record {
  ops = omega arith;
  sectors = omega arith;
  writes = omega arith;
  waits = omega arith;
  entries = line_owed w line o some;
}

pub line_spare : (w : World) (line : ℕ) → IsOrderly w → is_some (open_at w.core.opens line) ≡ true
    → work_entries (open_of w.core.opens line).work ≤ w.core.lines.spare_entries
line_spare w line o some = omega (arith, line_owed w line o some, o.tidy.room.entries)

-- its own entry is spare, and where it takes place as a whole one more
pub entry_spare : (w : World) (line : ℕ) → IsOrderly w → is_some (open_at w.core.opens line) ≡ true → 0 < w.core.lines.spare_entries
entry_spare w line o some = omega (arith, some_entries (open_of w.core.opens line).work, line_spare w line o some)

pub entries_spare : (w : World) (line : ℕ) → IsOrderly w → is_some (open_at w.core.opens line) ≡ true
    → (is_whole (open_of w.core.opens line).work && is_none (open_of w.core.opens line).failure) ≡ true
    → 1 < w.core.lines.spare_entries
entries_spare w line o some whole =
    let opened : OpenLine = open_of w.core.opens line in
    omega (arith, whole_entries opened.work (and_parts (is_whole opened.work) (is_none opened.failure) whole).0, line_spare w line o some)

-- with the entry of its own, where it has one
abbrev is_taken : World → ℕ → Bool
is_taken w line = is_whole (open_of w.core.opens line).work && is_none (open_of w.core.opens line).failure

abbrev taken : World → ℕ → Bool → Lines
taken w line b = cond b (after_took w.core.lines line (no_piece (open_of w.core.opens line).key) w.shelf.steps) w.core.lines

pub taken_spare : (w : World) (line : ℕ) → IsOrderly w → is_some (open_at w.core.opens line) ≡ true
    → 0 < (taken_whole w.core.lines line (open_of w.core.opens line) w.shelf.steps).spare_entries
taken_spare w line o some = elim (is_taken w line) as (λ b. is_taken w line ≡ b → 0 < (taken w line b).spare_entries) [
  | true ↦ λ t. (let two : 1 < w.core.lines.spare_entries = entries_spare w line o some t in omega (arith, two))
  | false ↦ λ t. entry_spare w line o some
] refl

pub taken_entered : (w : World) (line : ℕ) → IsOrderly w → is_some (open_at w.core.opens line) ≡ true
    → may_enter (taken_whole w.core.lines line (open_of w.core.opens line) w.shelf.steps) line ≡ true
taken_entered w line o some = elim (is_taken w line) as (λ b. may_enter (taken w line b) line ≡ true) [
  | true ↦ entered w line o some
  | false ↦ entered w line o some
]

pub taken_moment : (w : World) (line : ℕ) → IsOrderly w
    → last_moment (taken_whole w.core.lines line (open_of w.core.opens line) w.shelf.steps).journal ≤ w.shelf.steps
taken_moment w line o = elim (is_taken w line) as (λ b. last_moment (taken w line b).journal ≤ w.shelf.steps) [
  | true ↦ (let last : last_moment (taken w line true).journal ≡ w.shelf.steps = last_pushed w.core.lines.journal _ in omega (arith, last))
  | false ↦ o.backed.moments
]

-- the line that waits for all others
pub barrier_open : (w : World) (line : ℕ) → IsOrderly w → w.core.barrier ≡ Some line → IsBarrier w.core.opens line
barrier_open w line o is = subst (λ (x : Option ℕ). IfSome x (IsBarrier w.core.opens)) is o.tidy.lines.holds

pub barrier_some : (w : World) (line : ℕ) → IsOrderly w → w.core.barrier ≡ Some line → is_some (open_at w.core.opens line) ≡ true
barrier_some w line o is = ap is_some (barrier_open w line o is).is_open

pub barrier_over : (w : World) (line : ℕ) → IsOrderly w → w.core.barrier ≡ Some line → left_of w.core.opens line ≡ 0
barrier_over w line o is =
    let b : IsBarrier w.core.opens line = barrier_open w line o is in
    ap (λ (x : Option OpenLine). option_map_or (λ (y : OpenLine). y.left) x 0) b.is_open ∙ b.alone

-- no line waits for all others any more
pub free_orderly : (w : World) → IsOrderly w → IsOrderly (record w { core = record w.core { barrier = None } })
free_orderly w o = with_others w w.core.pieces.claims w.core.failed None o tt

-- ---- what is quiet

-- a line isn't open once it is closed
closed_none : (opens : Opens) (line : ℕ) → is_some (open_at opens line) ≡ true → open_at (after_closed opens line) line ≡ None
closed_none opens line some =
    let found : (x : OpenLine) × (open_at opens line ≡ Some x) = some_of (open_at opens line) some in
    get_or-set_same opens.list line None None (open_within opens line found.0 found.1)

other_just : (line q : ℕ) → nat_eq line q ≡ false → just line q ≡ false
other_just line q apart = ne_eqb q line (λ e. eqb-false line q apart (sym e))

pub answered_quiet : (c : Core) (line moment : ℕ) → is_some (open_at c.opens line) ≡ true → IsQuiet no_one (just line) c
    → IsQuiet no_one no_one (after_answers c line moment)
answered_quiet c line moment some quiet =
    let d : Core = after_answers c line moment in
    record {
      asked = asked_same no_one no_one c d refl (λ q not is. is) (λ q not. not) quiet.asked;
      unfinished =
          unfinished_changed (just line) no_one c d line (others_set c.opens line None) (λ q apart is. is)
          (λ q apart not. other_just line q apart) (λ not. inl (closed_none c.opens line some)) quiet.unfinished;
    }

pub passed_calm : (c : Core) (line moment : ℕ) → c.barrier ≡ Some line → is_some (open_at c.opens line) ≡ true → IsQuiet no_one no_one c
    → IsCalm no_one no_one (after_answers (record c { barrier = None }) line moment)
passed_calm c line moment waits some quiet =
    let d : Core = after_answers (record c { barrier = None }) line moment in
    record {
      quiet = record {
        asked = asked_same no_one no_one c d refl (λ q not is. is) (λ q not. not) quiet.asked;
        unfinished =
            unfinished_changed no_one no_one c d line (others_set c.opens line None)
            (λ q apart is. absurd (eqb-false line q apart (same_Some line q (sym waits ∙ is)))) (λ q apart not. not)
            (λ not. inl (closed_none c.opens line some)) quiet.unfinished;
      };
      others = λ q is. absurd (none-some q is);
    }

-- ---- what is reached

pub open_left : (opens : Opens) (line : ℕ) (o : OpenLine) → open_at opens line ≡ Some o → left_of opens line ≡ o.left
open_left opens line o at = ap (λ (x : Option OpenLine). option_map_or (λ (y : OpenLine). y.left) x 0) at

pub closed_orderly : (s : State) (c mid : Core) (line : ℕ) → IsOrderly (world s c) → is_some (open_at c.opens line) ≡ true
    → left_of c.opens line ≡ 0
    → (c.barrier ≡ Some line → ⊥)
    → mid ≡ after_answers c line s.steps
    → IsOrderly (world s mid)
closed_orderly s c mid line o some over other is =
    subst (λ (d : Core). IsOrderly (world s d)) (sym is) (after_answered (world s c) line o (some, over, other))

pub closed_reaches : (s : State) (c mid new : Core) (line : ℕ) → is_some (open_at c.opens line) ≡ true → left_of c.opens line ≡ 0
    → (c.barrier ≡ Some line → ⊥)
    → mid ≡ after_answers c line s.steps
    → Reaches follows (world s mid) (world s new)
    → Reaches follows (world s c) (world s new)
closed_reaches s c mid new line some over other is goes =
    reaches_both follows (world s c) (world s mid) (world s new)
    (subst (λ (d : Core). Reaches follows (world s c) (world s d)) (sym is)
    (reaches_act follows (world s c) (Answers line) refl (some, over, other))) goes

pub closed_calm : (c mid new : Core) (line moment : ℕ) → is_some (open_at c.opens line) ≡ true → mid ≡ after_answers c line moment
    → (IsQuiet no_one no_one mid → IsCalm no_one no_one new)
    → IsCalm no_one (just line) c
    → IsCalm no_one no_one new
closed_calm c mid new line moment some is then calm =
    then (subst (λ (d : Core). IsQuiet no_one no_one d) (sym is) (answered_quiet c line moment some calm.quiet))

pub passed_reaches : (s : State) (c new : Core) (line : ℕ) → c.barrier ≡ Some line → length (filter is_open c.lines.answers) ≤ 1
    → new ≡ after_answers (record c { barrier = None }) line s.steps
    → Reaches follows (world s c) (world s new)
passed_reaches s c new line waits few is =
    subst (λ (d : Core). Reaches follows (world s c) (world s d)) (sym is) (reaches_act follows (world s c) (Passes line) refl (waits, few))
