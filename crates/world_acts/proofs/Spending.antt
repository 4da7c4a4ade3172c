-- What goes on once an operation has completed uses up what is owed, and no more of what is spare.
use Rattle.std.proofs.Common.{◌≡◌, ◌≤◌, ◌<◌, ℕ, ◌+◌, ◌-◌, true, false, cond, nat_eq, ◌&&◌, List, length, Option, None, Some}
use Rattle.std.proofs.Common.{IfSome, is_none, is_some, sum_by, unwrap_or, refl, sym, ap, subst, ◌∙◌, arith, true≢false}
use Rattle.std.proofs.lemmas.Bool.{and_parts}
use Rattle.std.proofs.lemmas.List.{length_push}
use Rattle.std.proofs.lemmas.List.Sums.{get_or-le-sum_by}
use Rattle.indexmap.specs.IndexMap.{swap_remove_entry}
use Rattle.line_answers.specs.declared.answer.Answer.{Answer}
use Rattle.disk_model.specs.declared.ops.Op.{Op}
use Rattle.disk_model.specs.State.{State}
use Rattle.disk_model.specs.Operations.{sectors_of as op_sectors}
use Rattle.disk_model.specs.Record.{Operation}
use Rattle.disk_model.specs.Steps.{sectors_of_work}
use Rattle.line_table.specs.Steps as lines
use Rattle.flush_plan.specs.Plans.{marks_of}
use Rattle.flush_waits.specs.declared.ticket.Waiter.{Waiter}
use Rattle.flush_waits.specs.declared.ticket.Waiter.TheVariants as waiter
use Rattle.flush_waits.specs.declared.ticket.Waiting.{Waiting}
use Rattle.flush_waits.specs.Waits.{DiskWaits, disk_waits, none_waits}
use Rattle.piece_table.specs.declared.live.LivePiece.{LivePiece}
use Rattle.piece_table.specs.declared.live.Stage.TheVariants.{Started, Waiting as Unsubmitted}
use Rattle.piece_table.specs.Pieces.{is_started, is_waiting, live_at}
use Rattle.piece_table.specs.Steps.{live_of, no_live}
use Rattle.world_acts.specs.declared.state.Core.{Core}
use Rattle.world_acts.specs.declared.open_line.OpenLine.{OpenLine}
use Rattle.world_acts.specs.declared.room.Room.{Room}
use Rattle.world_acts.specs.Acts.{Act, Allowed, Answers, Asks, AsksFlush, Fails, Holds, LineFails, Marks, Passes, Reads, Releases, Starts}
use Rattle.world_acts.specs.Acts.{Wakes, World, Writes, after, core_released, goes_on, released_at}
use Rattle.world_acts.specs.Counts.{entries_of, line_entries, ops_of, room_of, sectors_of, waits_of, writes_of}
use Rattle.world_acts.specs.OpenLines.{IsBarrier, is_whole, open_at, open_of}
use Rattle.world_acts.specs.Orderly.{IsOrderly}
use Rattle.world_acts.specs.Rooms.{Covers, fail_room, fewer, line_room, one, start_room, work_entries}
use Rattle.world_acts.specs.Steps.{after_answers, after_leaves, after_released, after_starts, after_stays, after_written}
use Rattle.world_acts.specs.Volumes.{IsPlaced}
use Rattle.world_acts.proofs.Answered.{some_entries, whole_entries}
use Rattle.world_acts.proofs.Flushing.{wanted_within}
use Rattle.world_acts.proofs.LinesKept.{open_is, open_within}
use Rattle.world_acts.proofs.PiecesKept.{start_waits, started_at, waiting_at}
use Rattle.world_acts.proofs.RoomsKept.{AddsUp, Uses, no_room}
use Rattle.world_acts.proofs.Starting.{work_count}
use Rattle.world_acts.proofs.Tables.{at_number, removed, some_of}
use Rattle.world_acts.proofs.Writing.{both_room, written_room}

-- of what was owed this much isn't any more, and no more than that was used up
pub record Spends (w v : World) : Type 0 where
  pub gone : Room
  pub owed : AddsUp v.core.owed gone w.core.owed
  pub in_flight : length v.shelf.in_flight ≤ length w.shelf.in_flight + gone.ops
  pub ops : w.shelf.spare_ops ≤ v.shelf.spare_ops + gone.ops
  pub sectors : w.shelf.spare_sectors ≤ v.shelf.spare_sectors + gone.sectors
  pub uses : Uses w.core v.core gone

adds_fewer : (a gone : Room) → Covers a gone → AddsUp (fewer a gone) gone a
adds_fewer a gone covers = record {
  ops = omega (arith, covers.ops);
  sectors = omega (arith, covers.sectors);
  writes = omega (arith, covers.writes);
  waits = omega (arith, covers.waits);
  entries = omega (arith, covers.entries);
}

-- over the same shelf
core_spends : (w : World) (c : Core) (gone : Room) → AddsUp c.owed gone w.core.owed → Uses w.core c gone
    → Spends w (record w { core = c })
core_spends w c gone owed uses = record {
  gone = gone;
  owed = owed;
  in_flight = omega arith;
  ops = omega arith;
  sectors = omega arith;
  uses = uses;
}

-- where as much is owed and spare
spends_nothing : (w : World) (c : Core) → c.owed ≡ w.core.owed → c.waits.plan.spare ≡ w.core.waits.plan.spare
    → c.waits.room ≡ w.core.waits.room
    → c.lines.spare_entries ≡ w.core.lines.spare_entries
    → c.pieces.spare_ops ≡ w.core.pieces.spare_ops
    → Spends w (record w { core = c })
spends_nothing w c owed writes waits entries owners =
    core_spends w c no_room
    (subst (λ (r : Room). AddsUp r no_room w.core.owed) (sym owed)
    (record { ops = omega arith; sectors = omega arith; writes = omega arith; waits = omega arith; entries = omega arith }))
    (record {
      writes = omega (arith, writes);
      waits = omega (arith, waits);
      entries = omega (arith, entries);
      owners = omega (arith, owners);
    })

-- ---- what is owed

-- what a piece under way may use up
abbrev live_room : LivePiece → Room
live_room l = record { ops = ops_of l; sectors = sectors_of l; writes = writes_of l; waits = waits_of l; entries = entries_of l }

live_owed : (w : World) (number : ℕ) (l : LivePiece) → IsOrderly w → live_at w.core.pieces.lives number ≡ Some l
    → Covers w.core.owed (live_room l)
live_owed w number l o at =
    let c : Core = w.core in
    let all : c.owed ≡ room_of c = o.tidy.room.owed in
    let rest : List (ℕ × LivePiece) = swap_remove_entry (nat_eq number) c.pieces.lives in
    let gone = removed c.pieces.lives number l o.tidy.pieces.single at in
    let ops : sum_by (λ (e : ℕ × LivePiece). ops_of e.1) rest + ops_of l
    ≡ sum_by (λ (e : ℕ × LivePiece). ops_of e.1) c.pieces.lives + 0 =
    gone.summed (λ (e : ℕ × LivePiece). ops_of e.1) in
    let sectors : sum_by (λ (e : ℕ × LivePiece). sectors_of e.1) rest + sectors_of l
    ≡ sum_by (λ (e : ℕ × LivePiece). sectors_of e.1) c.pieces.lives + 0 =
    gone.summed (λ (e : ℕ × LivePiece). sectors_of e.1) in
    let writes : sum_by (λ (e : ℕ × LivePiece). writes_of e.1) rest + writes_of l
    ≡ sum_by (λ (e : ℕ × LivePiece). writes_of e.1) c.pieces.lives + 0 =
    gone.summed (λ (e : ℕ × LivePiece). writes_of e.1) in
    let waits : sum_by (λ (e : ℕ × LivePiece). waits_of e.1) rest + waits_of l
    ≡ sum_by (λ (e : ℕ × LivePiece). waits_of e.1) c.pieces.lives + 0 =
    gone.summed (λ (e : ℕ × LivePiece). waits_of e.1) in
    let entries : sum_by (λ (e : ℕ × LivePiece). entries_of e.1) rest + entries_of l
    ≡ sum_by (λ (e : ℕ × LivePiece). entries_of e.1) c.pieces.lives + 0 =
    gone.summed (λ (e : ℕ × LivePiece). entries_of e.1) in
    record {
      ops = omega (arith, ops, ap (λ (r : Room). r.ops) all);
      sectors = omega (arith, sectors, ap (λ (r : Room). r.sectors) all);
      writes = omega (arith, writes, ap (λ (r : Room). r.writes) all);
      waits = omega (arith, waits, ap (λ (r : Room). r.waits) all);
      entries = omega (arith, entries, ap (λ (r : Room). r.entries) all);
    }

-- ---- a piece is started, and its operation submitted

start_owed : (w : World) (number : ℕ) → IsOrderly w → is_waiting w.core.pieces number ≡ true
    → Covers w.core.owed (start_room (live_of w.core.pieces number).piece)
start_owed w number o waits =
    let p = waiting_at w.core.pieces.lives number waits in
    let l : LivePiece = record { line = p.1.line; piece = p.1.piece; stage = Unsubmitted p.0; ticket = p.1.ticket } in
    let is : live_of w.core.pieces number ≡ l = ap (λ (x : Option LivePiece). unwrap_or x no_live) p.1.at in
    let owed : Covers w.core.owed (live_room l) = live_owed w number l o p.1.at in
    subst (λ (x : LivePiece). Covers w.core.owed (start_room x.piece)) (sym is)
    (record {
      ops = omega (arith, owed.ops);
      sectors = owed.sectors;
      writes = omega arith;
      waits = omega arith;
      entries = omega arith;
    })

start_spends : (w : World) (number : ℕ) → IsOrderly w → Allowed w (Starts number) → Spends w (after w (Starts number))
start_spends w number o allowed =
    let room : Room = start_room (live_of w.core.pieces number).piece in
    core_spends w (after_starts w.core number) room (adds_fewer w.core.owed room (start_owed w number o (start_waits w.core.pieces number allowed)))
    (record { writes = omega arith; waits = omega arith; entries = omega arith; owners = omega arith })

ask_spends : (w : World) (number : ℕ) (op : Op) (tag : ℕ) (now : State) → IsOrderly w → Allowed w (Asks number op tag now)
    → Spends w (after w (Asks number op tag now))
ask_spends w number op tag now o allowed =
    let c : Core = w.core in
    let p = waiting_at c.pieces.lives number (start_waits c.pieces number allowed.2) in
    let l : LivePiece = record { line = p.1.line; piece = p.1.piece; stage = Unsubmitted p.0; ticket = p.1.ticket } in
    let is : live_of c.pieces number ≡ l = ap (λ (x : Option LivePiece). unwrap_or x no_live) p.1.at in
    let placed : IsPlaced c.volumes w.shelf.sizes p.1.piece =
    at_number (λ (e : ℕ × LivePiece). IsPlaced c.volumes w.shelf.sizes e.1.piece) c.pieces.lives number l o.backed.places.placed p.1.at in
    let there : IsPlaced c.volumes w.shelf.sizes (live_of c.pieces number).piece =
    subst (λ (x : LivePiece). IsPlaced c.volumes w.shelf.sizes x.piece) (sym is) placed in
    let count : op_sectors op ≡ (live_of c.pieces number).piece.count =
    ap sectors_of_work allowed.3 ∙ work_count c w.shelf.sizes (live_of c.pieces number) there in
    let long : length now.in_flight ≡ length w.shelf.in_flight + 1 =
    ap (λ (l : List Operation). length l) allowed.0.in_flight ∙ length_push w.shelf.in_flight _ in
    let room : Room = start_room (live_of c.pieces number).piece in
    record {
      gone = room;
      owed = adds_fewer c.owed room (start_owed w number o (start_waits c.pieces number allowed.2));
      in_flight = omega (arith, long);
      ops = omega (arith, allowed.0.spare_ops);
      sectors = omega (arith, allowed.0.spare_sectors, count);
      uses = record { writes = omega arith; waits = omega arith; entries = omega arith; owners = omega arith };
    }

-- ---- a piece fails, has written or has read

-- what a started piece may use up
module _ (w : World) (number : ℕ) (o : IsOrderly w) (starts : is_started w.core.pieces number ≡ true) where
  abbrev its_room : LivePiece → Room
  its_room l = record {
    ops = one (is_some l.ticket);
    sectors = 0;
    writes = one l.piece.write;
    waits = one (is_some l.ticket);
    entries = 1;
  }

  started_owed : Covers w.core.owed (its_room (live_of w.core.pieces number))
  started_owed =
      let p = started_at w.core.pieces.lives number starts in
      let l : LivePiece = record { line = p.2.line; piece = p.2.piece; stage = Started p.0 p.1; ticket = p.2.ticket } in
      let is : live_of w.core.pieces number ≡ l = ap (λ (x : Option LivePiece). unwrap_or x no_live) p.2.at in
      let owed : Covers w.core.owed (live_room l) = live_owed w number l o p.2.at in
      subst (λ (x : LivePiece). Covers w.core.owed (its_room x)) (sym is)
      (record {
        ops = omega (arith, owed.ops);
        sectors = omega arith;
        writes = owed.writes;
        waits = owed.waits;
        entries = owed.entries;
      })

fail_spends : (w : World) (number : ℕ) (why : Answer) → IsOrderly w → Allowed w (Fails number why) → Spends w (after w (Fails number why))
fail_spends w number why o allowed =
    let live : LivePiece = live_of w.core.pieces number in
    core_spends w (after w (Fails number why)).core (fail_room live.piece (is_some live.ticket))
    (adds_fewer w.core.owed (fail_room live.piece (is_some live.ticket)) (started_owed w number o allowed.0))
    (record { writes = omega arith; waits = omega arith; entries = omega arith; owners = omega arith })

read_spends : (w : World) (number : ℕ) (sectors : List (List ℕ)) → IsOrderly w → Allowed w (Reads number sectors)
    → Spends w (after w (Reads number sectors))
read_spends w number sectors o allowed =
    let owed = started_owed w number o allowed.0 in
    core_spends w (after w (Reads number sectors)).core (record { ops = 0; sectors = 0; writes = 0; waits = 0; entries = 1 })
    (adds_fewer w.core.owed (record { ops = 0; sectors = 0; writes = 0; waits = 0; entries = 1 })
    (record { ops = omega arith; sectors = omega arith; writes = omega arith; waits = omega arith; entries = owed.entries }))
    (record { writes = omega arith; waits = omega arith; entries = omega arith; owners = omega arith })

write_spends : (w : World) (number pv : ℕ) → IsOrderly w → Allowed w (Writes number pv) → Spends w (after w (Writes number pv))
write_spends w number pv o allowed =
    let c : Core = w.core in
    let live : LivePiece = live_of c.pieces number in
    let owed = started_owed w number o allowed.0 in
    let write : one live.piece.write ≡ 1 = ap one allowed.3 in
    let written : Core = after_written c number pv w.shelf.steps in
    let place : ℕ = (marks_of written.waits.plan pv).written in
    elim (is_some live.ticket) as (λ b. is_some live.ticket ≡ b
    → Spends w (record w { core = cond b (after_stays written number pv place) (after_leaves written number pv) })) [
      | true ↦ λ is.
          let wait : one (is_some live.ticket) ≡ 1 = ap one is in
          core_spends w (after_stays written number pv place) both_room
          (record {
            ops = omega arith;
            sectors = omega arith;
            writes = omega (arith, owed.writes, write);
            waits = omega (arith, owed.waits, wait);
            entries = omega (arith, owed.entries);
          })
          (record { writes = omega arith; waits = omega arith; entries = omega arith; owners = omega arith })
      | false ↦ λ is.
          core_spends w (after_leaves written number pv) written_room
          (record {
            ops = omega arith;
            sectors = omega arith;
            writes = omega (arith, owed.writes, write);
            waits = omega arith;
            entries = omega (arith, owed.entries);
          })
          (record { writes = omega arith; waits = omega arith; entries = omega arith; owners = omega arith })
    ] refl

-- ---- a line is answered

answer_spends : (w : World) (barrier : Option ℕ) (line : ℕ) → IsOrderly w → is_some (open_at w.core.opens line) ≡ true
    → Spends w (record w { core = after_answers (record w.core { barrier = barrier }) line w.shelf.steps })
answer_spends w barrier line o stands =
    let c : Core = w.core in
    let d : Core = after_answers (record c { barrier = barrier }) line w.shelf.steps in
    let opened : OpenLine = open_of c.opens line in
    let found : (x : OpenLine) × (open_at c.opens line ≡ Some x) = some_of (open_at c.opens line) stands in
    let within : line < length c.opens.list = open_within c.opens line found.0 found.1 in
    let most : line_entries (open_at c.opens line) ≤ sum_by line_entries c.opens.list =
    get_or-le-sum_by line_entries c.opens.list line None within in
    let its : line_entries (open_at c.opens line) ≡ work_entries found.0.work = ap line_entries found.1 in
    let same : work_entries opened.work ≡ work_entries found.0.work =
    ap (λ (x : OpenLine). work_entries x.work) (open_is c.opens line found.0 found.1) in
    let all : c.owed.entries ≡ (room_of c).entries = ap (λ (r : Room). r.entries) o.tidy.room.owed in
    let table : lines.Lines = c.lines in
    let took : lines.Lines = lines.after_took table line (lines.no_piece opened.key) w.shelf.steps in
    core_spends w d (line_room opened)
    (adds_fewer c.owed (line_room opened)
    (record {
      ops = omega arith;
      sectors = omega arith;
      writes = omega arith;
      waits = omega arith;
      entries = omega (arith, most, its, same, all);
    }))
    (record {
      writes = omega arith;
      waits = omega arith;
      entries =
          elim (is_whole opened.work && is_none opened.failure) as (λ b. (is_whole opened.work && is_none opened.failure) ≡ b
          → table.spare_entries ≤ (cond b took table).spare_entries - 1 + work_entries opened.work) [
            | true ↦ λ e.
                let two : work_entries opened.work ≡ 2 =
                whole_entries opened.work (and_parts (is_whole opened.work) (is_none opened.failure) e).0 in
                omega (arith, two)
            | false ↦ λ e. omega (arith, some_entries opened.work)
          ] refl;
      owners = omega arith;
    })

pass_spends : (w : World) (line : ℕ) → IsOrderly w → Allowed w (Passes line) → Spends w (after w (Passes line))
pass_spends w line o allowed =
    let is : IsBarrier w.core.opens line = subst (λ (x : Option ℕ). IfSome x (IsBarrier w.core.opens)) allowed.0 o.tidy.lines.holds in
    answer_spends w None line o (ap is_some is.is_open)

-- ---- flushes

flush_spends : (w : World) (pv tag : ℕ) (now : State) → IsOrderly w → Allowed w (AsksFlush pv tag now)
    → Spends w (after w (AsksFlush pv tag now))
flush_spends w pv tag now o allowed =
    let c : Core = w.core in
    let wanted = wanted_within c.waits pv allowed.2 in
    let many : ℕ = length (disk_waits c.waits pv).next in
    let some : 0 < many = wanted.1 in
    let most : many ≤ sum_by (λ (d : DiskWaits). length d.next) c.waits.disks =
    get_or-le-sum_by (λ (d : DiskWaits). length d.next) c.waits.disks pv none_waits wanted.0 in
    let all : c.owed.ops ≡ (room_of c).ops = ap (λ (r : Room). r.ops) o.tidy.room.owed in
    let long : length now.in_flight ≡ length w.shelf.in_flight + 1 =
    ap (λ (l : List Operation). length l) allowed.0.in_flight ∙ length_push w.shelf.in_flight _ in
    let room : Room = record { ops = many; sectors = 0; writes = 0; waits = 0; entries = 0 } in
    record {
      gone = room;
      owed =
          adds_fewer c.owed room
          (record {
            ops = omega (arith, most, all);
            sectors = omega arith;
            writes = omega arith;
            waits = omega arith;
            entries = omega arith;
          });
      in_flight = omega (arith, long, some);
      ops = omega (arith, allowed.0.spare_ops, some);
      sectors = omega (arith, allowed.0.spare_sectors);
      uses = record { writes = omega arith; waits = omega arith; entries = omega arith; owners = omega arith };
    }

release_spends : (w : World) (pv : ℕ) (first : Option Waiting) → Spends w (record w { core = core_released w.core pv first })
release_spends w pv None = spends_nothing w w.core refl refl refl refl refl
release_spends w pv (Some it) = of it.waiter
  where
    of : (x : Waiter) → Spends w (record w { core = after_released w.core x pv })
    of (waiter.Line line) = spends_nothing w (after_released w.core (waiter.Line line) pv) refl refl refl refl refl
    of (waiter.Piece number) = spends_nothing w (after_released w.core (waiter.Piece number) pv) refl refl refl refl refl

-- ---- each act

pub spends_act : (w : World) (a : Act) → goes_on a ≡ true → IsOrderly w → Allowed w a → Spends w (after w a)
spends_act w (LineFails line why) is o allowed = spends_nothing w (after w (LineFails line why)).core refl refl refl refl refl
spends_act w (Answers line) is o allowed = answer_spends w w.core.barrier line o allowed.0
spends_act w (Holds line) is o allowed = spends_nothing w (after w (Holds line)).core refl refl refl refl refl
spends_act w (Passes line) is o allowed = pass_spends w line o allowed
spends_act w Wakes is o allowed = spends_nothing w (after w Wakes).core refl refl refl refl refl
spends_act w (Starts number) is o allowed = start_spends w number o allowed
spends_act w (Asks number op tag now) is o allowed = ask_spends w number op tag now o allowed
spends_act w (Marks pv) is o allowed = spends_nothing w (after w (Marks pv)).core refl refl refl refl refl
spends_act w (Fails number why) is o allowed = fail_spends w number why o allowed
spends_act w (Writes number pv) is o allowed = write_spends w number pv o allowed
spends_act w (Reads number sectors) is o allowed = read_spends w number sectors o allowed
spends_act w (AsksFlush pv tag now) is o allowed = flush_spends w pv tag now o allowed
spends_act w (Releases pv) is o allowed = release_spends w pv (released_at w.core pv)
spends_act w _ is o allowed = absurd (true≢false (sym is))
