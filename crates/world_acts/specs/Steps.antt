-- What each step does to what a world keeps beside its shelf.
use Rattle.std.specs.Prelude.{ℕ, ◌&&◌, Bool, true, if◌then◌else◌, is_none, is_some, length, List, Option, None}
use Rattle.std.specs.FinSet as set
use Rattle.sector_base.specs.declared.places.Piece.{Piece}
use Rattle.line_answers.specs.declared.answer.Answer.{Answer}
use Rattle.lvm_script.specs.declared.line.Line.{Line}
use Rattle.line_table.specs.Steps as lines
use Rattle.claim_table.specs.declared.claim.Entry.{Entry}
use Rattle.flush_plan.specs.Plans.{marks_of}
use Rattle.flush_waits.specs.declared.ticket.Waiter.{Waiter}
use Rattle.flush_waits.specs.declared.ticket.Waiter.TheVariants as waiter
use Rattle.flush_waits.specs.Steps as waits
use Rattle.flush_waits.specs.declared.waits.Awaited.{Awaited}
use Rattle.flush_waits.specs.declared.waits.Awaited.TheVariants.{Unserved}
use Rattle.flush_waits.specs.Waits.{awaited, disk_waits, new_waits}
use Rattle.piece_table.specs.declared.live.Stage.TheVariants.{Started, Taken}
use Rattle.piece_table.specs.Pieces.{no_pieces}
use Rattle.piece_table.specs.Steps as pieces
use Rattle.piece_table.specs.Steps.{live_of}
use Rattle.world_acts.specs.declared.state.Core.{Core}
use Rattle.world_acts.specs.declared.open_line.OpenLine.{OpenLine}
use Rattle.world_acts.specs.declared.room.Room.{Room}
use Rattle.world_acts.specs.Rooms.{fail_room, fewer, line_room, more, piece_room, start_room}
use Rattle.world_acts.specs.OpenLines.{after_added, after_begun, after_closed, after_failure, after_filled, after_finished, answer_of}
use Rattle.world_acts.specs.OpenLines.{is_whole, no_opens, open_of}

-- nothing was begun, over so many disks and for so many volumes
abbrev pub new_core : Core → ℕ → ℕ → Core
new_core c disks volumes = record c {
  lines = lines.no_lines;
  opens = no_opens;
  pieces = no_pieces;
  waits = new_waits disks volumes;
  barrier = None;
  owed = record { ops = 0; sectors = 0; writes = 0; waits = 0; entries = 0 };
}

-- ---- lines

-- the line is begun, and open
abbrev pub after_begins : Core → Line → OpenLine → ℕ → Core
after_begins c line opened moment = record c {
  lines = lines.after_begin c.lines line opened.key moment;
  opens = after_begun c.opens opened;
  owed = more c.owed (line_room opened);
}

-- the entry of a line that takes place as a whole, unless something of it failed
abbrev pub taken_whole : lines.Lines → ℕ → OpenLine → ℕ → lines.Lines
taken_whole table line opened moment =
    if is_whole opened.work && is_none opened.failure then lines.after_took table line (lines.no_piece opened.key) moment else table

-- the line is answered
abbrev pub after_answers : Core → ℕ → ℕ → Core
after_answers c line moment =
    let opened = open_of c.opens line in
    record c {
      lines = lines.after_answer (taken_whole c.lines line opened moment) line (answer_of opened) moment;
      opens = after_closed c.opens line;
      owed = fewer c.owed (line_room opened);
    }

-- ---- pieces

-- a piece of the line enters
abbrev pub after_enters : Core → ℕ → Piece → List (List ℕ) → Option (Unit {0}) → Entry → Core
after_enters c line piece sectors ticket entry = record c {
  opens = after_added c.opens line;
  pieces = pieces.after_enter c.pieces line piece None sectors ticket entry;
  owed = more c.owed (piece_room piece (is_some ticket));
}

-- the piece is started, but nothing of it submitted
abbrev pub after_starts : Core → ℕ → Core
after_starts c number = record c {
  pieces = pieces.with_stage c.pieces number (Started 0 None);
  owed = fewer c.owed (start_room (live_of c.pieces number).piece);
}

-- the piece is started, and its operation submitted under this tag
abbrev pub after_asks : Core → ℕ → ℕ → Core
after_asks c number tag =
    let started = after_starts c number in
    record started { pieces = pieces.after_flies started.pieces number tag true }

-- the operation of the piece with this tag has completed
abbrev pub after_ends : Core → ℕ → ℕ → Core
after_ends c tag number = record c { pieces = pieces.after_lands c.pieces tag number }

-- the disk has failed
abbrev pub after_marks : Core → ℕ → Core
after_marks c pv = record c { failed = set.insert c.failed pv }

-- the piece fails, and leaves
abbrev pub after_fails : Core → ℕ → Answer → ℕ → Core
after_fails c number why moment =
    let live = live_of c.pieces number in
    record c {
      lines = lines.after_failed c.lines live.line live.piece moment;
      opens = after_finished (after_failure c.opens live.line why) live.line;
      pieces = pieces.after_leave (pieces.without_ticket c.pieces number) number;
      owed = fewer c.owed (fail_room live.piece (is_some live.ticket));
    }

-- the piece leaves, whose write on this disk nobody asks for any more
abbrev pub after_leaves : Core → ℕ → ℕ → Core
after_leaves c number pv = record c {
  opens = after_finished c.opens (live_of c.pieces number).line;
  pieces = pieces.after_leave c.pieces number;
  waits = waits.after_forgot c.waits number pv;
}

-- the write of the piece on this disk has completed well: it takes place
abbrev pub after_written : Core → ℕ → ℕ → ℕ → Core
after_written c number pv moment =
    let live = live_of c.pieces number in
    let wrote = waits.after_wrote c.waits number pv in
    record c {
      lines = lines.after_took c.lines live.line live.piece moment;
      waits = waits.after_noted wrote live.piece.volume pv (marks_of wrote.plan pv).written;
      owed = fewer c.owed (record { ops = 0; sectors = 0; writes = 1; waits = 0; entries = 1 });
    }

-- and stays until its flush
abbrev pub after_stays : Core → ℕ → ℕ → ℕ → Core
after_stays c number pv place = record c {
  pieces = pieces.with_stage (pieces.without_ticket c.pieces number) number (Taken 1);
  waits = waits.after_wait c.waits (record { waiter = waiter.Piece number; place = place }) pv;
  owed = fewer c.owed (record { ops = 0; sectors = 0; writes = 0; waits = 1; entries = 0 });
}

-- or leaves at once
abbrev pub after_wrote : Core → ℕ → ℕ → ℕ → Core
after_wrote c number pv moment =
    let written = after_written c number pv moment in
    if is_some (live_of c.pieces number).ticket
    then after_stays written number pv (marks_of written.waits.plan pv).written
    else after_leaves written number pv

-- the read of the piece has completed well, with these sectors: it takes place, and leaves
abbrev pub after_reads : Core → ℕ → List (List ℕ) → ℕ → Core
after_reads c number sectors moment =
    let live = live_of c.pieces number in
    record c {
      lines = lines.after_took c.lines live.line live.piece moment;
      opens = after_finished (after_filled c.opens live.line live.piece.first sectors) live.line;
      pieces = pieces.after_leave c.pieces number;
      owed = fewer c.owed (record { ops = 0; sectors = 0; writes = 0; waits = 0; entries = 1 });
    }

-- the first deferred piece that conflicts with nothing is to start
abbrev pub after_wakes : Core → Core
after_wakes c = record c { pieces = pieces.after_ready c.pieces }

-- ---- flushes

-- a flush more is owed, where none serves what is awaited
abbrev pub await_room : Awaited → Room
await_room Unserved = record { ops = 1; sectors = 0; writes = 0; waits = 0; entries = 0 }
await_room _ = record { ops = 0; sectors = 0; writes = 0; waits = 0; entries = 0 }

-- a flush of the disk was submitted under this tag: it serves all that waits there
abbrev pub after_flush : Core → ℕ → ℕ → Core
after_flush c pv tag = record c {
  waits = waits.after_submitted c.waits pv tag;
  owed = fewer c.owed (record { ops = length (disk_waits c.waits pv).next; sectors = 0; writes = 0; waits = 0; entries = 0 });
}

-- the flush with this tag has ended
abbrev pub after_flushed : Core → ℕ → Bool → Core
after_flushed c tag well = record c { waits = waits.after_ended c.waits tag well }

-- it waits no more on this disk, as the first that was served
abbrev pub after_released : Core → Waiter → ℕ → Core
after_released c (waiter.Line line) pv = record c {
  waits = waits.after_release c.waits pv;
  opens = after_finished c.opens line;
}
after_released c (waiter.Piece number) pv = after_leaves (record c { waits = waits.after_release c.waits pv }) number pv

-- the line waits for the write at this place of the disk's
abbrev pub after_awaits : Core → ℕ → ℕ → ℕ → Core
after_awaits c line pv place = record c {
  waits = waits.after_wait c.waits (record { waiter = waiter.Line line; place = place }) pv;
  opens = after_added c.opens line;
  owed = more c.owed (await_room (awaited c.waits pv place));
}

-- the line is to answer so
abbrev pub after_line_fails : Core → ℕ → Answer → Core
after_line_fails c line why = record c { opens = after_failure c.opens line why }

-- ---- what is spare

-- the same, with what is spare in another
abbrev pub grown : Core → Core → Core
grown c d = record c {
  lines = record c.lines { spare_lines = d.lines.spare_lines; spare_entries = d.lines.spare_entries };
  opens = record c.opens { spare = d.opens.spare };
  pieces = record c.pieces { claims = record c.pieces.claims { spare = d.pieces.claims.spare }; spare_ops = d.pieces.spare_ops };
  waits = record c.waits { plan = record c.waits.plan { spare = d.waits.plan.spare }; room = d.waits.room };
}
