use Rattle.std.proofs.Common.{arith}
use Rattle.mda_ring.proofs.SpanLaws.{cover_ahead, cover_round, order_round}
use Rattle.mda_ring.proofs.ring_spans.spans.Goals as goal

pub returns-then-to_end-all-clause-order : goal.returns-then-to_end-all-clause-order
returns-then-to_end-all-clause-order c =
    rw (c.span_of-first.ensures, c.span_of.ensures, c.min.ensures, c.touched_sectors-all.ensures)
    (order_round c.args.area.now c.args.offset c.args.size c.requires.area c.requires.behind_header c.requires.before_end (omega arith))

pub returns-then-to_end-all-clause-cover : goal.returns-then-to_end-all-clause-cover
returns-then-to_end-all-clause-cover c =
    rw (c.span_of-first.ensures, c.span_of.ensures, c.min.ensures, c.touched_sectors-all.ensures)
    (cover_round c.args.area.now c.args.offset c.args.size c.requires.area c.requires.behind_header c.requires.before_end
    c.requires.has_bytes c.requires.has_room (omega arith))

pub returns-else-to_end-all-clause-cover : goal.returns-else-to_end-all-clause-cover
returns-else-to_end-all-clause-cover c =
    rw (c.span_of-first.ensures, c.min.ensures, c.touched_sectors-all.ensures)
    (cover_ahead c.args.area.now c.args.offset c.args.size c.requires.area c.requires.behind_header c.requires.before_end
    c.requires.has_bytes c.requires.has_room (omega arith))
