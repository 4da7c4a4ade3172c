use Rattle.std.proofs.Common.{arith, ap, ◌∙◌}
use Rattle.table_lock.specs.Seats.{history}
use Rattle.table_lock.specs.Views.{slots_of}
use Rattle.table_lock.proofs.Keeps.{joins, settles}
use Rattle.table_lock.proofs.Steps.{joined_seat}
use Rattle.table_lock.proofs.lock.TableLock.join.Goals as goal

pub join_seat-requires : goal.join_seat-requires
join_seat-requires g c = let seat = c.args.seat.now in let other = c.args.other in (
  c.requires.of.0.table,
  c.requires.of.1.table,
  other.carries ∙ ap slots_of c.requires.idle.1,
  omega (arith, c.args.self.now.sized.0),
  joins g.T.Grows.origin g.T.Grows.story seat.seat.id seat.seat.me.0 other.seat.id other.seat.me.0 seat.has_parts c.requires.idle.0
      c.requires.idle.1 seat.settled other.settled,
)

pub load-requires : goal.load-requires
load-requires g c = let seat = c.join_seat.new.seat in (
  c.join_seat.ensures.0 ∙ c.requires.of.0.table,
  omega (arith, c.args.self.now.sized.0),
  settles g.T.Grows.origin g.T.Grows.story _ seat.id seat.me (ap (λ m. m.0.has_turn) c.join_seat.ensures.2 ∙ c.requires.idle.0),
)

pub returns-clause-seen : goal.returns-clause-seen
returns-clause-seen g c =
    joined_seat g.T.Grows.origin g.T.Grows.story c.join_seat.new.seat.me c.load.new.seat.me (history c.args.seat.now) (history c.args.other)
    c.load.ensures.2
    (ap (λ m. m.0.history) c.join_seat.ensures.2) (ap (λ m. m.0.told) c.join_seat.ensures.2)
