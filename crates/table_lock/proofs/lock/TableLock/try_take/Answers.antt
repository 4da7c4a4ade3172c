use Rattle.std.proofs.Common.{arith, ap, sym, ◌∙◌, ◌∷◌, Some}
use Rattle.atomic_table.specs.Table.{rest}
use Rattle.table_lock.specs.Seats.{opened}
use Rattle.table_lock.proofs.Keeps.{takes_turn}
use Rattle.table_lock.proofs.Steps.{missed_seat, taken_seat}
use Rattle.table_lock.proofs.lock.TableLock.try_take.Goals as goal

pub compare_exchange-requires : goal.compare_exchange-requires
compare_exchange-requires g c = let seat = c.args.seat.now in (
  c.requires.of.table,
  omega (arith, c.args.self.now.sized.0),
  takes_turn g.T.Grows.origin g.T.Grows.story _ seat.seat.id seat.seat.me seat.has_parts c.requires.idle,
)

pub exchange-requires : goal.exchange-requires
exchange-requires g c =
    let t = c.compare_exchange.ensures.2.0 c.if-compare_exchange-ne-FREE.false in
    let e = ap (λ n. n.1) t.is in
    (c.compare_exchange.ensures.0 ∙ c.requires.of.table, (Some t.value, e ∙ ap (λ l. (0, Some t.value) ∷ rest l) (sym e)))

pub returns-then-compare_exchange-ne-FREE-clause-of : goal.returns-then-compare_exchange-ne-FREE-clause-of
returns-then-compare_exchange-ne-FREE-clause-of g c =
    let r =
    missed_seat g.T.Grows.origin g.T.Grows.story (opened c.args.self.now) c.args.seat.now.seat.me c.compare_exchange.new.seat.me
    c.requires.of.opening (c.compare_exchange.ensures.2.1 c.if-compare_exchange-ne-FREE.true) in
    (record { table = c.compare_exchange.ensures.0 ∙ c.requires.of.table; opening = r.0 }, r.1, r.2)

pub returns-then-compare_exchange-ne-FREE-clause-seen : goal.returns-then-compare_exchange-ne-FREE-clause-seen
returns-then-compare_exchange-ne-FREE-clause-seen g c =
    (missed_seat g.T.Grows.origin g.T.Grows.story (opened c.args.self.now) c.args.seat.now.seat.me c.compare_exchange.new.seat.me
    c.requires.of.opening (c.compare_exchange.ensures.2.1 c.if-compare_exchange-ne-FREE.true)).3

pub returns-clause-of : goal.returns-clause-of
returns-clause-of g c =
    let r =
    taken_seat g.T.Grows.origin g.T.Grows.story (opened c.args.self.now) c.args.seat.now.seat.me c.compare_exchange.new.seat.me
    c.exchange.new.seat.me c.exchange.result c.requires.of.opening
    (c.compare_exchange.ensures.2.0 c.if-compare_exchange-ne-FREE.false) c.exchange.ensures.2 (ap (λ m. m.0) c.exchange.ensures.3) in
    (record { table = c.exchange.ensures.0 ∙ (c.compare_exchange.ensures.0 ∙ c.requires.of.table); opening = r.0 }, r.1, r.2)

pub returns-clause-seen : goal.returns-clause-seen
returns-clause-seen g c =
    (taken_seat g.T.Grows.origin g.T.Grows.story (opened c.args.self.now) c.args.seat.now.seat.me c.compare_exchange.new.seat.me
    c.exchange.new.seat.me c.exchange.result c.requires.of.opening
    (c.compare_exchange.ensures.2.0 c.if-compare_exchange-ne-FREE.false) c.exchange.ensures.2 (ap (λ m. m.0) c.exchange.ensures.3)).3

pub returns-clause-value : goal.returns-clause-value
returns-clause-value g c =
    (taken_seat g.T.Grows.origin g.T.Grows.story (opened c.args.self.now) c.args.seat.now.seat.me c.compare_exchange.new.seat.me
    c.exchange.new.seat.me c.exchange.result c.requires.of.opening
    (c.compare_exchange.ensures.2.0 c.if-compare_exchange-ne-FREE.false) c.exchange.ensures.2 (ap (λ m. m.0) c.exchange.ensures.3)).4
