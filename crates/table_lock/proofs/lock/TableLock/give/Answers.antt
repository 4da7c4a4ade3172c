use Rattle.std.proofs.Common.{◌<◌, [], arith, ap, sym, ◌∙◌, subst}
use Rattle.std.specs.Option.{option_map_or}
use mathlib.Core.List.{IsPrefix}
use Rattle.table_lock.specs.declared.view.SeatView.{SeatView}
use Rattle.table_lock.specs.History.{IsOpenedWith, story_at}
use Rattle.table_lock.specs.Seats.{opened}
use Rattle.table_lock.specs.Views.{slots_of}
use Rattle.table_lock.proofs.Keeps.{sets_free}
use Rattle.table_lock.proofs.Steps.{filled, gave_seat}
use Rattle.table_lock.proofs.lock.TableLock.give.Goals as goal

pub store-requires : goal.store-requires
store-requires g c =
    let seat = c.args.seat.now in
    let m = c.exchange-vacant.new.seat.me in
    let e = c.exchange-vacant.ensures.3 in
    let view = sym (ap (λ x. x.0) e) in (
      c.exchange-vacant.ensures.0 ∙ c.requires.of.table,
      omega (arith, c.args.self.now.sized.0),
      sets_free g.T.Grows.origin g.T.Grows.story _ c.exchange-vacant.new.seat.id m (opened c.args.self.now) c.args.value
          (omega (arith, c.args.self.now.sized.1))
          (filled seat.seat.me m c.args.value seat.carries c.requires.taken e)
          (subst (λ (v : SeatView g.row.T.Denot). 0 < v.parts) view seat.has_parts)
          (ap (λ x. x.0.has_turn) e ∙ c.requires.taken)
          (subst (λ (v : SeatView g.row.T.Denot). IsOpenedWith (opened c.args.self.now) v.history) view c.requires.of.opening)
          c.requires.origin
          (subst (λ (v : SeatView g.row.T.Denot). IsPrefix (story_at g.T.Grows.story v.history) (g.T.Grows.story c.args.value)) view
          c.requires.story),
    )

pub invariant_of-seat : goal.invariant_of-seat
invariant_of-seat g c =
    let seat = c.args.seat.now in
    let e = c.exchange-vacant.ensures.3 in
    let is = filled seat.seat.me c.exchange-vacant.new.seat.me c.args.value seat.carries c.requires.taken e in
    let r =
    gave_seat g.T.Grows.origin g.T.Grows.story (opened c.args.self.now) seat.seat.me c.exchange-vacant.new.seat.me c.store.new.seat.me
    c.args.value c.requires.of.opening seat.has_parts seat.settled (ap (λ m. m.0) e) (c.store.ensures.2 c.args.value is) in
    record { has_parts = r.some_parts; carries = r.slots ∙ ap slots_of (sym r.idle); settled = r.untold }

pub returns-clause-of : goal.returns-clause-of
returns-clause-of g c =
    let seat = c.args.seat.now in
    let e = c.exchange-vacant.ensures.3 in
    let is = filled seat.seat.me c.exchange-vacant.new.seat.me c.args.value seat.carries c.requires.taken e in
    let r =
    gave_seat g.T.Grows.origin g.T.Grows.story (opened c.args.self.now) seat.seat.me c.exchange-vacant.new.seat.me c.store.new.seat.me
    c.args.value c.requires.of.opening seat.has_parts seat.settled (ap (λ m. m.0) e) (c.store.ensures.2 c.args.value is) in
    (record { table = c.store.ensures.0 ∙ (c.exchange-vacant.ensures.0 ∙ c.requires.of.table); opening = r.opening }, r.parts, r.moves)

pub returns-clause-given : goal.returns-clause-given
returns-clause-given g c =
    let seat = c.args.seat.now in
    let e = c.exchange-vacant.ensures.3 in
    let is = filled seat.seat.me c.exchange-vacant.new.seat.me c.args.value seat.carries c.requires.taken e in
    let r =
    gave_seat g.T.Grows.origin g.T.Grows.story (opened c.args.self.now) seat.seat.me c.exchange-vacant.new.seat.me c.store.new.seat.me
    c.args.value c.requires.of.opening seat.has_parts seat.settled (ap (λ m. m.0) e) (c.store.ensures.2 c.args.value is) in
    (r.idle, r.gives)

pub returns-clause-value : goal.returns-clause-value
returns-clause-value g c =
    let seat = c.args.seat.now in
    let e = c.exchange-vacant.ensures.3 in
    let is = filled seat.seat.me c.exchange-vacant.new.seat.me c.args.value seat.carries c.requires.taken e in
    let r =
    gave_seat g.T.Grows.origin g.T.Grows.story (opened c.args.self.now) seat.seat.me c.exchange-vacant.new.seat.me c.store.new.seat.me
    c.args.value c.requires.of.opening seat.has_parts seat.settled (ap (λ m. m.0) e) (c.store.ensures.2 c.args.value is) in
    (r.last, ap (λ o. option_map_or g.T.Grows.story o []) r.last)

pub returns-clause-alone : goal.returns-clause-alone
returns-clause-alone g c =
    let seat = c.args.seat.now in
    let e = c.exchange-vacant.ensures.3 in
    let is = filled seat.seat.me c.exchange-vacant.new.seat.me c.args.value seat.carries c.requires.taken e in
    let r =
    gave_seat g.T.Grows.origin g.T.Grows.story (opened c.args.self.now) seat.seat.me c.exchange-vacant.new.seat.me c.store.new.seat.me
    c.args.value c.requires.of.opening seat.has_parts seat.settled (ap (λ m. m.0) e) (c.store.ensures.2 c.args.value is) in
    r.alone
