use Rattle.std.proofs.Common.{◌≡◌, ap, sym, ◌∙◌, [], Some, unwrap_or}
use Rattle.std.specs.Option.{option_map_or}
use mathlib.Core.Option.{some-injective}
use Rattle.table_lock.proofs.Keeps.{closes}
use Rattle.table_lock.proofs.lock.TableLock.close.Goals as goal

pub unreachable-requires : goal.unreachable-requires
unreachable-requires g c =
    let seat = c.args.seat in
    let r =
    closes g.T.Grows.origin g.T.Grows.story seat.seat.id seat.seat.me.0 _ _ _ c.requires.all c.requires.idle seat.settled
    c.requires.of.opening c.close_with-closed.ensures.values.2 in
    c.in_default.not-Some r.0 (some-injective _ _ (sym c.take.ensures.value ∙ r.1))

pub returns-clause-value : goal.returns-clause-value
returns-clause-value g c =
    let seat = c.args.seat in
    let r =
    closes g.T.Grows.origin g.T.Grows.story seat.seat.id seat.seat.me.0 _ _ _ c.requires.all c.requires.idle seat.settled
    c.requires.of.opening c.close_with-closed.ensures.values.2 in
    r.2 ∙ (sym (some-injective _ _ (sym c.take.ensures.value ∙ r.1)) ∙ c.in-Some.is)

pub returns-clause-origin : goal.returns-clause-origin
returns-clause-origin g c =
    let seat = c.args.seat in
    let r =
    closes g.T.Grows.origin g.T.Grows.story seat.seat.id seat.seat.me.0 _ _ _ c.requires.all c.requires.idle seat.settled
    c.requires.of.opening c.close_with-closed.ensures.values.2 in
    let e : Some c.in-Some.value ≡ Some r.0 = sym c.in-Some.is ∙ some-injective _ _ (sym c.take.ensures.value ∙ r.1) in
    ap g.T.Grows.origin (ap (λ o. unwrap_or o r.0) e) ∙ r.3

pub returns-clause-story : goal.returns-clause-story
returns-clause-story g c =
    let seat = c.args.seat in
    let r =
    closes g.T.Grows.origin g.T.Grows.story seat.seat.id seat.seat.me.0 _ _ _ c.requires.all c.requires.idle seat.settled
    c.requires.of.opening c.close_with-closed.ensures.values.2 in
    sym (ap (λ o. option_map_or g.T.Grows.story o []) (r.2 ∙ (sym (some-injective _ _ (sym c.take.ensures.value ∙ r.1)) ∙ c.in-Some.is)))
