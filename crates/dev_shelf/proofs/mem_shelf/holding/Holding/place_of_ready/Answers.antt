use Rattle.std.proofs.Common.{◌≡◌, Bool, true, filter, length, not, take, ap, sym, ◌∙◌, arith}
use Rattle.dev_shelf.specs.declared.mem_shelf.recorded.RecordedOp.{RecordedOp}
use Rattle.dev_shelf.specs.RowHolds.{is_held_at}
use Rattle.dev_shelf.proofs.ReadyPlaces.{tag_of_ready}
use Rattle.dev_shelf.proofs.mem_shelf.holding.Holding.place_of_ready.Goals as goal

pub returns-then-left-eq0-clause-which : goal.returns-then-left-eq0-clause-which
returns-then-left-eq0-clause-which c =
    let ops = c.args.row.now.in_flight in
    let p : RecordedOp → Bool = λ op. not (is_held_at c.args.self.now c.args.row.now.steps.items op) in
    let passes : p c.index.result.now ≡ true = ap (λ (b : Bool). not b) (sym c.is_held.ensures) ∙ search (c.if-not-is_held) in
    let many : length (filter p (take c.loop-at.at ops.items)) ≡ c.args.number = omega (arith, c.loop-at.invariant, c.if-left-eq0.true) in
    tag_of_ready (λ (op : RecordedOp). op.tag) p ops.items c.loop-at.at c.args.number c.index.result.now (omega (arith, ops.ok.0))
    c.index.ensures passes many c.requires
