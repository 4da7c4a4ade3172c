-- A row that stands is the first of those that are left, and one that doesn't is passed.
use Rattle.std.proofs.lemmas.Result.{err_from_is_err_and}
use Rattle.disk_signature.proofs.Passing.{read_until, row_found, row_passed}
use Rattle.disk_signature.proofs.find.find_signature.Goals as goal

pub returns-in_err-stands : goal.returns-in_err-stands
returns-in_err-stands g c =
    let before = g.S.Shelf.state c.args.shelf.now in
    let there = g.S.Shelf.state c.loop-row.shelf in
    let after = g.S.Shelf.state c.stands.new.shelf in
    let p = err_from_is_err_and c.from_residual.result c.from_residual.ensures.1 in
    rw (p.1, p.2) (read_until c.args.disk before there after c.in_err-stands.field-0.0 c.loop-row.invariant.0 c.in_err-stands.ensures)

pub returns-then-branch : goal.returns-then-branch
returns-then-branch g c =
    let before = g.S.Shelf.state c.args.shelf.now in
    let there = g.S.Shelf.state c.loop-row.shelf in
    let after = g.S.Shelf.state c.stands.new.shelf in
    row_found c.args.disk before there after c.signatures-rows.result.now c.loop-row.row-index _ c.in_ok-stands.field-0
    c.loop-row-test.true c.loop-row.invariant c.if-branch.true c.in_ok-stands.ensures c.kind.result c.kind.ensures

pub loop-row-preserved : goal.loop-row-preserved
loop-row-preserved g c =
    let before = g.S.Shelf.state c.args.shelf.now in
    let there = g.S.Shelf.state c.loop-row.shelf in
    let after = g.S.Shelf.state c.stands.new.shelf in
    row_passed c.args.disk before there after c.signatures-rows.result.now c.loop-row.row-index _ c.in_ok-stands.field-0
    c.loop-row-test.true c.loop-row.invariant c.if-branch.false c.in_ok-stands.ensures
