use Rattle.std.proofs.lemmas.Result.{err_from_is_err_and}
use Rattle.vg_commit.proofs.Planning.{cause_at, plan_at}
use Rattle.vg_commit.proofs.plan.plan_of.Goals as goal

pub returns-in_err-add_area : goal.returns-in_err-add_area
returns-in_err-add_area c =
    let p = err_from_is_err_and c.from_residual-in_err-add_area.result c.from_residual-in_err-add_area.ensures.1 in
    rw (p.1, p.2) (cause_at c.args.text.now c.args.areas.now c.loop-area.area-index _ c.loop-area.plan _ c.loop-area-test.true
    c.loop-area.invariant c.in_err-add_area.ensures)

pub loop-area-preserved : goal.loop-area-preserved
loop-area-preserved c =
    plan_at c.args.text.now c.args.areas.now c.loop-area.area-index _ c.loop-area.plan c.add_area.new.plan c.loop-area-test.true
    c.loop-area.invariant c.in_ok-add_area.ensures
