-- A row goes behind the others, or is refused.
use Rattle.std.proofs.Common.{sym, ◌∙◌}
use Rattle.std.proofs.lemmas.Result.{err_from_is_err_and}
use Rattle.meta_model.proofs.TableLemmas.{pushed}
use Rattle.meta_model.specs.Standing.{pv_of}
use Rattle.meta_read.proofs.NamedRows.{named_turn, named_turn_err}
use Rattle.meta_read.proofs.rows.read_pvs.Goals as goal

pub loop-name-preserved : goal.loop-name-preserved
loop-name-preserved c =
    named_turn pv_of (λ found. (found.0.now, found.1)) c.args.sections.now c.loop-name.name-index c.loop-name-item.result
    c.loop-name-item.result c.loop-name.table _ _ _ c.loop-name-test.true c.loop-name-item.is
    c.in_ok-name.ensures (pushed _ _ _ _ _ c.push.ensures (sym c.is_err.ensures.value ∙ c.if-is_err.false)) c.loop-name.invariant

pub returns-in_err-name : goal.returns-in_err-name
returns-in_err-name c =
    let given = err_from_is_err_and c.from_residual.result c.from_residual.ensures.1 in
    rw (given.1, given.2) (named_turn_err pv_of (λ found. (found.0.now, found.1)) c.args.sections.now c.loop-name.name-index
    c.loop-name-item.result c.loop-name-item.result c.loop-name.table c.in_err-name.field-0.0 _ c.loop-name-test.true
    c.loop-name-item.is
    c.in_err-name.ensures c.loop-name.invariant)
