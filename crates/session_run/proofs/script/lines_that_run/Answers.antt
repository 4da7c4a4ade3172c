use Rattle.std.proofs.Common.{All, List, subst, sym}
use Rattle.std.proofs.lemmas.Result.{err_from_is_err_and}
use Rattle.lvm_script.specs.declared.line.Line.{Line}
use Rattle.world_history.specs.Told.{IsSessionLine}
use Rattle.session_run.proofs.RunLines.{text_runs}
use Rattle.session_run.proofs.script.lines_that_run.Goals as goal

pub data_lines-requires : goal.data_lines-requires
data_lines-requires g c =
    let e = c.in_ok-script.ensures.script in
    let all = (text_runs c.args.text.now _ e.0 c.in_ok-script.script _ c.requires e.1 e.2).0 in
    λ k line within. (all k line within).beside

pub returns-in_err-lines-clause-undrawn : goal.returns-in_err-lines-clause-undrawn
returns-in_err-lines-clause-undrawn g c =
    let e = c.in_ok-script.ensures.script in
    let p = err_from_is_err_and c.from_residual-in_err-lines.result c.from_residual-in_err-lines.ensures.1 in
    rw p.1 (text_runs c.args.text.now _ e.0 c.in_ok-script.script _ c.requires e.1 e.2).1

pub returns-clause-session : goal.returns-clause-session
returns-clause-session g c =
    let e = c.in_ok-script.ensures.script in
    subst (λ (l : List Line). All IsSessionLine l) (sym c.in_ok-lines.ensures)
    (text_runs c.args.text.now _ e.0 c.in_ok-script.script _ c.requires e.1 e.2).0
