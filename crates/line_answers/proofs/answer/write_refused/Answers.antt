use Rattle.std.proofs.Common.{codes}
use Rattle.std.proofs.lemmas.Result.{err_from_is_err_and}
use Rattle.byte_streams.proofs.TextsWritten.{failed_before, written_both}
use Rattle.line_answers.proofs.answer.write_refused.Goals as goal

pub returns-in_err-write_bytes : goal.returns-in_err-write_bytes
returns-in_err-write_bytes g c =
    let p = err_from_is_err_and c.from_residual.result c.from_residual.ensures.1 in
    rw p.1 (failed_before _ _ _ _ (codes "refused ") _ c.in_err-write_bytes.ensures)

pub returns : goal.returns
returns g c = written_both _ _ _ _ _ _ (codes "refused ") _ _ c.in_ok-write_bytes.ensures c.write.ensures
