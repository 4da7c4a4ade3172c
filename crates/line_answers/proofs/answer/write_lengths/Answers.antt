use Rattle.std.proofs.Common.{codes, decimal, ◌++◌}
use Rattle.std.proofs.lemmas.Result.{err_from_is_err_and}
use Rattle.byte_streams.proofs.ItemsWritten.{stopped_at}
use Rattle.byte_streams.proofs.TextsWritten.{failed_before}
use Rattle.line_answers.proofs.answer.write_lengths.Goals as goal

pub returns-in_err-write_bytes : goal.returns-in_err-write_bytes
returns-in_err-write_bytes g c =
    let p = err_from_is_err_and c.from_residual.result c.from_residual.ensures.1 in
    rw p.1 (failed_before _ _ _ _ (codes "list") _ c.in_err-write_bytes.ensures)

pub returns-in_err-write_length : goal.returns-in_err-write_length
returns-in_err-write_length g c =
    let p = err_from_is_err_and c.from_residual-in_err-write_length.result c.from_residual-in_err-write_length.ensures.1 in
    rw p.1 (stopped_at (λ pair. codes " " ++ pair.0 ++ codes "=" ++ decimal pair.1) _ _ _ _ _ _ (codes "list") _ _ _ c.loop-name-test.true
    c.loop-name-item.is c.loop-name.invariant c.in_err-write_length.ensures)
