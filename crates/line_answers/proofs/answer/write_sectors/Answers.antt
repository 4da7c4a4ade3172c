use Rattle.std.proofs.Common.{codes, ◌++◌}
use Rattle.std.proofs.lemmas.Result.{err_from_is_err_and}
use Rattle.byte_streams.proofs.ItemsWritten.{next_written, stopped_at}
use Rattle.byte_streams.proofs.TextsWritten.{failed_before}
use Rattle.line_answers.specs.Answers.{token}
use Rattle.line_answers.proofs.answer.write_sectors.Goals as goal

pub returns-in_err-write_bytes : goal.returns-in_err-write_bytes
returns-in_err-write_bytes g c =
    let p = err_from_is_err_and c.from_residual.result c.from_residual.ensures.1 in
    rw p.1 (failed_before _ _ _ _ (codes "data") _ c.in_err-write_bytes.ensures)

pub returns-in_err-write_sector : goal.returns-in_err-write_sector
returns-in_err-write_sector g c =
    let p = err_from_is_err_and c.from_residual-in_err-write_sector.result c.from_residual-in_err-write_sector.ensures.1 in
    rw p.1 (stopped_at (λ sector. codes " " ++ token sector) _ _ _ _ _ _ (codes "data") _ _ _ c.loop-sector-test.true c.sector-item.is
    c.loop-sector.invariant c.in_err-write_sector.ensures)

pub loop-sector-preserved : goal.loop-sector-preserved
loop-sector-preserved g c =
    next_written (λ sector. codes " " ++ token sector) _ _ _ _ _ _ (codes "data") _ _ _ c.loop-sector-test.true c.sector-item.is
    c.loop-sector.invariant c.in_ok-write_sector.ensures
