use Rattle.std.proofs.Common.{true, false, codes}
use Rattle.std.proofs.lemmas.Result.{err_from_is_err_and}
use Rattle.byte_streams.proofs.TextsWritten.{failed_before, written_both}
use Rattle.lvm_run.proofs.ending.write_line.Goals as goal

pub returns-in_err-write_bytes-2 : goal.returns-in_err-write_bytes-2
returns-in_err-write_bytes-2 g c =
    let p = err_from_is_err_and c.from_residual-in_err-write_bytes-2.result c.from_residual-in_err-write_bytes-2.ensures.1 in
    rw p.1 (failed_before _ _ _ _ _ (codes "\n")
    (written_both _ _ _ _ _ _ _ _ false c.in_ok-write_bytes.ensures c.in_err-write_bytes-2.ensures))

pub returns : goal.returns
returns g c =
    written_both _ _ _ _ _ _ _ (codes "\n") _ (written_both _ _ _ _ _ _ _ _ true c.in_ok-write_bytes.ensures c.in_ok-write_bytes-2.ensures)
    c.write_bytes-3.ensures
