use Rattle.std.proofs.Common.{true, false, codes}
use Rattle.std.proofs.lemmas.Result.{err_from_is_err_and}
use Rattle.byte_streams.proofs.TextsWritten.{failed_before, written_both}
use Rattle.lvm_report.proofs.answers.write_answered.Goals as goal

pub returns-in_err-write_bytes : goal.returns-in_err-write_bytes
returns-in_err-write_bytes g c =
    let p = err_from_is_err_and c.from_residual-in_err-write_bytes.result c.from_residual-in_err-write_bytes.ensures.1 in
    rw p.1 (failed_before _ _ _ _ _ (codes "\n") (failed_before _ _ _ _ _ _
    (written_both _ _ _ _ _ _ _ (codes ": ") false c.in_ok-write_number.ensures c.in_err-write_bytes.ensures)))

pub returns-in_err-write : goal.returns-in_err-write
returns-in_err-write g c =
    let p = err_from_is_err_and c.from_residual-in_err-write.result c.from_residual-in_err-write.ensures.1 in
    rw p.1 (failed_before _ _ _ _ _ (codes "\n")
    (written_both _ _ _ _ _ _ _ _ false (written_both _ _ _ _ _ _ _ (codes ": ") true c.in_ok-write_number.ensures
    c.in_ok-write_bytes.ensures) c.in_err-write.ensures))

pub returns : goal.returns
returns g c =
    written_both _ _ _ _ _ _ _ (codes "\n") _
    (written_both _ _ _ _ _ _ _ _ true (written_both _ _ _ _ _ _ _ (codes ": ") true c.in_ok-write_number.ensures
    c.in_ok-write_bytes.ensures) c.in_ok-write.ensures)
    c.write_bytes-2.ensures
