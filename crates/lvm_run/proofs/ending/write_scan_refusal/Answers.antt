use Rattle.std.proofs.Common.{true, false, codes}
use Rattle.std.proofs.lemmas.Result.{err_from_is_err_and}
use Rattle.byte_streams.proofs.TextsWritten.{failed_before, written_both}
use Rattle.lvm_run.proofs.ending.write_scan_refusal.Goals as goal

pub returns-in_err-write_bytes : goal.returns-in_err-write_bytes
returns-in_err-write_bytes g c =
    let p = err_from_is_err_and c.from_residual.result c.from_residual.ensures.1 in
    rw p.1 (failed_before _ _ _ _ _ (codes "\n") (failed_before _ _ _ _ (codes "scan refused ") _ c.in_err-write_bytes.ensures))

pub returns-in_err-write : goal.returns-in_err-write
returns-in_err-write g c =
    let p = err_from_is_err_and c.from_residual-in_err-write.result c.from_residual-in_err-write.ensures.1 in
    rw p.1 (failed_before _ _ _ _ _ (codes "\n")
    (written_both _ _ _ _ _ _ (codes "scan refused ") _ false c.in_ok-write_bytes.ensures c.in_err-write.ensures))

pub returns : goal.returns
returns g c =
    written_both _ _ _ _ _ _ _ (codes "\n") _
    (written_both _ _ _ _ _ _ (codes "scan refused ") _ true c.in_ok-write_bytes.ensures c.in_ok-write.ensures) c.write_bytes-2.ensures
