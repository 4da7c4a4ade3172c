use Rattle.std.proofs.Common.{codes}
use Rattle.std.proofs.lemmas.Result.{err_from_is_err_and}
use Rattle.byte_streams.proofs.TextsWritten.{failed_before}
use Rattle.lvm_run.specs.Endings.{refused_values}
use Rattle.lvm_run.proofs.ValuesWritten.{stopped_at}
use Rattle.lvm_run.proofs.disks_refusal.write_no_copy.Goals as goal

pub returns-in_err-write_bytes : goal.returns-in_err-write_bytes
returns-in_err-write_bytes g c =
    let p = err_from_is_err_and c.from_residual.result c.from_residual.ensures.1 in
    rw p.1 (failed_before _ _ _ _ (codes "NoCopy") _ c.in_err-write_bytes.ensures)

pub returns-in_err-write_refused : goal.returns-in_err-write_refused
returns-in_err-write_refused g c =
    let p = err_from_is_err_and c.from_residual-in_err-write_refused.result c.from_residual-in_err-write_refused.ensures.1 in
    rw p.1 (stopped_at (codes "NoCopy") (refused_values c.args.names.now) _ _ _ _ _ _ _ _ _ c.loop-area-test.true c.area-item.is
    c.loop-area.invariant c.in_err-write_refused.ensures)
