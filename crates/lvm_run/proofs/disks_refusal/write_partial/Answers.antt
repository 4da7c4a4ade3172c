use Rattle.std.proofs.Common.{codes}
use Rattle.std.proofs.lemmas.Result.{err_from_is_err_and}
use Rattle.byte_streams.proofs.TextsWritten.{failed_before}
use Rattle.lvm_run.specs.Endings.{id_values}
use Rattle.lvm_run.proofs.ValuesWritten.{stopped_at}
use Rattle.lvm_run.proofs.disks_refusal.write_partial.Goals as goal

pub returns-in_err-write_bytes : goal.returns-in_err-write_bytes
returns-in_err-write_bytes g c =
    let p = err_from_is_err_and c.from_residual.result c.from_residual.ensures.1 in
    rw p.1 (failed_before _ _ _ _ (codes "Partial") _ c.in_err-write_bytes.ensures)

pub returns-in_err-write_id : goal.returns-in_err-write_id
returns-in_err-write_id g c =
    let p = err_from_is_err_and c.from_residual-in_err-write_id.result c.from_residual-in_err-write_id.ensures.1 in
    rw p.1 (stopped_at (codes "Partial") id_values _ _ _ _ _ _ _ _ _ c.loop-id-test.true c.id-item.is c.loop-id.invariant
    c.in_err-write_id.ensures)
