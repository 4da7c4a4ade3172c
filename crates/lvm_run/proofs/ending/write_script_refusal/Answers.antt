use Rattle.std.proofs.Common.{◌++◌, true, false, codes, decimal}
use Rattle.std.proofs.lemmas.Result.{err_from_is_err_and}
use Rattle.sector_base.specs.Shown.{shown_text}
use Rattle.byte_streams.proofs.TextsWritten.{failed_before, written_both}
use Rattle.lvm_run.specs.Endings.{script_values}
use Rattle.lvm_run.proofs.ending.write_script_refusal.Goals as goal

pub returns-in_err-write_bytes : goal.returns-in_err-write_bytes
returns-in_err-write_bytes g c =
    let p = err_from_is_err_and c.from_residual.result c.from_residual.ensures.1 in
    rw p.1 (failed_before _ _ _ _ _ (codes "\n")
    (failed_before _ _ _ _ (codes "script line ") (decimal c.args.line ++ shown_text (codes ":", script_values c.args.fault c.args.place))
    c.in_err-write_bytes.ensures))

pub returns-in_err-write_fault : goal.returns-in_err-write_fault
returns-in_err-write_fault g c =
    let p = err_from_is_err_and c.from_residual-in_err-write_fault.result c.from_residual-in_err-write_fault.ensures.1 in
    rw p.1 (failed_before _ _ _ _ _ (codes "\n")
    (written_both _ _ _ _ _ _ (codes "script line ") _ false c.in_ok-write_bytes.ensures c.in_err-write_fault.ensures))

pub returns : goal.returns
returns g c =
    written_both _ _ _ _ _ _ _ (codes "\n") _
    (written_both _ _ _ _ _ _ (codes "script line ") _ true c.in_ok-write_bytes.ensures c.in_ok-write_fault.ensures)
    c.write_bytes-2.ensures
