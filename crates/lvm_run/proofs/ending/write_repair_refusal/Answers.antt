use Rattle.std.proofs.Common.{true, false, codes, []}
use Rattle.std.proofs.lemmas.Result.{err_from_is_err_and}
use Rattle.sector_base.specs.Shown.{shown_text}
use Rattle.byte_streams.proofs.TextsWritten.{failed_before, written_both}
use Rattle.lvm_run.specs.Endings.{repair_values}
use Rattle.lvm_run.proofs.ending.write_repair_refusal.Goals as goal

pub returns-in_err-write_bytes : goal.returns-in_err-write_bytes
returns-in_err-write_bytes g c =
    let p = err_from_is_err_and c.from_residual.result c.from_residual.ensures.1 in
    rw p.1 (failed_before _ _ _ _ _ (codes "\n")
    (failed_before _ _ _ _ (codes "repair refused") (shown_text ([], repair_values c.args.names.now c.args.pv c.args.need c.args.room))
    c.in_err-write_bytes.ensures))

pub returns-in_err-write_room : goal.returns-in_err-write_room
returns-in_err-write_room g c =
    let p = err_from_is_err_and c.from_residual-in_err-write_room.result c.from_residual-in_err-write_room.ensures.1 in
    rw p.1 (failed_before _ _ _ _ _ (codes "\n")
    (written_both _ _ _ _ _ _ (codes "repair refused") _ false c.in_ok-write_bytes.ensures c.in_err-write_room.ensures))

pub returns : goal.returns
returns g c =
    written_both _ _ _ _ _ _ _ (codes "\n") _
    (written_both _ _ _ _ _ _ (codes "repair refused") _ true c.in_ok-write_bytes.ensures c.in_ok-write_room.ensures)
    c.write_bytes-2.ensures
