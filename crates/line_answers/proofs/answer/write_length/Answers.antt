use Rattle.std.proofs.Common.{true, false, codes, decimal, ◌++◌}
use Rattle.std.proofs.lemmas.Result.{err_from_is_err_and}
use Rattle.byte_streams.proofs.TextsWritten.{failed_before, written_both}
use Rattle.line_answers.proofs.answer.write_length.Goals as goal

pub returns-in_err-write_all : goal.returns-in_err-write_all
returns-in_err-write_all g c =
    let p = err_from_is_err_and c.from_residual-in_err-write_all.result c.from_residual-in_err-write_all.ensures.1 in
    rw p.1 (failed_before _ _ _ _ (codes " " ++ c.args.name.now ++ codes "=") (decimal c.args.sectors)
    (failed_before _ _ _ _ (codes " " ++ c.args.name.now) (codes "=")
    (written_both _ _ _ _ _ _ (codes " ") c.args.name.now false c.in_ok-write_bytes.ensures c.in_err-write_all.ensures)))

pub returns-in_err-write_bytes-2 : goal.returns-in_err-write_bytes-2
returns-in_err-write_bytes-2 g c =
    let p = err_from_is_err_and c.from_residual-in_err-write_bytes-2.result c.from_residual-in_err-write_bytes-2.ensures.1 in
    rw p.1 (failed_before _ _ _ _ (codes " " ++ c.args.name.now ++ codes "=") (decimal c.args.sectors)
    (written_both _ _ _ _ _ _ (codes " " ++ c.args.name.now) (codes "=") false
    (written_both _ _ _ _ _ _ (codes " ") c.args.name.now true c.in_ok-write_bytes.ensures c.in_ok-write_all.ensures)
    c.in_err-write_bytes-2.ensures))

pub returns : goal.returns
returns g c =
    written_both _ _ _ _ _ _ (codes " " ++ c.args.name.now ++ codes "=") (decimal c.args.sectors) _
    (written_both _ _ _ _ _ _ (codes " " ++ c.args.name.now) (codes "=") true
    (written_both _ _ _ _ _ _ (codes " ") c.args.name.now true c.in_ok-write_bytes.ensures c.in_ok-write_all.ensures)
    c.in_ok-write_bytes-2.ensures) c.write_number.ensures
