use Rattle.std.proofs.lemmas.Grind.{flat_map-append}
use Rattle.std.proofs.lemmas.Result.{err_from_is_err_and}
use Rattle.byte_streams.proofs.TextsWritten.{failed_before, written_both}
use Rattle.lvm_report.specs.AnswerLines.{answer_line, answers_text}
use Rattle.session_run.proofs.printing.write_lines.Goals as goal

pub returns-in_err-write_part : goal.returns-in_err-write_part
returns-in_err-write_part g c =
    let names = c.args.names.now in
    let p = err_from_is_err_and c.from_residual.result c.from_residual.ensures.1 in
    rw (p.1, flat_map-append (answer_line names) c.args.answers.now.items c.args.unbegun.now.items)
    (failed_before _ _ _ _ (answers_text names c.args.answers.now.items) (answers_text names c.args.unbegun.now.items)
    c.in_err-write_part.ensures)

pub returns : goal.returns
returns g c =
    let names = c.args.names.now in
    rw (flat_map-append (answer_line names) c.args.answers.now.items c.args.unbegun.now.items)
    (written_both _ _ _ _ _ _ (answers_text names c.args.answers.now.items) (answers_text names c.args.unbegun.now.items) _
    c.in_ok-write_part.ensures c.write_part-2.ensures)
