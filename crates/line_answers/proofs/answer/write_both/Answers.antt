use Rattle.byte_streams.proofs.TextsWritten.{written_both}
use Rattle.line_answers.proofs.answer.write_both.Goals as goal

pub returns : goal.returns
returns g c = written_both _ _ _ _ _ _ _ _ _ c.in_ok-write_bytes.ensures c.write_bytes-2.ensures
