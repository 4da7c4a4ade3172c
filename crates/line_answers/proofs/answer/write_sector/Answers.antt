use Rattle.std.proofs.Common.{codes}
use Rattle.byte_streams.proofs.TextsWritten.{written_both}
use Rattle.line_answers.proofs.answer.write_sector.Goals as goal

pub returns : goal.returns
returns g c = written_both _ _ _ _ _ _ (codes " ") _ _ c.in_ok-write_bytes.ensures c.write_token.ensures
