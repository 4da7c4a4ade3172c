use Rattle.std.proofs.Common.{codes}
use Rattle.byte_streams.proofs.TextsWritten.{written_both}
use Rattle.lvm_report.proofs.answers.write_unbegun.Goals as goal

pub returns : goal.returns
returns g c = written_both _ _ _ _ _ _ _ (codes ": not begun\n") _ c.in_ok-write_number.ensures c.write_bytes.ensures
