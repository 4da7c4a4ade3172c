use Rattle.std.proofs.Common.{decimal, sym}
use Rattle.byte_streams.proofs.TextsWritten.{written_both}
use Rattle.lvm_run.proofs.ending.write_fault.Goals as goal

pub returns : goal.returns
returns g c =
    rw (sym c.word.ensures, sym c.as_bytes.ensures.value)
    (written_both _ _ _ _ _ _ (decimal c.args.line) _ _ c.in_ok-write_number.ensures c.write_kind.ensures)
