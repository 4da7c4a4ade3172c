use Rattle.std.proofs.Common.{arith}
use Rattle.io_core.proofs.beginning.open_line.Goals as goal

pub begin_on-place-requires : goal.begin_on-place-requires
begin_on-place-requires g c = record {
  line = c.requires.may.lines;
  entry = let some = c.requires.may.entry in omega (arith, some);
  moment = let last = c.requires.orderly.backed.moments in omega (arith, last, c.steps.ensures);
}
