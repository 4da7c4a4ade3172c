use Rattle.std.proofs.Common.{◌≡◌, ◌<◌, ◌-◌, ◌^◌}
use Rattle.std.specs.Int.RustNames.{bit_xor}
use Rattle.sector_base.proofs.DivisionTable.{dividings, low_first}
use Rattle.sector_base.proofs.checksum.divide_eight.Given as goal

abbrev pub invariant-loop-at : goal.invariant-loop-at
invariant-loop-at l = record {
  left : bit_xor l.left (dividings (8 - l.at) l.rest) ≡ dividings 8 (bit_xor l.state (low_first l.bytes));
  behind : l.rest < 256 ^ (8 - l.at);
}
