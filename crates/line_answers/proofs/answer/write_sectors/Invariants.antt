-- So many of the sectors are written, without a fault.
use Rattle.std.proofs.Common.{true, take, ◌++◌}
use Rattle.std.specs.Prelude.{codes, flat_map}
use Rattle.byte_streams.specs.Streams.{WritesText}
use Rattle.line_answers.specs.Answers.{token}
use Rattle.line_answers.proofs.answer.write_sectors.Given as goal

abbrev pub invariant-loop-sector : goal.invariant-loop-sector
invariant-loop-sector g l = WritesText (g.W.Sink.written l.fn.out) (g.W.Sink.fault_count l.fn.out)
    (codes "data" ++ flat_map (λ sector. codes " " ++ token sector) (take l.sector-index l.sectors)) true (g.W.Sink.written l.out)
    (g.W.Sink.fault_count l.out)
