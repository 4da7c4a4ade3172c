-- So many of the volumes are written, without a fault.
use Rattle.std.proofs.Common.{true, take, ◌++◌}
use Rattle.std.specs.Prelude.{codes, decimal, flat_map}
use Rattle.byte_streams.specs.Streams.{WritesText}
use Rattle.line_answers.proofs.answer.write_lengths.Given as goal

abbrev pub invariant-loop-name : goal.invariant-loop-name
invariant-loop-name g l = WritesText (g.W.Sink.written l.fn.out) (g.W.Sink.fault_count l.fn.out)
    (codes "list" ++ flat_map (λ pair. codes " " ++ pair.0 ++ codes "=" ++ decimal pair.1) (take l.name-index l.lengths)) true
    (g.W.Sink.written l.out) (g.W.Sink.fault_count l.out)
