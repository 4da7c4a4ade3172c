-- The lines of so many are written, without a fault.
use Rattle.std.proofs.Common.{true, take}
use Rattle.std.specs.Prelude.{flat_map}
use Rattle.byte_streams.specs.Streams.{WritesText}
use Rattle.lvm_report.specs.AnswerLines.{answer_line}
use Rattle.lvm_report.proofs.answers.write_answers.Given as goal

abbrev pub invariant-loop-number : goal.invariant-loop-number
invariant-loop-number g l = WritesText (g.W.Sink.written l.fn.out) (g.W.Sink.fault_count l.fn.out)
    (flat_map (answer_line l.names) (take l.number-index l.answers.items)) true (g.W.Sink.written l.out) (g.W.Sink.fault_count l.out)
