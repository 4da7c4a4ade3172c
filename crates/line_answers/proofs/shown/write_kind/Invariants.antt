-- The kind and so many of the values are written, without a fault.
use Rattle.std.proofs.Common.{true, map, take}
use Rattle.sector_base.specs.Shown.{shown_text}
use Rattle.byte_streams.specs.Streams.{WritesText}
use Rattle.line_answers.specs.Answers.{value_of}
use Rattle.line_answers.proofs.shown.write_kind.Given as goal

abbrev pub invariant-loop-value : goal.invariant-loop-value
invariant-loop-value g l = WritesText (g.W.Sink.written l.fn.out) (g.W.Sink.fault_count l.fn.out)
    (shown_text (l.kind, map value_of (take l.value-index l.values))) true (g.W.Sink.written l.out) (g.W.Sink.fault_count l.out)
