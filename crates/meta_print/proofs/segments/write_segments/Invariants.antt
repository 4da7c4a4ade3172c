use Rattle.std.specs.Prelude.{take}
use Rattle.conf_text.specs.Sinks.{Prints}
use Rattle.meta_print.specs.Layout.{segments_entries}
use Rattle.meta_print.proofs.segments.write_segments.Given as goal

abbrev pub invariant-loop-at : goal.invariant-loop-at
invariant-loop-at g l = Prints g.S.TextSink.Adds l.fn.sink (segments_entries l.group 1 (take l.at l.segments)) l.sink
