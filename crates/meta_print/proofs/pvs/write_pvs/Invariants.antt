use Rattle.std.specs.Prelude.{flat_map, take}
use Rattle.conf_text.specs.Sinks.{Prints}
use Rattle.meta_print.specs.Layout.{pv_entries}
use Rattle.meta_print.proofs.pvs.write_pvs.Given as goal

abbrev pub invariant-loop-number : goal.invariant-loop-number
invariant-loop-number g l = Prints g.S.TextSink.Adds l.fn.sink (flat_map pv_entries (take l.number l.pvs)) l.sink
