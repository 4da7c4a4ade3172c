use Rattle.std.specs.Prelude.{flat_map, take}
use Rattle.conf_text.specs.Sinks.{Prints}
use Rattle.meta_print.specs.Layout.{lv_entries}
use Rattle.meta_print.proofs.lvs.write_lv_rows.Given as goal

abbrev pub invariant-loop-number : goal.invariant-loop-number
invariant-loop-number g l = Prints g.S.TextSink.Adds l.fn.sink (flat_map (lv_entries l.group) (take l.number l.group.lvs)) l.sink
