use Rattle.std.specs.Prelude.{flat_map, take}
use Rattle.conf_text.specs.Lists.{list_begun}
use Rattle.meta_print.specs.Layout.{pair_of}
use Rattle.meta_print.proofs.segments.write_legs.Given as goal

abbrev pub invariant-loop-at : goal.invariant-loop-at
invariant-loop-at g l = g.S.TextSink.Adds l.fn.sink (list_begun l.key (flat_map (pair_of l.group) (take l.at l.legs))) l.sink
