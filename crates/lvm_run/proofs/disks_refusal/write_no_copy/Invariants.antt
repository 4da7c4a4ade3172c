-- So many of them are written, without a fault.
use Rattle.std.proofs.Common.{true, take, codes}
use Rattle.std.specs.List.{flat_map}
use Rattle.sector_base.specs.Shown.{shown_text}
use Rattle.byte_streams.specs.Streams.{WritesText}
use Rattle.lvm_run.specs.Endings.{refused_values}
use Rattle.lvm_run.proofs.disks_refusal.write_no_copy.Given as goal

abbrev pub invariant-loop-area : goal.invariant-loop-area
invariant-loop-area g l = WritesText (g.W.Sink.written l.fn.out) (g.W.Sink.fault_count l.fn.out)
    (shown_text (codes "NoCopy", flat_map (refused_values l.fn.names) (take l.area-index l.refused))) true (g.W.Sink.written l.out)
    (g.W.Sink.fault_count l.out)
