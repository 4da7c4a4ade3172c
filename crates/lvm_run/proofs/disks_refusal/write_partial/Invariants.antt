-- So many of them are written, without a fault.
use Rattle.std.proofs.Common.{true, take, codes}
use Rattle.std.specs.List.{flat_map}
use Rattle.sector_base.specs.Shown.{shown_text}
use Rattle.byte_streams.specs.Streams.{WritesText}
use Rattle.lvm_run.specs.Endings.{id_values}
use Rattle.lvm_run.proofs.disks_refusal.write_partial.Given as goal

abbrev pub invariant-loop-id : goal.invariant-loop-id
invariant-loop-id g l = WritesText (g.W.Sink.written l.fn.out) (g.W.Sink.fault_count l.fn.out)
    (shown_text (codes "Partial", flat_map id_values (take l.id-index l.ids))) true (g.W.Sink.written l.out) (g.W.Sink.fault_count l.out)
