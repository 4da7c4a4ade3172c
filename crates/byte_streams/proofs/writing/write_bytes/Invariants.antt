-- So many of the bytes are written, without a fault.
use Rattle.std.proofs.Common.{◌≡◌, ◌≤◌, ◌-◌, length, take}
use Rattle.byte_streams.specs.Streams.{with_more}
use Rattle.byte_streams.proofs.writing.write_bytes.Given as goal

abbrev pub invariant-loop-done : goal.invariant-loop-done
invariant-loop-done g l = record {
  within : l.done ≤ length l.bytes;
  written : g.W.Sink.written l.out ≡ with_more (g.W.Sink.written l.initial.out) (take l.done l.bytes);
  unfaulted : g.W.Sink.fault_count l.out ≡ g.W.Sink.fault_count l.initial.out;
}

abbrev pub decreases-loop-done : goal.decreases-loop-done
decreases-loop-done g l = length l.bytes - l.done
