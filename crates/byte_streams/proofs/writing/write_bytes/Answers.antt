-- The piece that was written follows the front that was written before it.
use Rattle.std.proofs.Common.{ap, length, arith, length-drop, ◌∙◌}
use Rattle.std.proofs.lemmas.List.{take_rest}
use Rattle.byte_streams.proofs.Written.{next_front}
use Rattle.byte_streams.proofs.writing.write_bytes.Goals as goal

pub loop-done-preserved : goal.loop-done-preserved
loop-done-preserved g c =
    let wrote = c.in_ok-done.ensures.ok in
    let bytes = c.args.bytes.now in
    let done = c.loop-done.done in
    record {
      within = omega (arith, wrote.within, ap length (take_rest bytes done), length-drop done bytes, c.loop-done.invariant.within);
      written = next_front (g.W.Sink.written c.args.out.now) (g.W.Sink.written c.loop-done.out) (g.W.Sink.written c.write.new.self)
          bytes done c.in_ok-done.field-0 c.loop-done.invariant.written wrote;
      unfaulted = c.in_ok-done.ensures.unfaulted ∙ c.loop-done.invariant.unfaulted;
    }
