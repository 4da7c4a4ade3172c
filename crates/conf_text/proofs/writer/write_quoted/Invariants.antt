use Rattle.std.proofs.Common.{◌∷◌, take}
use Rattle.conf_text.specs.Grammar.{escaped}
use Rattle.conf_text.proofs.writer.write_quoted.Given as goal

abbrev pub invariant-loop-byte : goal.invariant-loop-byte
invariant-loop-byte g l = g.S.TextSink.Adds l.fn.sink (34 ∷ escaped (take l.byte-index l.text)) l.sink
