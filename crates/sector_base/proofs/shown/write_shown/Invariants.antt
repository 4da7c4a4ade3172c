-- The kind and the values so far are written.
use Rattle.std.proofs.Common.{map, take}
use Rattle.std.specs.Fmt.{HasWritten, IsPlainFormatter}
use Rattle.sector_base.specs.Shown.{shown_text, value_of}
use Rattle.sector_base.proofs.shown.write_shown.Given as goal

abbrev pub invariant-loop-value : goal.invariant-loop-value
invariant-loop-value g l =
    IsPlainFormatter l.fn.f → HasWritten g.W.Write.write_str_gives l.fn.f (shown_text (l.kind, map value_of (take l.value-index l.values)))
    l.f
