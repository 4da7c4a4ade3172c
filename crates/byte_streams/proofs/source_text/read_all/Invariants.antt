use Rattle.std.proofs.Common.{◌≡◌, ◌-◌, length}
use Rattle.std.specs.Prelude.{vec_len}
use Rattle.byte_streams.proofs.SourceText.{Gathered}
use Rattle.byte_streams.proofs.source_text.read_all.Given as goal

abbrev pub invariant-loop-piece : goal.invariant-loop-piece
invariant-loop-piece g l =
    Gathered (g.R.Source.left l.initial.from) l.text.items (g.R.Source.left l.from) × (length l.piece ≡ 4096)
    × (g.R.Source.fault_count l.from ≡ g.R.Source.fault_count l.initial.from)

abbrev pub decreases-loop-piece : goal.decreases-loop-piece
decreases-loop-piece g l = 16777217 - vec_len l.text
