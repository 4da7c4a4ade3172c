use Rattle.vg_check.specs.Covers.{CoversTo}
use Rattle.vg_check.proofs.covers.cover.Given as goal

abbrev pub invariant-loop-run : goal.invariant-loop-run
invariant-loop-run l = CoversTo l.runs l.on l.run-index l.end
