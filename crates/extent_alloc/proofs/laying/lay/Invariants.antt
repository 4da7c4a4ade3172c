use Rattle.std.proofs.Common.{◌≡◌, ◌++◌, All, drop}
use Rattle.extent_alloc.specs.Laying.{RunEnds, laid_on}
use Rattle.extent_alloc.proofs.laying.lay.Given as goal

abbrev pub invariant-loop-part : goal.invariant-loop-part
invariant-loop-part l =
    All RunEnds l.runs × (l.laid.items ++ laid_on (drop l.part-index l.parts) (drop l.at l.runs) ≡ laid_on l.parts l.fn.runs)
