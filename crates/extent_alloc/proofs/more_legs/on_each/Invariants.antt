use Rattle.std.proofs.Common.{◌≡◌, All, List, take}
use Rattle.extent_alloc.specs.AllRuns.{AreTakenAt}
use Rattle.extent_alloc.specs.Laying.{PartEnds, whole_part}
use Rattle.extent_alloc.specs.Taking.{laid_all}
use Rattle.extent_alloc.specs.declared.part.PvRun.{PvRun}
use Rattle.extent_alloc.proofs.more_legs.on_each.Given as goal

abbrev pub invariant-loop-pv : goal.invariant-loop-pv
invariant-loop-pv l =
    All PartEnds l.parts.items × ((legs : List (List PvRun)) × AreTakenAt l.all (take l.pv-index l.pvs) legs
    × (l.parts.items ≡ laid_all (whole_part l.extents) legs))
