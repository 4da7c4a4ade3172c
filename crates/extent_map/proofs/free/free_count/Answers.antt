use Rattle.std.proofs.Common.{arith, refl}
use Rattle.extent_map.proofs.FreeExtents.{free_and_covered}
use Rattle.extent_map.proofs.LegsOnVolume.{each_has_leg, extents_are_few}
use Rattle.extent_map.proofs.free.free_count.Goals as goal

pub covered_there-requires-clause-legs : goal.covered_there-requires-clause-legs
covered_there-requires-clause-legs c = each_has_leg c.args.group.now c.requires.accepted

pub covered_there-requires-clause-fits : goal.covered_there-requires-clause-fits
covered_there-requires-clause-fits c =
    omega (
      arith,
      (free_and_covered c.args.group.now c.args.pv _ c.requires.accepted c.get.ensures).2,
      extents_are_few c.args.group.now c.args.pv _ c.requires.accepted c.get.ensures,
    )

pub overflow_sub-result : goal.overflow_sub-result
overflow_sub-result c =
    omega (arith, c.covered_there.ensures, (free_and_covered c.args.group.now c.args.pv _ c.requires.accepted c.get.ensures).2)

pub returns-clause-runs : goal.returns-clause-runs
returns-clause-runs c =
    let all = free_and_covered c.args.group.now c.args.pv (c.get.result.0.now, c.get.result.1.now) c.requires.accepted c.get.ensures in
    (all.0, all.1, omega (arith, c.covered_there.ensures, all.2))

pub returns-clause-count : goal.returns-clause-count
returns-clause-count c = rw (c.get.ensures, c.covered_there.ensures) refl
