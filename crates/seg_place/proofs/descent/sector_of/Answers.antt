use Rattle.std.proofs.Common.{arith}
use Rattle.seg_place.proofs.Volumes.{pv_fits}
use Rattle.seg_place.proofs.descent.sector_of.Goals as goal

pub overflow_add-result : goal.overflow_add-result
overflow_add-result c =
    omega (
      arith,
      c.requires.small,
      pv_fits c.args.group.now c.args.pv (c.get.result.0.now, c.get.result.1.now) c.requires.accepted
          c.get.ensures,
    )
