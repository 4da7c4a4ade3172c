use Rattle.extent_map.specs.Covered.{lvs_on}
use Rattle.extent_map.proofs.CoveredExtents.{test_covers}
use Rattle.extent_map.proofs.LegsOnVolume.{covered_where_used, each_has_leg, used_where_covered}
use Rattle.extent_map.proofs.used_extents.used.Goals as goal

pub volumes_have-requires : goal.volumes_have-requires
volumes_have-requires c = each_has_leg c.args.group.now c.requires.accepted

pub returns : goal.returns
returns c =
    let both = test_covers c.args.extent (lvs_on c.args.pv c.args.group.now.lvs) c.volumes_have.result c.volumes_have.ensures in (
      λ is. used_where_covered c.args.group.now c.args.pv c.args.extent (both.0 is),
      λ used. both.1 (covered_where_used c.args.group.now c.args.pv c.args.extent used),
    )
