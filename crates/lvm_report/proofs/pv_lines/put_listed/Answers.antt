-- The free runs of the volume have its free extents.
use Rattle.std.proofs.Common.{◌≡◌, rules, ◌∙◌, arith}
use Rattle.extent_map.specs.FreeCount.{free_extents}
use Rattle.lvm_report.proofs.FreeSums.{free_there}
use Rattle.lvm_report.proofs.pv_lines.put_listed.Goals as goal

pub total-free-requires : goal.total-free-requires
total-free-requires c =
    omega (
      arith,
      (free_there c.args.group.now _ c.args.number c.as_slice.result.now _ c.requires.accepted c.requires.free
          (omega (arith, c.requires.listed, c.requires.free.count)) (c.as_slice.ensures ∙ c.get-2.ensures)).1,
    )

pub returns : goal.returns
returns c =
    let free : c.total-free.result ≡ free_extents c.args.group.now c.args.number =
    c.total-free.ensures ∙ (free_there c.args.group.now _ c.args.number c.as_slice.result.now _ c.requires.accepted c.requires.free
    (omega (arith, c.requires.listed, c.requires.free.count)) (c.as_slice.ensures ∙ c.get-2.ensures)).0
    in
    search (rules, free)
