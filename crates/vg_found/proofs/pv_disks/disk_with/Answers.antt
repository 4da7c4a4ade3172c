-- The first disk with the id, or their number.
use Rattle.std.proofs.Common.{ap, length, ◌∙◌}
use Rattle.std.specs.Prelude.{unwrap_or}
use Rattle.std.specs.FinMap as map
use Rattle.vg_found.proofs.HeaderNumbers.{number_found}
use Rattle.vg_found.proofs.pv_disks.disk_with.Goals as goal

pub returns : goal.returns
returns c =
    let count = length c.args.disks.now in
    let id = c.args.id.now in
    c.unwrap_or.ensures ∙ ap (λ o. unwrap_or o count) (c.get.ensures ∙ ap (λ m. map.get m id) c.requires.by_id)
    ∙ number_found c.args.disks.now id
