use Rattle.std.proofs.Common.{ap, ◌∙◌}
use Rattle.std.specs.FinMap as map
use Rattle.id_index.specs.Ids.{lists_id}
use Rattle.id_index.proofs.Found.{lists_pv}
use Rattle.id_index.proofs.members.Members.has.Goals as goal

pub returns : goal.returns
returns c =
    let id = c.args.id.now in
    let group = c.self.inside.group.now in
    c.contains.ensures
    ∙ ap (λ numbers. map.contains_key numbers id) c.self.invariant.1
    ∙ lists_pv id 0 group.pvs
    ∙ ap (λ g. lists_id g.pvs id) c.self.view_is
