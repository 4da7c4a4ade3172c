-- What was found lies on the disk.
use Rattle.std.proofs.Common.{ℕ, List, Some, sym, ap, subst, ◌∙◌}
use Rattle.meta_model.specs.declared.group.Group.{Group}
use Rattle.io_core.specs.Rest.{LiesOn}
use Rattle.world_rows.specs.OneDisk.{IsWithin}
use Rattle.world_rows.proofs.Lying.{lies_on_one}
use Rattle.world_rows.proofs.opening.lies_on.Goals as goal

pub returns-in-Some : goal.returns-in-Some
returns-in-Some g c = λ within.
    let sizes = (g.S.Shelf.state c.args.disk.now).sizes in
    let found = c.found.result.now in
    let group = c.group.result.now in
    subst (LiesOn sizes) c.found.ensures.found
    (lies_on_one sizes c.requires found group (c.in-Some.is ∙ ap (λ (it : Group). Some it) (sym c.group.ensures.group))
    c.group.ensures.accepted
    (subst (λ (n : ℕ). IsWithin group found.disk_of n) c.sectors.ensures
    (subst (λ (numbers : List ℕ). IsWithin group numbers c.sectors.result)
    (c.disk_of.ensures ∙ ap (λ found. found.disk_of) (sym c.found.ensures.found)) (c.is_within.ensures within))))
