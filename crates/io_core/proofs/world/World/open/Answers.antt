use Rattle.std.proofs.Common.{IfSome, ap, length, subst, ◌∙◌}
use Rattle.flush_waits.specs.Waits.{new_waits}
use Rattle.vg_found.specs.declared.found.Found.{Found}
use Rattle.volume_rules.specs.Rules.{IsAccepted}
use Rattle.io_core.proofs.Opening.{opened_kept}
use Rattle.io_core.proofs.world.World.open.Goals as goal

pub invariant_of-result : goal.invariant_of-result
invariant_of-result g c =
    let parts = c.in-Ok.parts in
    let made = c.in-Ok.ensures in
    let tables = c.core_of-core.ensures.tables in
    let rest = c.core_of-core.ensures.rest in
    opened_kept (g.S.Shelf.state c.args.shelf) c.core_of-core.result
    (record { group = c.args.whole.group; disk_of = c.args.whole.disk_of; rows = parts.rows }) (g.met.S.Shelf.lawful c.args.shelf)
    c.requires.idle c.requires.few (subst (λ (f : Found). IfSome f.group IsAccepted) c.found.ensures.found c.see_accepted.ensures)
    c.requires.lies.disks c.requires.lies.places made.0 c.core_of-core.ensures.volumes (tables.0 ∙ made.1) tables.1 (tables.2 ∙ made.2)
    (tables.3 ∙ made.3 ∙ ap (λ n. new_waits n (length parts.rows.items)) c.count.ensures) rest.1 rest.2

pub returns-clause-kept : goal.returns-clause-kept
returns-clause-kept g c = invariant_of-result g c
