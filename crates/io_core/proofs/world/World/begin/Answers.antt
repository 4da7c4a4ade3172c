use Rattle.std.proofs.Common.{subst}
use Rattle.lvm_script.specs.declared.line.Line.{Line}
use Rattle.world_acts.specs.Acts.{world}
use Rattle.io_core.specs.Events.{BeginsIn}
use Rattle.io_core.proofs.MoreSpare.{kept_grown}
use Rattle.io_core.proofs.Seen.{seen_begun}
use Rattle.io_core.proofs.world.World.begin.Goals as goal

pub begin_prepared-requires-clause-kept : goal.begin_prepared-requires-clause-kept
begin_prepared-requires-clause-kept g c =
    kept_grown (world (g.S.Shelf.state c.self.inside.shelf) c.self.inside.core)
    (world (g.S.Shelf.state c.prepare.new.shelf) c.prepare.new.core) c.self.invariant c.prepare.ensures.grown

pub invariant_of-self-in-Err : goal.invariant_of-self-in-Err
invariant_of-self-in-Err g c =
    kept_grown (world (g.S.Shelf.state c.self.inside.shelf) c.self.inside.core)
    (world (g.S.Shelf.state c.prepare.new.shelf) c.prepare.new.core) c.self.invariant c.prepare.ensures.grown

pub returns-in-Ok-clause-begun : goal.returns-in-Ok-clause-begun
returns-in-Ok-clause-begun g c =
    let mid = world (g.S.Shelf.state c.prepare.new.shelf) c.prepare.new.core in
    let new = world (g.S.Shelf.state c.begin_prepared.new.shelf) c.begin_prepared.new.core in
    seen_begun g.S.Shelf.state _ _ c.self.view_is mid new c.args.line c.begin_prepared.result c.prepare.ensures.grown
    (subst (λ (l : Line). BeginsIn mid l c.begin_prepared.result new) c.into_line-line.ensures.line c.begin_prepared.ensures.begins)
    c.begin_prepared.ensures.kept.rest
