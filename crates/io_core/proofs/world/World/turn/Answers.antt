use Rattle.io_core.proofs.Landing.{completes_ready}
use Rattle.io_core.proofs.Seen.{turned_well}
use Rattle.io_core.proofs.world.World.turn.Goals as goal

pub take-requires : goal.take-requires
take-requires g c = (
  g.S.Shelf.state c.self.inside.shelf,
  c.self.invariant,
  completes_ready (g.S.Shelf.state c.self.inside.shelf) c.in-Some.ensures.looked (g.S.Shelf.state c.reap.new.self) c.in-Some.done
      c.in-Some.ensures.makes c.in-Some.ensures.cases,
)

pub returns-in-Some : goal.returns-in-Some
returns-in-Some g c =
    let old = g.S.Shelf.state c.self.inside.shelf in
    turned_well g.S.Shelf.state _ _ c.self.view_is (g.S.Shelf.state c.reap.new.self) _ c.in-Some.done c.self.invariant
    (c.take.ensures.follows old c.self.invariant
    (completes_ready old c.in-Some.ensures.looked (g.S.Shelf.state c.reap.new.self) c.in-Some.done c.in-Some.ensures.makes
    c.in-Some.ensures.cases)) c.take.ensures.kept.rest
