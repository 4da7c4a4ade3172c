use Rattle.std.proofs.Common.{rules}
use Rattle.io_core.proofs.Seen.{rested, turned_well}
use Rattle.io_core.proofs.world.World.settle.Goals as goal

pub returns-in-Some-clause-made : goal.returns-in-Some-clause-made
returns-in-Some-clause-made g c =
    turned_well g.S.Shelf.state _ _ c.self.view_is (g.S.Shelf.state c.settle.new.self) _ c.in-Some.done c.self.invariant
    (c.take.ensures.follows (g.S.Shelf.state c.self.inside.shelf) c.self.invariant c.in-Some.ensures.cases) c.take.ensures.kept.rest

pub returns-in-None-clause-answered : goal.returns-in-None-clause-answered
returns-in-None-clause-answered g c =
    λ none. rested g.S.Shelf.state _ _ c.self.view_is c.self.invariant c.agree.ensures.claimed (c.in-None.ensures.none.0 (search rules))
