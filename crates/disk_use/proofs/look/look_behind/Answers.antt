-- What the disk shows, by what stands there and its first signature.
use Rattle.disk_use.proofs.Showing.{shown_so}
use Rattle.disk_use.proofs.look.look_behind.Goals as goal

pub returns-clause-cause : goal.returns-clause-cause
returns-clause-cause g c =
    let s0 = g.S.Shelf.state c.args.shelf.now in (
      c.in_ok-kind.ensures.cause.0,
      shown_so c.args.new c.is_wanted.result s0.told s0.sizes c.args.disk c.args.contents.now c.in_ok-kind.kind c.shown_of.result
          c.is_wanted.ensures c.shown_of.ensures c.in_ok-kind.ensures.cause.1,
    )
