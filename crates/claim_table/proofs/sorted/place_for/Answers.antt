use Rattle.std.proofs.Common.{arith}
use Rattle.claim_table.proofs.Ascending.{searchable, stands_at_equal, stands_between}
use Rattle.claim_table.proofs.sorted.place_for.Goals as goal

pub returns-in-Ok : goal.returns-in-Ok
returns-in-Ok g c =
    stands_at_equal g.met.T.Ord.total c.args.kept.now.items c.args.value.now c.in-Ok.at c.requires.ascending (omega (arith, c.requires.counted, c.in-Ok.ensures.bound)) c.in-Ok.ensures.ok

pub returns-in-Err : goal.returns-in-Err
returns-in-Err g c =
    stands_between g.met.T.Ord.total c.args.kept.now.items c.args.value.now c.in-Err.at (omega (arith, c.requires.counted, c.in-Err.ensures.bound))
    (c.in-Err.ensures.position (searchable g.met.T.Ord.total c.args.kept.now.items c.args.value.now c.requires.ascending))
