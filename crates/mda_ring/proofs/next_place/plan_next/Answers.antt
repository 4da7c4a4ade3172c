use Rattle.std.proofs.Common.{arith}
use Rattle.mda_ring.proofs.NextPlace.{apart, in_ring}
use Rattle.mda_ring.proofs.next_place.plan_next.Goals as goal

pub returns-clause-in_ring : goal.returns-clause-in_ring
returns-clause-in_ring c =
    in_ring _ _ c.args.len _ c.requires.area.size_is_whole c.requires.area.has_ring c.requires.committed c.requires.len
    (record { offset_is = c.offset_behind.ensures; sectors_is = c.sectors_for-need.ensures; has_room = omega arith })

pub returns-clause-apart : goal.returns-clause-apart
returns-clause-apart c =
    apart _ _ c.args.len _ c.requires.area.size_is_whole c.requires.area.has_ring c.requires.committed c.requires.len
    (record { offset_is = c.offset_behind.ensures; sectors_is = c.sectors_for-need.ensures; has_room = omega arith })
