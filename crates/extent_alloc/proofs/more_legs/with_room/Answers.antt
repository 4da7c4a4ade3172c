use Rattle.std.proofs.Common.{arith, ap, ◌∙◌}
use Rattle.extent_alloc.specs.Free.{total}
use Rattle.extent_alloc.proofs.more_legs.with_room.Goals as goal

pub room-requires : goal.room-requires
room-requires c =
    omega (arith, c.requires.few c.loop-pv.pv-index 0 c.loop-pv-test.true, ap total (c.deref.ensures.value ∙ c.in_ok-runs.ensures))
