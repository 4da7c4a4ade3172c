use Rattle.std.proofs.Common.{◌≡◌, drop}
use Rattle.world_acts.specs.Rooms.{more}
use Rattle.line_plans.specs.Plans.{pieces_room, plan_room}
use Rattle.line_plans.proofs.preparing.room_of.Given as goal

abbrev pub invariant-loop-new : goal.invariant-loop-new
invariant-loop-new l = more l.room (pieces_room (drop l.new-index l.plan.pieces.items)) ≡ plan_room l.plan
