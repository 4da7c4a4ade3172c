use Rattle.std.proofs.Common.{◌≡◌, drop}
use Rattle.vg_repair.specs.Stale.{too_large_among}
use Rattle.vg_repair.proofs.areas.have_room.Given as goal

abbrev pub invariant-loop-area : goal.invariant-loop-area
invariant-loop-area l = too_large_among l.text (drop l.area-index l.areas) ≡ too_large_among l.text l.areas
