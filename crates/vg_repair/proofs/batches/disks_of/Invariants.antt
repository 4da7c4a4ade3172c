use Rattle.std.proofs.Common.{◌≡◌, drop}
use Rattle.vg_commit.specs.Preparing.{area_disks, with_disks}
use Rattle.vg_repair.proofs.batches.disks_of.Given as goal

abbrev pub invariant-loop-area : goal.invariant-loop-area
invariant-loop-area l = with_disks l.disks (drop l.area-index l.area-items) ≡ area_disks l.areas
