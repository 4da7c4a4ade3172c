use Rattle.std.proofs.Common.{◌≡◌, drop}
use Rattle.std.specs.List.{list_any}
use Rattle.vg_plans.specs.Vgcfgrestore.{is_misshapen}
use Rattle.vg_plans.proofs.shape.judge_shape.Given as goal

abbrev pub invariant-loop-disk : goal.invariant-loop-disk
invariant-loop-disk l = list_any (is_misshapen l.members) (drop l.disk-index l.disks) ≡ list_any (is_misshapen l.members) l.disks
