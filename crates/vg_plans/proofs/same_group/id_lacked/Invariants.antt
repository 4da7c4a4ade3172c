use Rattle.std.proofs.Common.{◌≡◌, drop}
use Rattle.vg_plans.specs.Vgcfgrestore.{id_lacked, ids_lacked, least_of}
use Rattle.vg_plans.proofs.same_group.id_lacked.Given as goal

abbrev pub invariant-loop-place : goal.invariant-loop-place
invariant-loop-place l = least_of l.least (ids_lacked l.other (drop l.place l.group.pvs)) ≡ id_lacked l.other l.group
