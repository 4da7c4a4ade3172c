use Rattle.std.proofs.Common.{◌≡◌, drop}
use Rattle.std.specs.Prelude.{filter_map}
use Rattle.group_plan.specs.Judging.{set_of, with_all}
use Rattle.group_plan.specs.Members.{pv_named}
use Rattle.group_plan.proofs.members.pvs_named.Given as goal

abbrev pub invariant-loop-name : goal.invariant-loop-name
invariant-loop-name l =
    with_all l.all (filter_map (pv_named l.state) (drop l.name-index l.names)) ≡ set_of (filter_map (pv_named l.state) l.names)
