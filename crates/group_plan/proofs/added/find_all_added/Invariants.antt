use Rattle.std.proofs.Common.{◌≡◌, ◌++◌, drop}
use Rattle.std.specs.Prelude.{filter_map, find}
use Rattle.group_plan.specs.Added.{added_named, added_of}
use Rattle.group_plan.specs.Judging.{is_unknown}
use Rattle.group_plan.proofs.added.find_all_added.Given as goal

abbrev pub invariant-loop-name : goal.invariant-loop-name
invariant-loop-name l = record {
  none : find (is_unknown l.state) (drop l.name-index l.names) ≡ find (is_unknown l.state) l.names;
  found : l.all.items ++ filter_map (added_named l.state) (drop l.name-index l.names) ≡ added_of l.state l.names;
}
