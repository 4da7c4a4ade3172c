use Rattle.std.proofs.Common.{◌≡◌, ◌≤◌, ◌+◌, drop, length}
use Rattle.group_edits.specs.JoinedGroup.{free_number, names_in, with_pvs}
use Rattle.group_edits.proofs.join_pvs.push_all.Given as goal

abbrev pub invariant-loop-pv : goal.invariant-loop-pv
invariant-loop-pv l = record {
  count : length l.pvs ≡ length l.fn.pvs + l.pv-index;
  taken : l.from ≤ free_number (names_in l.pvs l.lvs);
  pushed : with_pvs l.lvs l.pvs (drop l.pv-index l.more) ≡ with_pvs l.lvs l.fn.pvs l.more;
}
