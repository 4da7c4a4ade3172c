use Rattle.std.proofs.Common.{◌≡◌, ◌≤◌, ◌++◌, drop, length}
use Rattle.world_acts.specs.Volumes.{visible_rows}
use Rattle.world_acts.proofs.volumes.visible_rows.Given as goal

abbrev pub invariant-loop-lv : goal.invariant-loop-lv
invariant-loop-lv l = record {
  made : l.rows.items ++ visible_rows (length l.rows.items) l.lv (drop l.lv l.group.lvs) ≡ visible_rows 0 0 l.group.lvs;
  few : length l.rows.items ≤ l.lv;
}
