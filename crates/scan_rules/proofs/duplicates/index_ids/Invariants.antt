use Rattle.std.proofs.Common.{◌≡◌, drop}
use Rattle.scan_rules.specs.Decision.{first_duplicate}
use Rattle.scan_rules.specs.Found.{disks_by_id}
use Rattle.scan_rules.proofs.duplicates.index_ids.Given as goal

abbrev pub invariant-loop-i : goal.invariant-loop-i
invariant-loop-i l = (l.by_id ≡ disks_by_id (drop l.i l.ids)) × (l.repeated ≡ first_duplicate (drop l.i l.ids))
