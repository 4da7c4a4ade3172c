use Rattle.scan_rules.proofs.Silent.{silent_changes_nothing}
use Rattle.scan_rules.proofs.laws.silent_disks_change_nothing.Goals as goal

pub returns : goal.returns
returns c = λ disks disk none. silent_changes_nothing disks disk none
