use Rattle.scan_rules.proofs.Repairs.{missing_exact, stale_exact, strays_exact}
use Rattle.scan_rules.proofs.laws.scans_tell_what_to_repair.Goals as goal

pub returns-clause-stale : goal.returns-clause-stale
returns-clause-stale c = λ disks held stale strays missing is disk area. stale_exact disks held stale strays missing is disk area

pub returns-clause-strays : goal.returns-clause-strays
returns-clause-strays c = λ disks held stale strays missing is disk. strays_exact disks held stale strays missing is disk

pub returns-clause-missing : goal.returns-clause-missing
returns-clause-missing c = λ disks held stale strays missing is id. missing_exact disks held stale strays missing is id
