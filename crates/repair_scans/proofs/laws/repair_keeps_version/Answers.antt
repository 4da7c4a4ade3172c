use Rattle.repair_scans.proofs.SameVersion.{version_kept}
use Rattle.repair_scans.proofs.laws.repair_keeps_version.Goals as goal

pub returns : goal.returns
returns c = λ found. version_kept found
