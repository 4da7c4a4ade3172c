-- A label, a header and what stands in an area are one, so what stands on a disk is.
use Rattle.disk_contents.proofs.OneFinding.{one_finding}
use Rattle.disk_contents.proofs.laws.one_finding.Goals as goal

pub returns : goal.returns
returns c = one_finding
