use Rattle.volume_history.proofs.OneVersion.{one_version}
use Rattle.volume_history.proofs.laws.scans_are_one.Goals as goal

pub returns : goal.returns
returns c =
    λ sizes image out version other. one_version c.one_reading.ensures.disks c.one_reading.ensures.readings sizes image out version other
