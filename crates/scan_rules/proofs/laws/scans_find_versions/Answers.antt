use Rattle.scan_rules.proofs.Scanning.{scan_of_versions}
use Rattle.scan_rules.proofs.laws.scans_find_versions.Goals as goal

pub returns-clause-new : goal.returns-clause-new
returns-clause-new c =
    λ old old_text new new_text disks ids later differ all shape held.
    (scan_of_versions old old_text new new_text disks ids later differ all).0 shape held

pub returns-clause-old : goal.returns-clause-old
returns-clause-old c =
    λ old old_text new new_text disks ids later differ all shape none held.
    (scan_of_versions old old_text new new_text disks ids later differ all).1 shape none held
