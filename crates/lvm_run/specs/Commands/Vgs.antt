-- vgs(8): the group in force.
use Rattle.lvm_run.specs.declared.commands.scan_report.ScanReport.TheVariants.{Vgs}
use Rattle.lvm_run.specs.CommandSpec.{CommandSpec}
use Rattle.lvm_run.specs.ScanReport.{scan_report}

-- shows the group that a scan finds
abbrev pub vgs : CommandSpec
vgs = scan_report Vgs
