-- lvs(8): the visible volumes of the group in force.
use Rattle.lvm_run.specs.declared.commands.scan_report.ScanReport.TheVariants.{Lvs}
use Rattle.lvm_run.specs.CommandSpec.{CommandSpec}
use Rattle.lvm_run.specs.ScanReport.{scan_report}

-- lists the visible volumes of what a scan finds
abbrev pub lvs : CommandSpec
lvs = scan_report Lvs
