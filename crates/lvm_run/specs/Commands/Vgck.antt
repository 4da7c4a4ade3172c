-- vgck(8): what isn't in order.
use Rattle.lvm_run.specs.declared.commands.scan_report.ScanReport.TheVariants.{Vgck}
use Rattle.lvm_run.specs.CommandSpec.{CommandSpec}
use Rattle.lvm_run.specs.ScanReport.{scan_report}

-- names what isn't in order in what a scan finds
abbrev pub vgck : CommandSpec
vgck = scan_report Vgck
