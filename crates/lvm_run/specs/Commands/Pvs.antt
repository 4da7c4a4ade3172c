-- pvs(8): the physical volumes, with how many of their extents are free.
use Rattle.lvm_run.specs.declared.commands.scan_report.ScanReport.TheVariants.{Pvs}
use Rattle.lvm_run.specs.CommandSpec.{CommandSpec}
use Rattle.lvm_run.specs.ScanReport.{scan_report}

-- lists the physical volumes of what a scan finds
abbrev pub pvs : CommandSpec
pvs = scan_report Pvs
