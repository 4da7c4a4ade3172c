use Rattle.lvm_run.proofs.run.run_reading.Goals as goal

pub returns-in-Pvck : goal.returns-in-Pvck
returns-in-Pvck g c = rw c.in-Pvck.is (c.run_pvck.ensures c.args.line.id c.args.now)

pub returns-in-Vgcfgbackup : goal.returns-in-Vgcfgbackup
returns-in-Vgcfgbackup g c = rw c.in-Vgcfgbackup.is (c.run_vgcfgbackup.ensures c.args.line.id)

pub returns-in-Pvs : goal.returns-in-Pvs
returns-in-Pvs g c = rw c.in-Pvs.is (c.run_scan_report.ensures c.args.line.id c.args.now)

pub returns-in-Vgs : goal.returns-in-Vgs
returns-in-Vgs g c = rw c.in-Vgs.is (c.run_scan_report-in-Vgs.ensures c.args.line.id c.args.now)

pub returns-in-Lvs : goal.returns-in-Lvs
returns-in-Lvs g c = rw c.in-Lvs.is (c.run_scan_report-in-Lvs.ensures c.args.line.id c.args.now)

pub returns-in-Vgck : goal.returns-in-Vgck
returns-in-Vgck g c = rw c.in-Vgck.is (c.run_scan_report-in-Vgck.ensures c.args.line.id c.args.now)
