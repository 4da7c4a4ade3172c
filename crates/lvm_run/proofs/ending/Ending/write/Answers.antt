use Rattle.lvm_run.proofs.ending.Ending.write.Goals as goal

pub returns-in-OpenFailed : goal.returns-in-OpenFailed
returns-in-OpenFailed g c = rw (c.in-OpenFailed.is, ← c.bytes_of.ensures) c.write_line.ensures

pub returns-in-DiskInUse : goal.returns-in-DiskInUse
returns-in-DiskInUse g c = rw (c.in-DiskInUse.is, ← c.bytes_of-in-DiskInUse.ensures) c.write_line-in-DiskInUse.ensures

pub returns-in-RepairFailed : goal.returns-in-RepairFailed
returns-in-RepairFailed g c = rw (c.in-RepairFailed.is, ← c.bytes_of-in-RepairFailed.ensures) c.write_line-in-RepairFailed.ensures
