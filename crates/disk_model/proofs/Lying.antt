-- What lies in its disk.
use Rattle.std.proofs.Common.{ℕ, List}
use Rattle.disk_model.specs.declared.ops.Op.{Op}
use Rattle.disk_model.specs.declared.ops.Op.TheVariants.{Read, Write, Flush}
use Rattle.disk_model.specs.Operations.{Lies, LiesWithin, work_of}

-- the operation that is handed in lies in its disk, so what is in flight does
pub lies_within : (sizes : List ℕ) (op : Op) → Lies sizes op → LiesWithin sizes (work_of op)
lies_within sizes (Read span buffer) lies = record { disk = lies.disk; within = lies.within }
lies_within sizes (Write span sectors) lies = lies
lies_within sizes (Flush pv) lies = lies
