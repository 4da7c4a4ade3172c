-- Adjacent operations, which one call of the system carries out.
use Rattle.std.specs.Prelude.{◌≡◌, ◌≤◌, ◌<◌, ◌+◌, ◌^◌, ℕ, true, false, Option, Some, None}
use Rattle.disk_model.specs.declared.ops.Op.{Op}
use Rattle.disk_model.specs.declared.ops.Op.TheVariants.{Read, Write, Flush}
use Rattle.file_shelf.specs.declared.adjacent.Run.{Run}

-- a read or a write alone
abbrev pub run_of : Op → Option Run
run_of (Read span buffer) = Some (record { writes = false; pv = span.pv; first = span.first; sectors = span.count })
run_of (Write span sectors) = Some (record { writes = true; pv = span.pv; first = span.first; sectors = span.count })
run_of (Flush pv) = None

-- the next one is of the same kind and lies right behind on the same disk, and one call has room for both, which are this one
pub record AreOne (run next both : Run) : Type 0 where
  pub kind : next.writes ≡ run.writes
  pub disk : next.pv ≡ run.pv
  pub behind : next.first ≡ run.first + run.sectors
  pub as_one : both ≡ record { writes = run.writes; pv = run.pv; first = run.first; sectors = run.sectors + next.sectors }
  pub room : both.sectors ≤ 128

-- one of so many disks has the run, before the end of the largest file, and one call has room for it
pub record IsOneCall (disks : ℕ) (run : Run) : Type 0 where
  pub disk : run.pv < disks
  pub within : run.first + run.sectors ≤ 2 ^ 40
  pub room : run.sectors ≤ 128
