use Rattle.std.proofs.Common.{◌≡◌, ◌+◌, ◌-◌, ◌*◌, ◌≤◌, ◌^◌, length}
use Rattle.pv_header.proofs.ReadLists.{BeginsList}
use Rattle.pv_header.proofs.list_read.read_list.Given as goal

abbrev pub invariant-loop-place : goal.invariant-loop-place
invariant-loop-place l = record {
  place : l.place ≡ l.at + 16 * length l.list.items;
  bound : l.place ≤ 2 ^ 16 + 16;
  begins : BeginsList l.sector l.at l.list.items;
}

abbrev pub decreases-loop-place : goal.decreases-loop-place
decreases-loop-place l = 512 - l.place
