use Rattle.std.proofs.Common.{◌≡◌, ◌+◌, ◌++◌, take, vec_len, vec_capacity}
use Rattle.dev_shelf.proofs.mem_shelf.submission.keep.Given as goal

abbrev pub invariant-loop-k : goal.invariant-loop-k
invariant-loop-k l = record {
  items : l.written.items ≡ l.fn.written.items ++ take l.k l.sectors;
  len : vec_len l.written ≡ vec_len l.fn.written + l.k;
  capacity : vec_capacity l.written ≡ vec_capacity l.fn.written;
}
