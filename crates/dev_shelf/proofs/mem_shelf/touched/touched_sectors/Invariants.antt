-- What the steps so far write is marked.
use Rattle.std.proofs.Common.{◌≡◌, ◌<◌, ℕ, [], false, length, slice_index_or, take, vec_len}
use Rattle.dev_shelf.specs.DiskRow.{steps_onto}
use Rattle.dev_shelf.specs.RowValues.{is_touched}
use Rattle.dev_shelf.proofs.mem_shelf.touched.touched_sectors.Given as goal

abbrev pub invariant-loop-i : goal.invariant-loop-i
invariant-loop-i l = record {
  len : vec_len l.marks ≡ length (slice_index_or l.row.opened.items l.disk []);
  each : (s : ℕ) → s < vec_len l.marks → slice_index_or l.marks.items s false
      ≡ is_touched (steps_onto l.row.written.items [] (take l.i l.row.steps.items)) l.disk s;
}
