-- The places so far are marked.
use Rattle.std.proofs.Common.{◌≡◌, ◌<◌, ◌||◌, ℕ, false, slice_index_or, vec_len}
use Rattle.dev_shelf.specs.RowValues.{covers_place}
use Rattle.dev_shelf.proofs.mem_shelf.touched.mark_span.Given as goal

abbrev pub invariant-loop-k : goal.invariant-loop-k
invariant-loop-k l = record {
  len : vec_len l.marks ≡ vec_len l.fn.marks;
  each : (s : ℕ) → s < vec_len l.fn.marks → slice_index_or l.marks.items s false
      ≡ (covers_place l.span l.k s || slice_index_or l.fn.marks.items s false);
}
