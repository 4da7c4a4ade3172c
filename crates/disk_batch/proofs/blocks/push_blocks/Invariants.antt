use Rattle.std.proofs.Common.{◌≡◌, ◌*◌, ◌++◌, map}
use Rattle.std.specs.List.{range_with_len}
use Rattle.disk_batch.specs.Parts.{piece_part}
use Rattle.disk_batch.specs.Writes.{block_size}
use Rattle.disk_batch.proofs.blocks.push_blocks.Given as goal

abbrev pub invariant-loop-k : goal.invariant-loop-k
invariant-loop-k l =
    l.blocks.items
    ≡ l.fn.blocks.items ++ map (λ k. piece_part (l.fn.span, l.fn.from) (block_size * k) block_size) (range_with_len 0 l.k)
