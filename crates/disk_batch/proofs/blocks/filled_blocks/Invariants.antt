use Rattle.std.proofs.Common.{◌≡◌, map, take}
use Rattle.disk_batch.specs.Parts.{part_put}
use Rattle.disk_batch.proofs.blocks.filled_blocks.Given as goal

abbrev pub invariant-loop-span : goal.invariant-loop-span
invariant-loop-span l = l.list.items ≡ map (part_put l.text) (take l.span-index l.blocks)
