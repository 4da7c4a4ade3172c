use Rattle.std.proofs.Common.{◌≡◌, flat_map, take}
use Rattle.disk_batch.specs.Parts.{block_parts}
use Rattle.disk_batch.proofs.blocks.blocks_in.Given as goal

abbrev pub invariant-loop-span : goal.invariant-loop-span
invariant-loop-span l = l.blocks.items ≡ flat_map block_parts (take l.span-index l.parts)
