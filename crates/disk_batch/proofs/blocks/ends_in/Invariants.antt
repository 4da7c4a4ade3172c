use Rattle.std.proofs.Common.{◌≡◌, flat_map, map, take}
use Rattle.disk_batch.specs.Parts.{end_parts, part_put}
use Rattle.disk_batch.proofs.blocks.ends_in.Given as goal

abbrev pub invariant-loop-span : goal.invariant-loop-span
invariant-loop-span l = l.ends.items ≡ map (part_put l.text) (flat_map end_parts (take l.span-index l.parts))
