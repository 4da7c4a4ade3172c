use Rattle.std.proofs.Common.{◌≡◌, map, take}
use Rattle.group_edits.specs.Renumbered.{renumbered_segment}
use Rattle.group_edits.proofs.leg_numbers.renumbered_segments.Given as goal

abbrev pub invariant-loop-segment : goal.invariant-loop-segment
invariant-loop-segment g l = l.copies.items ≡ map (renumbered_segment (g.N.Numbering.new_of l.numbers)) (take l.segment-index l.segments)
