-- What is in front, and the first of what is left.
use Rattle.std.proofs.Common.{◌≡◌, ◌++◌, drop}
use Rattle.group_edits.specs.ShortenedVolume.{front_of}
use Rattle.group_edits.proofs.shorten_volume.front_of.Given as goal

abbrev pub invariant-loop-segment : goal.invariant-loop-segment
invariant-loop-segment l = front_of l.segments l.count ≡ l.front.items ++ front_of (drop l.segment-index l.segments) l.left
