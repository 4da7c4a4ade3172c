-- The segments so far follow each other and have so many extents, and all follow each other where the rest does.
use Rattle.std.proofs.Common.{◌≡◌, ◌*◌, ◌^◌, ◌≤◌, ◌↔◌, sum_by, take, drop}
use Rattle.meta_model.specs.declared.segment.Segment.{Segment}
use Rattle.volume_rules.specs.Rules.{Follow}
use Rattle.vg_check.proofs.follows.end_of_segments.Given as goal

abbrev pub invariant-loop-number : goal.invariant-loop-number
invariant-loop-number l = record {
  follow : Follow 0 l.segments ↔ Follow l.end (drop l.number l.segments);
  counted : l.end ≡ sum_by (λ (segment : Segment). segment.count) (take l.number l.segments);
  bound : l.end ≤ l.number * 2 ^ 64;
}
