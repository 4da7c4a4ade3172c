-- What the volumes so far say was moved is allowed.
use Rattle.std.proofs.Common.{List, ℕ, All, take}
use Rattle.meta_model.specs.declared.segment.Segment.{Segment}
use Rattle.meta_model.specs.declared.lv.Lv.{Lv}
use Rattle.volume_rules.specs.Rules.{MovedIsAllowed}
use Rattle.vg_check.proofs.moved.stray_moved.Given as goal

abbrev pub invariant-loop-number : goal.invariant-loop-number
invariant-loop-number l =
    All (λ (row : List ℕ × Lv). All (λ (segment : Segment). MovedIsAllowed row.1.status.pvmove segment.count segment.kind) row.1.segments)
    (take l.number l.group.lvs)
