-- The segments of the volumes so far are whole.
use Rattle.std.proofs.Common.{List, ℕ, All, take}
use Rattle.meta_model.specs.declared.segment.Segment.{Segment}
use Rattle.meta_model.specs.declared.lv.Lv.{Lv}
use Rattle.volume_rules.specs.Rules.{IsWholeStriped}
use Rattle.vg_check.proofs.stripes.uneven_stripes.Given as goal

abbrev pub invariant-loop-number : goal.invariant-loop-number
invariant-loop-number l =
    All (λ (row : List ℕ × Lv). All (λ (segment : Segment). IsWholeStriped l.extent_size segment.count segment.kind) row.1.segments)
    (take l.number l.group.lvs)
