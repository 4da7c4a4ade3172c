-- The segments of the volumes so far follow each other.
use Rattle.std.proofs.Common.{List, ℕ, ◌*◌, ◌^◌, ◌<◌, All, take}
use Rattle.meta_model.specs.declared.lv.Lv.{Lv}
use Rattle.volume_rules.specs.Extents.{extents_of}
use Rattle.volume_rules.specs.Rules.{Follow}
use Rattle.vg_check.proofs.follows.first_with_gap.Given as goal

abbrev pub invariant-loop-number : goal.invariant-loop-number
invariant-loop-number l =
    All (λ (row : List ℕ × Lv). Follow 0 row.1.segments × (extents_of row.1 * l.extent_size < 2 ^ 48)) (take l.number l.lvs)
