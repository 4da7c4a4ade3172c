use Rattle.std.proofs.Common.{◌≡◌, ℕ, List, drop}
use Rattle.std.specs.List.{list_any}
use Rattle.meta_model.specs.declared.lv.Lv.{Lv}
use Rattle.volume_rules.specs.Moving.{has_move}
use Rattle.seg_place.proofs.moving.has_move.Given as goal

abbrev pub invariant-loop-number : goal.invariant-loop-number
invariant-loop-number l = list_any (λ (row : List ℕ × Lv). row.1.status.pvmove) (drop l.number l.group.lvs) ≡ has_move l.group
