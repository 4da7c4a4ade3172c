-- The rows so far.
use Rattle.std.proofs.Common.{◌≡◌, ℕ, List, map, take}
use Rattle.meta_model.specs.declared.lv.Lv.{Lv}
use Rattle.group_edits.specs.NextVersion.{changed_if}
use Rattle.group_edits.proofs.rename_volume.renamed_lvs.Given as goal

abbrev pub invariant-loop-number : goal.invariant-loop-number
invariant-loop-number l = l.all ≡ map (changed_if l.old (λ (row : List ℕ × Lv). (l.new, row.1))) (take l.number l.lvs)
