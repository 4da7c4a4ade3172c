-- The rows so far.
use Rattle.std.proofs.Common.{◌≡◌, ℕ, List, map, take}
use Rattle.meta_model.specs.declared.lv.Lv.{Lv}
use Rattle.group_edits.specs.NextVersion.{changed_if}
use Rattle.group_edits.specs.ShortenedVolume.{shortened}
use Rattle.group_edits.proofs.shorten_volume.shortened_lvs.Given as goal

abbrev pub invariant-loop-number : goal.invariant-loop-number
invariant-loop-number l = l.all ≡ map (changed_if l.name (λ (row : List ℕ × Lv). (row.0, shortened l.left row.1))) (take l.number l.lvs)
