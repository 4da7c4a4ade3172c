use Rattle.std.proofs.Common.{sym, ◌∙◌}
use Rattle.std.proofs.lemmas.Bool.{false≢true}
use Rattle.vg_check.proofs.ids.sorted_block_differs.Goals as goal
use Rattle.vg_check.proofs.ids.sorted_block_differs.Goals.{then-neighbours_differ, else-neighbours_differ}

pub returns-then-none_has : goal.returns-then-none_has
returns-then-none_has c =
    elim c.if-neighbours_differ.branch [
      | then-neighbours_differ w ↦ (
        λ yes. (
          c.neighbours_differ.ensures.0 w.if-neighbours_differ.true,
          w.none_has.ensures.0 (sym w.value-is ∙ c.if-none_has.true),
          c.none_before_has.ensures.0 yes,
        ),
        λ all. c.none_before_has.ensures.1 all.2,
      )
      | else-neighbours_differ w ↦ absurd (false≢true (sym w.if-neighbours_differ.false ∙ (sym w.value-is ∙ c.if-none_has.true)))
    ]
