use Rattle.std.proofs.Common.{◌∙◌, sym, subst}
use Rattle.std.proofs.lemmas.Bool.{false≢true}
use Rattle.vg_check.specs.Moves.{MovesFromOne}
use Rattle.vg_check.proofs.TheMove.{move_tells}
use Rattle.vg_check.proofs.moves.is_move.Goals as goal
use Rattle.vg_check.proofs.moves.is_move.Goals.{then-looks_like_move, else-looks_like_move}

pub returns-then-move_from_one : goal.returns-then-move_from_one
returns-then-move_from_one c =
    elim c.if-looks_like_move.branch [
      | then-looks_like_move w ↦
          move_tells c.args.group.now c.args.number c.lv_row.result.0.now c.lv_row.result.1.now c.is_used_whole.result c.lv_row.ensures
          (c.looks_like_move.ensures.0 w.if-looks_like_move.true)
          (subst MovesFromOne w.as_slice.ensures (w.move_from_one.ensures.0 (sym w.value-is ∙ c.if-move_from_one.true)))
          c.is_used_whole.ensures
      | else-looks_like_move w ↦ absurd (false≢true (sym w.if-looks_like_move.false ∙ (sym w.value-is ∙ c.if-move_from_one.true)))
    ]
