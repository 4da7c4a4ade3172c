use Rattle.std.proofs.Common.{rules, arith}
use Rattle.vg_check.proofs.TheMove.{allowed_none, allowed_not, allowed_one, at_most_all}
use Rattle.vg_check.proofs.moves.move_is_allowed.Goals as goal

pub returns-then-number-lv_count-clause-allowed : goal.returns-then-number-lv_count-clause-allowed
returns-then-number-lv_count-clause-allowed c = (
  λ is. allowed_none c.args.group.now c.pvmove-number.result c.lv_count.result c.pvmove-number.ensures c.lv_count.ensures
      c.if-number-lv_count.true,
  λ allowed. search rules,
)

pub overflow_add-number : goal.overflow_add-number
overflow_add-number c = omega (arith, at_most_all c.args.group.now.lvs)

pub is_move-requires-clause-within : goal.is_move-requires-clause-within
is_move-requires-clause-within c = omega (arith, at_most_all c.args.group.now.lvs)

pub returns-then-none_moves-clause-allowed : goal.returns-then-none_moves-clause-allowed
returns-then-none_moves-clause-allowed c =
    allowed_one c.args.group.now c.pvmove-number.result c.is_move.result c.pvmove-number.ensures
    (omega (arith, at_most_all c.args.group.now.lvs)) (c.if-none_moves.ensures.0 (search rules)) c.is_move.ensures

pub returns-else-none_moves-clause-allowed : goal.returns-else-none_moves-clause-allowed
returns-else-none_moves-clause-allowed c =
    allowed_not c.args.group.now c.pvmove-number.result c.none_moves.result c.pvmove-number.ensures
    (omega (arith, at_most_all c.args.group.now.lvs)) c.if-none_moves.false c.none_moves.ensures
