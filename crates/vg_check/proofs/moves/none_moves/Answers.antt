use Rattle.std.proofs.Common.{rules, sym, ◌∙◌, arith}
use Rattle.std.proofs.lemmas.Bool.{false≢true}
use Rattle.std.proofs.lemmas.Option.{slice_get_within}
use Rattle.vg_check.proofs.TheMove.{none_more}
use Rattle.vg_check.proofs.moves.none_moves.Goals as goal

pub returns-then-is_pvmove : goal.returns-then-is_pvmove
returns-then-is_pvmove c = (
  λ is. absurd (false≢true is),
  λ none. absurd
      (none c.loop-number.number (omega arith) (c.lv.result.now, c.lv.ensures, sym c.is_pvmove.ensures ∙ c.if-is_pvmove.true)),
)

pub loop-number-preserved : goal.loop-number-preserved
loop-number-preserved c =
    none_more c.args.group.now c.args.from c.loop-number.number c.lv.result.now c.lv.ensures
    (sym c.is_pvmove.ensures ∙ c.if-is_pvmove.false) c.loop-number.invariant

pub returns : goal.returns
returns c = (
  λ is k past there. c.loop-number.invariant k past (omega (arith, slice_get_within c.args.group.now.lvs k (there.1.0, there.0) there.1.1))
      there,
  λ none. search rules,
)
