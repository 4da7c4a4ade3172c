use Rattle.std.proofs.Common.{rules, subst, arith}
use Rattle.std.proofs.lemmas.Bool.{false≢true}
use Rattle.vg_check.specs.Ids.{HasId}
use Rattle.vg_check.proofs.BlockOfIds.{none_more}
use Rattle.vg_check.proofs.ids.none_has.Goals as goal

pub returns-then-has_id : goal.returns-then-has_id
returns-then-has_id c = (
  λ is. absurd (false≢true is),
  λ none. absurd (none c.loop-number.number (omega arith) (omega arith)
      (subst (HasId c.args.group.now c.args.kind c.args.block.now) c.id_at.ensures (c.if-has_id.ensures.0 (search rules)))),
)

pub loop-number-preserved : goal.loop-number-preserved
loop-number-preserved c =
    none_more c.args.group.now c.args.kind c.args.block.now c.args.other c.args.from c.loop-number.number c.id_at.result c.id_at.ensures
    (λ has. false≢true (c.if-has_id.ensures.1 has)) c.loop-number.invariant

pub returns : goal.returns
returns c = (λ is number past lt. c.loop-number.invariant number past (omega arith), λ none. search rules)
