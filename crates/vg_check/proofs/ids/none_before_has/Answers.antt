use Rattle.std.proofs.Common.{rules}
use Rattle.std.proofs.lemmas.Bool.{false≢true}
use Rattle.vg_check.proofs.BlockOfIds.{own_found, pvs_tell, lvs_tell}
use Rattle.vg_check.proofs.ids.none_before_has.Goals as goal

pub returns-then-has_id : goal.returns-then-has_id
returns-then-has_id c = (
  λ is. absurd (false≢true is),
  λ none. absurd (own_found c.args.group.now c.args.kind c.args.block.now c.own_id.result.now c.own_id.ensures
      (c.if-has_id.ensures.0 (search rules)) none),
)

pub returns-in-Pv : goal.returns-in-Pv
returns-in-Pv c = (
  λ is. pvs_tell c.args.group.now c.args.kind c.args.block.now c.own_id.result.now c.in-Pv.is c.own_id.ensures
      (λ has. false≢true (c.if-has_id.ensures.1 has)),
  λ none. search rules,
)

pub returns-in-Lv : goal.returns-in-Lv
returns-in-Lv c =
    lvs_tell c.args.group.now c.args.kind c.args.block.now c.own_id.result.now c.none_has.result c.in-Lv.is c.own_id.ensures
    (λ has. false≢true (c.if-has_id.ensures.1 has)) c.none_has.ensures
