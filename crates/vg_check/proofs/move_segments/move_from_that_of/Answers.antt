use Rattle.std.proofs.Common.{sym, subst, ◌∙◌}
use Rattle.std.proofs.lemmas.Bool.{false≢true}
use Rattle.std.proofs.lemmas.Option.{none-some, same_Some}
use Rattle.volume_rules.specs.Rules.{IsMoveFrom}
use Rattle.vg_check.proofs.move_segments.move_from_that_of.Goals as goal

pub returns-in-None : goal.returns-in-None
returns-in-None c = (λ is. absurd (false≢true is), λ from. absurd (none-some from.0 (sym c.in-None.is ∙ c.source_of.ensures from.0 from.1)))

pub returns-else-is_move_from : goal.returns-else-is_move_from
returns-else-is_move_from c = (
  λ is. absurd (false≢true (sym c.if-is_move_from.false ∙ is)),
  λ from. c.is_move_from.ensures.1 (subst (λ s. IsMoveFrom s c.args.first.now.kind)
      (same_Some from.0 c.in-Some.source (sym (c.source_of.ensures from.0 from.1) ∙ c.in-Some.is)) from.1),
)
