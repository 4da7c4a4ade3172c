use Rattle.std.proofs.lemmas.Bool.{false≢true}
use Rattle.std.proofs.Common.{List, ℕ, refl, arith}
use Rattle.meta_model.specs.declared.lv.Lv.{Lv}
use Rattle.volume_rules.specs.Rules.{LvIsSmall}
use Rattle.list_laws.proofs.ItemWalks.{all_more, all_seen, row_of_all}
use Rattle.vg_check.proofs.numbers.lvs_are_small.Goals as goal

abbrev IsSmallRow : List ℕ × Lv → Type 0
IsSmallRow row = LvIsSmall row.1

pub loop-number-preserved : goal.loop-number-preserved
loop-number-preserved c =
    all_more IsSmallRow c.args.lvs.now c.loop-number.number _ c.loop-number.invariant c.get.ensures (c.if-not-lv_is_small.ensures.0 refl)

pub returns-then-not-lv_is_small : goal.returns-then-not-lv_is_small
returns-then-not-lv_is_small c = (
  λ no. absurd (false≢true no),
  λ all. c.if-not-lv_is_small.ensures.1
      (row_of_all IsSmallRow c.args.lvs.now c.loop-number.number _ c.get.ensures all),
)

pub returns : goal.returns
returns c = (λ _. all_seen IsSmallRow c.args.lvs.now c.loop-number.number c.loop-number.invariant (omega arith), λ _. refl)
