use Rattle.std.proofs.Common.{leb, IsTrue, ◌↔◌, sym, subst}
use Rattle.volume_rules.specs.Rules.{LiesWithin}
use Rattle.meta_model.specs.declared.segment.On.TheVariants as on
use Rattle.vg_check.proofs.Ends.{lvs_follow, lvs_small}
use Rattle.vg_check.proofs.Within.{lv_end, no_lv}
use Rattle.vg_check.proofs.legs.lies_within_lv.Goals as goal

pub extents-requires-clause-follow : goal.extents-requires-clause-follow
extents-requires-clause-follow c = lvs_follow c.args.group.now c.args.number _ c.requires c.lv.ensures.1

pub extents-requires-clause-small : goal.extents-requires-clause-small
extents-requires-clause-small c = lvs_small c.args.group.now c.args.number _ c.requires c.lv.ensures.1

pub returns-then-number-lv_count : goal.returns-then-number-lv_count
returns-then-number-lv_count c =
    subst (λ e. IsTrue (leb c.args.end e) ↔ LiesWithin c.args.group.now (on.Lv c.args.number) c.args.end) (sym c.extents.ensures)
    (lv_end c.args.group.now c.args.number c.args.end _ _ c.lv.ensures.1)

pub returns-else-number-lv_count : goal.returns-else-number-lv_count
returns-else-number-lv_count c =
    no_lv c.args.group.now c.args.number c.args.end c.lv_count.result c.lv_count.ensures c.if-number-lv_count.false
