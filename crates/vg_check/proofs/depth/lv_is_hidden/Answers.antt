use Rattle.std.proofs.Common.{Bool, not, sym, subst}
use Rattle.std.specs.Prelude.{◌↔◌, IsTrue}
use Rattle.meta_model.specs.declared.segment.On.TheVariants.{Lv}
use Rattle.vg_check.specs.Hidden.{OnIsHidden}
use Rattle.vg_check.proofs.HiddenVolumes.{lv_hidden}
use Rattle.vg_check.proofs.depth.lv_is_hidden.Goals as goal

pub returns-else-number-lv_count : goal.returns-else-number-lv_count
returns-else-number-lv_count c =
    subst (λ (b : Bool). IsTrue (not b) ↔ OnIsHidden c.args.group.now (Lv c.args.number)) (sym c.is_visible.ensures)
    (lv_hidden c.args.group.now c.args.number c.lv.result.now c.lv.ensures)
