use Rattle.std.proofs.Common.{ap, sym, ◌∙◌}
use Rattle.std.specs.Prelude.{slice_get}
use Rattle.meta_model.specs.declared.group.Group.{Group}
use Rattle.vg_check.proofs.open_group.OpenGroup.lv.Goals as goal

pub returns : goal.returns
returns c = (c.get.result.0.now, ap (λ (g : Group). slice_get g.lvs c.args.number) (sym c.self.view_is) ∙ c.get.ensures)
