use Rattle.std.proofs.Common.{◌↔◌, IsTrue, sym, subst}
use Rattle.vg_check.specs.Hidden.{OnIsHidden}
use Rattle.vg_check.proofs.depth.is_hidden.Goals as goal

pub returns-in-Lv : goal.returns-in-Lv
returns-in-Lv c = subst (λ on. IsTrue c.lv_is_hidden.result ↔ OnIsHidden c.args.group.now on) (sym c.in-Lv.is) c.lv_is_hidden.ensures
