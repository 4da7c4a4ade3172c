-- A mark below 64 is looked up, and no number from 64 on has one.
use Rattle.std.proofs.Common.{◌≡◌, ◌≤◌, length, sym, ap, ◌∙◌, arith, false, ltb}
use Rattle.std.proofs.lemmas.Bool.Decides.{nat_tests}
use Rattle.std.proofs.lemmas.List.{get_or_past}
use Rattle.std.specs.FinSet.{contains}
use Rattle.sector_base.proofs.PvSetLemmas.{contains-marks}
use Rattle.sector_base.proofs.pv_set.PvSet.contains.Goals as goal

pub returns-then-pv-lt64 : goal.returns-then-pv-lt64
returns-then-pv-lt64 c = sym (contains-marks c.self.inside.has c.args.pv) ∙ ap (λ s. contains s c.args.pv) c.self.view_is

pub returns-else-pv-lt64 : goal.returns-else-pv-lt64
returns-else-pv-lt64 c =
    let past : length c.self.inside.has ≤ c.args.pv = omega arith in
    let no : ltb c.args.pv 64 ≡ false = grind (arith, nat_tests) in
    no ∙ sym (get_or_past c.self.inside.has c.args.pv false past) ∙ sym (contains-marks c.self.inside.has c.args.pv)
    ∙ ap (λ s. contains s c.args.pv) c.self.view_is
