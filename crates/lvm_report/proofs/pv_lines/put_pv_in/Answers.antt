-- The line of the first physical volume with the id.
use Rattle.std.proofs.Common.{◌≡◌, ◌<◌, ℕ, ◌++◌, Option, length, sym, ap, subst, ◌∙◌}
use Rattle.std.specs.Prelude.{IfOk, IfSome}
use Rattle.std.specs.FinMap as map
use Rattle.lvm_report.specs.Reports.{pv_line_in}
use Rattle.lvm_report.proofs.PvNumbers.{number_is, number_within}
use Rattle.lvm_report.proofs.pv_lines.put_pv_in.Goals as goal

pub put_listed-requires-clause-listed : goal.put_listed-requires-clause-listed
put_listed-requires-clause-listed c =
    subst (λ got. IfSome got (λ number. number < length c.args.group.now.pvs)) c.in-Some.is
    (number_within c.args.group.now c.args.id.now c.get.result (c.get.ensures ∙ ap (λ m. map.get m c.args.id.now) c.requires.numbers))

pub returns-in-Some : goal.returns-in-Some
returns-in-Some c =
    let is = c.get.ensures ∙ ap (λ m. map.get m c.args.id.now) c.requires.numbers ∙ number_is c.args.group.now c.args.id.now in
    subst (λ (number : Option ℕ). IfOk c.put_listed.result
    (λ x. c.put_listed.new.text.items ≡ c.args.text.now.items ++ pv_line_in c.args.group.now c.args.name.now number))
    (sym c.in-Some.is ∙ is) c.put_listed.ensures

pub returns-in-None : goal.returns-in-None
returns-in-None c =
    let is = c.get.ensures ∙ ap (λ m. map.get m c.args.id.now) c.requires.numbers ∙ number_is c.args.group.now c.args.id.now in
    subst (λ (number : Option ℕ). IfOk c.put_line.result
    (λ x. c.put_line.new.text.items ≡ c.args.text.now.items ++ pv_line_in c.args.group.now c.args.name.now number))
    (sym c.in-None.is ∙ is) c.put_line.ensures
