use Rattle.std.proofs.Common.{◌∙◌, sym, subst}
use Rattle.std.specs.Str.Parse.{ParsesUnsigned}
use Rattle.command_table.proofs.Numbers.{parsed_number, is_text}
use Rattle.command_table.proofs.values.number_of.Goals as goal

pub returns-in-Ok : goal.returns-in-Ok
returns-in-Ok c =
    c.ok.ensures.value
    ∙ parsed_number c.args.word.now c.parse.result (sym c.is_numeral.ensures ∙ c.if-is_numeral.true)
    (subst (λ text. ParsesUnsigned 64 10 text c.parse.result) c.in-Ok.ensures.cases.0 c.parse.ensures.value.0)

pub returns-in-Err : goal.returns-in-Err
returns-in-Err c = absurd (c.in-Err.ensures.cases.0 (is_text c.args.word.now (sym c.is_numeral.ensures ∙ c.if-is_numeral.true)))
