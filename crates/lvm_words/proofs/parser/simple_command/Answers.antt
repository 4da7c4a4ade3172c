use Rattle.std.proofs.Common.{◌∙◌, ap, ap₂}
use Rattle.clap.specs.Simple.{with_rule}
use Rattle.lvm_words.specs.Parser.{app_with}
use Rattle.lvm_words.proofs.Find.{named_alike, rules_more}
use Rattle.lvm_words.proofs.parser.simple_command.Goals as goal

pub loop-row-preserved : goal.loop-row-preserved
loop-row-preserved c =
    c.in_ok-command.ensures.shape c.option_arg.ensures.local
    ∙ ap₂ with_rule c.loop-row.invariant (c.option_arg.ensures.rule
    ∙ named_alike _ _ _ _ _ _ c.name_of.ensures c.letter.ensures c.value_count.ensures)
    ∙ ap app_with (rules_more c.args.rows.now c.loop-row.row-index _ c.loop-row-test.true)
