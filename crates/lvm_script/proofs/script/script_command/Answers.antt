use Rattle.std.proofs.Common.{◌∙◌, sym}
use Rattle.command_table.specs.Words.{placed}
use Rattle.lvm_script.proofs.Refused.{refused_words}
use Rattle.lvm_script.proofs.script.script_command.Goals as goal

pub returns-in-Err : goal.returns-in-Err
returns-in-Err c =
    rw c.refusal_at.ensures
    (refused_words c.args.name c.args.place c.args.end (placed c.args.rest.now) c.in-Err.refusal
    (sym c.is_for_scripts.ensures ∙ c.if-not-is_for_scripts.false) c.in-Err.ensures.err)
