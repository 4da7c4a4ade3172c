use Rattle.std.proofs.Common.{◌≡◌, ℕ, List, Ok}
use Rattle.command_table.specs.declared.command.Command.{Command}
use Rattle.lvm_script.specs.Script.{IsScriptRefusal, commands_from, lines_in}
use Rattle.session_run.proofs.Refusing.{refused_only}
use Rattle.session_run.proofs.script.refusal_of.Goals as goal

pub returns : goal.returns
returns c =
    let all = commands_from (lines_in c.args.text.now) 1 0 in
    refused_only ((commands : List (ℕ × Command)) × (all ≡ Ok commands)) (IsScriptRefusal all) _ _ c.err.ensures.value
    c.script_without_ids.ensures
