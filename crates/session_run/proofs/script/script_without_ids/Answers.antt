use Rattle.std.proofs.Common.{◌≡◌, ◌∙◌, ◌++◌, ℕ, List, MatchResult, Ok, ap, subst}
use Rattle.command_table.specs.declared.command.Command.{Command}
use Rattle.lvm_script.specs.Script.{IsScriptRefusal, commands_from, lines_in}
use Rattle.session_run.proofs.Refusing.{script_read}
use Rattle.session_run.proofs.script.script_without_ids.Goals as goal

pub returns : goal.returns
returns c =
    let text = c.args.text.now in
    let copied : c.from_vec.result ≡ text =
    c.from_vec.ensures ∙ c.in_ok-extend_from_slice.ensures.items ∙ ap (λ (bytes : List ℕ). bytes ++ text) c.in_ok-copy.ensures.items in
    subst (λ (bytes : List ℕ). MatchResult c.script_of-2.result
    (λ script. (commands : List (ℕ × Command)) × (commands_from (lines_in bytes) 1 0 ≡ Ok commands))
    (IsScriptRefusal (commands_from (lines_in bytes) 1 0)))
    copied (script_read c.from_vec.result _ _ c.script_of-2.result c.script_of-2.ensures.script)
