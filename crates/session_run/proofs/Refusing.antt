-- The first refused line of a script.
use Rattle.std.proofs.Common.{◌≡◌, ◌∙◌, ◌-◌, ℕ, List, take, Option, Result, MatchOption, MatchResult, None, Some, Ok, Err, ap, sym, subst}
use Rattle.std.proofs.Common.{unwrap_or}
use Rattle.std.specs.Result.{result_err}
use Rattle.std.specs.Option.{option_map_or}
use Rattle.command_table.specs.declared.command.Command.{Command}
use Rattle.command_table.specs.declared.line_fault.LineFault.{LineFault}
use Rattle.lvm_script.specs.declared.line.Line.{Line}
use Rattle.lvm_script.specs.declared.script_refusal.ScriptRefusal.{ScriptRefusal}
use Rattle.lvm_script.specs.declared.script_refusal.ScriptRefusal.TheVariants.{LineRefused, NoMemory}
use Rattle.lvm_script.specs.Script.{AreLines, IsScriptRefusal, commands_from, lines_in}
use Rattle.session_run.specs.SessionScript.{first_unrun, refused_at, session_commands, unrun_fault}

-- the commands of a script, by its first line that begins with a name which doesn't run
commands_by : (text : List ℕ) (unrun : Option (ℕ × ℕ)) → first_unrun 1 (lines_in text) ≡ unrun
    → session_commands text
    ≡ option_map_or (λ (unrun : ℕ × ℕ). refused_at unrun (commands_from (take (unrun.0 - 1) (lines_in text)) 1 0)) unrun
    (commands_from (lines_in text) 1 0)
commands_by text unrun is =
    ap (λ (u : Option (ℕ × ℕ)).
    option_map_or (λ (unrun : ℕ × ℕ). refused_at unrun (commands_from (take (unrun.0 - 1) (lines_in text)) 1 0)) u
    (commands_from (lines_in text) 1 0))
    is

commands_before : (text front : List ℕ) (number place : ℕ) → first_unrun 1 (lines_in text) ≡ Some (number, place)
    → lines_in front ≡ take (number - 1) (lines_in text)
    → session_commands text ≡ refused_at (number, place) (commands_from (lines_in front) 1 0)
commands_before text front number place first before =
    commands_by text (Some (number, place)) first
    ∙ ap (λ (lines : List (List ℕ)). refused_at (number, place) (commands_from lines 1 0)) (sym before)

-- that of such a line, unless a line before it is refused
pub refused_first : (text front : List ℕ) (number place : ℕ) → first_unrun 1 (lines_in text) ≡ Some (number, place)
    → lines_in front ≡ take (number - 1) (lines_in text)
    → (wrong : Option ScriptRefusal)
    → MatchOption wrong ((commands : List (ℕ × Command)) × (commands_from (lines_in front) 1 0 ≡ Ok commands))
    (IsScriptRefusal (commands_from (lines_in front) 1 0))
    → (fault : LineFault × ℕ) → fault ≡ unrun_fault (number, place)
    → IsScriptRefusal (session_commands text) (unwrap_or wrong (LineRefused number fault.0 fault.1))
refused_first text front number place first before None (commands, is) fault of_it =
    commands_before text front number place first before ∙ ap (refused_at (number, place)) is
    ∙ ap (λ (f : LineFault × ℕ). Err (number, f.0, f.1)) (sym of_it)
refused_first text front number place first before (Some NoMemory) is fault of_it = tt
refused_first text front number place first before (Some (LineRefused line other at)) is fault of_it =
    commands_before text front number place first before ∙ ap (refused_at (number, place)) is

-- the refusal, if there is one
pub refused_only : {A : Type 0} (Fine : Type 0) (Is : ScriptRefusal → Type 0) (result : Result A ScriptRefusal)
    (refusal : Option ScriptRefusal) → refusal ≡ result_err result → MatchResult result (λ x. Fine) Is → MatchOption refusal Fine Is
refused_only Fine Is (Ok x) refusal is holds = subst (λ (r : Option ScriptRefusal). MatchOption r Fine Is) (sym is) holds
refused_only Fine Is (Err e) refusal is holds = subst (λ (r : Option ScriptRefusal). MatchOption r Fine Is) (sym is) holds

-- whether there is a refusal, without the lines
pub script_read : (text : List ℕ) (before after : ℕ → List ℕ) (result : Result (List Line) ScriptRefusal)
    → MatchResult result
    (λ script. (commands : List (ℕ × Command)) × (commands_from (lines_in text) 1 0 ≡ Ok commands)
    × AreLines before commands script after)
    (IsScriptRefusal (commands_from (lines_in text) 1 0))
    → MatchResult result (λ script. (commands : List (ℕ × Command)) × (commands_from (lines_in text) 1 0 ≡ Ok commands))
    (IsScriptRefusal (commands_from (lines_in text) 1 0))
script_read text before after (Ok script) (commands, is, are) = (commands, is)
script_read text before after (Err refusal) is = is
