-- The lines of commands that run.
use Rattle.std.proofs.Common.{◌≡◌, ◌∙◌, ℕ, Bool, true, false, List, [], ◌∷◌, ◌++◌, All, None, Ok, ap, append_assoc, sym}
use Rattle.std.proofs.lemmas.Bool.{false≢true}
use Rattle.std.proofs.lemmas.List.Elements.{All-nil, All-cons}
use Rattle.command_table.specs.declared.command.Command.{Command}
use Rattle.command_table.specs.Commands.{draws}
use Rattle.data_lines.specs.DataLines.{runs_beside}
use Rattle.lvm_script.specs.declared.line.Line.{Line}
use Rattle.lvm_script.specs.Lines.{TakesId}
use Rattle.lvm_script.specs.Script.{AreLines, commands_from, lines_in}
use Rattle.world_history.specs.Told.{IsSessionLine}
use Rattle.session_run.specs.SessionScript.{first_unrun}
use Rattle.session_run.proofs.RunCommands.{AllRun, commands_run}
use Rattle.session_run.proofs.SomeSectors.{first_sector, has_sectors}

-- a command that draws no id leaves the source of numbers
undrawn : (drawn : Bool) (before after : ℕ → List ℕ) → drawn ≡ false → TakesId drawn before after → after ≡ before
undrawn true before after is takes = absurd (false≢true (sym is))
undrawn false before after is takes = takes

-- all the lines are a session's, and none draws an id
pub lines_run : (before : ℕ → List ℕ) (commands : List (ℕ × Command)) (lines : List Line) (after : ℕ → List ℕ)
    → AreLines before commands lines after → AllRun commands
    → All IsSessionLine lines × (after ≡ before)
lines_run before [] [] after are run = (All-nil IsSessionLine, are)
lines_run before [] (line ∷ lines) after are run = elim are [ ]
lines_run before (command ∷ commands) [] after are run = elim are [ ]
lines_run before ((number, command) ∷ commands) (line ∷ lines) after are run =
    let rest = lines_run are.1.0 commands lines after are.1.2 run.1 in
    let here : IsSessionLine line = record {
      beside = ap (λ (l : Line). runs_beside l.command) are.0 ∙ run.0.beside;
      some = first_sector line.command (ap (λ (l : Line). has_sectors l.command) are.0 ∙ run.0.sectors);
    } in (
      All-cons IsSessionLine line lines here rest.0,
      rest.1 ∙ undrawn (draws command) before are.1.0 run.0.undrawn are.1.1,
    )

-- the same of the lines of a text of which none begins with a name that doesn't run
pub text_runs : (text : List ℕ) (before : ℕ → List ℕ) (commands : List (ℕ × Command)) (lines : List Line) (after : ℕ → List ℕ)
    → first_unrun 1 (lines_in text) ≡ None → commands_from (lines_in text) 1 0 ≡ Ok commands → AreLines before commands lines after
    → All IsSessionLine lines × (after ≡ before)
text_runs text before commands lines after none is are =
    lines_run before commands lines after are (commands_run (lines_in text) 1 1 0 commands none is)

-- one line more of a list, and one fewer of what is left
pub one_taken : (lines left all rest : List Line) (line own : Line) → lines ++ left ≡ all → left ≡ line ∷ rest → own ≡ line
    → (lines ++ own ∷ []) ++ rest ≡ all
one_taken lines left all rest line own so_far next same =
    append_assoc lines (own ∷ []) rest ∙ ap (λ (l : Line). lines ++ l ∷ rest) same
    ∙ ap (λ (ls : List Line). lines ++ ls) (sym next) ∙ so_far
