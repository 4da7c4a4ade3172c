-- One line more of a script.
use Rattle.std.proofs.Common.{◌≡◌, ◌∙◌, ◌≤◌, ◌+◌, ℕ, List, [], ◌∷◌, ◌++◌, Some, None, Ok, Err, refl, ap, sym, arith}
use Rattle.std.proofs.lemmas.List.{append_assoc, append-nil}
use Rattle.command_table.specs.declared.command.Command.{Command}
use Rattle.command_table.specs.Commands.{sectors_of}
use Rattle.lvm_script.specs.declared.script_refusal.LineRefusal.{LineRefusal}
use Rattle.lvm_script.specs.declared.script_refusal.LineRefusal.TheVariants.{NoMemory, Refused}
use Rattle.lvm_script.specs.Script.{Commands, IsRefusal, IsScriptRefusal, behind_all, commands_from, commands_in, commands_with, in_line}
use Rattle.lvm_script.specs.Script.{limited, line_meant, lines_in}

-- these commands stand before the rest of a script, in so many lines
pub record ReadSoFar (text rest : List ℕ) (number sectors : ℕ) (commands : List (ℕ × Command)) : Type 0 where
  pub lines : number ≤ 65536
  pub most : sectors ≤ 524288
  pub all : commands_in text ≡ behind_all commands (commands_from (lines_in rest) (number + 1) sectors)

behind_none : (all : Commands) → behind_all [] all ≡ all
behind_none (Ok commands) = refl
behind_none (Err refusal) = refl

behind_both : (first : List (ℕ × Command)) (next : ℕ × Command) (all : Commands)
    → behind_all first (behind_all (next ∷ []) all) ≡ behind_all (first ++ next ∷ []) all
behind_both first next (Ok commands) = ap Ok (sym (append_assoc first (next ∷ []) commands))
behind_both first next (Err refusal) = refl

pub at_start : (text : List ℕ) → ReadSoFar text text 0 0 []
at_start text = record { lines = omega arith; most = omega arith; all = sym (behind_none (commands_in text)) }

-- the lines from a line on
next_line : (rest line after : List ℕ) (number sectors : ℕ) → lines_in rest ≡ line ∷ lines_in after
    → commands_from (lines_in rest) number sectors
    ≡ commands_with number sectors (limited sectors (line_meant number line)) (commands_from (lines_in after) (number + 1))
unfolding commands_from
next_line rest line after number sectors lines = ap (λ ls. commands_from ls number sectors) lines

-- a line that asks for nothing
pub passed : {text rest line : List ℕ} (after : List ℕ) {number sectors : ℕ} {commands : List (ℕ × Command)}
    → ReadSoFar text rest number sectors commands
    → lines_in rest ≡ line ∷ lines_in after → number + 1 ≤ 65536 → limited sectors (line_meant (number + 1) line) ≡ None
    → ReadSoFar text after (number + 1) sectors commands
passed {text} {rest} {line} after {number} {sectors} {commands} so_far lines most meant = record {
  lines = most;
  most = so_far.most;
  all =
      so_far.all ∙ ap (behind_all commands) (next_line rest line after (number + 1) sectors lines
      ∙ ap (λ m. commands_with (number + 1) sectors m (commands_from (lines_in after) (number + 1 + 1))) meant);
}

-- a line with a command
pub taken : {text rest line : List ℕ} (after : List ℕ) {number sectors : ℕ} {commands : List (ℕ × Command)} {command : Command}
    → ReadSoFar text rest number sectors commands
    → lines_in rest ≡ line ∷ lines_in after → number + 1 ≤ 65536 → limited sectors (line_meant (number + 1) line) ≡ Some (Ok command)
    → sectors + sectors_of command ≤ 524288
    → ReadSoFar text after (number + 1) (sectors + sectors_of command) (commands ++ (number + 1, command) ∷ [])
taken {text} {rest} {line} after {number} {sectors} {commands} {command} so_far lines most meant within = record {
  lines = most;
  most = within;
  all =
      so_far.all ∙ ap (behind_all commands) (next_line rest line after (number + 1) sectors lines
      ∙ ap (λ m. commands_with (number + 1) sectors m (commands_from (lines_in after) (number + 1 + 1))) meant)
      ∙ behind_both commands (number + 1, command) (commands_from (lines_in after) (number + 1 + 1) (sectors + sectors_of command));
}

-- a line that is refused
pub refused : {text rest line : List ℕ} (after : List ℕ) {number sectors : ℕ} {commands : List (ℕ × Command)}
    → ReadSoFar text rest number sectors commands
    → lines_in rest ≡ line ∷ lines_in after → (refusal : LineRefusal) → IsRefusal (limited sectors (line_meant (number + 1) line)) refusal
    → IsScriptRefusal (commands_in text) (in_line (number + 1) refusal)
refused after so_far lines NoMemory is = tt
refused {text} {rest} {line} after {number} {sectors} {commands} so_far lines (Refused fault place) is =
    so_far.all ∙ ap (behind_all commands) (next_line rest line after (number + 1) sectors lines
    ∙ ap (λ m. commands_with (number + 1) sectors m (commands_from (lines_in after) (number + 1 + 1))) is)

-- no line more
pub at_end : {text : List ℕ} {number sectors : ℕ} {commands : List (ℕ × Command)} → ReadSoFar text [] number sectors commands
    → commands_in text ≡ Ok commands
unfolding commands_from
at_end {text} {number} {sectors} {commands} so_far = so_far.all ∙ ap Ok (append-nil commands)
