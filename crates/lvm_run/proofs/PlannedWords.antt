-- The line of a command that words ask for can be planned.
use Rattle.std.proofs.Common.{◌≡◌, ◌∙◌, ℕ, List, Option, Some, None, IfSome, IsSomeAnd, is_some, true, true≢false, refl, ap, sym}
use Rattle.lvm_id.specs.LvmId.{IsId}
use Rattle.command_table.specs.Options.{Word}
use Rattle.lvm_script.specs.declared.line.Line.{Line}
use Rattle.lvm_script.specs.Lines.{line_of}
use Rattle.lvm_words.specs.declared.asked.Task.{Task}
use Rattle.lvm_words.specs.declared.asked.Task.TheVariants.{One, Session, Demo}
use Rattle.lvm_words.specs.declared.command_line.CommandLine.{CommandLine}
use Rattle.lvm_words.specs.CommandLines.{HasId, command_line_of, request_in, task_of}
use Rattle.lvm_run.specs.Runs.{CanPlan, CanPlanTask}
use Rattle.lvm_run.proofs.MeantWords.{IsMeant, planned}

-- an id that is there is one
some_id : (id : Option (List ℕ)) → is_some id ≡ true → IfSome id IsId → IsSomeAnd id IsId
some_id None some valid = absurd (true≢false (sym some))
some_id (Some id) some valid = valid

-- the line of a task, and else this one
abbrev line_or : Line → Task → Line
line_or line (One own) = own
line_or line _ = line

by_line : (line : Line) (ids : ℕ → List ℕ) → line ≡ line_of 1 line.command ids → IsMeant line.command → IfSome line.id IsId → CanPlan line
by_line line ids is meant valid = record {
  first = ap (λ (l : Line). l.number) is;
  planned = meant line.id
      (λ drawn. let there : is_some line.id ≡ true = ap (λ (l : Line). is_some l.id) is ∙ rw drawn refl in some_id line.id there valid);
}

-- the task that words ask for, where it has drawn its id
pub can_plan : (words : List Word) (line : CommandLine) (task : Task) (ids : ℕ → List ℕ) → command_line_of words ≡ Some line
    → line.request ≡ request_in task
    → task ≡ task_of (request_in task) ids → HasId task → CanPlanTask task
can_plan words line (One own) ids is asked drawn valid =
    by_line own ids (ap (line_or own) drawn) (planned words line own.command is asked) valid
can_plan words line (Session session) ids is asked drawn valid = tt
can_plan words line (Demo seed lines workers) ids is asked drawn valid = tt
