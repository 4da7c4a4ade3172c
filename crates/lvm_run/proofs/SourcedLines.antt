-- A line with the text that the source gave.
use Rattle.std.proofs.Common.{◌≡◌, ℕ, true, false, List, refl, subst, inl, true≢false}
use Rattle.std.specs.Prelude.{Ok}
use Rattle.command_table.specs.Commands.{changes}
use Rattle.command_table.specs.Options.{Word}
use Rattle.command_table.specs.declared.command.Command.{Command}
use Rattle.command_table.specs.declared.command.Command.TheVariants.{Vgcfgrestore}
use Rattle.lvm_script.specs.Lines.{with_text}
use Rattle.lvm_script.specs.declared.line.Line.{Line}
use Rattle.disk_model.specs.State.{State}
use Rattle.group_ops.specs.Planning.{IsPlanned}
use Rattle.lvm_run.specs.Commands.{is_built, spec_of}
use Rattle.lvm_run.specs.Meets.{Meets}
use Rattle.lvm_run.specs.Runs.{CanPlan, RunsLine, context_with}
use Rattle.lvm_run.specs.Sourced.{IsSourced, SourceState, reads_source}
use Rattle.lvm_run.specs.declared.outcome.Outcome.{Outcome}

module _ (text : List ℕ) (line : Line) where
  abbrev as_line : Command → Line
  as_line command = record { number = line.number; id = line.id; command = command }

  -- one that doesn't read the source stays as it is
  pub unread_line : reads_source line.command ≡ false → with_text text line ≡ line
  unread_line unread = by line.command unread
    where
      by : (command : Command) → reads_source command ≡ false → with_text text (as_line command) ≡ as_line command
      by (Vgcfgrestore vg own) reads = absurd (true≢false reads)
      by _ reads = refl

  -- its command is built where it was
  pub built_with_text : is_built (with_text text line).command ≡ is_built line.command
  built_with_text = by line.command
    where
      by : (command : Command) → is_built (with_text text (as_line command)).command ≡ is_built command
      by (Vgcfgrestore vg own) = refl
      by _ = refl

  -- and it can be planned
  abbrev Planned : Command → Type 0
  Planned command = is_built command ≡ true → changes command ≡ true → IsPlanned line.id command

  pub can_plan_with_text : CanPlan line → CanPlan (with_text text line)
  can_plan_with_text can = record { first = can.first; planned = by line.command can.planned }
    where
      by : (command : Command) → Planned command → Planned (with_text text (as_line command)).command
      by (Vgcfgrestore vg own) planned = λ built change. tt
      by _ planned = planned

-- the line with its text did what is said of it
pub runs_sourced : (names : List Word) (line sourced : Line) (now : ℕ) (from to : SourceState) (old : State) (outcome : Outcome)
    (new : State) → is_built line.command ≡ true → (s : IsSourced line from (Ok sourced) to)
    → Meets (spec_of sourced.command) (context_with names sourced.id now old) old outcome new
    → RunsLine names line now s.0 from to old outcome new
runs_sourced names line sourced now from to old outcome new built s meets =
    rw built (inl (record {
      source = s.1;
      meets = subst
          (λ (l : Line). Meets (spec_of l.command) (context_with names l.id now old) old outcome new) s.2 meets;
    }))
