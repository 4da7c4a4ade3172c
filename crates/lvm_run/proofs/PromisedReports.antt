-- A command that changes nothing keeps the promise.
use Rattle.std.proofs.Common.{◌≡◌, ◌≤◌, ℕ, Bool, true, false, if◌then◌else◌, List, [], ◌∷◌, length, Option, Some, None, refl, sym, ap}
use Rattle.std.proofs.Common.{subst, ◌∙◌, arith}
use Rattle.std.proofs.lemmas.Bool.{true≢false}
use Rattle.std.specs.Bool.{MatchBool}
use Rattle.command_table.specs.Commands.{changes}
use Rattle.command_table.specs.Options.{Word}
use Rattle.command_table.specs.declared.command.Command.{Command}
use Rattle.command_table.specs.declared.command.Command.TheVariants.{Lvs, Pvck, Pvs, Vgcfgbackup, Vgck, Vgs}
use Rattle.line_answers.specs.declared.answer.Answer.{Answer}
use Rattle.line_answers.specs.declared.answer.Answer.TheVariants as answer
use Rattle.line_answers.specs.declared.op_refusal.OpRefusal.{OpRefusal}
use Rattle.lvm_script.specs.declared.line.Line.{Line}
use Rattle.data_lines.specs.DataLines.{is_command}
use Rattle.disk_model.proofs.ReadingAlone.{reads_write_nothing}
use Rattle.disk_model.proofs.StepsSince.{between_weaker}
use Rattle.disk_model.specs.Since.{BetweenRecords}
use Rattle.disk_model.specs.State.{State}
use Rattle.disk_model.specs.Steps.{Record}
use Rattle.volume_history.specs.Commands.{commits, may_say}
use Rattle.line_history.proofs.Looks.{reports}
use Rattle.line_history.specs.Histories.{IsFineOrBad, journal_of_line, took_if}
use Rattle.lvm_run.specs.CommandSpec.{Context, Inputs}
use Rattle.lvm_run.specs.Commands.{is_built, spec_of}
use Rattle.lvm_run.specs.History.{IsEntered, KeepsPromise, NoneOlder, journal_by, lines_by, reports_scan}
use Rattle.lvm_run.specs.Meets.{ChangesDisks, DoesToDisks, IsCause, ReadsDisks}
use Rattle.lvm_run.specs.Outcomes.{is_report}
use Rattle.lvm_run.specs.Runs.{context_with}
use Rattle.lvm_run.specs.declared.outcome.Outcome.{Outcome}
use Rattle.lvm_run.specs.declared.outcome.Outcome.TheVariants.{Ended, Answered, Reported}
use Rattle.lvm_run.proofs.InTime.{LiesBetween, run_in_time, run_unbegun}
use Rattle.lvm_run.proofs.Promised.{IsTold, WroteNothing, begun_at, counted, kept_unbegun, looked_alone}

-- what is known of a command that is built and changes nothing
pub record IsReport (command : Command) : Type 0 where
  pub unflushed : (spec_of command).flushes ≡ false
  pub plain : is_command command ≡ true
  pub uncommitted : commits command ≡ false
  pub says_fine : may_say command answer.Fine ≡ true
  pub says_refused : (refusal : OpRefusal) → may_say command (answer.Refused refusal) ≡ true

pub report_is : (command : Command) → is_built command ≡ true → changes command ≡ false → IsReport command
report_is (Pvck pv) built reads =
    record { unflushed = refl; plain = refl; uncommitted = refl; says_fine = refl; says_refused = λ refusal. refl }
report_is (Vgcfgbackup vg) built reads =
    record { unflushed = refl; plain = refl; uncommitted = refl; says_fine = refl; says_refused = λ refusal. refl }
report_is Pvs built reads = record { unflushed = refl; plain = refl; uncommitted = refl; says_fine = refl; says_refused = λ refusal. refl }
report_is Vgs built reads = record { unflushed = refl; plain = refl; uncommitted = refl; says_fine = refl; says_refused = λ refusal. refl }
report_is Lvs built reads = record { unflushed = refl; plain = refl; uncommitted = refl; says_fine = refl; says_refused = λ refusal. refl }
report_is Vgck built reads = record { unflushed = refl; plain = refl; uncommitted = refl; says_fine = refl; says_refused = λ refusal. refl }
report_is _ built reads = absurd (cc)

-- the moment of a report, between the one at which it was begun and its end
begun_before : (behind : Bool) (from to : ℕ) → from ≤ to → (if behind then to else from) ≤ to
begun_before true from to later = omega arith
begun_before false from to later = later

report_between : (reported : Bool) (begun to : ℕ) → begun ≤ to → LiesBetween begun (if reported then Some to else None) to
report_between true begun to later = (later, omega arith)
report_between false begun to later = later

module _ (names : List Word) (now : ℕ) (line : Line) (old new : State) (later : old.steps ≤ new.steps) (told_old : IsTold old)
    (told_new : IsTold new) (report : IsReport line.command) (given : Inputs) where
  abbrev context : Context
  context = context_with names line.id now old

  reads_of : (outcome : Outcome) (a b : Record) → DoesToDisks (spec_of line.command) context given outcome a b
      → ReadsDisks (spec_of line.command) context a b
  reads_of outcome a b does =
      subst (λ (f : Bool). MatchBool f (ChangesDisks (spec_of line.command) context given outcome a b)
      (ReadsDisks (spec_of line.command) context a b)) report.unflushed does

  wrote : (outcome : Outcome) → BetweenRecords (DoesToDisks (spec_of line.command) context given outcome) old.told new.told
      → BetweenRecords WroteNothing old.told new.told
  wrote outcome told =
      between_weaker (DoesToDisks (spec_of line.command) context given outcome) WroteNothing old.told new.told
      (λ a b does. let r = (reads_of outcome a b does).reads in (r.since, r.steps, reads_write_nothing r.since r.reads)) told

  -- when it was begun
  abbrev begun : ℕ
  begun = if reports_scan line.command then new.steps else old.steps

  begun_told : (behind : Bool) (handed ended : Record) → old.told ≡ Some handed → new.told ≡ Some ended
      → (if behind then new.steps else old.steps) ≡ length (begun_at behind handed ended).steps
  begun_told true handed ended there at_end = told_new.steps ended at_end
  begun_told false handed ended there at_end = told_old.steps handed there

  abbrev Keeps : Outcome → Type 0
  Keeps outcome =
      KeepsPromise names now old (journal_by begun (if is_report outcome then Some new.steps else None) new.steps outcome)
      (lines_by line outcome) new

  said_so : (said : Answer) → IsFineOrBad said → may_say line.command said ≡ true
      → ((ended : Record) → NoneOlder (journal_of_line begun (took_if said new.steps) new.steps) ((line, Some said) ∷ []) old.sizes ended)
      → BetweenRecords WroteNothing old.told new.told
      → KeepsPromise names now old (journal_of_line begun (took_if said new.steps) new.steps) ((line, Some said) ∷ []) new
  said_so said may says older told handed there base base_is version finds ended at_end =
      let behind : Bool = reports_scan line.command in (
        counted handed base old.sizes names now ended ((line, Some said) ∷ []) (length (begun_at behind handed ended).steps)
            (length ended.steps) begun new.steps (took_if said (length ended.steps)) (took_if said new.steps)
            (begun_told behind handed ended there at_end) (ap (λ (n : ℕ). took_if said n) (told_new.steps ended at_end))
            (told_new.steps ended at_end)
            (reports handed old.sizes names now (begun_at behind handed ended) ended
            (looked_alone behind old new told_new told handed there base base_is version finds ended at_end) line report.plain
            report.uncommitted said may says),
        older ended,
      )

  -- no line was begun
  unbegun : (outcome : Outcome) → BetweenRecords (DoesToDisks (spec_of line.command) context given outcome) old.told new.told
      → KeepsPromise names now old [] [] new
  unbegun outcome told = (kept_unbegun names now old new later told_new (wrote outcome told)).promise

  promised : (outcome : Outcome) → IsCause (spec_of line.command) context given old new outcome
      → BetweenRecords (DoesToDisks (spec_of line.command) context given outcome) old.told new.told → Keeps outcome
  promised (Ended ending) cause told = unbegun (Ended ending) told
  promised (Answered n answer.NoMemory) cause told = unbegun (Answered n answer.NoMemory) told
  promised (Answered n answer.Fine) cause told = absurd (true≢false (sym cause.1 ∙ report.unflushed))
  promised (Answered n (answer.Refused refusal)) cause told =
      said_so (answer.Refused refusal) refl (report.says_refused refusal) (λ ended. tt) (wrote (Answered n (answer.Refused refusal)) told)
  promised (Answered n (answer.PvFailed pv)) cause told = absurd (true≢false (sym cause.1 ∙ report.unflushed))
  promised (Answered n _) cause told = absurd cause
  promised (Reported text whole) cause told =
      said_so answer.Fine tt report.says_fine (λ ended commit. absurd (true≢false (sym commit ∙ report.uncommitted)))
      (wrote (Reported text whole) told)

  pub kept_report : (outcome : Outcome) → IsCause (spec_of line.command) context given old new outcome
      → BetweenRecords (DoesToDisks (spec_of line.command) context given outcome) old.told new.told
      → IsEntered names now old (journal_by begun (if is_report outcome then Some new.steps else None) new.steps outcome)
      (lines_by line outcome) new
  kept_report outcome cause told =
      let took : Option ℕ = if is_report outcome then Some new.steps else None in
      record {
        unbegun = run_unbegun line outcome old.steps begun took new.steps;
        in_time =
            run_in_time line outcome old.steps begun took new.steps later (omega arith)
            (report_between (is_report outcome) begun new.steps (begun_before (reports_scan line.command) old.steps new.steps later));
        promise = promised outcome cause told;
      }
