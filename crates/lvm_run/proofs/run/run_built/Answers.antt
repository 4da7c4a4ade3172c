use Rattle.std.proofs.Common.{◌≡◌, ◌∙◌, ℕ, if◌then◌else◌, Option, Some, None, sym, ap, subst}
use Rattle.lvm_run.specs.CommandSpec.{CommandSpec}
use Rattle.lvm_run.specs.History.{IsEntered, journal_by, lines_by, reports_scan}
use Rattle.lvm_run.specs.Meets.{Meets}
use Rattle.lvm_run.specs.Outcomes.{is_report}
use Rattle.lvm_run.specs.Runs.{context_with}
use Rattle.lvm_run.proofs.BuiltCommands.{spec_of_changing}
use Rattle.lvm_run.proofs.Promised.{told_of}
use Rattle.lvm_run.proofs.PromisedReports.{kept_report, report_is}
use Rattle.lvm_run.proofs.run.run_built.Goals as goal
use Rattle.lvm_run.proofs.run.run_built.Goals.{then-behind, else-behind, then-is_report, else-is_report}

pub returns-then-changes-clause-meets : goal.returns-then-changes-clause-meets
returns-then-changes-clause-meets g c =
    let s0 = g.S.Shelf.state c.args.shelf.now in
    subst (λ (spec : CommandSpec). Meets spec (context_with c.args.names.now c.args.line.id c.args.now s0) s0 c.run_change.result.outcome
    (g.S.Shelf.state c.run_change.new.shelf))
    (sym (spec_of_changing c.args.line.command (sym c.changes.ensures ∙ c.if-changes.true))) c.run_change.ensures.meets

pub returns-clause-entered : goal.returns-clause-entered
returns-clause-entered g c =
    let s0 = g.S.Shelf.state c.args.shelf.now in
    let s1 = g.S.Shelf.state c.run_reading-outcome.new.shelf in
    let outcome = c.run_reading-outcome.result in
    let begun : c.if-behind.begun ≡ (if reports_scan c.args.line.command then s1.steps else s0.steps) =
    elim c.if-behind.branch [
      | then-behind w ↦ rw (sym c.reports_scan-behind.ensures ∙ w.if-behind.true) (w.begun-is ∙ c.steps-ended.ensures)
      | else-behind w ↦ rw (sym c.reports_scan-behind.ensures ∙ w.if-behind.false) (w.begun-is ∙ c.steps-before.ensures)
    ]
    in
    let took : c.if-is_report.took ≡ (if is_report outcome then Some s1.steps else None) =
    elim c.if-is_report.branch [
      | then-is_report w ↦ rw (sym c.is_report.ensures ∙ w.if-is_report.true) (w.took-is ∙ ap (λ (n : ℕ). Some n) c.steps-ended.ensures)
      | else-is_report w ↦ rw (sym c.is_report.ensures ∙ w.if-is_report.false) w.took-is
    ]
    in
    subst (λ (n : ℕ). IsEntered c.args.names.now c.args.now s0 (journal_by n c.if-is_report.took s1.steps outcome)
    (lines_by c.args.line outcome) s1) (sym begun)
    (subst (λ (o : Option ℕ). IsEntered c.args.names.now c.args.now s0
    (journal_by (if reports_scan c.args.line.command then s1.steps else s0.steps) o s1.steps outcome) (lines_by c.args.line outcome) s1)
    (sym took)
    (kept_report c.args.names.now c.args.now c.args.line s0 s1 c.run_reading-outcome.ensures.again.later
    (told_of s0 (g.met.S.Shelf.lawful c.args.shelf.now)) (told_of s1 (g.met.S.Shelf.lawful c.run_reading-outcome.new.shelf))
    (report_is c.args.line.command c.requires.built (sym c.changes.ensures ∙ c.if-changes.false)) c.run_reading-outcome.ensures.given
    outcome c.run_reading-outcome.ensures.cause c.run_reading-outcome.ensures.told))
