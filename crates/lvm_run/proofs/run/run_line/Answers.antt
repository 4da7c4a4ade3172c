use Rattle.std.proofs.Common.{◌∙◌, [], refl, sym, ap, subst, inr}
use Rattle.lvm_script.specs.declared.line.Line.{Line}
use Rattle.lvm_run.specs.Commands.{is_built}
use Rattle.lvm_run.specs.History.{IsEntered, journal_by, lines_by}
use Rattle.lvm_run.specs.Runs.{CanPlan}
use Rattle.lvm_run.specs.Sourced.{source}
use Rattle.lvm_run.proofs.AskedTasks.{refused_alone}
use Rattle.lvm_run.proofs.Promised.{kept_undone, told_of}
use Rattle.lvm_run.proofs.SourcedLines.{built_with_text, can_plan_with_text, runs_sourced}
use Rattle.lvm_run.proofs.run.run_line.Goals as goal

pub returns-then-not-is_built : goal.returns-then-not-is_built
returns-then-not-is_built g c =
    let s0 = g.S.Shelf.state c.args.shelf.now in
    let from = source (g.R.Source.left c.args.script.now) (g.R.Source.fault_count c.args.script.now) in
    rw (sym c.is_built.ensures ∙ c.if-not-is_built.true, c.ended.ensures)
    ([], refused_alone from s0, kept_undone c.args.names.now c.args.now s0 (told_of s0 (g.met.S.Shelf.lawful c.args.shelf.now)))

pub run_built-requires-clause-built : goal.run_built-requires-clause-built
run_built-requires-clause-built g c =
    ap (λ (l : Line). is_built l.command) c.in-Ok.ensures.2 ∙ built_with_text c.in-Ok.ensures.0 c.args.line ∙ sym c.is_built.ensures
    ∙ c.if-not-is_built.false

pub run_built-requires-clause-planned : goal.run_built-requires-clause-planned
run_built-requires-clause-planned g c =
    subst CanPlan (sym c.in-Ok.ensures.2) (can_plan_with_text c.in-Ok.ensures.0 c.args.line c.requires.planned)

pub returns-in-Ok : goal.returns-in-Ok
returns-in-Ok g c =
    let s0 = g.S.Shelf.state c.args.shelf.now in
    let s1 = g.S.Shelf.state c.run_built.new.shelf in
    let from = source (g.R.Source.left c.args.script.now) (g.R.Source.fault_count c.args.script.now) in
    let to = source (g.R.Source.left c.with_source.new.script) (g.R.Source.fault_count c.with_source.new.script) in
    let ran = c.run_built.result in
    let e = c.in-Ok.ensures in (
      e.0,
      runs_sourced c.args.names.now c.args.line c.in-Ok.line c.args.now from to s0 ran.outcome s1
          (sym c.is_built.ensures ∙ c.if-not-is_built.false) e c.run_built.ensures.meets,
      subst (λ (l : Line). IsEntered c.args.names.now c.args.now s0 (journal_by ran.begun ran.took s1.steps ran.outcome)
          (lines_by l ran.outcome) s1) e.2 c.run_built.ensures.entered,
    )

pub returns-in-Err : goal.returns-in-Err
returns-in-Err g c =
    let s0 = g.S.Shelf.state c.args.shelf.now in
    rw (sym c.is_built.ensures ∙ c.if-not-is_built.false, c.ended-in-Err.ensures) (
      [],
      inr (record { ending = c.in-Err.ending; is = refl; why = c.in-Err.ensures; nothing = refl {a = s0} }),
      kept_undone c.args.names.now c.args.now s0 (told_of s0 (g.met.S.Shelf.lawful c.args.shelf.now)),
    )
