use Rattle.std.proofs.Common.{◌≡◌, ◌∙◌, true, All, refl, subst}
use Rattle.std.proofs.lemmas.List.Elements.{All-head, All-tail}
use Rattle.data_lines.specs.DataLines.{runs_beside}
use Rattle.lvm_script.specs.declared.line.Line.{Line}
use Rattle.session_run.proofs.RunLines.{one_taken}
use Rattle.session_run.proofs.script.data_lines.Goals as goal

abbrev IsRun : Line → Type 0
IsRun line = runs_beside line.command ≡ true

pub loop-line-init : goal.loop-line-init
loop-line-init c =
    let all = c.into_iter-line-iterator.ensures.into_iter_gives.0 ∙ c.into_vec-all.ensures in
    record { run = rw all c.requires; all = rw (c.in_ok-lines.ensures.items, all) refl }

pub data_line-requires : goal.data_line-requires
data_line-requires c =
    All-head IsRun c.in-Some.line c.next.new.self.rest.items (subst (All IsRun) c.in-Some.ensures.steps.0 c.loop-line.invariant.run)

pub loop-line-preserved : goal.loop-line-preserved
loop-line-preserved c =
    let rest = c.next.new.self.rest.items in
    record {
      run = All-tail IsRun c.in-Some.line rest (subst (All IsRun) c.in-Some.ensures.steps.0 c.loop-line.invariant.run);
      all = rw c.in_ok-push_back.ensures.items
          (one_taken c.loop-line.lines.items c.loop-line.line-iterator.rest.items c.args.script rest c.in-Some.line c.data_line.result
          c.loop-line.invariant.all c.in-Some.ensures.steps.0 c.data_line.ensures);
    }
