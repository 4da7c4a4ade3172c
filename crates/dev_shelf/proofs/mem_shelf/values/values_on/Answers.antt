use Rattle.std.proofs.Common.{arith, sym, ap, ◌∙◌, ◌≤◌, List, ℕ, Option, length, take, []}
use Rattle.disk_model.specs.ValueList.{values}
use Rattle.dev_shelf.specs.DiskRow.{image_of, steps_onto}
use Rattle.dev_shelf.proofs.FlushedValues.{flush_sole, flush_other, flush_failed}
use Rattle.dev_shelf.proofs.mem_shelf.values.values_on.Goals as goal
use Rattle.dev_shelf.proofs.mem_shelf.values.values_on.Goals.{else-well-via-then-well+then-disk-number+else-len-gt1}
use Rattle.dev_shelf.proofs.mem_shelf.values.values_on.Goals.{else-well-via-then-well+else-disk-number, else-well-via-else-well}

pub returns-else-well : goal.returns-else-well
returns-else-well c =
    let row = c.args.row.now in
    let earlier = steps_onto row.written.items [] (take c.args.at row.steps.items) in
    elim c.else-well.branch [
      | else-well-via-then-well+then-disk-number+else-len-gt1 w ↦
          let few : length (values (image_of row.opened.items) earlier c.args.number c.args.sector) ≤ 1 =
          omega (arith, ap (λ (l : List (Option ℕ × List ℕ)). length l) c.requires.before) in
          c.requires.before ∙ sym (flush_sole (image_of row.opened.items) row.written.items earlier c.args.step c.in-Ended.tag
          c.in-Ended.work c.in-Flushes-work.disk c.in-Ended.field-3 c.args.number c.args.sector c.in-Ended.well c.in-Ended.is
          c.in-Flushes-work.is w.if-well.true w.if-disk-number.true c.requires.follows few)
      | else-well-via-then-well+else-disk-number w ↦
          c.requires.before ∙ sym (flush_other (image_of row.opened.items) row.written.items earlier c.args.step c.in-Ended.tag
          c.in-Ended.work c.in-Flushes-work.disk c.in-Ended.field-3 c.args.number c.args.sector c.in-Ended.well c.in-Ended.is
          c.in-Flushes-work.is w.if-disk-number.false)
      | else-well-via-else-well w ↦
          c.requires.before ∙ sym (flush_failed (image_of row.opened.items) row.written.items earlier c.args.step c.in-Ended.tag
          c.in-Ended.work c.in-Flushes-work.disk c.in-Ended.field-3 c.args.number c.args.sector c.in-Ended.well c.in-Ended.is
          c.in-Flushes-work.is w.if-well.false)
    ]
