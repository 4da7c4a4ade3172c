use Rattle.std.proofs.Common.{◌≡◌, [], take}
use Rattle.dev_shelf.specs.DiskRow.{steps_onto, image_of}
use Rattle.disk_model.specs.ValueList.{values}
use Rattle.dev_shelf.proofs.mem_shelf.values.values_at.Given as goal

abbrev pub invariant-loop-i : goal.invariant-loop-i
invariant-loop-i l =
    l.all.items ≡ values (image_of l.row.opened.items) (steps_onto l.row.written.items [] (take l.i l.row.steps.items)) l.disk l.sector
