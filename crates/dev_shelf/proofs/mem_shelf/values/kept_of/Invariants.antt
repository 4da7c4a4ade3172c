use Rattle.std.proofs.Common.{◌≡◌, [], take, filter, not}
use Rattle.dev_shelf.specs.DiskRow.{steps_onto}
use Rattle.disk_model.specs.ValueList.{is_dropped}
use Rattle.dev_shelf.proofs.mem_shelf.values.kept_of.Given as goal

abbrev pub invariant-loop-value : goal.invariant-loop-value
invariant-loop-value l =
    l.kept.items ≡ filter (λ u. not (is_dropped (steps_onto l.written.items [] (take l.count l.steps.items)) l.flush l.disk l.sector u.0))
    (take l.value-index l.all.items)
