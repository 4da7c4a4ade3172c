use Rattle.std.proofs.Common.{◌≡◌, ◌≤◌, ap, arith, length, ◌∙◌}
use Rattle.vg_found.specs.declared.found.Found.{Found}
use Rattle.world_acts.specs.Volumes.{rows_at_opening}
use Rattle.io_core.proofs.Opening.{opened_few}
use Rattle.io_core.proofs.world.parts_of.Goals as goal

pub overflow_cast-volumes : goal.overflow_cast-volumes
overflow_cast-volumes c =
    let few : length (rows_at_opening c.args.whole.now.group) ≤ 1024 = opened_few c.args.whole.now.group c.requires in
    let same : length c.in_ok-rows.rows.items ≡ length (rows_at_opening c.args.whole.now.group) =
    ap length c.in_ok-rows.ensures ∙ ap (λ (f : Found). length (rows_at_opening f.group)) c.found.ensures.found in
    omega (arith, few, same, c.len-volumes.ensures, c.in_ok-rows.rows.ok.0)
