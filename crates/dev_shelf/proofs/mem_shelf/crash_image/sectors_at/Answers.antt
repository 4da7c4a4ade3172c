-- One sector is taken after another.
use Rattle.std.proofs.Common.{◌≡◌, ℕ, List, [], drop, length, slice_index_or, arith, ap, refl, subst, ◌∙◌}
use Rattle.std.proofs.lemmas.List.{get_or_default}
use Rattle.disk_model.specs.ValueList.{values}
use Rattle.dev_shelf.specs.RowValues.{TakesSectors, told_after}
use Rattle.dev_shelf.proofs.Choosing.{takes_one_more}
use Rattle.dev_shelf.proofs.mem_shelf.crash_image.sectors_at.Goals as goal

pub loop-sector-preserved : goal.loop-sector-preserved
loop-sector-preserved c =
    let told = told_after c.args.row.now c.args.moment in
    let one = c.in_ok-value.ensures in
    rw c.in_ok-push.ensures.items
    (takes_one_more told c.args.disk c.loop-sector.sector (drop c.args.taken.now c.args.choices.now.items) c.loop-sector.sectors.items
    (drop c.loop-sector.taken c.args.choices.now.items)
    (values told.opened told.steps c.args.disk c.loop-sector.sector) c.in_ok-value.value _ c.loop-sector.invariant refl one.chosen_so
    one.left_so one.is_value)

pub returns : goal.returns
returns c =
    let row = c.args.row.now in
    let told = told_after row c.args.moment in
    let disk : c.index.result.now ≡ slice_index_or row.opened.items c.args.disk [] =
    c.index.ensures ∙ get_or_default row.opened.items c.args.disk c.index.result.now [] (omega (arith, row.opened.ok.0)) in
    let whole : c.loop-sector.sector ≡ length (slice_index_or row.opened.items c.args.disk []) =
    omega (arith, ap (λ (d : List (List ℕ)). length d) disk, c.len-sector-end.ensures.value) in
    rw c.from_vec.ensures
    (subst (λ (n : ℕ). TakesSectors told c.args.disk n (drop c.args.taken.now c.args.choices.now.items) c.loop-sector.sectors.items
    (drop c.loop-sector.taken c.args.choices.now.items)) whole c.loop-sector.invariant)
