use Rattle.std.proofs.Common.{◌≡◌, ◌∙◌, length, ap, arith}
use Rattle.meta_model.specs.declared.group.Group.{Group}
use Rattle.group_tests.proofs.edits.reduced.Goals as goal

pub reduced_group-requires-clause-more : goal.reduced_group-requires-clause-more
reduced_group-requires-clause-more g c one =
    let two : c.len.result ≡ 2 = search in
    let same : c.len.result ≡ length c.args.group.now.pvs =
    c.len.ensures.count ∙ ap (λ (group : Group). length group.pvs) c.group-found.ensures.group in
    omega (arith, two, same, one)
