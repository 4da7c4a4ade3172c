use Rattle.std.proofs.Common.{◌≡◌, ◌*◌, ℕ, sym, ap, subst, ◌∙◌, arith}
use Rattle.meta_model.specs.declared.group.Group.{Group}
use Rattle.seg_place.specs.Sectors.{sectors_of}
use Rattle.seg_place.proofs.Volumes.{lv_is_well, sectors_of_none, sectors_of_one}
use Rattle.seg_place.proofs.volume_size.sectors.Goals as goal

pub returns-then-number-len : goal.returns-then-number-len
returns-then-number-len c =
    sym (subst (λ (group : Group). sectors_of group c.args.lv ≡ 0) c.group-group.ensures.group
    (sectors_of_none c.group-group.result.now c.args.lv (omega (arith, c.len.ensures.count, c.if-number-len.true))))

pub extents-requires-clause-follow : goal.extents-requires-clause-follow
extents-requires-clause-follow c =
    (lv_is_well c.group-group.result.now c.args.lv (c.get.result.0.now, c.get.result.1.now) c.group-group.ensures.accepted
    c.get.ensures).follow

pub extents-requires-clause-small : goal.extents-requires-clause-small
extents-requires-clause-small c =
    (lv_is_well c.group-group.result.now c.args.lv (c.get.result.0.now, c.get.result.1.now) c.group-group.ensures.accepted
    c.get.ensures).small

pub overflow_mul-result : goal.overflow_mul-result
overflow_mul-result c =
    let well =
    lv_is_well c.group-group.result.now c.args.lv (c.get.result.0.now, c.get.result.1.now) c.group-group.ensures.accepted
    c.get.ensures in
    omega (arith, ap (λ (n : ℕ). n * c.group-group.result.now.extent_size) c.extents.ensures, well.sectors)

pub returns : goal.returns
returns c =
    ap (λ (n : ℕ). n * c.group-group.result.now.extent_size) c.extents.ensures
    ∙ sym (sectors_of_one c.group-group.result.now c.args.lv (c.get.result.0.now, c.get.result.1.now) c.get.ensures)
    ∙ ap (λ (group : Group). sectors_of group c.args.lv) c.group-group.ensures.group
