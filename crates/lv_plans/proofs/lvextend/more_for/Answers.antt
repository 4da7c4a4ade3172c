use Rattle.std.proofs.Common.{sym, ap, subst, ◌∙◌}
use Rattle.std.specs.Option.{option_copied}
use Rattle.volume_rules.specs.Extents.{extents_of}
use Rattle.group_edits.specs.ShortenedVolume.{HasFewLegs}
use Rattle.lv_plans.proofs.Extending.{kind_found, more_made}
use Rattle.lv_plans.specs.Sizes.{growth_for}
use Rattle.lv_plans.proofs.lvextend.more_for.Goals as goal

pub more_on-requires : goal.more_on-requires
more_on-requires c =
    subst HasFewLegs (kind_found c.args.lv.now.segments c.as_slice.result.now c.in-Some.last.now c.requires.some c.as_slice.ensures
    (sym c.last.ensures.value ∙ ap option_copied c.in-Some.is)) c.requires.legs

pub returns : goal.returns
returns c =
    more_made c.args.on c.more_on.result c.growth_for-count.result
    (growth_for c.args.group.now.extent_size (extents_of c.args.lv.now) c.args.growth) c.in-Some.last.now.kind _ c.more_on.ensures
    (c.growth_for-count.ensures ∙ ap (λ n. growth_for c.args.group.now.extent_size n c.args.growth) c.extents.ensures)
    (kind_found c.args.lv.now.segments c.as_slice.result.now c.in-Some.last.now c.requires.some c.as_slice.ensures
    (sym c.last.ensures.value ∙ ap option_copied c.in-Some.is))
