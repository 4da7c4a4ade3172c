use Rattle.std.proofs.Common.{sym, ap, ◌∙◌}
use Rattle.std.specs.Option.{option_copied}
use Rattle.vg_check.proofs.Ends.{last_at}
use Rattle.seg_place.proofs.volume_size.extents.Goals as goal

pub returns-in-Some : goal.returns-in-Some
returns-in-Some c =
    let is = sym c.last.ensures.value ∙ ap option_copied c.in-Some.is in
    last_at c.as_slice.result.now c.args.volume.now.segments c.in-Some.last.now c.as_slice.ensures is c.requires.follow
