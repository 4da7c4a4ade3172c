use Rattle.std.proofs.Common.{sym, ◌∙◌}
use Rattle.seg_place.specs.CodeValues.{seen}
use Rattle.seg_place.proofs.DecidingSegments.{mirror_decides, moving_decides}
use Rattle.seg_place.proofs.deciding.deciding.Goals as goal

pub returns-in-Some : goal.returns-in-Some
returns-in-Some g c =
    sym (moving_decides c.args.group.now c.args.lv c.args.sector (seen c.in-Some.met) c.requires.accepted c.requires.leads
    (sym c.in-Some.ensures))

pub returns-in-None : goal.returns-in-None
returns-in-None g c = c.mirror_unless_moving.ensures ∙ mirror_decides c.args.group.now c.args.lv c.args.sector (sym c.in-None.ensures)
