use Rattle.data_lines.specs.DataLines.{value_for}
use Rattle.data_lines.proofs.Ranges.{sector_more}
use Rattle.data_lines.proofs.contents.contents_for.Goals as goal

pub loop-at-preserved : goal.loop-at-preserved
loop-at-preserved c =
    sector_more (value_for c.args.command.now) c.args.first c.loop-at.at c.loop-at.list.items c.push.new.self.items c.sector_for.result
    c.loop-at.auto.at c.loop-at.invariant c.sector_for.ensures c.in_ok-push.ensures.items
