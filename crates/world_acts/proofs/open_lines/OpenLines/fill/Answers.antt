use Rattle.world_acts.proofs.Filled.{view_filled}
use Rattle.world_acts.proofs.open_lines.OpenLines.fill.Goals as goal

pub returns-in-Read : goal.returns-in-Read
returns-in-Read c =
    view_filled c.self.inside.list.items c.self.inside.spare c.args.self.now c.args.line c.args.first c.len.result c.args.sectors.now
    c.index_mut.result.now c.in-Some.open c.in-Read.start c.in-Read.buffer c.copy_in.new.self c.self.view_is c.requires.opened
    c.requires.within c.index_mut.ensures.value c.in-Some.is c.in-Read.is c.len.ensures.value c.copy_in.ensures.len
    c.copy_in.ensures.each
