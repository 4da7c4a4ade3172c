use Rattle.disk_batch.proofs.PartPuts.{filled_is}
use Rattle.disk_batch.proofs.rest.filled_buffer.Goals as goal

pub returns : goal.returns
returns c = filled_is _ _ _ c.args.from c.requires c.fill_from.ensures.len c.fill_from.ensures.each
