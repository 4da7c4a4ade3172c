use Rattle.std.proofs.Common.{◌∙◌, arith}
use Rattle.mda_ring.proofs.TextBytes.{with_zeros-put}
use Rattle.mda_ring.proofs.text_write.sector_of.Goals as goal

pub returns : goal.returns
returns c =
    c.put.ensures ∙ with_zeros-put c.zeroed-sector.result c.args.bytes.now c.args.k c.min-start.result c.min.result
    (omega (arith, c.saturating_mul.ensures, c.min-start.ensures)) c.zeroed-sector.ensures c.min.ensures
