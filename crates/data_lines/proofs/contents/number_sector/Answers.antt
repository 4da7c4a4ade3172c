use Rattle.std.proofs.Common.{◌∙◌, arith}
use Rattle.data_lines.proofs.NumberSectors.{is_number_sector}
use Rattle.data_lines.proofs.contents.number_sector.Goals as goal

pub returns : goal.returns
returns c =
    c.new.ensures
    ∙ is_number_sector c.args.number c.to_le_bytes-word.result c.loop-k.bytes (omega (arith, c.ranges.number.fits))
    c.to_le_bytes-word.ensures
    c.loop-k.invariant.long
    (λ k lt. c.loop-k.invariant.each k (omega (arith, c.loop-k-test.false)))
