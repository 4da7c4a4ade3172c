use Rattle.std.proofs.Common.{◌∙◌, arith}
use Rattle.data_lines.proofs.HexSectors.{is_hex}
use Rattle.data_lines.proofs.contents.digits_sector.Goals as goal

pub returns : goal.returns
returns c =
    c.new.ensures
    ∙ is_hex c.args.digits.now c.loop-k.bytes 512 (omega (arith, c.requires)) c.loop-k.invariant.long
    (λ k lt. c.loop-k.invariant.each k (omega (arith, c.loop-k-test.false)))
