use Rattle.std.proofs.Common.{arith}
use Rattle.hex.specs.Hex.{IsBytes}
use Rattle.line_answers.proofs.HexDigits.{hex_written}
use Rattle.line_answers.proofs.token.bytes_text.Goals as goal

pub returns : goal.returns
returns c =
    let fits : IsBytes c.args.bytes.now = λ i. let fit = c.type_inv.bytes i in omega arith in
    hex_written _ _ _ fits c.encode_to_slice.ensures.written _ c.unwrap.ensures
