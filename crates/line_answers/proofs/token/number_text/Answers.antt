use Rattle.std.proofs.Common.{ap, append-nil, arith, ◌∷◌, ◌∙◌}
use Rattle.hex.specs.Hex.{IsBytes}
use Rattle.line_answers.proofs.HexDigits.{are_bytes-reverse, hex_written}
use Rattle.line_answers.proofs.token.number_text.Goals as goal

pub returns : goal.returns
returns c =
    let fits : IsBytes c.args.bytes.now = λ i. let fit = c.type_inv.bytes i in omega arith in
    let written = rw (c.reverse.ensures.after, c.copy_from_slice.ensures.after) at c.encode_to_slice.ensures.written in
    ap (λ text. 61 ∷ text) (append-nil _ ∙ hex_written _ _ _ (are_bytes-reverse _ fits) written _ c.unwrap.ensures)
