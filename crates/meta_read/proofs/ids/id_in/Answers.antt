-- What is parsed prints as the text, and what prints as the text is parsed.
use Rattle.std.proofs.Common.{List, ℕ, sym}
use Rattle.meta_read.proofs.PrintedIds.{id_printed-is, id_printed-none}
use Rattle.meta_read.proofs.ids.id_in.Goals as goal

pub returns-in-Ok : goal.returns-in-Ok
returns-in-Ok c = sym (id_printed-is _ _ c.in-Ok.ensures.value.0 c.in-Ok.ensures.value.1)

pub returns-in-Err : goal.returns-in-Err
returns-in-Err c =
    sym (id_printed-none c.args.text.now (λ (id : List ℕ) is printed. let accepted = c.in-Err.ensures.accepted id is printed in cc))
