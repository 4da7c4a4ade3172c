use Rattle.std.proofs.Common.{◌+◌, ◌∙◌, ap, length, sym}
use Rattle.command_table.specs.Meaning.{at_place, request_read}
use Rattle.command_table.specs.Options.{words_of}
use Rattle.lvm_script.proofs.words.request_named.Goals as goal

pub returns-in-Ok : goal.returns-in-Ok
returns-in-Ok c =
    let name = c.args.name in
    rw (sym c.is_for_words.ensures ∙ c.if-not-is_for_words.false)
    (ap (at_place (length (words_of c.args.words.now) + 1)) (ap (request_read name) (sym c.in_ok-reading.ensures) ∙ c.in-Ok.ensures.ok))
