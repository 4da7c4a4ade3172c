use Rattle.std.proofs.Common.{refl}
use Rattle.command_table.specs.Options.{words_of}
use Rattle.lvm_run.proofs.SessionWords.{by_line, unmeant_asks}
use Rattle.lvm_run.proofs.session_words.asked_session.Goals as goal

pub returns-in-Ok : goal.returns-in-Ok
returns-in-Ok c =
    by_line (words_of c.args.words.now) c.in-Ok.line c.in-Ok.ensures.ok c.session_of_line.result c.session_of_line.ensures

pub returns-in-Err-NoMeaning : goal.returns-in-Err-NoMeaning
returns-in-Err-NoMeaning c =
    unmeant_asks (words_of c.args.words.now) (c.in-Err-NoMeaning.ensures.no_meaning (rw c.in-Err-NoMeaning.field-0-is refl))
