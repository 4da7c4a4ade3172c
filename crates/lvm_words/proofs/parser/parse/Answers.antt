use Rattle.command_table.specs.Options.{words_of}
use Rattle.lvm_words.proofs.Link.{parsed}
use Rattle.lvm_words.proofs.Outcome.{complete_on_ok, lacks_on_err, lists_on_ok}
use Rattle.lvm_words.proofs.parser.parse.Goals as goal

pub returns : goal.returns
returns c =
    let p = parsed c.args.rows.now (words_of c.args.words.now) c.requires in
    record {
      complete = complete_on_ok _ _ p _ c.matches.ensures.kinds;
      lists = lists_on_ok _ _ p _ c.matches.ensures.kinds c.matches.ensures.matches;
      lacks = lacks_on_err _ _ p _ c.matches.ensures.kinds;
    }
