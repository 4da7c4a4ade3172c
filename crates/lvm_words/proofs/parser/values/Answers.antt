use Rattle.std.proofs.Common.{◌∙◌, ap}
use Rattle.clap.specs.Matches.{found_of}
use Rattle.clap.specs.Walk.{all_of, rows_of}
use Rattle.clap.proofs.WalkLemmas.{raw_values-rows}
use Rattle.lvm_words.proofs.parser.values.Goals as goal

pub returns : goal.returns
returns c =
    c.get_raw.ensures
    ∙ raw_values-rows (found_of c.args.matches.now) c.name.result.now
    ∙ ap (λ id. all_of id (rows_of (found_of c.args.matches.now))) c.name.ensures
