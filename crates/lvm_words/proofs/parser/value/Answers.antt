use Rattle.std.proofs.Common.{◌∙◌, ap}
use Rattle.clap.specs.Matches.{found_of}
use Rattle.clap.specs.Walk.{first_of, rows_of}
use Rattle.clap.proofs.WalkLemmas.{first_value-rows}
use Rattle.lvm_words.proofs.parser.value.Goals as goal

pub returns : goal.returns
returns c =
    c.get_str.ensures
    ∙ first_value-rows (found_of c.args.matches.now) c.name.result.now
    ∙ ap (λ id. first_of id (rows_of (found_of c.args.matches.now))) c.name.ensures
