use Rattle.std.proofs.Common.{◌∙◌}
use Rattle.clap.specs.Matches.{found_of}
use Rattle.clap.proofs.WalkLemmas.{raw_values-rows}
use Rattle.lvm_words.specs.Parser.{rest_id}
use Rattle.lvm_words.proofs.parser.arguments.Goals as goal

pub returns : goal.returns
returns c = c.get_raw.ensures ∙ raw_values-rows (found_of c.args.matches.now) rest_id
