use Rattle.std.proofs.Common.{◌∙◌, ap, subst}
use Rattle.std.proofs.lemmas.Result.{IfOk-weaker}
use Rattle.clap.specs.Kinds.{FailsBy}
use Rattle.clap.specs.Faults.{fault_of, is_simple_and_free}
use Rattle.clap.specs.Simple.{is_simple, matches_of}
use Rattle.command_table.specs.Options.{words_of}
use Rattle.lvm_words.proofs.Find.{simple_app, simple_free_app}
use Rattle.lvm_words.proofs.parser.matches.Goals as goal

pub returns-clause-matches : goal.returns-clause-matches
returns-clause-matches c =
    let app = c.in_ok-command.ensures in
    IfOk-weaker c.try_get_matches_from.result _ _
    (λ m h. (h (ap is_simple app ∙ simple_app c.args.rows.now)).0 ∙ ap (λ a. matches_of a (words_of c.args.words.now)) app)
    c.try_get_matches_from.ensures.matches

pub returns-clause-kinds : goal.returns-clause-kinds
returns-clause-kinds c =
    let app = c.in_ok-command.ensures in
    subst (λ a. FailsBy (fault_of a (words_of c.args.words.now)) c.try_get_matches_from.result) app
    (c.try_get_matches_from.ensures.kinds (ap is_simple_and_free app ∙ simple_free_app c.args.rows.now))
