use Rattle.std.proofs.Common.{◌∙◌, sym}
use Rattle.std.proofs.lemmas.Result.{IfOk-weaker}
use Rattle.command_table.specs.Options.{words_of}
use Rattle.lvm_words.proofs.Requests.{named_words}
use Rattle.lvm_words.proofs.request.request_behind.Goals as goal

pub returns-then-is_for_words : goal.returns-then-is_for_words
returns-then-is_for_words c =
    IfOk-weaker c.request_parsed.result _ _ (λ request is. is
    ∙ named_words c.args.name (words_of c.args.words.now) (sym c.is_for_words.ensures ∙ c.if-is_for_words.true))
    c.request_parsed.ensures
