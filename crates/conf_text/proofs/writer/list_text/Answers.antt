use Rattle.std.proofs.Common.{◌∷◌, []}
use Rattle.conf_text.proofs.Adding.{ends_with}
use Rattle.conf_text.specs.Entries.{Text}
use Rattle.conf_text.proofs.Lists.{added_split}
use Rattle.conf_text.proofs.writer.list_text.Goals as goal

pub returns-clause-added : goal.returns-clause-added
returns-clause-added g c =
    ends_with g.S.TextSink.laws _ _ c.write_quoted.result _ c.in_ok-separate.ensures.added c.write_quoted.ensures.added
    (added_split c.args.before (Text c.args.text.now ∷ []))
