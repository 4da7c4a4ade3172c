use Rattle.std.proofs.Common.{◌≡◌, ◌++◌, ◌∷◌, [], append_assoc, refl, ◌∙◌}
use Rattle.conf_text.proofs.Adding.{ends_with}
use Rattle.conf_text.specs.Entries.{Text, Number}
use Rattle.conf_text.specs.Lists.{list_added}
use Rattle.conf_text.specs.Printed.{printed_scalar}
use Rattle.std.specs.Fmt.{decimal}
use Rattle.conf_text.proofs.Lists.{added_split}
use Rattle.conf_text.proofs.writer.list_pair.Goals as goal

pub returns-clause-added : goal.returns-clause-added
returns-clause-added g c =
    let before = list_added c.args.before [] in
    let quoted = printed_scalar (Text c.args.text.now) in
    let regrouped : ((before ++ quoted) ++ 44 ∷ 32 ∷ []) ++ decimal c.args.number ≡ before ++ (quoted ++ 44 ∷ 32 ∷ decimal c.args.number) =
    simp append_assoc refl in
    ends_with g.S.TextSink.laws _ _ c.write_digits.result _
    (g.S.TextSink.laws.both (g.S.TextSink.laws.both c.in_ok-separate.ensures.added c.in_ok-write_quoted.ensures.added)
    c.in_ok-push.ensures.added)
    c.write_digits.ensures.added
    (regrouped ∙ added_split c.args.before (Text c.args.text.now ∷ Number c.args.number ∷ []))
