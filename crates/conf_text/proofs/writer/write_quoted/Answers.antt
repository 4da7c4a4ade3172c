use Rattle.std.proofs.Common.{◌++◌, ◌∷◌, [], ap}
use Rattle.std.proofs.lemmas.List.{take_all}
use Rattle.conf_text.specs.Grammar.{escaped}
use Rattle.conf_text.proofs.Adding.{adds_as, ends_with}
use Rattle.conf_text.proofs.Lists.{escaped_more}
use Rattle.conf_text.proofs.writer.write_quoted.Goals as goal

pub loop-byte-preserved : goal.loop-byte-preserved
loop-byte-preserved g c =
    adds_as g.S.TextSink.laws (g.S.TextSink.laws.both c.loop-byte.invariant c.in_ok-write_escaped.ensures.added)
    (ap (λ bytes. 34 ∷ bytes) (escaped_more c.args.text.now c.loop-byte.byte-index c.loop-byte-test.true))

pub returns-clause-added : goal.returns-clause-added
returns-clause-added g c =
    let whole = take_all c.loop-byte.byte-index c.args.text.now c.loop-byte-test.false in
    ends_with g.S.TextSink.laws _ _ c.push-2.result _ c.loop-byte.invariant c.push-2.ensures.added
    (ap (λ text. 34 ∷ escaped text ++ 34 ∷ []) whole)
