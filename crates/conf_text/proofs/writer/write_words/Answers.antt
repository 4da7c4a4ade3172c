use Rattle.std.proofs.Common.{◌++◌, ◌∷◌, [], map, refl, ap, ◌∙◌}
use Rattle.std.proofs.lemmas.List.{take_all}
use Rattle.conf_text.specs.Entries.{Text}
use Rattle.conf_text.specs.Lists.{list_begun}
use Rattle.conf_text.proofs.Adding.{adds_as, prints_with}
use Rattle.conf_text.proofs.Lists.{elements_more, list_ended}
use Rattle.conf_text.proofs.writer.write_words.Goals as goal

pub loop-at-preserved : goal.loop-at-preserved
loop-at-preserved g c =
    adds_as g.S.TextSink.laws (g.S.TextSink.laws.both c.loop-at.invariant c.in_ok-list_text.ensures.added)
    (elements_more (λ word. Text word.now) c.args.key.now c.args.words.now c.loop-at.at _ (record { ref_ptr = (0, 0); now = [] })
    c.loop-at-test.true refl)

pub returns-clause-added : goal.returns-clause-added
returns-clause-added g c =
    let whole = take_all c.loop-at.at c.args.words.now c.loop-at-test.false in
    prints_with g.S.TextSink.laws _ _ c.end_list.result _ c.loop-at.invariant c.end_list.ensures.added
    (ap (λ words. list_begun c.args.key.now (map (λ word. Text word.now) words) ++ 93 ∷ 10 ∷ []) whole ∙ list_ended c.args.key.now _)
