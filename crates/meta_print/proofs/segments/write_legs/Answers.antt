use Rattle.std.proofs.Common.{◌≡◌, ◌++◌, ◌∷◌, [], get_or, take, ap, arith, ◌∙◌, refl}
use Rattle.std.proofs.lemmas.List.{take_all}
use Rattle.std.specs.Prelude.{flat_map}
use Rattle.conf_text.specs.Lists.{list_begun, list_added}
use Rattle.conf_text.proofs.Adding.{adds_as, prints_with}
use Rattle.conf_text.proofs.Lists.{pieces_more, list_ended}
use Rattle.conf_text.specs.Entries.{Text, Number}
use Rattle.meta_model.specs.declared.segment.Leg.{Leg}
use Rattle.meta_model.specs.declared.segment.On.TheVariants as on
use Rattle.meta_print.specs.Layout.{name_of, pair_of}
use Rattle.meta_print.proofs.segments.write_legs.Goals as goal

pub loop-at-preserved : goal.loop-at-preserved
loop-at-preserved g c =
    let leg : Leg = get_or c.args.legs.now c.loop-at.at (record { on = on.Pv 0; first = 0 }) in
    let name : c.name_of.result.now ≡ name_of c.args.group.now leg.on = c.name_of.ensures in
    adds_as g.S.TextSink.laws (g.S.TextSink.laws.both {ys = list_added c.loop-at.at (Text c.name_of.result.now ∷ Number leg.first ∷ [])}
    c.loop-at.invariant c.in_ok-list_pair.ensures.added)
    (ap (λ text. list_begun c.args.key.now (flat_map (pair_of c.args.group.now) (take c.loop-at.at c.args.legs.now))
    ++ list_added c.loop-at.at (Text text ∷ Number leg.first ∷ [])) name
    ∙ pieces_more (pair_of c.args.group.now) (λ l. omega arith) c.args.key.now c.args.legs.now c.loop-at.at leg
    (record { on = on.Pv 0; first = 0 }) c.loop-at-test.true refl)

pub returns-clause-added : goal.returns-clause-added
returns-clause-added g c =
    let whole = take_all c.loop-at.at c.args.legs.now c.loop-at-test.false in
    prints_with g.S.TextSink.laws _ _ c.end_list.result _ c.loop-at.invariant c.end_list.ensures.added
    (ap (λ legs. list_begun c.args.key.now (flat_map (pair_of c.args.group.now) legs) ++ 93 ∷ 10 ∷ []) whole ∙ list_ended c.args.key.now _)
