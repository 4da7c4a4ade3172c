use Rattle.std.proofs.Common.{Bool, false, List, [], ◌∷◌, ◌++◌, length, map, sym, ap, ◌∙◌, ℕ, arith, Bor}
use Rattle.std.proofs.lemmas.List.{take_all}
use Rattle.conf_text.specs.Entries.{Text}
use Rattle.conf_text.specs.Lists.{list_begun}
use Rattle.conf_text.proofs.Adding.{adds_as, prints_with}
use Rattle.conf_text.proofs.Lists.{list_ended}
use Rattle.meta_print.specs.WordsSet.{words_set}
use Rattle.meta_print.proofs.WordLists.{words_set-set, words_set-unset}
use Rattle.meta_print.proofs.words.write_words_set.Goals as goal
use Rattle.meta_print.proofs.words.write_words_set.Goals.{then-is_set+in_ok-list_text, else-is_set}

abbrev no_pair : Bool × Bor (List ℕ)
no_pair = (false, record { ref_ptr = (0, 0); now = [] })

pub loop-is_set-preserved : goal.loop-is_set-preserved
loop-is_set-preserved g c =
    let within = c.loop-is_set-test.true in
    let old = c.loop-is_set.invariant in
    elim c.if-is_set.branch [
      | then-is_set+in_ok-list_text w ↦
          let more =
          words_set-set c.args.key.now c.args.words.now c.loop-is_set.is_set-index c.loop-is_set.count no_pair within old.counts
          w.if-is_set.true in
          record {
            text = rw w.sink-is (adds_as g.S.TextSink.laws (g.S.TextSink.laws.both old.text w.in_ok-list_text.ensures.added) more.0);
            counts = w.count-is ∙ more.1;
            within = omega (arith, w.count-is, old.within);
          }
      | else-is_set w ↦
          let same = words_set-unset c.args.words.now c.loop-is_set.is_set-index no_pair within w.if-is_set.false in
          record {
            text = rw w.sink-is (adds_as g.S.TextSink.laws old.text (ap (λ ws. list_begun c.args.key.now (map Text ws)) (sym same)));
            counts = w.count-is ∙ old.counts ∙ ap length (sym same);
            within = omega (arith, w.count-is, old.within);
          }
    ]

pub returns-clause-added : goal.returns-clause-added
returns-clause-added g c =
    let whole = take_all c.loop-is_set.is_set-index c.args.words.now c.loop-is_set-test.false in
    prints_with g.S.TextSink.laws _ _ c.end_list.result _ c.loop-is_set.invariant.text c.end_list.ensures.added
    (ap (λ pairs. list_begun c.args.key.now (map Text (words_set pairs)) ++ 93 ∷ 10 ∷ []) whole ∙ list_ended c.args.key.now _)
