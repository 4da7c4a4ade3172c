use Rattle.std.proofs.Common.{◌≡◌, ◌∙◌, subst, length, eq-eqb, arith}
use Rattle.std.proofs.lemmas.Bool.{ne_eqb}
use Rattle.command_table.specs.Words.{placed}
use Rattle.lvm_script.proofs.LineWords.{Named, goes_on, line_end, space}
use Rattle.lvm_script.proofs.script.words_in.Goals as goal
use Rattle.lvm_script.proofs.script.words_in.Goals.{then-line-at-eq32+in_ok-push_word, else-line-at-eq32}

pub loop-at-preserved : goal.loop-at-preserved
loop-at-preserved c = elim c.if-line-at-eq32.branch [
  | then-line-at-eq32+in_ok-push_word w ↦ rw (w.words-is, w.from-is, w.in_ok-push_word.ensures)
      (space c.loop-at.invariant c.loop-at-test.true (eq-eqb _ _ w.if-line-at-eq32.true))
  | else-line-at-eq32 w ↦ rw (w.words-is, w.from-is) (goes_on c.loop-at.invariant c.loop-at-test.true (ne_eqb _ _ w.if-line-at-eq32.false))
]

pub returns : goal.returns
returns c =
    let here : c.loop-at.at ≡ length c.args.line.now = omega arith in
    c.in_ok-push_word-2.ensures ∙ line_end (subst (λ n. Named c.args.line.now c.loop-at.from n (placed c.loop-at.words.items)) here
    c.loop-at.invariant)
