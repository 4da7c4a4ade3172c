use Rattle.std.proofs.Common.{false, length, sym, ap, ◌∙◌, arith}
use Rattle.conf_text.specs.Grammar.{gap_byte}
use Rattle.conf_text.specs.Scan.{Between}
use Rattle.conf_text.proofs.ScanBytes.{scan_here, scan_end, gap_goes, comment_stuck}
use Rattle.conf_text.proofs.scan.gap_end.Goals as goal

pub returns-then-comment-clause-found : goal.returns-then-comment-clause-found
returns-then-comment-clause-found c =
    let text = c.args.text.now in
    let byte = ap (gap_byte c.loop-at.comment) (sym c.kind_of.ensures) ∙ sym c.in-None.ensures in
    c.loop-at.invariant ∙ scan_here text (Between c.loop-at.comment) c.loop-at.at c.loop-at-test.true
    ∙ comment_stuck c.loop-at.at _ _ c.loop-at.comment c.if-comment.true byte

pub loop-at-preserved : goal.loop-at-preserved
loop-at-preserved c =
    let text = c.args.text.now in
    let byte = ap (gap_byte c.loop-at.comment) (sym c.kind_of.ensures) ∙ sym c.in-Some.ensures in
    c.loop-at.invariant ∙ scan_here text (Between c.loop-at.comment) c.loop-at.at c.loop-at-test.true
    ∙ gap_goes c.loop-at.at _ _ c.loop-at.comment c.in-Some.next byte

pub returns-clause-found : goal.returns-clause-found
returns-clause-found c =
    let text = c.args.text.now in
    c.loop-at.invariant ∙ scan_end text (Between c.loop-at.comment) c.loop-at.at c.loop-at-test.false
    ∙ sym (scan_end text (Between false) (length text) (omega arith))
