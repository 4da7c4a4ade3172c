use Rattle.std.proofs.Common.{◌∙◌, ap, sym}
use Rattle.std.specs.String.{string_bytes}
use Rattle.lvm_words.specs.Parser.{seen_after}
use Rattle.lvm_words.proofs.Strays.{all_fine, goes_on_here, stops_here}
use Rattle.lvm_words.proofs.parser.only_options.Goals as goal

pub returns-then-not-branch : goal.returns-then-not-branch
returns-then-not-branch c =
    let is =
    ap (seen_after c.args.rows.now c.loop-word.seen.items) (sym (c.as_bytes.ensures.value ∙ ap string_bytes c.word-item.is))
    ∙ c.in_ok-takes.ensures in
    stops_here c.args.rows.now c.loop-word.seen.items c.takes.new.seen.items c.args.words.now c.loop-word.word-index c.word-item.result
    c.in_ok-takes.field-0
    c.loop-word-test.true is c.if-not-branch.true c.loop-word.invariant

pub loop-word-preserved : goal.loop-word-preserved
loop-word-preserved c =
    let is =
    ap (seen_after c.args.rows.now c.loop-word.seen.items) (sym (c.as_bytes.ensures.value ∙ ap string_bytes c.word-item.is))
    ∙ c.in_ok-takes.ensures in
    goes_on_here c.args.rows.now c.loop-word.seen.items c.takes.new.seen.items c.args.words.now c.loop-word.word-index c.word-item.result
    c.in_ok-takes.field-0
    c.loop-word-test.true is c.if-not-branch.false c.loop-word.invariant

pub returns : goal.returns
returns c =
    all_fine c.args.rows.now c.loop-word.seen.items c.args.words.now c.loop-word.word-index c.loop-word-test.false c.loop-word.invariant
