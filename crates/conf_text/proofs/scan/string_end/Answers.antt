use Rattle.std.proofs.Common.{sym, ap, ◌∙◌}
use Rattle.conf_text.specs.Scan.{InString, closes, string_byte}
use Rattle.conf_text.proofs.ScanBytes.{scan_here, scan_end, string_goes, string_stuck, string_closes}
use Rattle.conf_text.proofs.scan.string_end.Goals as goal

pub returns-then-is_closing-clause-found : goal.returns-then-is_closing-clause-found
returns-then-is_closing-clause-found c =
    let slash = c.loop-at.slash in
    let shut = ap (closes slash) (sym c.kind_of-kind.ensures) ∙ sym c.is_closing.ensures ∙ c.if-is_closing.true in
    c.loop-at.invariant ∙ scan_here c.args.text.now (InString slash c.args.from) c.loop-at.at c.loop-at-test.true
    ∙ string_closes c.loop-at.at _ _ slash c.args.from shut

pub returns-in-None-clause-found : goal.returns-in-None-clause-found
returns-in-None-clause-found c =
    let slash = c.loop-at.slash in
    let going = ap (closes slash) (sym c.kind_of-kind.ensures) ∙ sym c.is_closing.ensures ∙ c.if-is_closing.false in
    let byte = ap (string_byte slash) (sym c.kind_of-kind.ensures) ∙ sym c.in-None.ensures in
    c.loop-at.invariant ∙ scan_here c.args.text.now (InString slash c.args.from) c.loop-at.at c.loop-at-test.true
    ∙ string_stuck c.loop-at.at _ _ slash c.args.from going byte

pub loop-at-preserved : goal.loop-at-preserved
loop-at-preserved c =
    let slash = c.loop-at.slash in
    let going = ap (closes slash) (sym c.kind_of-kind.ensures) ∙ sym c.is_closing.ensures ∙ c.if-is_closing.false in
    let byte = ap (string_byte slash) (sym c.kind_of-kind.ensures) ∙ sym c.in-Some.ensures in
    c.loop-at.invariant ∙ scan_here c.args.text.now (InString slash c.args.from) c.loop-at.at c.loop-at-test.true
    ∙ string_goes c.loop-at.at _ _ slash c.in-Some.next c.args.from going byte

pub returns-clause-found : goal.returns-clause-found
returns-clause-found c =
    c.loop-at.invariant ∙ scan_end c.args.text.now (InString c.loop-at.slash c.args.from) c.loop-at.at c.loop-at-test.false
