use Rattle.std.proofs.Common.{◌≡◌, false, length, [], ◌∷◌, sym, ap, ◌∙◌, arith}
use Rattle.conf_text.specs.declared.token.TokenKind.TheVariants.{Word}
use Rattle.conf_text.specs.Grammar.{is_name}
use Rattle.conf_text.specs.Scan.{Between, InWord, with_tokens, token, scan_at}
use Rattle.conf_text.proofs.ScanBytes.{scan_here, scan_end, word_goes, word_stops}
use Rattle.conf_text.proofs.scan.word_end.Goals as goal

pub returns-then-not-is_name_kind-clause-found : goal.returns-then-not-is_name_kind-clause-found
returns-then-not-is_name_kind-clause-found c =
    let text = c.args.text.now in
    let at = c.loop-at.at in
    let other = ap is_name (sym c.kind_of.ensures) ∙ sym c.is_name_kind.ensures ∙ c.if-not-is_name_kind.true in
    c.loop-at.invariant ∙ scan_here text (InWord c.args.from) at c.loop-at-test.true ∙ word_stops at _ _ c.args.from other
    ∙ ap (with_tokens (token c.args.from at Word ∷ [])) (sym (scan_here text (Between false) at c.loop-at-test.true))

pub loop-at-preserved : goal.loop-at-preserved
loop-at-preserved c =
    let name = ap is_name (sym c.kind_of.ensures) ∙ sym c.is_name_kind.ensures ∙ c.if-not-is_name_kind.false in
    c.loop-at.invariant ∙ scan_here c.args.text.now (InWord c.args.from) c.loop-at.at c.loop-at-test.true
    ∙ word_goes c.loop-at.at _ _ c.args.from name

pub returns-clause-found : goal.returns-clause-found
returns-clause-found c =
    let text = c.args.text.now in
    let at = c.loop-at.at in
    let here : at ≡ length text = omega arith in
    c.loop-at.invariant ∙ scan_end text (InWord c.args.from) at c.loop-at-test.false
    ∙ ap (with_tokens (token c.args.from at Word ∷ [])) (sym (scan_end text (Between false) at c.loop-at-test.false))
    ∙ ap (λ n. with_tokens (token c.args.from n Word ∷ []) (scan_at text (Between false) n)) here
