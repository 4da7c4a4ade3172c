use Rattle.std.proofs.Common.{false, sym, ap, ◌∙◌}
use Rattle.conf_text.specs.Grammar.{is_name}
use Rattle.conf_text.specs.Scan.{Between, is_quote}
use Rattle.conf_text.specs.Tokens.{is_mark}
use Rattle.conf_text.proofs.ScanBytes.{scan_here, word_begins, string_begins, mark_taken, nothing_begins}
use Rattle.conf_text.proofs.scan.token_at.Goals as goal

pub returns-then-is_name_kind-clause-found : goal.returns-then-is_name_kind-clause-found
returns-then-is_name_kind-clause-found c =
    let name = ap is_name (sym c.kind_of-kind.ensures) ∙ sym c.is_name_kind.ensures ∙ c.if-is_name_kind.true in
    scan_here c.args.text.now (Between false) c.args.at c.requires.within ∙ word_begins c.args.at _ _ name ∙ c.word_end-to.ensures.found

pub returns-in-Ok-clause-found : goal.returns-in-Ok-clause-found
returns-in-Ok-clause-found c =
    let quote = ap is_quote (sym c.kind_of-kind.ensures) ∙ sym c.is_quote_kind.ensures ∙ c.if-is_quote_kind.true in
    scan_here c.args.text.now (Between false) c.args.at c.requires.within ∙ string_begins c.args.at _ _ quote ∙ c.in-Ok.ensures.found

pub returns-in-Err-clause-found : goal.returns-in-Err-clause-found
returns-in-Err-clause-found c =
    let quote = ap is_quote (sym c.kind_of-kind.ensures) ∙ sym c.is_quote_kind.ensures ∙ c.if-is_quote_kind.true in
    scan_here c.args.text.now (Between false) c.args.at c.requires.within ∙ string_begins c.args.at _ _ quote ∙ c.in-Err.ensures.found

pub returns-then-is_mark_kind-clause-found : goal.returns-then-is_mark_kind-clause-found
returns-then-is_mark_kind-clause-found c =
    let mark = ap is_mark (sym c.kind_of-kind.ensures) ∙ sym c.is_mark_kind.ensures ∙ c.if-is_mark_kind.true in
    scan_here c.args.text.now (Between false) c.args.at c.requires.within ∙ mark_taken c.args.at _ _ mark

pub returns-clause-found : goal.returns-clause-found
returns-clause-found c =
    let name = ap is_name (sym c.kind_of-kind.ensures) ∙ sym c.is_name_kind.ensures ∙ c.if-is_name_kind.false in
    let quote = ap is_quote (sym c.kind_of-kind.ensures) ∙ sym c.is_quote_kind.ensures ∙ c.if-is_quote_kind.false in
    let mark = ap is_mark (sym c.kind_of-kind.ensures) ∙ sym c.is_mark_kind.ensures ∙ c.if-is_mark_kind.false in
    scan_here c.args.text.now (Between false) c.args.at c.requires.within ∙ nothing_begins c.args.at _ _ c.requires.token name quote mark
