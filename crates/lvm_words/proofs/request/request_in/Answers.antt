use Rattle.std.proofs.Common.{◌≡◌, ◌∙◌, ap, map, sym, true}
use Rattle.std.proofs.lemmas.Result.{IfOk-weaker}
use Rattle.std.specs.List.{list_all}
use Rattle.clap.specs.Matches.{found_of}
use Rattle.clap.specs.Walk.{rows_of}
use Rattle.command_table.specs.Options.{words_in}
use Rattle.command_table.specs.Table.{options_of}
use Rattle.lvm_words.specs.Parser.{arguments_pass, pairs_of, values_pass}
use Rattle.lvm_words.proofs.Requests.{request_alike}
use Rattle.lvm_words.proofs.request.request_in.Goals as goal

pub returns : goal.returns
returns c =
    let found = rows_of (found_of c.args.matches.now) in
    let options_fine : list_all (values_pass found) (options_of c.args.name) ≡ true =
    ap (list_all (values_pass found)) (sym c.options.ensures) ∙ sym c.options_pass.ensures ∙ c.if-not-options_pass.false in
    let words_fine : arguments_pass c.args.name 0 (words_in c.as_slice-2.result.now) ≡ true =
    ap (λ words. arguments_pass c.args.name 0 (words_in words)) (c.as_slice-2.ensures.value ∙ sym c.deref.ensures.value)
    ∙ sym c.arguments_pass.ensures ∙ c.if-not-arguments_pass.false in
    let pairs : map (λ pair. (pair.0, pair.1.now)) c.as_slice.result.now ≡ pairs_of (options_of c.args.name) found =
    ap (map (λ pair. (pair.0, pair.1.now))) c.as_slice.ensures.value ∙ c.in_ok-pairs.ensures
    ∙ ap (λ options. pairs_of options found) c.options-2.ensures in
    IfOk-weaker c.request_by_name.result _ _
    (λ request is. is ∙ request_alike c.args.name found _ _ pairs (ap words_in c.as_slice-2.ensures.value ∙ c.in_ok-words.ensures)
    options_fine words_fine)
    c.request_by_name.ensures
