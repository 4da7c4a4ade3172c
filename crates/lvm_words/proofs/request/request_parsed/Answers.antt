use Rattle.std.proofs.Common.{rules, ◌≡◌, ◌≢◌, ◌∙◌, true, ap, subst, sym}
use Rattle.std.proofs.lemmas.Result.{IfOk-weaker}
use Rattle.clap.specs.Matches.{found_of}
use Rattle.clap.specs.Values.{kind_of}
use Rattle.clap.specs.Walk.{rows_of}
use Rattle.clap.specs.declared.error.kind.ErrorKind.TheVariants as kind
use Rattle.command_table.specs.Options.{words_of}
use Rattle.command_table.specs.Table.{options_of}
use Rattle.command_table.specs.Words.{is_complete, nothing_split}
use Rattle.lvm_words.specs.Parser.{Lists, no_stray, split_of}
use Rattle.lvm_words.proofs.Requests.{matches_ask, open_means_nothing, strays_mean_nothing}
use Rattle.lvm_words.proofs.request.request_parsed.Goals as goal

pub returns-then-not-branch : goal.returns-then-not-branch
returns-then-not-branch c =
    let words = words_of c.args.words.now in
    strays_mean_nothing c.args.name words c.in_ok-only_options.field-0
    (c.in_ok-only_options.ensures ∙ ap (λ rows. no_stray rows nothing_split words) c.options.ensures) c.if-not-branch.true

pub returns-in-Ok : goal.returns-in-Ok
returns-in-Ok c =
    let words = words_of c.args.words.now in
    let found = rows_of (found_of c.in-Ok.matches) in
    let fine : no_stray (options_of c.args.name) nothing_split words ≡ true =
    sym (c.in_ok-only_options.ensures ∙ ap (λ rows. no_stray rows nothing_split words) c.options.ensures) ∙ c.if-not-branch.false in
    let complete : is_complete (split_of (options_of c.args.name) words) ≡ true =
    ap (λ rows. is_complete (split_of rows words)) (sym c.options-2.ensures) ∙ c.in-Ok.ensures.complete in
    let lists : Lists (options_of c.args.name) (split_of (options_of c.args.name) words) found =
    subst (λ rows. Lists rows (split_of rows words) found) c.options-2.ensures c.in-Ok.ensures.lists in
    IfOk-weaker c.request_in.result _ _ (λ request is. is ∙ matches_ask c.args.name words found fine complete lists) c.request_in.ensures

pub returns-in-Err-2 : goal.returns-in-Err-2
returns-in-Err-2 c =
    let words = words_of c.args.words.now in
    let other : kind_of c.in-Err-2.field-0 ≢ kind.OutOfMemory = search rules in
    open_means_nothing c.args.name words (ap (λ rows. is_complete (split_of rows words)) (sym c.options-2.ensures)
    ∙ c.in-Err-2.ensures.lacks other)
