-- The group is that of the text's tree.
use Rattle.std.proofs.Common.{ℕ, List, subst}
use Rattle.std.proofs.lemmas.Result.{MatchResult-weaker}
use Rattle.conf_text.specs.Grammar.{IsTextOf}
use Rattle.vg_scan.proofs.Judging.{copy_in_text, text_refused}
use Rattle.vg_scan.proofs.judge.group_in_text.Goals as goal

pub returns-in-Ok : goal.returns-in-Ok
returns-in-Ok c =
    let text = c.args.text.now in
    let tree = c.in-Ok.tree in
    let is_text : IsTextOf text tree = subst (λ (l : List ℕ). IsTextOf l tree) c.as_bytes.ensures c.in-Ok.ensures in
    MatchResult-weaker c.group_in_tree.result c.group_in_tree.ensures
    (λ judged is. MatchResult-weaker judged is (λ found it. copy_in_text text tree found.0 found.1 is_text it)
    (λ refusal it. text_refused text tree refusal is_text it))
    (λ refusal is. is)
