-- The group that the tree stands for is checked.
use Rattle.std.proofs.lemmas.Result.{MatchResult-weaker}
use Rattle.vg_scan.proofs.Judging.{group_in_tree, has_tree, tree_refused}
use Rattle.vg_scan.proofs.judge.group_in_tree.Goals as goal

pub checked_with-requires : goal.checked_with-requires
checked_with-requires c = has_tree c.args.tree.now c.in-Ok.group c.requires c.in-Ok.ensures.0

pub returns-in-Ok : goal.returns-in-Ok
returns-in-Ok c =
    let tree = c.args.tree.now in
    let group = c.in-Ok.group in
    let passed = c.in-Ok.passed in
    let stands = c.in-Ok.ensures in
    MatchResult-weaker c.checked_with.result c.checked_with.ensures
    (λ found is. group_in_tree tree group found.0 passed found.1 stands.0 stands.1 is)
    (λ refusal is. tree_refused tree group refusal stands.0 is)
