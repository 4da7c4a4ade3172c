use Rattle.std.proofs.Common.{◌≡◌, ◌+◌, ◌≤◌, length, map, drop}
use Rattle.conf_text.specs.Items.{body_from}
use Rattle.conf_text.specs.Views.{entry_view}
use Rattle.conf_text.proofs.section.body_len.Given as goal

abbrev pub invariant-loop-at : goal.invariant-loop-at
invariant-loop-at l =
    let es = map entry_view l.entries in
    (l.deep ≤ l.at) × (l.at + length (body_from l.deep (drop l.at es)) ≡ length (body_from 0 es))
