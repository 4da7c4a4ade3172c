use Rattle.std.proofs.Common.{◌≡◌, map, drop}
use Rattle.conf_text.specs.Items.{items}
use Rattle.conf_text.specs.Views.{entry_view}
use Rattle.conf_text.proofs.section.Section.split_first.Given as goal

abbrev pub invariant-loop-at : goal.invariant-loop-at
invariant-loop-at l = let es = map entry_view l.self-inside.entries.now in items (drop l.at es) ≡ items es
