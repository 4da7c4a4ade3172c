use Rattle.std.proofs.Common.{◌≡◌, length}
use Rattle.conf_text.specs.Items.{items, lookup}
use Rattle.conf_text.proofs.section.Section.get.Given as goal

abbrev pub invariant-loop-found : goal.invariant-loop-found
invariant-loop-found l = lookup l.name (items l.rest) ≡ lookup l.name (items l.self)

abbrev pub decreases-loop-found : goal.decreases-loop-found
decreases-loop-found l = length l.rest
