-- The sections so far, and then those of what is left.
use Rattle.std.proofs.Common.{◌≡◌, ◌+◌, ◌++◌, length}
use Rattle.std.specs.Option.{option_map_or}
use Rattle.conf_text.specs.Items.{items}
use Rattle.meta_model.specs.Standing.{sections_of}
use Rattle.meta_read.specs.Reading.{as_sections}
use Rattle.meta_read.proofs.Left.{items_left}
use Rattle.meta_read.proofs.sections.sections_in.Given as goal

abbrev pub invariant-loop-next : goal.invariant-loop-next
invariant-loop-next l = sections_of (items l.section) ≡ as_sections l.found.items ++ sections_of (items_left l.next)

abbrev pub decreases-loop-next : goal.decreases-loop-next
decreases-loop-next l = option_map_or (λ first. length first.2 + 1) l.next 0
