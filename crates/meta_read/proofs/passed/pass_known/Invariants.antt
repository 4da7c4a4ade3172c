-- What is unknown so far, and then that of what is left.
use Rattle.std.proofs.Common.{◌≡◌, ◌+◌, ◌++◌, length, map, flat_map}
use Rattle.std.specs.Option.{option_map_or}
use Rattle.conf_text.specs.Items.{items}
use Rattle.meta_model.specs.PassedOver.{unless_known}
use Rattle.meta_read.specs.Reading.{as_bytes}
use Rattle.meta_read.proofs.Left.{items_left}
use Rattle.meta_read.proofs.passed.pass_known.Given as goal

abbrev pub invariant-loop-next : goal.invariant-loop-next
invariant-loop-next l =
    l.fn.unknown.items ++ flat_map (λ item. unless_known (map as_bytes l.known) l.path item.0) (items l.section)
    ≡ l.unknown.items ++ flat_map (λ item. unless_known (map as_bytes l.known) l.path item.0) (items_left l.next)

abbrev pub decreases-loop-next : goal.decreases-loop-next
decreases-loop-next l = option_map_or (λ first. length first.2 + 1) l.next 0
