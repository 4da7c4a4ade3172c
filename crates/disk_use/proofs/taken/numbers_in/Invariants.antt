-- What the words so far give, and what the others will.
use Rattle.std.proofs.Common.{◌≡◌, ◌<◌, length, All, filter_map, drop, ◌++◌}
use Rattle.command_table.specs.Options.{number_named}
use Rattle.disk_use.proofs.taken.numbers_in.Given as goal

abbrev pub invariant-loop-word : goal.invariant-loop-word
invariant-loop-word l =
    (filter_map (number_named l.names) l.words ≡ l.numbers.items ++ filter_map (number_named l.names) (drop l.word-index l.words))
    × All (λ pv. pv < length l.names) l.numbers.items
