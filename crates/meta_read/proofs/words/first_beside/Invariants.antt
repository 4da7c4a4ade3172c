-- The first is among those that are left.
use Rattle.std.proofs.Common.{◌≡◌, drop, map, find, not}
use Rattle.lvm_name.specs.Names.{is_among}
use Rattle.meta_read.specs.Reading.{as_bytes}
use Rattle.meta_read.proofs.words.first_beside.Given as goal

abbrev pub invariant-loop-word : goal.invariant-loop-word
invariant-loop-word l =
    find (λ word. not (is_among (map as_bytes l.known) word)) (map as_bytes l.words)
    ≡ find (λ word. not (is_among (map as_bytes l.known) word)) (map as_bytes (drop l.word-index l.words))
