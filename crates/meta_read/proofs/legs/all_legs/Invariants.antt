-- The legs so far, and then those of the pairs that are left.
use Rattle.std.proofs.Common.{◌≡◌, drop, map}
use Rattle.meta_model.specs.Keys.{each}
use Rattle.meta_model.specs.Standing.{leg_of}
use Rattle.meta_read.specs.Reading.{as_pair}
use Rattle.meta_read.proofs.Each.{each_then}
use Rattle.meta_read.proofs.legs.all_legs.Given as goal

abbrev pub invariant-loop-name : goal.invariant-loop-name
invariant-loop-name l =
    each (leg_of l.places) (map as_pair l.pairs) ≡ each_then (leg_of l.places) l.legs.items (map as_pair (drop l.name-index l.pairs))
