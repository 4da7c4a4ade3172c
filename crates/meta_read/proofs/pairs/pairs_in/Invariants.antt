-- The pairs so far, and then those of the scalars that are left.
use Rattle.std.proofs.Common.{◌≡◌, ◌++◌, length, map, option_map}
use Rattle.conf_text.specs.Views.{scalar_view}
use Rattle.meta_model.specs.Keys.{pairs_of}
use Rattle.meta_read.specs.Reading.{as_pairs}
use Rattle.meta_read.proofs.pairs.pairs_in.Given as goal

abbrev pub invariant-loop-rest : goal.invariant-loop-rest
invariant-loop-rest l =
    pairs_of (map scalar_view l.scalars) ≡ option_map (λ more. as_pairs l.pairs ++ more) (pairs_of (map scalar_view l.rest))

abbrev pub decreases-loop-rest : goal.decreases-loop-rest
decreases-loop-rest l = length l.rest
