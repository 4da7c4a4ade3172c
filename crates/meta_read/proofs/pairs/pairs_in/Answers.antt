-- One scalar is left, and it is no pair.
use Rattle.std.proofs.Common.{◌++◌, option_map, sym, ap, ◌∙◌}
use Rattle.meta_read.specs.Reading.{as_pairs}
use Rattle.meta_read.proofs.PairLists.{pairs_of-one}
use Rattle.meta_read.proofs.pairs.pairs_in.Goals as goal

pub returns : goal.returns
returns c =
    sym (c.loop-rest.invariant ∙ ap (option_map (λ more. as_pairs c.loop-rest.pairs ++ more))
    (pairs_of-one c.loop-rest.rest.now c.in_default.len_below (sym c.is_empty.ensures ∙ c.if-is_empty.false)))
