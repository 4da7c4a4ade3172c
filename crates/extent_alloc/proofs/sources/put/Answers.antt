use Rattle.std.proofs.Common.{ap, ◌∙◌}
use Rattle.std.specs.FinSet as set
use Rattle.extent_alloc.proofs.MoreSources.{one_more}
use Rattle.extent_alloc.proofs.sources.put.Goals as goal

pub returns-then-pv-lt64 : goal.returns-then-pv-lt64
returns-then-pv-lt64 c pv lt = ap (λ s. set.contains s pv) c.insert.ensures ∙ one_more c.args.sources.now c.in-Pv.pv pv c.args.on c.in-Pv.is
