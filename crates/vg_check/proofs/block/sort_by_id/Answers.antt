use Rattle.std.proofs.Common.{rules}
use Rattle.std.proofs.lemmas.Fn.{always_returns_same}
use Rattle.meta_model.specs.declared.extent_span.ExtentSpan.{ExtentSpan}
use Rattle.vg_check.specs.Ids.{id_of}
use Rattle.vg_check.proofs.block.sort_by_id.Goals as goal

pub returns-clause-order : goal.returns-clause-order
returns-clause-order c =
    c.sort_unstable_by_key.ensures.sorted (λ (run : ExtentSpan). id_of c.args.group.now c.args.kind run.on)
    (always_returns_same _ _ _ (λ a r f k. search rules))
