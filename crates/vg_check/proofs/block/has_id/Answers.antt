use Rattle.std.proofs.Common.{rules}
use Rattle.std.proofs.lemmas.Fn.{always_returns_same}
use Rattle.meta_model.specs.declared.extent_span.ExtentSpan.{ExtentSpan}
use Rattle.vg_check.specs.Ids.{id_of}
use Rattle.vg_check.proofs.SortedIds.{found_tells}
use Rattle.vg_check.proofs.block.has_id.Goals as goal

pub returns : goal.returns
returns c =
    found_tells c.args.group.now c.args.kind c.args.block.now c.args.id.now c.plain.result c.binary_search_by_key.result c.is_ok.result
    c.plain.ensures.value c.requires
    (c.binary_search_by_key.ensures.position (λ (run : ExtentSpan). id_of c.args.group.now c.args.kind run.on)
    (always_returns_same _ _ _ (λ a r f k. search rules))) c.binary_search_by_key.ensures.bound c.is_ok.ensures.value
