-- The batch is added to none.
use Rattle.std.proofs.Common.{List, map, sym, ap, subst, ◌∙◌}
use Rattle.std.specs.Prelude.{All}
use Rattle.sector_base.specs.declared.spans.Span.{Span}
use Rattle.change_batches.specs.Batches.{zero_put}
use Rattle.change_batches.specs.Building.{IsOnFew}
use Rattle.change_batches.proofs.ZeroBatch.{zeros_few, zeros_run, zeros_written}
use Rattle.change_batches.proofs.zeros.zeros_of.Goals as goal

pub push_batch-requires : goal.push_batch-requires
push_batch-requires c =
    subst (All IsOnFew) (sym (c.in_ok-zero_writes.ensures ∙ ap (λ (l : List Span). map zero_put l) c.as_slice.ensures))
    (zeros_few c.args.change.now.zero c.requires)

pub returns-clause-writes : goal.returns-clause-writes
returns-clause-writes c =
    zeros_written c.args.change.now.zero c.as_slice.result.now c.in_ok-zero_writes.field-0.items c.new-batches.result.items
    c.push_batch.new.batches.items c.as_slice.ensures c.in_ok-zero_writes.ensures c.new-batches.ensures.items c.in_ok-push_batch.ensures

pub returns-clause-can_run : goal.returns-clause-can_run
returns-clause-can_run c =
    zeros_run c.args.change.now.zero c.as_slice.result.now c.in_ok-zero_writes.field-0.items c.new-batches.result.items
    c.push_batch.new.batches.items c.as_slice.ensures c.in_ok-zero_writes.ensures c.new-batches.ensures.items c.in_ok-push_batch.ensures
    c.requires
