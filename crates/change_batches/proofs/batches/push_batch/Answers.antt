use Rattle.std.proofs.Common.{◌<◌, List, length, sym, ap, subst, ◌∙◌, arith}
use Rattle.std.proofs.lemmas.Bool.{eqb-false}
use Rattle.disk_batch.specs.InTurn.{Put}
use Rattle.group_plan.specs.Judging.{set_of}
use Rattle.change_batches.specs.Building.{Is, disks_written}
use Rattle.change_batches.proofs.Adding.{added_one}
use Rattle.change_batches.proofs.DisksWritten.{flushes_some}
use Rattle.change_batches.proofs.batches.push_batch.Goals as goal

pub new_batch-requires : goal.new_batch-requires
new_batch-requires c =
    let some : 0 < length c.args.list.items =
    omega (arith, eqb-false c.args.list.len 0 (sym c.is_empty.ensures ∙ c.if-is_empty.false), c.args.list.ok.0) in
    flushes_some c.args.list.items c.disks_of-disks.result some c.requires
    (c.disks_of-disks.ensures ∙ ap (λ (l : List Put). set_of (disks_written l)) c.deref.ensures.value)

pub returns : goal.returns
returns c =
    let some : 0 < length c.args.list.items =
    omega (arith, eqb-false c.args.list.len 0 (sym c.is_empty.ensures ∙ c.if-is_empty.false), c.args.list.ok.0) in
    added_one c.args.list.items c.args.batches.now.items c.push.new.self.items c.in_ok-batch.batch some c.in_ok-push.ensures.items
    (subst (λ s. Is c.args.list.items s c.in_ok-batch.batch)
    (c.disks_of-disks.ensures ∙ ap (λ (l : List Put). set_of (disks_written l)) c.deref.ensures.value) c.in_ok-batch.ensures)
