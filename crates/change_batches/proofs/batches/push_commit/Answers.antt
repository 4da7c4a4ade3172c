use Rattle.std.proofs.Common.{Result, Ok, Err, OnOk}
use Rattle.std.specs.Prelude.{⊤}
use Rattle.change_batches.proofs.Adding.{added_for}
use Rattle.change_batches.proofs.batches.push_commit.Goals as goal

on_ok : {E P Q : Type 0} (r : Result ⊤ E) → (P → Q) → OnOk r P → OnOk r Q
on_ok (Ok x) f p = f p
on_ok (Err e) f p = p

pub returns : goal.returns
returns c =
    on_ok c.push_text.result
    (added_for c.in_ok-text.text _ c.as_slice.result.now c.args.disk_of.now c.as_slice-2.result.now c.args.areas.now
    c.in_ok-areas.areas c.set_of-flush.result c.args.batches.now.items c.push_text.new.batches.items c.in_ok-text.ensures
    c.as_slice.ensures c.set_of-flush.ensures c.as_slice-2.ensures c.in_ok-areas.ensures)
    c.push_text.ensures
