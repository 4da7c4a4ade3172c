use Rattle.std.proofs.Common.{◌≡◌, ℕ, sym, ap, ◌∙◌, arith}
use Rattle.std.specs.List.{filter, range_with_len}
use Rattle.std.specs.FinSet.{contains}
use Rattle.disk_batch.specs.Writes.{disks_in}
use Rattle.disk_batch.proofs.DisksOfSet.{kept_more, kept_not}
use Rattle.disk_batch.proofs.batch.disks_of_set.Goals as goal
use Rattle.disk_batch.proofs.batch.disks_of_set.Goals.{then-contains+in_ok-push, else-contains}

pub loop-pv-preserved : goal.loop-pv-preserved
loop-pv-preserved c =
    elim c.if-contains.branch [
      | then-contains+in_ok-push w ↦ rw w.disks-is
          (kept_more (contains c.args.set) c.loop-pv.pv _ _ (sym c.contains.ensures ∙ w.if-contains.true) c.loop-pv.invariant
          w.in_ok-push.ensures.items)
      | else-contains w ↦ rw w.disks-is (kept_not (contains c.args.set) c.loop-pv.pv _ (sym c.contains.ensures ∙ w.if-contains.false)
          c.loop-pv.invariant)
    ]

pub returns : goal.returns
unfolding disks_in
returns c =
    let e : c.loop-pv.pv ≡ 64 = omega arith in c.loop-pv.invariant ∙ ap (λ (n : ℕ). filter (contains c.args.set) (range_with_len 0 n)) e
