use Rattle.std.proofs.Common.{◌≡◌, ◌+◌, ℕ, Bool, List, length, ap, subst, arith}
use Rattle.std.proofs.lemmas.Result.{err_from_is_err_and}
use Rattle.disk_model.specs.Since.{BetweenRecords}
use Rattle.disk_model.proofs.IdleAgain.{again_both, again_spent}
use Rattle.disk_model.proofs.LastFault.{same_faults_both}
use Rattle.disk_batch.specs.Flushing.{FlushesAll}
use Rattle.disk_batch.proofs.EachFlushed.{flushes_stopped, one_more_flushed}
use Rattle.disk_batch.proofs.flush_disks.flush_all.Goals as goal

pub loop-pv-preserved : goal.loop-pv-preserved
loop-pv-preserved g c =
    let s0 = g.S.Shelf.state c.args.shelf.now in
    let s1 = g.S.Shelf.state c.loop-pv.shelf in
    let s2 = g.S.Shelf.state c.flush.new.shelf in
    let e = c.in_ok-flush.ensures in
    let f = e.carried_out in
    record {
      told =
          subst (λ (well : Bool). BetweenRecords (FlushesAll (c.loop-pv.pv + 1) well) s0.told s2.told) f.2
          (one_more_flushed s0.told s1 c.loop-pv.pv f.0 s2 c.loop-pv.invariant.told f.1);
      again = again_both s0 s1 s2 c.loop-pv.invariant.again (again_spent s1 s2 1 0 e.spends);
      faults = same_faults_both s0 s1 s2 c.loop-pv.invariant.faults e.fault;
      ops =
          let same : length s2.sizes ≡ length s1.sizes = ap (λ (l : List ℕ). length l) e.spends.sizes in omega
          (arith, same, e.spends.spare_ops, c.loop-pv.invariant.ops);
    }

pub returns-in_err-flush-clause-told : goal.returns-in_err-flush-clause-told
returns-in_err-flush-clause-told g c =
    let s0 = g.S.Shelf.state c.args.shelf.now in
    let s1 = g.S.Shelf.state c.loop-pv.shelf in
    let s2 = g.S.Shelf.state c.flush.new.shelf in
    let f = c.in_err-flush.ensures.carried_out in
    let p = err_from_is_err_and c.from_residual.result c.from_residual.ensures.1 in
    rw p.1
    (flushes_stopped (length s0.sizes) (c.loop-pv.pv + 1) s0.told s2.told
    (subst (λ (well : Bool). BetweenRecords (FlushesAll (c.loop-pv.pv + 1) well) s0.told s2.told) f.2
    (one_more_flushed s0.told s1 c.loop-pv.pv f.0 s2 c.loop-pv.invariant.told f.1)))
