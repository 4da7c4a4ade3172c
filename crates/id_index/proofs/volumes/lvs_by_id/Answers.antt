use Rattle.std.proofs.Common.{◌≡◌, ℕ, ◌+◌, ◌-◌, drop, sym, ap, ◌∙◌, arith}
use Rattle.std.specs.FinMap as map
use Rattle.id_index.specs.Ids.{lvs_by_id}
use Rattle.id_index.proofs.Walked.{row_more}
use Rattle.id_index.proofs.volumes.lvs_by_id.Goals as goal

pub loop-number-preserved : goal.loop-number-preserved
loop-number-preserved c =
    let lvs = c.args.lvs.now in
    let n : ℕ = c.loop-number.number in
    let next : n ≡ n - 1 + 1 = omega (arith, c.loop-number-test.true) in
    c.in_ok-insert.ensures.ok
    ∙ ap (λ m. map.insert m c.get.result.1.now.id (n - 1)) (c.loop-number.invariant ∙ ap (λ (k : ℕ). lvs_by_id k (drop k lvs)) next)
    ∙ sym (ap (lvs_by_id (n - 1)) (row_more lvs (n - 1) _ c.get.ensures))
