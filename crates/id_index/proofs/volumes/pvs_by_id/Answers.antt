use Rattle.std.proofs.Common.{◌≡◌, ℕ, ◌+◌, ◌-◌, drop, sym, ap, ◌∙◌, arith}
use Rattle.std.specs.FinMap as map
use Rattle.id_index.specs.Ids.{pvs_by_id}
use Rattle.id_index.proofs.Walked.{row_more}
use Rattle.id_index.proofs.volumes.pvs_by_id.Goals as goal

pub loop-number-preserved : goal.loop-number-preserved
loop-number-preserved c =
    let pvs = c.args.pvs.now in
    let n : ℕ = c.loop-number.number in
    let next : n ≡ n - 1 + 1 = omega (arith, c.loop-number-test.true) in
    c.in_ok-insert.ensures.ok
    ∙ ap (λ m. map.insert m c.get.result.1.now.id (n - 1)) (c.loop-number.invariant ∙ ap (λ (k : ℕ). pvs_by_id k (drop k pvs)) next)
    ∙ sym (ap (pvs_by_id (n - 1)) (row_more pvs (n - 1) _ c.get.ensures))
