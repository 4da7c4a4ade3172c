use Rattle.std.proofs.Common.{◌≡◌, ◌≤◌, ◌+◌, ◌-◌, ◌*◌, ◌^◌, ℕ, length, subst, arith}
use Rattle.claim_table.proofs.Rows.{ten_steps}
use Rattle.session_tests.proofs.claims.is_busy_in_ten.Goals as goal

pub within_ten-requires : goal.within_ten-requires
within_ten-requires g c =
    let none : c.new-steps.result ≡ 0 = c.new-steps.ensures in
    let taken : c.busy-busy.new.steps - c.new-steps.result ≡ c.busy-busy.new.steps = omega (arith, none) in
    let bound = subst (λ (n : ℕ). 2 ^ n ≤ 2 * length c.args.table.now.started + 1) taken c.busy-busy.ensures.bound in
    ten_steps c.busy-busy.new.steps (omega (arith, bound, c.requires.pieces))
