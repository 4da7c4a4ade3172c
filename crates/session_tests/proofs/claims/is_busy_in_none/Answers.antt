use Rattle.std.proofs.Common.{◌≡◌, ◌≤◌, ◌+◌, ◌-◌, ◌*◌, ◌^◌, ℕ, List, length, ap, subst, arith}
use Rattle.claim_table.specs.declared.claim.Claim.{Claim}
use Rattle.claim_table.proofs.Rows.{no_step}
use Rattle.session_tests.proofs.claims.is_busy_in_none.Goals as goal

pub not_one-requires : goal.not_one-requires
not_one-requires g c =
    let none : c.new-steps.result ≡ 0 = c.new-steps.ensures in
    let taken : c.busy-busy.new.steps - c.new-steps.result ≡ c.busy-busy.new.steps = omega (arith, none) in
    let empty = ap (λ (l : List Claim). length l) c.requires.pieces in
    let bound = subst (λ (n : ℕ). 2 ^ n ≤ 2 * length c.args.table.now.started + 1) taken c.busy-busy.ensures.bound in
    let least = no_step c.busy-busy.new.steps (omega (arith, bound, empty)) in
    omega (arith, least)
