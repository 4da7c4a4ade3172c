use Rattle.std.proofs.Common.{◌≡◌, ℕ, drop, subst, arith}
use Rattle.std.specs.FinSet as set
use Rattle.scan_rules.specs.Flat.{strays_on}
use Rattle.scan_rules.proofs.strays.stray_disks.Goals as goal

pub returns : goal.returns
returns c =
    let none : c.loop-number.number ≡ 0 = omega (arith, c.loop-number-test.false) in
    subst (λ (n : ℕ). c.loop-number.strays ≡ set.from_list (strays_on c.args.members.now n (drop n c.args.disks.now))) none
    c.loop-number.invariant
