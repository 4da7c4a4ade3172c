use Rattle.std.proofs.Common.{◌≡◌, ℕ, drop, subst, arith}
use Rattle.std.specs.FinSet as set
use Rattle.vg_found.specs.Disks.{old_among}
use Rattle.vg_found.proofs.old.old_disks.Goals as goal

pub returns : goal.returns
returns c =
    let none : c.loop-at.at ≡ 0 = omega (arith, c.loop-at-test.false) in
    subst (λ (n : ℕ). c.loop-at.old ≡ set.from_list (old_among c.args.disks.now (drop n c.args.numbers.now))) none c.loop-at.invariant
