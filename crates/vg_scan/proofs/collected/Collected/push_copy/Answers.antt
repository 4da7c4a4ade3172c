-- The copy is known by its entry.
use Rattle.std.proofs.Common.{length, ap}
use Rattle.vg_scan.proofs.NumberedCopies.{numbered_by, numbered_less}
use Rattle.vg_scan.proofs.collected.Collected.push_copy.Goals as goal

pub invariant_of-self-in-Ok : goal.invariant_of-self-in-Ok
invariant_of-self-in-Ok c =
    numbered_by c.self.inside.numbers c.insert.new.self c.self.inside.readings.copies c.push_copy.new.self.copies c.args.locn c.args.copy
    (length c.copies.result.now) (ap length c.copies.ensures) c.in-Ok.ensures.copies.1
    c.in_ok-insert.ensures.updates c.self.invariant c.requires.known

pub invariant_of-self-in-Err : goal.invariant_of-self-in-Err
invariant_of-self-in-Err c =
    numbered_less c.self.inside.numbers c.insert.new.self c.remove.new.self c.self.inside.readings.copies c.push_copy.new.self.copies
    (c.args.locn.size, c.args.locn.sum) (length c.copies.result.now) c.in_ok-insert.ensures.updates
    c.remove.ensures.updates c.in-Err.ensures.copies c.self.invariant
