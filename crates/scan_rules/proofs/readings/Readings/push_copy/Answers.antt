-- Older numbers stand for the same copies.
use Rattle.std.proofs.Common.{List, ap, ◌∙◌}
use Rattle.scan_rules.specs.declared.readings.GroupCopy.{GroupCopy}
use Rattle.scan_rules.specs.Readings.{AllRead, readings_of}
use Rattle.scan_rules.proofs.OlderCopies.{all_of_more, older_readings}
use Rattle.scan_rules.proofs.readings.Readings.push_copy.Goals as goal

pub invariant_of-self-2 : goal.invariant_of-self-2
invariant_of-self-2 c =
    rw c.in_ok-push.ensures.items (all_of_more c.self.inside.copies.items c.args.copy c.self.inside.disks.items c.self.invariant)

pub returns-clause-disks : goal.returns-clause-disks
returns-clause-disks c =
    ap (λ (items : List GroupCopy). readings_of items c.self.inside.disks.items) c.in_ok-push.ensures.items
    ∙ older_readings c.self.inside.copies.items c.args.copy c.self.inside.disks.items c.self.invariant.1
    ∙ ap (λ (r : AllRead). r.disks) c.self.view_is
