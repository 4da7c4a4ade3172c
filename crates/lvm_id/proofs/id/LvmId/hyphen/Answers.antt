use Rattle.lvm_id.proofs.Groups.{with_groups-hyphen_form}
use Rattle.lvm_id.proofs.id.LvmId.hyphen.Goals as goal

pub returns-clause-value : goal.returns-clause-value
returns-clause-value c =
    rw (
      c.put-7.ensures,
      c.put-6.ensures,
      c.put-5.ensures,
      c.put-4.ensures,
      c.put-3.ensures,
      c.put-2.ensures,
      c.put.ensures,
      ← c.self.view_is,
    ) (with_groups-hyphen_form c.self.inside.chars c.self.told)
