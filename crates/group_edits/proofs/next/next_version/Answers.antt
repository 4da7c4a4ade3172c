use Rattle.volume_rules.specs.declared.rule.Rule.TheVariants.{Numbers}
use Rattle.group_edits.proofs.next.next_version.Goals as goal

pub next_of-requires : goal.next_of-requires
next_of-requires c = (c.group.ensures.accepted Numbers).seqno.1
