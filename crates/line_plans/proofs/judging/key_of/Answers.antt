use Rattle.line_plans.proofs.judging.key_of.Goals as goal

pub with_number-requires : goal.with_number-requires
with_number-requires c = c.requires.1.sorted
