use Rattle.line_history.proofs.DoneSets.{members_agree, sets_agree}
use Rattle.line_history.proofs.each_set.done_sets_agree.Goals as goal

pub returns-clause-done : goal.returns-clause-done
returns-clause-done c =
    λ g start ended cleared commit. sets_agree c.repair_scans.ensures.at_the_end c.each_set_finds.ensures.finds
    c.each_set_finds.ensures.removed c.scans_are_one.ensures g start ended cleared commit

pub returns-clause-made : goal.returns-clause-made
returns-clause-made c =
    λ g well start ended cleared commit. members_agree c.repair_scans.ensures.at_the_end c.each_set_finds.ensures.members
    c.scans_are_one.ensures g well start ended cleared commit
