-- The first rule that a group breaks, with its places.
use Rattle.meta_model.specs.declared.group.Group.{Group}
use Rattle.volume_rules.specs.Offences.{IsOffence}
use Rattle.volume_rules.specs.Rules.{IsFirstBroken}
use Rattle.vg_check.specs.declared.offence.Offence.{Offence}

-- the group breaks the offence's rule at its places, and none before it
abbrev pub IsFirstOffence : Group → Offence → Type 0
IsFirstOffence group offence = IsFirstBroken group offence.rule × IsOffence group offence.rule offence.at offence.other
