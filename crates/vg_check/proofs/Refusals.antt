-- A refused group: what the exits of a chain of tests say.
use Rattle.std.proofs.Common.{◌≡◌, ℕ, Result, Err, MatchResult, sym, subst}
use Rattle.meta_model.specs.declared.group.Group.{Group}
use Rattle.volume_rules.specs.Offences.{IsOffence}
use Rattle.volume_rules.specs.Rules.{KeepsBelow, number_of}
use Rattle.volume_rules.specs.declared.rule.Rule.{Rule}
use Rattle.volume_rules.proofs.FirstBroken.{first_from}
use Rattle.vg_check.specs.FirstOffences.{IsFirstOffence}
use Rattle.vg_check.specs.declared.offence.Offence.{Offence}
use Rattle.vg_check.proofs.OffenceBreaks.{offence_breaks}

-- the rule is the first that the group breaks, since it keeps each before it
pub refused_first : (group : Group) (P : Type 0) (rule : Rule) (at other : ℕ) (result : Result (Unit {0}) Offence)
    → result ≡ Err (record { rule = rule; at = at; other = other }) → KeepsBelow (number_of rule) group → IsOffence group rule at other
    → MatchResult result (λ _. P) (IsFirstOffence group)
refused_first group P rule at other result is below offence =
    subst
    (λ (r : Result (Unit {0}) Offence). MatchResult r (λ _. P) (IsFirstOffence group))
    (sym is)
    (first_from group rule below (offence_breaks group rule at other offence), offence)
