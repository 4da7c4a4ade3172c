-- The first copy, and the first of another group behind it.
use Rattle.std.proofs.Common.{ℕ, ◌+◌, List, Option, drop, get_or, sym, ap, ◌∙◌}
use Rattle.std.specs.Prelude.{option_map}
use Rattle.scan_rules.specs.declared.held.HeldCopy.{HeldCopy}
use Rattle.scan_rules.specs.Decision.{TwoGroups, two_groups}
use Rattle.scan_rules.specs.Flat.{all_held}
use Rattle.list_laws.proofs.Walks.{next_at}
use Rattle.scan_rules.proofs.Steps.{first_here}
use Rattle.scan_rules.proofs.best.find_two_groups.Goals as goal

pub returns-in-Some : goal.returns-in-Some
returns-in-Some c =
    let held : List HeldCopy = c.args.held.now in
    let copies = c.args.copies.now in
    let i : ℕ = c.loop-i.i in
    let one : HeldCopy = get_or held i (record { disk = 0; number = 0 }) in
    sym c.loop-i.invariant
    ∙ ap (λ (l : List HeldCopy). two_groups (all_held copies l)) (next_at held i (record { disk = 0; number = 0 }) c.loop-i-test.true)
    ∙ first_here copies one c.in-Some.id (drop (i + 1) held) (sym c.in-Some.is ∙ c.id_of.ensures)
    ∙ ap (λ (o : Option (List ℕ)). option_map (λ (ids : List ℕ × List ℕ). TwoGroups ids.0 ids.1)
    (option_map (λ (other : List ℕ). (c.in-Some.id, other)) o)) (sym c.find_other.ensures)
    ∙ ap (λ (o : Option (List ℕ × List ℕ)). option_map (λ (ids : List ℕ × List ℕ). TwoGroups ids.0 ids.1) o) (sym c.paired.ensures)
