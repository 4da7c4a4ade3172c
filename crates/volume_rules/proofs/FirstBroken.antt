-- The first broken rule: how a chain of tests finds it, and that there is one at most.
use Rattle.std.proofs.Common.{◌≡◌, ℕ, ◌+◌, ◌-◌, ◌≤◌, List, [], ◌∷◌, Some, inl, inr, refl, sym, ap, subst, ◌∙◌, arith}
use Rattle.std.specs.Prelude.{slice_get}
use Rattle.std.proofs.lemmas.Bool.{cases_order, cases_eq}
use Rattle.std.proofs.lemmas.Option.{same_Some}
use Rattle.meta_model.specs.declared.group.Group.{Group}
use Rattle.volume_rules.specs.declared.rule.Rule.{Rule}
use Rattle.volume_rules.specs.declared.rule.Rule.TheVariants.{Numbers, Ids, Volumes, Segments, Extents, Follows, Stripes, Mirrors, Within}
use Rattle.volume_rules.specs.declared.rule.Rule.TheVariants.{Apart, Depth, Moved, Pvmove, Locked}
use Rattle.volume_rules.specs.Rules.{Keeps, KeepsBelow, IsAccepted, IsFirstBroken, number_of}

rules : List Rule
rules = Numbers ∷ Ids ∷ Volumes ∷ Segments ∷ Extents ∷ Follows ∷ Stripes ∷ Mirrors ∷ Within ∷ Apart ∷ Depth ∷ Moved ∷ Pvmove ∷ Locked ∷ []

place_of : (rule : Rule) → (1 ≤ number_of rule) × (number_of rule ≤ 14) × (slice_get rules (number_of rule - 1) ≡ Some rule)
unfolding rules
place_of Numbers = (omega arith, omega arith, refl)
place_of Ids = (omega arith, omega arith, refl)
place_of Volumes = (omega arith, omega arith, refl)
place_of Segments = (omega arith, omega arith, refl)
place_of Extents = (omega arith, omega arith, refl)
place_of Follows = (omega arith, omega arith, refl)
place_of Stripes = (omega arith, omega arith, refl)
place_of Mirrors = (omega arith, omega arith, refl)
place_of Within = (omega arith, omega arith, refl)
place_of Apart = (omega arith, omega arith, refl)
place_of Depth = (omega arith, omega arith, refl)
place_of Moved = (omega arith, omega arith, refl)
place_of Pvmove = (omega arith, omega arith, refl)
place_of Locked = (omega arith, omega arith, refl)

same_rule : (a b : Rule) → number_of a ≡ number_of b → a ≡ b
same_rule a b same = same_Some a b (sym (place_of a).2 ∙ ap (λ (n : ℕ). slice_get rules (n - 1)) same ∙ (place_of b).2)

-- before the first test
pub below_first : (group : Group) → KeepsBelow 1 group
below_first group other lt = absurd (omega (arith, (place_of other).0))

-- a test more that went well
pub below_more : (group : Group) (rule : Rule) → KeepsBelow (number_of rule) group → Keeps group rule
    → KeepsBelow (number_of rule + 1) group
below_more group rule below keeps other lt =
    elim (cases_eq (number_of other) (number_of rule)) [
      | inl same ↦ subst (Keeps group) (sym (same_rule other rule same)) keeps
      | inr differ ↦ below other (omega arith)
    ]

-- all tests went well
pub accepted_from : (group : Group) → KeepsBelow 15 group → IsAccepted group
accepted_from group below rule = below rule (omega (arith, (place_of rule).1))

-- a test that went badly
pub first_from : (group : Group) (rule : Rule) → KeepsBelow (number_of rule) group → (Keeps group rule → ⊥) → IsFirstBroken group rule
first_from group rule below broken = record { broken = broken; earlier = below }

-- one rule at most is the first that is broken, and none where the group is accepted
pub one_first : (group : Group) (a b : Rule) → IsFirstBroken group a → IsFirstBroken group b → a ≡ b
one_first group a b x y =
    elim (cases_order (number_of a) (number_of b)) [
      | inl same ↦ same_rule a b same
      | inr rest ↦ elim rest [ inl less ↦ absurd (x.broken (y.earlier a less)) | inr more ↦ absurd (y.broken (x.earlier b more)) ]
    ]

-- the chain of the first three tests, as `check` has it
chain : (group : Group) → Keeps group Numbers → Keeps group Ids → (Keeps group Volumes → ⊥) → IsFirstBroken group Volumes
chain group a b broken = first_from group Volumes (below_more group Ids (below_more group Numbers (below_first group) a) b) broken
