-- Numbers of volumes that grow in rounds over the legs.
use Rattle.std.specs.Prelude.{◌≡◌, ℕ, zero, suc, ◌+◌, ◌<◌, ◌≤◌, max, cond, nat_eq, List, ◌∷◌, map, length, option_map, unwrap_or, slice_get}
use Rattle.std.specs.Prelude.{Contains}
use Rattle.meta_model.specs.declared.group.Group.{Group}
use Rattle.meta_model.specs.declared.extent_span.ExtentSpan.{ExtentSpan}
use Rattle.meta_model.specs.declared.segment.Leg.{Leg}
use Rattle.meta_model.specs.declared.segment.On.{On}
use Rattle.meta_model.specs.declared.segment.On.TheVariants as on
use Rattle.meta_model.specs.declared.segment.Segment.{Segment}
use Rattle.meta_model.specs.Runs.{legs_of}
use Rattle.volume_rules.specs.Depths.{greatest, load}
use Rattle.volume_rules.specs.Legs.{IsWayDown}
use Rattle.volume_rules.specs.Moving.{has_pvmove, named_by}
use Rattle.volume_rules.specs.Rules.{counts}
use Rattle.vg_check.specs.declared.climb.Climb.{Climb}
use Rattle.vg_check.specs.declared.climb.Climb.TheVariants.{Length, Load, Moves}

-- the number of a volume, and the one beside it, 0 where there is none
abbrev pub told : List ExtentSpan → ℕ → ℕ
told numbers lv = unwrap_or (option_map (λ (run : ExtentSpan). run.first) (slice_get numbers lv)) 0

-- the number beside it, which a round is about to give it
abbrev pub counted : List ExtentSpan → ℕ → ℕ
counted numbers lv = unwrap_or (option_map (λ (run : ExtentSpan). run.count) (slice_get numbers lv)) 0

-- the number of what a leg lies on
abbrev pub told_on : List ExtentSpan → On → ℕ
told_on numbers (on.Pv pv) = 0
told_on numbers (on.Lv lv) = told numbers lv

-- the greatest number of what these legs lie on
abbrev pub greatest_leg : List ExtentSpan → List Leg → ℕ
greatest_leg numbers legs = greatest (map (λ (leg : Leg). told_on numbers leg.on) legs)

-- the greatest number of what the legs of these segments lie on
abbrev pub greatest_segment : List ExtentSpan → List Segment → ℕ
greatest_segment numbers segments = greatest (map (λ (segment : Segment). greatest_leg numbers (legs_of segment.kind)) segments)

-- what a volume weighs where one is light
abbrev pub weight_beside : ℕ → ℕ → ℕ
weight_beside light lv = cond (nat_eq lv light) 0 1

-- what the number of a volume becomes, where this is the greatest of those on which it lies
abbrev pub grown : Group → Climb → ℕ → ℕ → ℕ
grown group Length lv below = 1 + below
grown group (Load light) lv below = weight_beside light lv + below
grown group Moves lv below = max (cond (has_pvmove group lv) 1 0) below

-- what it is after so many rounds
abbrev pub climbed : Group → Climb → ℕ → ℕ → ℕ
climbed group climb zero lv = 0
climbed group climb (suc rounds) lv = grown group climb lv (greatest (map (climbed group climb rounds) (named_by group lv)))

-- each volume has its number after so many rounds
abbrev pub HasClimbed : Group → Climb → ℕ → List ExtentSpan → Type 0
HasClimbed group climb rounds numbers = (lv : ℕ) → lv < length group.lvs → told numbers lv ≡ climbed group climb rounds lv

-- beside the numbers stands what the first of them become, so many
pub record HasGrown (group : Group) (climb : Climb) (old new : List ExtentSpan) (many : ℕ) : Type 0 where
  pub kept : (lv : ℕ) → told new lv ≡ told old lv
  pub beside : (lv : ℕ) → lv < many → counted new lv ≡ grown group climb lv (greatest (map (told old) (named_by group lv)))

-- the numbers of the volumes that legs name are at most so great after five rounds
abbrev pub ClimbsAtMost : Group → Climb → ℕ → Type 0
ClimbsAtMost group climb most = (lv below : ℕ) → Contains (named_by group lv) below → climbed group climb 5 below ≤ most

-- a way down from a volume that a leg names ends
abbrev pub WaysAreShort : Group → Type 0
WaysAreShort group = (lv : ℕ) (way : List ℕ) → IsWayDown group (lv ∷ way) → (length way ≤ 4) × (load (counts group) way ≤ 3)
