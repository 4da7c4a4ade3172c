-- Volumes that legs name are hidden.
use Rattle.std.specs.Prelude.{ℕ, All, IsFalse}
use Rattle.meta_model.specs.declared.group.Group.{Group}
use Rattle.meta_model.specs.declared.lv.Lv.{Lv}
use Rattle.meta_model.specs.declared.segment.On.{On}
use Rattle.meta_model.specs.declared.segment.On.TheVariants as on
use Rattle.meta_model.specs.declared.segment.Segment.{Segment}
use Rattle.meta_model.specs.Runs.{legs_of}
use Rattle.volume_rules.specs.Legs.{LiesOn}
use Rattle.volume_rules.specs.Rules.{IsLv}

-- the volume with this number
abbrev pub LvIsHidden : Group → ℕ → Type 0
LvIsHidden group number = (volume : Lv) → IsLv group number volume → IsFalse volume.status.visible

-- what a leg lies on is a physical volume, or a hidden logical one
abbrev pub OnIsHidden : Group → On → Type 0
OnIsHidden group (on.Pv number) = Unit {0}
OnIsHidden group (on.Lv number) = LvIsHidden group number

-- those that the legs of a segment name
abbrev pub LegsAreHidden : Group → Segment → Type 0
LegsAreHidden group segment = All (λ leg. OnIsHidden group leg.on) (legs_of segment.kind)

-- those that any leg names
abbrev pub VolumesBelowAreHidden : Group → Type 0
VolumesBelowAreHidden group = (lv below : ℕ) (volume : Lv) → LiesOn group lv below → IsLv group below volume → IsFalse volume.status.visible
