-- The PVMOVE volume.
use Rattle.std.specs.Prelude.{◌≡◌, ◌≢◌, ◌<◌, ℕ, IsTrue, IsFalse, List, Some, take, codes, slice_get, All}
use Rattle.meta_model.specs.declared.group.Group.{Group}
use Rattle.meta_model.specs.declared.lv.Lv.{Lv}
use Rattle.meta_model.specs.declared.segment.On.{On}
use Rattle.meta_model.specs.declared.segment.On.TheVariants as on
use Rattle.meta_model.specs.declared.segment.Segment.{Segment}
use Rattle.volume_rules.specs.Extents.{extents_of}
use Rattle.volume_rules.specs.Legs.{IsUsed}
use Rattle.volume_rules.specs.Rules.{IsLv, IsMove, IsMoveFrom}

-- what lies on another physical volume
abbrev pub IsOnOther : ℕ → On → Type 0
IsOnOther source o = (to : ℕ) × (o ≡ on.Pv to) × (to ≢ source)

-- the segment is one of a move from this physical volume
abbrev pub MovesFrom : ℕ → Segment → Type 0
MovesFrom source segment = IsMoveFrom source segment.kind

-- the segments are those of a move from one physical volume
abbrev pub MovesFromOne : List Segment → Type 0
MovesFromOne segments = (source : ℕ) × All (MovesFrom source) segments

-- the flags and the name of a move
abbrev pub LooksLikeMove : List ℕ → Lv → Type 0
LooksLikeMove name lv = IsFalse lv.status.visible × IsTrue lv.status.locked × (take 6 name ≡ codes "pvmove")

-- each extent of the volume lies in a leg
abbrev pub IsUsedWhole : Group → ℕ → Type 0
IsUsedWhole group number = (lv : Lv) → IsLv group number lv → (extent : ℕ) → extent < extents_of lv → IsUsed group (on.Lv number) extent

-- the volume with this number is a move
abbrev pub IsMoveAt : Group → ℕ → Type 0
IsMoveAt group number = (name : List ℕ) (lv : Lv) → slice_get group.lvs number ≡ Some (name, lv) → IsMove group number name lv
