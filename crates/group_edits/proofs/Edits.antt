-- An edit of a group: which of its volumes stay, by which new numbers, and which legs they have then.
use Rattle.std.proofs.Common.{◌≡◌, ◌≤◌, ◌⊎◌, ℕ, ◌+◌, false, List, Some}
use Rattle.std.specs.Prelude.{slice_get, All, AllPairs, Contains}
use Rattle.meta_model.specs.Runs.{legs_of}
use Rattle.meta_model.specs.declared.group.Group.{Group}
use Rattle.meta_model.specs.declared.lv.Lv.{Lv}
use Rattle.meta_model.specs.declared.pv.Pv.{Pv}
use Rattle.meta_model.specs.declared.segment.Leg.{Leg}
use Rattle.meta_model.specs.declared.segment.On.{On}
use Rattle.meta_model.specs.declared.segment.On.TheVariants as on
use Rattle.meta_model.specs.declared.segment.Segment.{Segment}
use Rattle.volume_rules.specs.Legs.{IsInRun, IsUsed, LegRun, LieApart, runs_of}
use Rattle.volume_rules.specs.Rules.{IsPvmove, LiesWithin}
use Rattle.group_edits.specs.Renumbered.{renumbered_kind, renumbered_row, renumbered_segment}

abbrev pub Row : Type 0
Row = List ℕ × Lv

-- ---- numbers

-- it is a physical volume or a logical one that stays
abbrev pub OnStays : (ℕ → Type 0) → (ℕ → Type 0) → On → Type 0
OnStays PvStays Stays (on.Pv pv) = PvStays pv
OnStays PvStays Stays (on.Lv lv) = Stays lv

-- each does
abbrev pub Any : ℕ → Type 0
Any number = Unit {0}

pub any_stays : (o : On) → OnStays Any Any o
any_stays (on.Pv pv) = tt
any_stays (on.Lv lv) = tt

-- ---- segments

-- the first extents of a segment, or all of them, with its legs by the new numbers
pub record IsFront (number : On → On) (was now : Segment) : Type 0 where
  pub count : now.count ≤ was.count
  pub kind : now.kind ≡ renumbered_kind number was.kind

-- the segments are first ones of these, each whole or a front; those with a leg on a logical volume stay whole
pub record KeepsSegments (number : On → On) (was now : List Segment) : Type 0 where
  pub from : (s : ℕ) (segment : Segment) → slice_get now s ≡ Some segment
      → (old : Segment) × (slice_get was s ≡ Some old) × IsFront number old segment
  pub there : (s : ℕ) (old : Segment) (j : ℕ) (leg : Leg) (m : ℕ) → slice_get was s ≡ Some old
      → slice_get (legs_of old.kind) j ≡ Some leg → leg.on ≡ on.Lv m → slice_get now s ≡ Some (renumbered_segment number old)

-- nothing is said of them
abbrev pub AnySegments : List Segment → List Segment → Type 0
AnySegments was now = Unit {0}

-- ---- volumes

-- a volume that stays: a hidden one is as it was
pub record StaysAs (number : On → On) (Segments : List Segment → List Segment → Type 0) (was now : Row) : Type 0 where
  pub status : now.1.status ≡ was.1.status
  pub hidden : was.1.status.visible ≡ false → now ≡ renumbered_row number was
  pub segments : Segments was.1.segments now.1.segments

-- the volume isn't one of a move
pub record IsPlain (row : Row) : Type 0 where
  pub pvmove : row.1.status.pvmove ≡ false
  pub locked : row.1.status.locked ≡ false

-- the row with this number was one that stays
pub record WasRow (group : Group) (number : On → On) (lv_at : ℕ → ℕ) (Stays : ℕ → Type 0)
    (Segments : List Segment → List Segment → Type 0) (m : ℕ) (now : Row) : Type 0 where
  pub n : ℕ
  pub was : Row
  pub stays : Stays n
  pub at : lv_at n ≡ m
  pub there : slice_get group.lvs n ≡ Some was
  pub kept : StaysAs number Segments was now

-- Which volumes stay: each by its new number, of which no other one has the same. What the volumes that stay lie on stays, and so
-- does what lies on the PVMOVE volume.
pub record KeepsVolumes (group other : Group) (number : On → On) (pv_at lv_at : ℕ → ℕ) (PvStays Stays : ℕ → Type 0)
    (Segments : List Segment → List Segment → Type 0) : Type 0 where
  pub pv_is : (n : ℕ) → number (on.Pv n) ≡ on.Pv (pv_at n)
  pub lv_is : (n : ℕ) → number (on.Lv n) ≡ on.Lv (lv_at n)
  pub pv_apart : (a b : ℕ) → PvStays a → PvStays b → pv_at a ≡ pv_at b → a ≡ b
  pub lv_apart : (a b : ℕ) → Stays a → Stays b → lv_at a ≡ lv_at b → a ≡ b
  pub pv_there : (n : ℕ) (pv : List ℕ × Pv) → PvStays n → slice_get group.pvs n ≡ Some pv
      → (now : List ℕ × Pv) × (slice_get other.pvs (pv_at n) ≡ Some now) × (now.0 ≡ pv.0)
      × (now.1.pe_count ≡ pv.1.pe_count)
  pub lv_there : (n : ℕ) (row : Row) → Stays n → slice_get group.lvs n ≡ Some row
      → (now : Row) × (slice_get other.lvs (lv_at n) ≡ Some now) × StaysAs number Segments row now
  pub lv_from : (m : ℕ) (now : Row) → slice_get other.lvs m ≡ Some now
      → WasRow group number lv_at Stays Segments m now ⊎ IsPlain now
  pub below : (run : LegRun) → Contains (runs_of group) run → Stays run.lv → OnStays PvStays Stays run.on
  pub above : (run : LegRun) (m : ℕ) → Contains (runs_of group) run → run.on ≡ on.Lv m → IsPvmove group m → Stays run.lv

-- ---- legs

-- the leg is one that stays, with no more extents
pub record WasLeg (group : Group) (number : On → On) (lv_at : ℕ → ℕ) (Stays : ℕ → Type 0) (run : LegRun) : Type 0 where
  pub was : LegRun
  pub within : Contains (runs_of group) was
  pub stays : Stays was.lv
  pub lv : lv_at was.lv ≡ run.lv
  pub segment : was.segment ≡ run.segment
  pub leg : was.leg ≡ run.leg
  pub lies : number was.on ≡ run.on
  pub first : was.first ≡ run.first
  pub count : run.count ≤ was.count

-- the leg stands in the other group, with as many extents
pub record IsThere (other : Group) (number : On → On) (lv_at : ℕ → ℕ) (run : LegRun) : Type 0 where
  pub now : LegRun
  pub within : Contains (runs_of other) now
  pub lv : lv_at run.lv ≡ now.lv
  pub lies : number run.on ≡ now.on
  pub first : run.first ≡ now.first
  pub count : run.count ≡ now.count

-- a new leg lies on a physical volume, and none of its extents is used
pub record IsNewLeg (group other : Group) (number : On → On) (run : LegRun) : Type 0 where
  pub pv : ℕ
  pub on_pv : run.on ≡ on.Pv pv
  pub within : LiesWithin other run.on (run.first + run.count)
  pub unused : (o : On) (extent : ℕ) → IsInRun (number o) extent run → IsUsed group o extent → ⊥

-- Legs are those of volumes that stay, and new ones, which lie apart. One that lies on a logical volume keeps all extents.
pub record IsEdit (group other : Group) (number : On → On) (pv_at lv_at : ℕ → ℕ) (PvStays Stays : ℕ → Type 0)
    (Segments : List Segment → List Segment → Type 0) : Type 0 where
  pub volumes : KeepsVolumes group other number pv_at lv_at PvStays Stays Segments
  pub more : List LegRun
  pub new : All (IsNewLeg group other number) more
  pub apart : AllPairs LieApart more
  pub leg_from : (run : LegRun) → Contains (runs_of other) run → WasLeg group number lv_at Stays run ⊎ Contains more run
  pub leg_there : (run : LegRun) (m : ℕ) → Contains (runs_of group) run → Stays run.lv → run.on ≡ on.Lv m
      → IsThere other number lv_at run
