-- What is known of disks that were looked at.
use Rattle.std.specs.Prelude.{◌≡◌, ℕ, Bool, true, false, if◌then◌else◌, List, slice_index_or, All, Contains, Option, Some, None}
use Rattle.sector_base.specs.declared.spans.Span.{Span}
use Rattle.disk_model.specs.Idle.{IsIdleAgain}
use Rattle.disk_model.specs.Since.{BetweenRecords, OnlyReads}
use Rattle.disk_model.specs.State.{State}
use Rattle.disk_model.specs.Steps.{Image, Record}
use Rattle.disk_contents.specs.declared.contents.PvFound.{PvFound}
use Rattle.disk_contents.specs.declared.contents.PvFound.TheVariants.{NoLabel, NoHeader, Whole}
use Rattle.disk_contents.specs.Contents.{IsFound}
use Rattle.disk_signature.specs.declared.kind.Kind.{Kind}
use Rattle.disk_use.specs.declared.in_use.InUse.{InUse}
use Rattle.disk_use.specs.declared.in_use.Shown.{Shown}
use Rattle.disk_use.specs.declared.in_use.Shown.TheVariants.{Free, Marked, Used}
use Rattle.disk_use.specs.declared.in_use.Use.TheVariants.{Header, Signature}
use Rattle.disk_use.specs.Uses.{IsFree, IsOfGroup, IsUsedBy, is_marked}

-- some spans were read, and nothing else was done
abbrev pub ReadsSome : Record → Record → Type 0
ReadsSome old new = (spans : List Span) × OnlyReads old spans new

-- the disks were read, and nothing is in flight
pub record LooksOnly (old new : State) : Type 0 where
  pub told : BetweenRecords ReadsSome old.told new.told
  pub again : IsIdleAgain old new

-- ---- one disk

-- its first signature is looked for: it has no label, and a physical volume is to be made of it
abbrev pub is_wanted : Bool → PvFound → Bool
is_wanted new (NoLabel refusal) = new
is_wanted new _ = false

-- what the first signature shows
abbrev pub shown_by : Option Kind → Shown
shown_by None = Free
shown_by (Some kind) = Used (Signature kind)

-- what the disk itself shows, by what stands there, and its first signature where it has no label
abbrev pub shown_of : Bool → PvFound → Option Kind → Shown
shown_of new (NoLabel refusal) kind = if new then shown_by kind else Free
shown_of new (NoHeader label refusal) kind = if new then Used Header else Free
shown_of new (Whole label header areas) kind = if is_marked header then Marked else Free

-- what stands on the disk is marked
abbrev pub IsMarkedWith : PvFound → Type 0
IsMarkedWith (Whole label header areas) = is_marked header ≡ true
IsMarkedWith _ = ⊥

-- the disk's label says that a group uses it
pub record IsMarked (image : Image) (sizes : List ℕ) (pv : ℕ) : Type 0 where
  pub contents : PvFound
  pub found : IsFound (image pv) (slice_index_or sizes pv 0) contents
  pub marked : IsMarkedWith contents

-- what the disk itself shows is so
abbrev pub IsShown : Bool → Image → List ℕ → ℕ → Shown → Type 0
IsShown new image sizes pv Free = IsFree new image sizes pv
IsShown new image sizes pv Marked = IsMarked image sizes pv
IsShown new image sizes pv (Used use_is) = IsUsedBy new image sizes pv use_is

-- the same of a disk on which this stands
abbrev pub IsShownWith : Bool → Image → List ℕ → ℕ → PvFound → Shown → Type 0
IsShownWith new image sizes pv contents shown = IsFound (image pv) (slice_index_or sizes pv 0) contents → IsShown new image sizes pv shown

-- ---- several disks

-- of the disks that were taken none is in use by what it shows, but these are marked; where a group is found of these, all are free
abbrev pub AreFreeBut : Bool → Image → List ℕ → List ℕ → List ℕ → Type 0
AreFreeBut new image sizes marked taken =
    All (IsMarked image sizes) marked × (All (IsOfGroup image sizes) marked → All (IsFree new image sizes) taken)

-- the disk is one of these, and in use so
abbrev pub IsFirstUse : Bool → Image → List ℕ → List ℕ → InUse → Type 0
IsFirstUse new image sizes taken found = Contains taken found.pv × IsUsedBy new image sizes found.pv found.by
