-- Whether a disk is in use, by its sectors and by what a scan of all disks finds.
use Rattle.std.specs.Prelude.{◌≡◌, ◌≢◌, ◌⊎◌, ℕ, ◌%◌, Bool, true, false, ◌==◌, List, slice_index_or, Contains, Some, None}
use Rattle.std.specs.FinSet as set
use Rattle.disk_model.specs.Steps.{Image}
use Rattle.pv_header.specs.declared.header.PvHeader.{PvHeader}
use Rattle.disk_contents.specs.declared.contents.PvFound.{PvFound}
use Rattle.disk_contents.specs.declared.contents.PvFound.TheVariants.{NoLabel, NoHeader, Whole}
use Rattle.disk_contents.specs.Contents.{IsFound}
use Rattle.disk_signature.specs.Signatures.{first_kind}
use Rattle.meta_model.specs.declared.group.Group.{Group}
use Rattle.scan_rules.specs.declared.decision.ScanRefusal.{ScanRefusal}
use Rattle.scan_rules.specs.declared.decision.ScanRefusal.TheVariants.{NoMemory}
use Rattle.vg_found.specs.declared.found.Found.{Found}
use Rattle.vg_found.specs.Shape.{HasShape}
use Rattle.vg_scan.specs.Scans.{IsRefusalOfScan, IsScanOf}
use Rattle.disk_use.specs.declared.in_use.Use.{Use}
use Rattle.disk_use.specs.declared.in_use.Use.TheVariants as by

-- the label says that a group uses the disk: the lowest flag of the header's extension, PV_EXT_USED of lvm2's on-disk format
abbrev pub is_marked : PvHeader → Bool
is_marked header = header.flags % 2 == 1

-- the group that was found lists the disk, or the disk holds something of a group and isn't listed by it
abbrev pub IsAmong : Found → ℕ → Type 0
IsAmong found pv = (group : Group) × (found.group ≡ Some group) × (Contains found.disk_of pv ⊎ (set.contains found.strays pv ≡ true))

-- a scan of the disks, each of them read, finds a group that lists the disk, or whose stray it is
pub record IsOfGroup (image : Image) (sizes : List ℕ) (pv : ℕ) : Type 0 where
  pub found : Found
  pub scan : IsScanOf image sizes found
  pub read : found.unread ≡ set.empty
  pub shape : HasShape found
  pub of : IsAmong found pv

-- a scan of the disks, each of them read, is refused, or finds no group that lists the disk or whose stray it is
pub data IsOfNone (image : Image) (sizes : List ℕ) (pv : ℕ) : Type 0 where
  refused : (refusal : ScanRefusal) → IsRefusalOfScan image sizes set.empty refusal → refusal ≢ NoMemory → IsOfNone image sizes pv
  unlisted : (found : Found) → IsScanOf image sizes found → found.unread ≡ set.empty → HasShape found → ¬ IsAmong found pv
      → IsOfNone image sizes pv

-- nothing that is in use is lost where a request takes a disk on which this stands
abbrev pub IsFreeWith : Bool → Image → List ℕ → ℕ → PvFound → Type 0
IsFreeWith new image sizes pv (NoLabel refusal) = new ≡ true → first_kind (image pv) (slice_index_or sizes pv 0) ≡ None
IsFreeWith new image sizes pv (NoHeader label refusal) = new ≡ false
IsFreeWith new image sizes pv (Whole label header areas) = is_marked header ≡ true → IsOfGroup image sizes pv

-- nothing that is in use is lost where a request takes the disk
pub record IsFree (new : Bool) (image : Image) (sizes : List ℕ) (pv : ℕ) : Type 0 where
  pub contents : PvFound
  pub found : IsFound (image pv) (slice_index_or sizes pv 0) contents
  pub free : IsFreeWith new image sizes pv contents

-- why a request doesn't take a disk on which this stands
abbrev pub IsUseOf : Bool → Image → List ℕ → ℕ → PvFound → Use → Type 0
IsUseOf new image sizes pv (Whole label header areas) by.Group = (is_marked header ≡ true) × IsOfNone image sizes pv
IsUseOf new image sizes pv (NoHeader label refusal) by.Header = new ≡ true
IsUseOf new image sizes pv (NoLabel refusal) (by.Signature kind) = (new ≡ true) ×
    (first_kind (image pv) (slice_index_or sizes pv 0) ≡ Some kind)
IsUseOf new image sizes pv _ _ = ⊥

-- why a request doesn't take the disk
pub record IsUsedBy (new : Bool) (image : Image) (sizes : List ℕ) (pv : ℕ) (use_is : Use) : Type 0 where
  pub contents : PvFound
  pub found : IsFound (image pv) (slice_index_or sizes pv 0) contents
  pub cause : IsUseOf new image sizes pv contents use_is
