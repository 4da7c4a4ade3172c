-- Laws of scans.
use Rattle.std.specs.Prelude.{◌≡◌, ◌≢◌, ◌<◌, ◌⊎◌, ◌↔◌, ◌++◌, ℕ, true, false, Option, None, Some, List, [], ◌∷◌, slice_get}
use Rattle.std.specs.List.{Contains}
use Rattle.std.specs.Option.{option_and_then}
use Rattle.meta_model.specs.declared.group.Group.{Group}
use Rattle.meta_model.specs.declared.pv.Pv.{Pv}
use Rattle.scan_rules.specs.Decision.{Area, AreaReading, EachArea, Found, FoundGroup, GivesVersion, HasShape, Held, Reading, SameHeaders}
use Rattle.scan_rules.specs.Decision.{decide_scan, gives, group_found, is_held, is_something, lists}

-- between a version of a group and the next, the next is found where a listed volume holds it
abbrev pub ScansFindNew : Type 0
ScansFindNew =
    (old : Group) (old_text : List ℕ) (new : Group) (new_text : List ℕ) (disks : List Reading) → old.id ≡ new.id → old.seqno < new.seqno
    → old_text ≢ new_text
    → EachArea (GivesVersion old old_text new new_text) disks → HasShape new disks → is_held new new_text disks ≡ true
    → group_found (decide_scan disks) ≡ Some (new, new_text)

-- and the old one where none does, and a listed volume holds the old one
abbrev pub ScansFindOld : Type 0
ScansFindOld =
    (old : Group) (old_text : List ℕ) (new : Group) (new_text : List ℕ) (disks : List Reading) → old.id ≡ new.id → old.seqno < new.seqno
    → old_text ≢ new_text
    → EachArea (GivesVersion old old_text new new_text) disks → HasShape old disks → EachArea (λ r. gives new_text r ≡ false) disks
    → is_held old old_text disks ≡ true → group_found (decide_scan disks) ≡ Some (old, old_text)

-- whether volumes lie well on their disks is decided by the headers
abbrev pub ShapeIsOfHeaders : Type 0
ShapeIsOfHeaders = (group : Group) (disks others : List Reading) → SameHeaders disks others → HasShape group disks → HasShape group others

-- the physical volume that was found on the disk with this number
abbrev pub pv_on : List Reading → ℕ → Option Found
pv_on disks disk = option_and_then (λ (reading : Reading). reading.pv) (slice_get disks disk)

-- what its area with this number gives, where it isn't ignored
abbrev pub given_in : Found → ℕ → Option AreaReading
given_in pv area = option_and_then (λ (a : Area). a.reading) (slice_get pv.areas area)

-- an area of a listed physical volume that isn't ignored and gives anything else than the copy with this text
pub record IsStale (group : Group) (text : List ℕ) (disks : List Reading) (disk area : ℕ) : Type 0 where
  pub pv : Found
  pub given : AreaReading
  pub on_disk : pv_on disks disk ≡ Some pv
  pub is_listed : lists group pv.id ≡ true
  pub in_area : given_in pv area ≡ Some given
  pub differs : gives text given ≡ false

-- a disk whose physical volume isn't listed, and an area of it gives something
pub record IsStray (group : Group) (disks : List Reading) (disk : ℕ) : Type 0 where
  pub pv : Found
  pub area : ℕ
  pub given : AreaReading
  pub on_disk : pv_on disks disk ≡ Some pv
  pub is_unlisted : lists group pv.id ≡ false
  pub in_area : given_in pv area ≡ Some given
  pub is_there : is_something given ≡ true

-- the id of a physical volume of the group that is flagged as missing or is on none of the disks
pub record IsMissing (group : Group) (disks : List Reading) (id : List ℕ) : Type 0 where
  pub entry : List ℕ × Pv
  pub in_group : Contains group.pvs entry
  pub has_id : entry.1.id ≡ id
  pub is_away : (entry.1.missing ≡ true) ⊎ ((disk : ℕ) (pv : Found) → pv_on disks disk ≡ Some pv → pv.id ≢ id)

-- of a group that was found, the stale areas are just these
abbrev pub StaleIsExact : Type 0
StaleIsExact =
    (disks : List Reading) (held : Held) (stale : List (ℕ × ℕ)) (strays : List ℕ) (missing : List (List ℕ))
    → decide_scan disks ≡ FoundGroup held stale strays missing
    → (disk area : ℕ) → Contains stale (disk, area) ↔ IsStale held.group held.text disks disk area

-- the strays are just these
abbrev pub StraysAreExact : Type 0
StraysAreExact =
    (disks : List Reading) (held : Held) (stale : List (ℕ × ℕ)) (strays : List ℕ) (missing : List (List ℕ))
    → decide_scan disks ≡ FoundGroup held stale strays missing
    → (disk : ℕ) → Contains strays disk ↔ IsStray held.group disks disk

-- the missing ids are just these
abbrev pub MissingIsExact : Type 0
MissingIsExact =
    (disks : List Reading) (held : Held) (stale : List (ℕ × ℕ)) (strays : List ℕ) (missing : List (List ℕ))
    → decide_scan disks ≡ FoundGroup held stale strays missing
    → (id : List ℕ) → Contains missing id ↔ IsMissing held.group disks id

-- a disk more on which no physical volume was found changes nothing
abbrev pub SilentDisksChangeNothing : Type 0
SilentDisksChangeNothing = (disks : List Reading) (disk : Reading) → disk.pv ≡ None → decide_scan (disks ++ disk ∷ []) ≡ decide_scan disks
