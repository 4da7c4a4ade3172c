-- What a scan of disks finds: the readings of their metadata areas, and the answer that they give.
use Rattle.std.specs.Prelude.{◌≡◌, ◌≢◌, ◌<◌, ◌⊎◌, ℕ, ◌+◌, ◌*◌, Bool, true, false, not, ◌&&◌, ◌||◌, ◌==◌, nat_le, nat_lt, if◌then◌else◌}
use Rattle.std.specs.Prelude.{Option, None, Some, List, [], ◌∷◌, ◌++◌, map, filter, filter_map, find, option_map, unwrap_or}
use Rattle.std.specs.Option.{option_and_then}
use Rattle.std.specs.List.{AllByRecursion, enumerate_from, flat_map, list_any}
use Rattle.std.specs.Str.{bytes_eq}
use Rattle.meta_model.specs.declared.group.Group.{Group}
use Rattle.meta_model.specs.declared.pv.Pv.{Pv}
use Rattle.scan_rules.specs.declared.copy_refusal.CopyRefusal.{CopyRefusal}
use Rattle.scan_rules.specs.declared.copy_refusal.CopyRefusal.TheVariants.{HeaderRefused, SumDiffers, TextRefused, GroupRefused, RuleBroken}

-- whether the text of a refused area agrees with its checksum
abbrev pub sum_agrees : CopyRefusal → Bool
sum_agrees (HeaderRefused refusal) = false
sum_agrees (SumDiffers said found) = false
sum_agrees (TextRefused refusal) = true
sum_agrees (GroupRefused refusal) = true
sum_agrees (RuleBroken rule) = true

-- what an area gives: nothing, an accepted copy with its text and the paths of keys that were passed over, or a refusal
pub data AreaReading : Type 0 where
  HoldsNone : AreaReading
  Copy : Group → List ℕ → List (List ℕ) → AreaReading
  Refused : CopyRefusal → AreaReading

-- a metadata area of a disk in sectors; what an area that is ignored gives is not read
pub record Area : Type 0 where
  pub start : ℕ
  pub sectors : ℕ
  pub reading : Option AreaReading

-- a physical volume that was found: its id and its metadata areas
pub record Found : Type 0 where
  pub id : List ℕ
  pub areas : List Area

-- a disk: how many sectors it has, and what was found there
pub record Reading : Type 0 where
  pub sectors : ℕ
  pub pv : Option Found

-- a copy, and the disk that holds it
pub record Held : Type 0 where
  pub disk : ℕ
  pub group : Group
  pub text : List ℕ
  pub passed : List (List ℕ)

-- what a scan answers
pub data ScanAnswer : Type 0 where
  DuplicatePv : ℕ → ℕ → ScanAnswer
  NoCopy : List (ℕ × CopyRefusal) → ScanAnswer
  Unsupported : ℕ → ScanAnswer
  TwoGroups : List ℕ → List ℕ → ScanAnswer
  Conflict : ℕ → ℕ → ℕ → ScanAnswer
  PvShape : ℕ → ScanAnswer
  NoGroup : ScanAnswer
  -- the copy, the stale areas by disk and number, the strays, and the ids that are missing
  FoundGroup : Held → List (ℕ × ℕ) → List ℕ → List (List ℕ) → ScanAnswer

-- the copy that an area of this disk gives, if it gives one
abbrev pub copy_of : ℕ → AreaReading → Option Held
copy_of disk HoldsNone = None
copy_of disk (Copy group text passed) = Some (record { disk = disk; group = group; text = text; passed = passed })
copy_of disk (Refused why) = None

-- why an area of this disk is refused, if it is
abbrev pub refusal_of : ℕ → AreaReading → Option (ℕ × CopyRefusal)
refusal_of disk HoldsNone = None
refusal_of disk (Copy group text passed) = None
refusal_of disk (Refused why) = Some (disk, why)

-- the areas of a disk that are not ignored, each as it reads
abbrev pub readings_in : Reading → List AreaReading
readings_in reading = unwrap_or (option_map (λ (pv : Found). filter_map (λ (area : Area). area.reading) pv.areas) reading.pv) []

-- the accepted copies, and the refused areas, in the order of the disks and of their areas
abbrev pub copies_from : ℕ → List Reading → List Held
copies_from disk [] = []
copies_from disk (reading ∷ more) = filter_map (copy_of disk) (readings_in reading) ++ copies_from (disk + 1) more

-- the same of refused areas, where the first disk has this number
abbrev pub refusals_from : ℕ → List Reading → List (ℕ × CopyRefusal)
refusals_from disk [] = []
refusals_from disk (reading ∷ more) = filter_map (refusal_of disk) (readings_in reading) ++ refusals_from (disk + 1) more

-- the accepted copies of all disks
unfoldable pub copies : List Reading → List Held
copies disks = copies_from 0 disks

-- their refused areas
unfoldable pub refusals : List Reading → List (ℕ × CopyRefusal)
refusals disks = refusals_from 0 disks

-- the disks on which a physical volume was found, with its id
abbrev pub ids_from : ℕ → List Reading → List (ℕ × List ℕ)
ids_from disk [] = []
ids_from disk (reading ∷ more) =
    unwrap_or (option_map (λ (pv : Found). (disk, pv.id) ∷ ids_from (disk + 1) more) reading.pv) (ids_from (disk + 1) more)

-- the first two with one id
abbrev pub first_duplicate : List (ℕ × List ℕ) → Option (ℕ × ℕ)
first_duplicate [] = None
first_duplicate (one ∷ more) =
    unwrap_or (option_map (λ (other : ℕ × List ℕ). Some (one.0, other.0)) (find (λ (other : ℕ × List ℕ). bytes_eq one.1 other.1) more))
    (first_duplicate more)

-- the first of the copies with the greatest sequence number
abbrev pub greater : Held → Option Held → Held
greater copy None = copy
greater copy (Some other) = if nat_le other.group.seqno copy.group.seqno then copy else other

-- the first copy with the greatest sequence number
abbrev pub best : List Held → Option Held
best [] = None
best (copy ∷ more) = Some (greater copy (best more))

-- whether the group lists a physical volume with this id
abbrev pub lists : Group → List ℕ → Bool
lists group id = list_any (λ (pv : List ℕ × Pv). bytes_eq pv.1.id id) group.pvs

-- whether it lists the physical volume on the disk
abbrev pub is_listed : Group → Reading → Bool
is_listed group reading = unwrap_or (option_map (λ (pv : Found). lists group pv.id) reading.pv) false

-- whether a run of sectors meets the area
abbrev pub meets_area : ℕ → ℕ → Area → Bool
meets_area start end area = nat_lt start (area.start + area.sectors) && nat_lt area.start end

-- whether a run of sectors, where it has any, leaves this disk, or meets sectors 0 to 7 or an area
abbrev pub is_misplaced : ℕ → ℕ → Reading → Found → Bool
is_misplaced start end disk found =
    nat_lt start end && (nat_lt disk.sectors end || (nat_lt start 8 || list_any (meets_area start end) found.areas))

-- whether the extents of the disk's physical volume in the group do
abbrev pub has_misplaced : Group → Reading → Bool
has_misplaced group disk =
    unwrap_or
    (option_map
    (λ (found : Found).
    list_any (λ (pv : List ℕ × Pv). bytes_eq pv.1.id found.id
    && is_misplaced pv.1.pe_start (pv.1.pe_start + pv.1.pe_count * group.extent_size) disk found) group.pvs)
    disk.pv)
    false

-- ---- the tests, in their order

-- two disks with one id
abbrev pub duplicates : List Reading → Option ScanAnswer
duplicates disks = option_map (λ (pair : ℕ × ℕ). DuplicatePv pair.0 pair.1) (first_duplicate (ids_from 0 disks))

-- no copy, and an area was refused
abbrev pub no_copy : List Held → List (ℕ × CopyRefusal) → Option ScanAnswer
no_copy [] [] = None
no_copy [] (r ∷ rs) = Some (NoCopy (r ∷ rs))
no_copy (c ∷ cs) rs = None

-- a copy, and a refused text that agrees with its checksum
abbrev pub unsupported : List Held → List (ℕ × CopyRefusal) → Option ScanAnswer
unsupported [] rs = None
unsupported (c ∷ cs) rs = option_map (λ (r : ℕ × CopyRefusal). Unsupported r.0) (find (λ (r : ℕ × CopyRefusal). sum_agrees r.1) rs)

-- copies of two groups
abbrev pub two_groups : List Held → Option ScanAnswer
two_groups [] = None
two_groups (c ∷ cs) =
    option_map (λ (d : Held). TwoGroups c.group.id d.group.id) (find (λ (d : Held). not (bytes_eq d.group.id c.group.id)) cs)

-- two copies with the greatest sequence number whose texts differ
abbrev pub conflict : List Held → Option ScanAnswer
conflict cs =
    option_and_then
    (λ (b : Held).
    option_map (λ (d : Held). Conflict b.disk d.disk b.group.seqno)
    (find (λ (d : Held). d.group.seqno == b.group.seqno && not (bytes_eq d.text b.text)) cs))
    (best cs)

-- the disks, numbered
abbrev pub numbered : List Reading → List (ℕ × Reading)
numbered disks = enumerate_from 0 disks

-- whether an area reads as a copy with this text
abbrev pub gives : List ℕ → AreaReading → Bool
gives text HoldsNone = false
gives text (Copy group other passed) = bytes_eq other text
gives text (Refused why) = false

-- whether an area of the disk that isn't ignored gives it
abbrev pub holds : List ℕ → Reading → Bool
holds text disk = list_any (gives text) (readings_in disk)

-- the first disk on which a physical volume of the group doesn't lie well
abbrev pub first_misplaced : Group → List Reading → Option ℕ
first_misplaced group disks = option_map (λ (d : ℕ × Reading). d.0) (find (λ (d : ℕ × Reading). has_misplaced group d.1) (numbered disks))

-- whether a disk that the group lists holds its copy
abbrev pub is_held : Group → List ℕ → List Reading → Bool
is_held group text disks = list_any (λ (d : Reading). is_listed group d && holds text d) disks

-- by this copy, a volume doesn't lie well, or no listed disk holds it
abbrev pub misshapen_by : Held → List Reading → Option ScanAnswer
misshapen_by b disks =
    unwrap_or
    (option_map (λ (disk : ℕ). Some (PvShape disk)) (first_misplaced b.group disks))
    (if is_held b.group b.text disks then None else Some (PvShape b.disk))

-- the same by the best copy
abbrev pub misshapen : List Held → List Reading → Option ScanAnswer
misshapen cs disks = option_and_then (λ (b : Held). misshapen_by b disks) (best cs)

-- the areas of a disk that aren't ignored and give anything else than the copy, by disk and number
abbrev pub stale_in : List ℕ → ℕ × Reading → List (ℕ × ℕ)
stale_in text disk =
    unwrap_or
    (option_map
    (λ (pv : Found).
    filter_map
    (λ (area : ℕ × Area). option_and_then (λ (r : AreaReading). if gives text r then None else Some (disk.0, area.0)) area.1.reading)
    (enumerate_from 0 pv.areas))
    disk.1.pv)
    []

-- whether an area gives a copy or is refused
abbrev pub is_something : AreaReading → Bool
is_something HoldsNone = false
is_something (Copy group text passed) = true
is_something (Refused why) = true

-- whether the disk has the physical volume with this id
abbrev pub has_id : List ℕ → Reading → Bool
has_id id disk = unwrap_or (option_map (λ (pv : Found). bytes_eq pv.id id) disk.pv) false

-- what is found with this copy: stale areas of listed disks, strays, and physical volumes that are missing
abbrev pub found_with : List Reading → Held → ScanAnswer
found_with disks b =
    FoundGroup b
    (flat_map (λ (d : ℕ × Reading). if is_listed b.group d.1 then stale_in b.text d else []) (numbered disks))
    (filter_map (λ (d : ℕ × Reading). if not (is_listed b.group d.1) && list_any is_something (readings_in d.1) then Some d.0 else None)
    (numbered disks))
    (map (λ (pv : List ℕ × Pv). pv.1.id) (filter
    (λ (pv : List ℕ × Pv). pv.1.missing || not (list_any (λ (d : Reading). has_id pv.1.id d) disks)) b.group.pvs))

-- the group that is found, or none
abbrev pub found : List Held → List Reading → ScanAnswer
found cs disks = unwrap_or (option_map (found_with disks) (best cs)) NoGroup

-- the answer: the first test that holds, or else what was found
unfoldable pub decide_scan : List Reading → ScanAnswer
decide_scan disks =
    let cs : List Held = copies disks in
    let rs : List (ℕ × CopyRefusal) = refusals disks in
    unwrap_or (duplicates disks)
    (unwrap_or (no_copy cs rs)
    (unwrap_or (unsupported cs rs)
    (unwrap_or (two_groups cs)
    (unwrap_or (conflict cs)
    (unwrap_or (misshapen cs disks)
    (found cs disks))))))

-- the group and text that an answer has
abbrev pub group_found : ScanAnswer → Option (Group × List ℕ)
group_found (FoundGroup held stale strays missing) = Some (held.group, held.text)
group_found (DuplicatePv a b) = None
group_found (NoCopy rs) = None
group_found (Unsupported pv) = None
group_found (TwoGroups a b) = None
group_found (Conflict a b seqno) = None
group_found (PvShape pv) = None
group_found NoGroup = None

-- what an area may give beside this group of this text: nothing, the same, an older copy of the group, or a refusal of
-- header or checksum
abbrev pub GivesNoLater : Group → List ℕ → AreaReading → Type 0
GivesNoLater group text HoldsNone = Unit {0}
GivesNoLater group text (Copy other others passed) =
    (other.id ≡ group.id) × (((other ≡ group) × (others ≡ text)) ⊎ ((other.seqno < group.seqno) × (others ≢ text)))
GivesNoLater group text (Refused why) = sum_agrees why ≡ false

-- each area of each disk does
abbrev pub EachArea : (AreaReading → Type 0) → List Reading → Type 0
EachArea P [] = Unit {0}
EachArea P (disk ∷ disks) = AllByRecursion P (readings_in disk) × EachArea P disks

-- during a commit from one version of a group to the next: an area gives nothing, the old text, the new one, or an older one
abbrev pub GivesVersion : Group → List ℕ → Group → List ℕ → AreaReading → Type 0
GivesVersion old old_text new new_text HoldsNone = Unit {0}
GivesVersion old old_text new new_text (Copy other others passed) =
    ((other ≡ old) × (others ≡ old_text)) ⊎ (((other ≡ new) × (others ≡ new_text))
    ⊎ ((other.id ≡ old.id) × (other.seqno < old.seqno) × (others ≢ old_text) × (others ≢ new_text)))
GivesVersion old old_text new new_text (Refused why) = ⊥

-- no physical volume was found twice, and each that the group lists lies on its disk
pub record HasShape (group : Group) (disks : List Reading) : Type 0 where
  pub apart : first_duplicate (ids_from 0 disks) ≡ None
  pub placed : first_misplaced group disks ≡ None

-- the same disks, where only what the areas give may differ
abbrev pub SameAreas : List Area → List Area → Type 0
SameAreas [] [] = Unit {0}
SameAreas [] (b ∷ bs) = ⊥
SameAreas (a ∷ as') [] = ⊥
SameAreas (a ∷ as') (b ∷ bs) = (a.start ≡ b.start) × (a.sectors ≡ b.sectors) × SameAreas as' bs

-- the same physical volume, where only what its areas give may differ
abbrev pub SamePv : Option Found → Option Found → Type 0
SamePv None None = Unit {0}
SamePv None (Some b) = ⊥
SamePv (Some a) None = ⊥
SamePv (Some a) (Some b) = (a.id ≡ b.id) × SameAreas a.areas b.areas

-- the same of all disks
abbrev pub SameHeaders : List Reading → List Reading → Type 0
SameHeaders [] [] = Unit {0}
SameHeaders [] (b ∷ bs) = ⊥
SameHeaders (a ∷ as') [] = ⊥
SameHeaders (a ∷ as') (b ∷ bs) = (a.sectors ≡ b.sectors) × SamePv a.pv b.pv × SameHeaders as' bs
