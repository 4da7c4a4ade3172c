-- A base on which nothing is stale or stray: what each area gives there.
use Rattle.std.proofs.Common.{◌≡◌, ◌≢◌, ◌<◌, ℕ, ◌+◌, Bool, true, false, ◌||◌, List, [], ◌∷◌, Option, Some, None, Result, Ok, inr, refl, sym}
use Rattle.std.proofs.Common.{ap, subst, ◌∙◌, arith}
use Rattle.std.specs.Prelude.{nat_eq}
use Rattle.std.specs.FinSet as set
use Rattle.std.specs.List.{list_any}
use Rattle.std.specs.Ordering.{nat_cmp}
use Rattle.std.proofs.lemmas.Bool.{eq-eqb, true≢false}
use Rattle.conf_text.proofs.Causes.{one_tree}
use Rattle.disk_model.specs.Steps.{Image}
use Rattle.mda_header.specs.declared.entry.HeaderEntry.{HeaderEntry}
use Rattle.mda_header.specs.declared.entry.HeaderEntry.TheVariants.{Ignored, Nothing, Text, Refused as RefusedFor}
use Rattle.mda_header.specs.declared.header.Locn.{Locn}
use Rattle.mda_ring.specs.declared.area.Area.{Area}
use Rattle.meta_model.specs.Standing.{HasTree, group_of}
use Rattle.meta_model.specs.declared.group.Group.{Group}
use Rattle.meta_model.specs.declared.refusal.GroupRefusal.{GroupRefusal}
use Rattle.disk_contents.specs.declared.contents.AreaFound.{AreaFound}
use Rattle.disk_contents.specs.declared.contents.PvFound.{PvFound}
use Rattle.disk_contents.specs.declared.contents.PvFound.TheVariants.{NoLabel, NoHeader, Whole}
use Rattle.disk_contents.specs.Standing.{area_on}
use Rattle.scan_rules.specs.Decision.{Area as AreaOf, AreaReading, Conflict, Copy, DuplicatePv, Found as PvOf, FoundGroup, GivesNoLater}
use Rattle.scan_rules.specs.Decision.{Held, HoldsNone, NoCopy, NoGroup, PvShape, Reading, Refused, ScanAnswer, TwoGroups, Unsupported}
use Rattle.scan_rules.specs.Decision.{decide_scan, is_listed}
use Rattle.scan_rules.proofs.Scanning.{same_bytes_tells}
use Rattle.vg_found.specs.declared.disk.Disk.{Disk}
use Rattle.vg_found.specs.declared.found.Found.{Found}
use Rattle.vg_scan.specs.Readings.{AreAreaReadings, AreDiskReadings, IsGiven, IsPvReading}
use Rattle.vg_scan.specs.Scans.{IsFoundBy}
use Rattle.vg_scan.specs.Texts.{IsCopyOf, IsStored, stored_bytes}
use Rattle.image_scans.proofs.AreaAgain.{NotRefused}
use Rattle.image_scans.proofs.Decided.{HasNothing, IsFoundWith, found_parts, none_parts}
use Rattle.image_scans.proofs.AreaReadings.{AreasGive, CopyHas, DisksGive, GivenHas, IsNone, IsSettled, PvGives, best_copy_has, disks_both}
use Rattle.image_scans.proofs.AreaReadings.{disks_weaker, nothing_given, settled}

-- ---- each copy is that of its text

abbrev pub IsItsCopy : Group → List ℕ → List (List ℕ) → Type 0
IsItsCopy group text passed = IsCopyOf text group passed

copy_stored : (locn : Locn) (bytes : List ℕ) (given : AreaReading) → IsStored locn bytes given → CopyHas IsItsCopy given
copy_stored locn bytes HoldsNone is = tt
copy_stored locn bytes (Copy group text passed) is = is.1
copy_stored locn bytes (Refused why) is = tt

copy_given : (sector_at : ℕ → List ℕ) (area : Area) (entry : HeaderEntry) (reading : Option AreaReading)
    → IsGiven sector_at area entry reading → GivenHas (CopyHas IsItsCopy) reading
copy_given sector_at area Ignored reading is = subst (GivenHas (CopyHas IsItsCopy)) (sym is) tt
copy_given sector_at area Nothing reading is = subst (GivenHas (CopyHas IsItsCopy)) (sym is) tt
copy_given sector_at area (Text locn) reading is =
    subst (GivenHas (CopyHas IsItsCopy)) (sym is.1) (copy_stored locn (stored_bytes sector_at area locn) is.0 is.2)
copy_given sector_at area (RefusedFor refusal) reading is = subst (GivenHas (CopyHas IsItsCopy)) (sym is) tt

copy_areas : (pv : ℕ) (sector_at : ℕ → List ℕ) (founds : List AreaFound) (areas : List AreaOf) → AreAreaReadings pv sector_at founds areas
    → AreasGive (CopyHas IsItsCopy) areas
copy_areas pv sector_at [] [] are = tt
copy_areas pv sector_at [] (area ∷ areas) are = absurd are
copy_areas pv sector_at (found ∷ founds) [] are = absurd are
copy_areas pv sector_at (found ∷ founds) (area ∷ areas) are =
    (copy_given sector_at (area_on pv found.area) found.entry area.reading are.0.given, copy_areas pv sector_at founds areas are.1)

copy_pv : (pv : ℕ) (sector_at : ℕ → List ℕ) (contents : Option PvFound) (read : Option PvOf) → IsPvReading pv sector_at contents read
    → PvGives (CopyHas IsItsCopy) read
copy_pv pv sector_at None read is = subst (PvGives (CopyHas IsItsCopy)) (sym is) tt
copy_pv pv sector_at (Some (NoLabel refusal)) read is = subst (PvGives (CopyHas IsItsCopy)) (sym is) tt
copy_pv pv sector_at (Some (NoHeader label refusal)) read is = subst (PvGives (CopyHas IsItsCopy)) (sym is) tt
copy_pv pv sector_at (Some (Whole label header areas)) None is = absurd is
copy_pv pv sector_at (Some (Whole label header areas)) (Some own) is = copy_areas pv sector_at areas own.areas is.1

pub copies_are : (image : Image) (unread : set.FinSet nat_cmp) (first : ℕ) (disks : List Disk) (readings : List Reading)
    → AreDiskReadings image unread first disks readings → DisksGive (λ disk. CopyHas IsItsCopy) readings
copies_are image unread first [] [] are = tt
copies_are image unread first [] (reading ∷ readings) are = absurd are
copies_are image unread first (disk ∷ disks) [] are = absurd are
copies_are image unread first (disk ∷ disks) (reading ∷ readings) are =
    (copy_pv first (image first) disk.contents reading.pv are.1.pv_is, copies_are image unread (first + 1) disks readings are.2)

-- a text is a copy of one group
pub one_copy : (text : List ℕ) (a b : Group) (p q : List (List ℕ)) → IsCopyOf text a p → IsCopyOf text b q → a ≡ b
one_copy text a b p q is is' =
    let tree : is.tree ≡ is'.tree = one_tree text is.tree is'.tree is.is_text is'.is_text in
    let both : ◌≡◌ {A = Result Group GroupRefusal} (Ok a) (Ok b) = sym is.stands ∙ ap group_of tree ∙ is'.stands in
    cc

-- ---- nothing but the copy that was found

-- an area gives nothing, or the copy
abbrev pub IsNoneOr : Group → List ℕ → AreaReading → Type 0
IsNoneOr group text HoldsNone = Unit {0}
IsNoneOr group text (Copy other others passed) = (other ≡ group) × (others ≡ text)
IsNoneOr group text (Refused why) = ⊥

none_or : (group : Group) (text : List ℕ) (passed : List (List ℕ)) → IsCopyOf text group passed → (disk : Reading) (r : AreaReading)
    → IsSettled group text disk r × CopyHas IsItsCopy r → (b : Bool) → is_listed group disk ≡ b → IsNoneOr group text r
none_or group text passed copy disk HoldsNone is b listed = tt
none_or group text passed copy disk (Copy other others more) is true listed =
    let same : others ≡ text = same_bytes_tells others text (is.0.0 listed) in
    (one_copy text other group more passed (subst (λ (t : List ℕ). IsCopyOf t other more) same is.1) copy, same)
none_or group text passed copy disk (Copy other others more) is false listed = absurd (true≢false (is.0.1 listed))
none_or group text passed copy disk (Refused why) is true listed = absurd (true≢false (sym (is.0.0 listed)))
none_or group text passed copy disk (Refused why) is false listed = absurd (true≢false (is.0.1 listed))

-- what a settled scan tells of the readings
pub data IsSettledScan (readings : List Reading) (found : Found) : Type 0 where
  settled_none : HasNothing readings → found.group ≡ None → DisksGive (λ disk. IsNone) readings → IsSettledScan readings found
  settled_some : (held : Held) → IsFoundWith readings held [] [] found.missing → found.group ≡ Some held.group
      → IsCopyOf held.text held.group held.passed
      → DisksGive (λ disk. IsNoneOr held.group held.text) readings → DisksGive (IsSettled held.group held.text) readings
      → IsSettledScan readings found

no_strays : (strays : List ℕ) → set.from_list {R = nat_cmp} strays ≡ set.empty → strays ≡ []
no_strays [] is = refl
no_strays (stray ∷ strays) is =
    absurd
    (true≢false
    (sym (ap (λ (b : Bool). b || list_any (λ y. nat_eq y stray) strays) (eq-eqb stray stray refl))
    ∙ sym (set.contains-from_list_nat (stray ∷ strays) stray) ∙ ap (λ (s : set.FinSet nat_cmp). set.contains s stray) is
    ∙ set.contains-empty nat_cmp stray))

by_answer : (readings : List Reading) (found : Found) → DisksGive (λ disk. CopyHas IsItsCopy) readings → found.stale ≡ []
    → found.strays ≡ set.empty → (answer : ScanAnswer) → decide_scan readings ≡ answer → IsFoundBy answer found
    → IsSettledScan readings found
by_answer readings found copies stale strays NoGroup is by =
    let parts : HasNothing readings = none_parts readings is in settled_none parts by.0 (nothing_given readings parts)
by_answer readings found copies stale strays (FoundGroup held stale_list stray_list missing) is by =
    let none : stale_list ≡ [] = sym by.3 ∙ stale in
    let none' : stray_list ≡ [] = no_strays stray_list (sym by.4 ∙ strays) in
    let parts : IsFoundWith readings held [] [] found.missing =
    found_parts readings held [] [] found.missing (is ∙ (λ i. FoundGroup held (none i) (none' i) (sym by.5 i)))
    in
    let text_copy : IsCopyOf held.text held.group held.passed = best_copy_has IsItsCopy readings copies held parts.best_is in
    let all : DisksGive (IsSettled held.group held.text) readings =
    settled held.group held.text readings parts.stale_are parts.strays_are in
    settled_some held parts by.0 text_copy
    (disks_weaker (λ disk r. IsSettled held.group held.text disk r × CopyHas IsItsCopy r) (λ disk. IsNoneOr held.group held.text)
    (λ disk r has. none_or held.group held.text held.passed text_copy disk r has (is_listed held.group disk) refl) readings
    (disks_both (IsSettled held.group held.text) (λ disk. CopyHas IsItsCopy) readings all copies))
    all
by_answer readings found copies stale strays (DuplicatePv a b) is by = absurd by
by_answer readings found copies stale strays (NoCopy rs) is by = absurd by
by_answer readings found copies stale strays (Unsupported pv) is by = absurd by
by_answer readings found copies stale strays (TwoGroups a b) is by = absurd by
by_answer readings found copies stale strays (Conflict a b seqno) is by = absurd by
by_answer readings found copies stale strays (PvShape pv) is by = absurd by

pub settled_scan : (image : Image) (unread : set.FinSet nat_cmp) (disks : List Disk) (readings : List Reading) (found : Found)
    → AreDiskReadings image unread 0 disks readings → found.stale ≡ [] → found.strays ≡ set.empty
    → IsFoundBy (decide_scan readings) found → IsSettledScan readings found
settled_scan image unread disks readings found are stale strays by =
    by_answer readings found (copies_are image unread 0 disks readings are) stale strays (decide_scan readings) refl by

-- ---- what follows

not_refused : (group : Group) (text : List ℕ) (r : AreaReading) → IsNoneOr group text r → NotRefused r
not_refused group text HoldsNone is = tt
not_refused group text (Copy other others passed) is = tt
not_refused group text (Refused why) is = absurd is

none_read : (r : AreaReading) → IsNone r → NotRefused r
none_read r is = subst NotRefused (sym is) tt

pub settled_read : (readings : List Reading) (found : Found) → IsSettledScan readings found → DisksGive (λ disk. NotRefused) readings
settled_read readings found (settled_none nothing group given) =
    disks_weaker (λ disk. IsNone) (λ disk. NotRefused) (λ disk. none_read) readings given
settled_read readings found (settled_some held parts group copy given all) =
    disks_weaker (λ disk. IsNoneOr held.group held.text) (λ disk. NotRefused) (λ disk. not_refused held.group held.text) readings given

-- the copy is no later than a version with a greater sequence number
pub older_given : (old : Group) (old_text : List ℕ) (new : Group) (new_text : List ℕ) → old.id ≡ new.id → old.seqno < new.seqno
    → old_text ≢ new_text → (r : AreaReading) → IsNoneOr old old_text r → GivesNoLater new new_text r
older_given old old_text new new_text ids later differ HoldsNone is = tt
older_given old old_text new new_text ids later differ (Copy other others passed) is =
    let seqno : other.seqno ≡ old.seqno = ap (λ (g : Group). g.seqno) is.0 in
    (ap (λ (g : Group). g.id) is.0 ∙ ids, inr (omega (arith, seqno, later), λ same. differ (sym is.1 ∙ same)))
older_given old old_text new new_text ids later differ (Refused why) is = absurd is

pub none_later : (new : Group) (new_text : List ℕ) (r : AreaReading) → IsNone r → GivesNoLater new new_text r
none_later new new_text r is = subst (GivesNoLater new new_text) (sym is) tt

-- a copy of a group stands for a tree
pub copy_tree : (text : List ℕ) (group : Group) (passed : List (List ℕ)) → IsCopyOf text group passed → HasTree group
copy_tree text group passed copy = record { text = text; tree = copy.tree; is_text = copy.is_text; stands = copy.stands }
