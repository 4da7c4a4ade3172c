-- What was found by an answer has its shape.
use Rattle.std.proofs.Common.{◌≡◌, ◌<◌, ◌≤◌, ℕ, suc, Bool, true, false, not, ◌||◌, eqb, List, [], ◌∷◌, length, map, Option, Some, None, ◌⊎◌}
use Rattle.std.proofs.Common.{inl, inr, refl, sym, ap, subst, ◌∙◌, arith}
use Rattle.std.specs.Prelude.{option_map, unwrap_or, filter, slice_get, All, AllPairs, IfSome}
use Rattle.std.specs.FinSet as set
use Rattle.std.specs.List.{list_any}
use Rattle.std.specs.Cmp.{nat_cmp_total, unsigned_tied}
use Rattle.std.specs.Ordering.{nat_cmp}
use Rattle.std.proofs.lemmas.Bool.{eqb-true, false≢true, or_cases}
use Rattle.std.proofs.lemmas.List.Elements.{All-nil, All-head, All-tail}
use Rattle.std.specs.Str.{bytes_eq}
use Rattle.meta_model.specs.declared.group.Group.{Group}
use Rattle.meta_model.specs.declared.pv.Pv.{Pv}
use Rattle.scan_rules.specs.declared.decision.Decided.{Decided}
use Rattle.scan_rules.specs.declared.readings.GroupCopy.{GroupCopy}
use Rattle.scan_rules.specs.Answers.{IsDecided}
use Rattle.scan_rules.specs.Decision.{Conflict, DuplicatePv, Found as PvOf, FoundGroup, NoCopy, NoGroup, PvShape, Reading, SameHeaders}
use Rattle.scan_rules.specs.Decision.{SamePv, ScanAnswer, TwoGroups, Unsupported, decide_scan, first_duplicate, first_misplaced, has_id}
use Rattle.scan_rules.specs.Decision.{ids_from}
use Rattle.scan_rules.specs.Found.{missing_of}
use Rattle.scan_rules.proofs.SameShape.{find_same, ids_same}
use Rattle.vg_found.specs.declared.disk.Disk.{Disk}
use Rattle.vg_found.specs.declared.found.Found.{Found}
use Rattle.vg_found.specs.Disks.{disks_of, held_areas, old_among, old_of, shapes}
use Rattle.vg_found.specs.Laws.{AreasAreShaped}
use Rattle.vg_found.specs.Shape.{HasShape, IsUnread}
use Rattle.vg_scan.specs.Scanned.{HaveShapes}
use Rattle.vg_scan.specs.Scans.{IsFoundBy}
use Rattle.vg_scan.specs.Outcome.{IsOutcome, listed_disks}
use Rattle.vg_scan.proofs.Deciding.{HasPlaces, answer_places, no_duplicate}
use Rattle.mda_ring.specs.Areas.{CanTake, LieApart}

-- ---- the parts of what was found are those of what was decided

pub record HasParts (found : Found) (decided : Decided) : Type 0 where
  pub group : found.group ≡ option_map (λ (copy : GroupCopy). copy.group) decided.copy
  pub text : found.text ≡ option_map (λ (copy : GroupCopy). copy.text) decided.copy
  pub unknown : found.unknown ≡ unwrap_or (option_map (λ (copy : GroupCopy). copy.passed) decided.copy) []
  pub stale : found.stale ≡ decided.stale
  pub strays : found.strays ≡ decided.strays
  pub missing : found.missing ≡ decided.missing

found_by : (a : ScanAnswer) (decided : Decided) (found : Found) → HasParts found decided → IsDecided a decided → IsFoundBy a found
found_by (FoundGroup held stale strays missing) decided found parts is = (
  parts.group ∙ ap (option_map (λ (copy : GroupCopy). copy.group)) is.0,
  parts.text ∙ ap (option_map (λ (copy : GroupCopy). copy.text)) is.0,
  parts.unknown ∙ ap (λ (o : Option GroupCopy). unwrap_or (option_map (λ (copy : GroupCopy). copy.passed) o) []) is.0,
  parts.stale ∙ is.1,
  parts.strays ∙ is.2,
  parts.missing ∙ is.3,
)
found_by NoGroup decided found parts is = (
  parts.group ∙ ap (option_map (λ (copy : GroupCopy). copy.group)) is.0,
  parts.text ∙ ap (option_map (λ (copy : GroupCopy). copy.text)) is.0,
  parts.unknown ∙ ap (λ (o : Option GroupCopy). unwrap_or (option_map (λ (copy : GroupCopy). copy.passed) o) []) is.0,
  parts.stale ∙ is.1,
  parts.strays ∙ is.2,
  parts.missing ∙ is.3,
)
found_by (DuplicatePv a b) decided found parts is = absurd is
found_by (NoCopy refused) decided found parts is = absurd is
found_by (Unsupported pv) decided found parts is = absurd is
found_by (TwoGroups a b) decided found parts is = absurd is
found_by (Conflict a b seqno) decided found parts is = absurd is
found_by (PvShape pv) decided found parts is = absurd is

-- ---- sets made of lists

in_list : (P : ℕ → Type 0) (l : List ℕ) → All P l → (q : ℕ) → set.contains (set.from_list {R = nat_cmp} l) q ≡ true → P q
in_list P [] all q there = absurd (false≢true (sym (set.contains-empty nat_cmp q) ∙ there))
in_list P (x ∷ l) all q there =
    let cases : (eqb q x || set.contains (set.from_list {R = nat_cmp} l) q) ≡ true =
    ap (λ (t : Bool). t || set.contains (set.from_list {R = nat_cmp} l) q) (sym (unsigned_tied q x))
    ∙ sym (set.contains-insert nat_cmp_total (set.from_list l) x q) ∙ there
    in
    here_or_later (or_cases (eqb q x) (set.contains (set.from_list {R = nat_cmp} l) q) cases) (in_list P l (All-tail P x l all) q)
  where
    here_or_later : (eqb q x ≡ true) ⊎ (set.contains (set.from_list {R = nat_cmp} l) q ≡ true)
        → (set.contains (set.from_list {R = nat_cmp} l) q ≡ true → P q) → P q
    here_or_later (inl here) later = subst P (sym (eqb-true q x here)) (All-head P x l all)
    here_or_later (inr behind) later = later behind

-- ---- what headers decide

pub headers_length : (as' bs : List Reading) → SameHeaders as' bs → length as' ≡ length bs
headers_length [] [] same = refl
headers_length [] (b ∷ bs) same = absurd same
headers_length (a ∷ as') [] same = absurd same
headers_length (a ∷ as') (b ∷ bs) same = ap suc (headers_length as' bs same.2)

same_id_on : (id : List ℕ) (a b : Option PvOf) → SamePv a b
    → unwrap_or (option_map (λ (pv : PvOf). bytes_eq pv.id id) a) false
    ≡ unwrap_or (option_map (λ (pv : PvOf). bytes_eq pv.id id) b) false
same_id_on id None None same = refl
same_id_on id None (Some b) same = absurd same
same_id_on id (Some a) None same = absurd same
same_id_on id (Some a) (Some b) same = ap (λ (l : List ℕ). bytes_eq l id) same.0

any_same_id : (id : List ℕ) (as' bs : List Reading) → SameHeaders as' bs → list_any (has_id id) as' ≡ list_any (has_id id) bs
any_same_id id [] [] same = refl
any_same_id id [] (b ∷ bs) same = absurd same
any_same_id id (a ∷ as') [] same = absurd same
any_same_id id (a ∷ as') (b ∷ bs) same =
    ap (λ (t : Bool). t || list_any (has_id id) as') (same_id_on id a.pv b.pv same.1)
    ∙ ap (λ (t : Bool). has_id id b || t) (any_same_id id as' bs same.2)

missing_same : (as' bs : List Reading) (pvs : List (List ℕ × Pv)) → SameHeaders as' bs → missing_of as' pvs ≡ missing_of bs pvs
missing_same as' bs pvs same =
    λ i. map (λ (pv : List ℕ × Pv). pv.1.id) (filter (λ (pv : List ℕ × Pv). pv.1.missing || not (any_same_id pv.1.id as' bs same i)) pvs)

-- ---- the shape

-- what is decided on readings
record HasPlacesOf (rs : List Reading) (decided : Decided) : Type 0 where
  pub placed : IfSome decided.copy (λ (copy : GroupCopy). first_misplaced copy.group rs ≡ None)
  pub missing : IfSome decided.copy (λ (copy : GroupCopy). decided.missing ≡ missing_of rs copy.group.pvs)
  pub stale : All (λ (area : ℕ × ℕ). area.0 < length rs) decided.stale
  pub strays : (pv : ℕ) → set.contains decided.strays pv ≡ true → pv < length rs

places_of : (rs : List Reading) (a : ScanAnswer) (decided : Decided) → IsDecided a decided → HasPlaces rs a → HasPlacesOf rs decided
places_of rs (FoundGroup held stale strays missing) decided is places = record {
  placed = subst (λ (o : Option GroupCopy). IfSome o (λ (copy : GroupCopy). first_misplaced copy.group rs ≡ None)) (sym is.0) places.0;
  missing =
      subst (λ (o : Option GroupCopy). IfSome o (λ (copy : GroupCopy). decided.missing ≡ missing_of rs copy.group.pvs)) (sym is.0)
      (is.3 ∙ places.3);
  stale = subst (λ (l : List (ℕ × ℕ)). All (λ (area : ℕ × ℕ). area.0 < length rs) l) (sym is.1) places.1;
  strays =
      λ pv there. in_list (λ (n : ℕ). n < length rs) strays places.2 pv
      (ap (λ (s : set.FinSet nat_cmp). set.contains s pv) (sym is.2) ∙ there);
}
places_of rs NoGroup decided is places = record {
  placed = subst (λ (o : Option GroupCopy). IfSome o (λ (copy : GroupCopy). first_misplaced copy.group rs ≡ None)) (sym is.0) tt;
  missing = subst (λ (o : Option GroupCopy). IfSome o (λ (copy : GroupCopy). decided.missing ≡ missing_of rs copy.group.pvs)) (sym is.0) tt;
  stale =
      subst (λ (l : List (ℕ × ℕ)). All (λ (area : ℕ × ℕ). area.0 < length rs) l) (sym is.1)
      (All-nil (λ (area : ℕ × ℕ). area.0 < length rs));
  strays =
      λ pv there. absurd (false≢true (sym (ap (λ (s : set.FinSet nat_cmp). set.contains s pv) is.2 ∙ set.contains-empty nat_cmp pv)
      ∙ there));
}
places_of rs (DuplicatePv a b) decided is places = absurd is
places_of rs (NoCopy refused) decided is places = absurd is
places_of rs (Unsupported pv) decided is places = absurd is
places_of rs (TwoGroups a b) decided is places = absurd is
places_of rs (Conflict a b seqno) decided is places = absurd is
places_of rs (PvShape pv) decided is places = absurd is

-- what holds of the group of a copy holds of the group that is it
of_copy : (P : Group → Type 0) (o : Option GroupCopy) (g : Option Group) → g ≡ option_map (λ (copy : GroupCopy). copy.group) o
    → IfSome o (λ (copy : GroupCopy). P copy.group) → IfSome g P
of_copy P o g is some = subst (λ (x : Option Group). IfSome x P) (sym is) (mapped o some) where
  mapped : (o : Option GroupCopy) → IfSome o (λ (copy : GroupCopy). P copy.group)
      → IfSome (option_map (λ (copy : GroupCopy). copy.group) o) P
  mapped None some = tt
  mapped (Some copy) some = some

weaker : (P Q : GroupCopy → Type 0) → ((copy : GroupCopy) → P copy → Q copy) → (o : Option GroupCopy) → IfSome o P → IfSome o Q
weaker P Q each None some = tt
weaker P Q each (Some copy) some = each copy some

-- the disks of the group, and the old ones of them
of_listed : (o : Option Group) (disks : List Disk) (numbers : List ℕ) → numbers ≡ listed_disks o disks
    → IfSome o (λ group. numbers ≡ disks_of group disks)
of_listed None disks numbers is = tt
of_listed (Some group) disks numbers is = is

old_listed : (o : Option Group) (disks : List Disk) → set.from_list (old_among disks (listed_disks o disks)) ≡ old_of o disks
old_listed None disks = refl
old_listed (Some group) disks = refl

has_shape : (disks : List Disk) (unread : set.FinSet nat_cmp) (rs : List Reading) (a : ScanAnswer) (decided : Decided) (found : Found)
    → 1 ≤ length disks → length disks ≤ 64 → HaveShapes disks unread rs → AreasAreShaped → first_duplicate (ids_from 0 rs) ≡ None
    → HasPlaces rs a → IsDecided a decided → HasParts found decided
    → found.disks ≡ disks → found.unread ≡ unread → found.areas ≡ held_areas 0 disks
    → found.disk_of ≡ listed_disks (option_map (λ (copy : GroupCopy). copy.group) decided.copy) disks
    → found.old ≡ set.from_list (old_among disks found.disk_of) → HasShape found
has_shape disks unread rs a decided found some few have shaped single places is parts disks_are unread_are areas_are disk_of_is old_is =
    let listed : found.disk_of ≡ listed_disks found.group found.disks =
    disk_of_is ∙ ap (λ (o : Option Group). listed_disks o disks) (sym parts.group) ∙ ap (listed_disks found.group) (sym disks_are) in
    let at : HasPlacesOf rs decided = places_of rs a decided is places in
    let count : length rs ≡ length found.disks =
    sym (headers_length (shapes disks) rs have.headers) ∙ shapes_length disks ∙ ap length (sym disks_are) in
    let take_apart = shaped disks (λ pv disk there. (have.each pv disk there).0) in
    record {
      some = subst (λ (l : List Disk). 1 ≤ length l) (sym disks_are) some;
      few = subst (λ (l : List Disk). length l ≤ 64) (sym disks_are) few;
      disks = λ pv disk there.
          let each = have.each pv disk (ap (λ (l : List Disk). slice_get l pv) (sym disks_are) ∙ there) in
          (each.0, subst (λ (s : set.FinSet nat_cmp). IsUnread s pv disk) (sym unread_are) each.1);
      differ =
          ap (λ (l : List Disk). first_duplicate (ids_from 0 (shapes l))) disks_are
          ∙ ap first_duplicate (ids_same 0 (shapes disks) rs have.headers) ∙ single;
      areas = areas_are ∙ ap (held_areas 0) (sym disks_are);
      take = subst (All CanTake) (sym areas_are) take_apart.0;
      apart = subst (AllPairs LieApart) (sym areas_are) take_apart.1;
      placed = of_copy (λ group. first_misplaced group (shapes found.disks) ≡ None) decided.copy found.group parts.group
          (weaker (λ copy. first_misplaced copy.group rs ≡ None) (λ copy. first_misplaced copy.group (shapes found.disks) ≡ None)
          (λ copy none. ap (λ (l : List Disk). first_misplaced copy.group (shapes l)) disks_are
          ∙ find_same copy.group 0 (shapes disks) rs have.headers ∙ none)
          decided.copy at.placed);
      disk_of = of_listed found.group found.disks found.disk_of listed;
      old =
          old_is ∙ ap (λ (l : List Disk). set.from_list (old_among l found.disk_of)) (sym disks_are)
          ∙ ap (λ (l : List ℕ). set.from_list (old_among found.disks l)) listed ∙ old_listed found.group found.disks;
      missing = of_copy (λ group. found.missing ≡ missing_of (shapes found.disks) group.pvs) decided.copy found.group parts.group
          (weaker (λ copy. decided.missing ≡ missing_of rs copy.group.pvs)
          (λ copy. found.missing ≡ missing_of (shapes found.disks) copy.group.pvs)
          (λ copy same. parts.missing ∙ same ∙ sym (missing_same (shapes disks) rs copy.group.pvs have.headers)
          ∙ ap (λ (l : List Disk). missing_of (shapes l) copy.group.pvs) (sym disks_are))
          decided.copy at.missing);
      stale =
          subst (λ (l : List (ℕ × ℕ)). All (λ (area : ℕ × ℕ). area.0 < length found.disks) l) (sym parts.stale)
          (subst (λ (n : ℕ). All (λ (area : ℕ × ℕ). area.0 < n) decided.stale) count at.stale);
      strays =
          λ pv there. let below : pv < length rs = at.strays pv
          (ap (λ (s : set.FinSet nat_cmp). set.contains s pv) (sym parts.strays) ∙ there) in omega (arith, below, count);
      unread =
          λ pv there. let below : pv < length disks = have.below pv
          (ap (λ (s : set.FinSet nat_cmp). set.contains s pv) (sym unread_are) ∙ there) in omega (arith, below, ap length disks_are);
    }
  where
    shapes_length : (l : List Disk) → length (shapes l) ≡ length l
    shapes_length [] = refl
    shapes_length (d ∷ l) = ap suc (shapes_length l)

-- what was decided, with what stands on the disks, is the outcome
pub outcome_of : (disks : List Disk) (unread : set.FinSet nat_cmp) (rs : List Reading) (decided : Decided) (found : Found)
    → 1 ≤ length disks → length disks ≤ 64 → HaveShapes disks unread rs → AreasAreShaped → IsDecided (decide_scan rs) decided
    → HasParts found decided
    → found.disks ≡ disks → found.unread ≡ unread → found.areas ≡ held_areas 0 disks
    → found.disk_of ≡ listed_disks (option_map (λ (copy : GroupCopy). copy.group) decided.copy) disks
    → found.old ≡ set.from_list (old_among disks found.disk_of) → IsOutcome disks unread rs found
outcome_of disks unread rs decided found some few have shaped is parts disks_are unread_are areas_are disk_of_is old_is = record {
  disks_are = disks_are;
  unread_are = unread_are;
  answer = found_by (decide_scan rs) decided found parts is;
  areas = areas_are;
  shape =
      has_shape disks unread rs (decide_scan rs) decided found some few have shaped (no_duplicate rs decided is) (answer_places rs) is parts
      disks_are unread_are areas_are disk_of_is old_is;
}
