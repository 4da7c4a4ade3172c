-- Disks by the ids in their headers: where no id stands on two, a disk is found by its own.
use Rattle.std.proofs.Common.{◌≡◌, ◌<◌, ℕ, zero, suc, ◌+◌, Bool, true, false, cond, List, [], ◌∷◌, Option, Some, None, refl, sym, ap, subst}
use Rattle.std.proofs.Common.{◌∙◌, add-one, arith}
use Rattle.std.specs.Prelude.{find, option_map, slice_get, unwrap_or}
use Rattle.std.proofs.lemmas.Bool.{true≢false}
use Rattle.std.proofs.lemmas.Option.{same_Some}
use Rattle.std.specs.Str.{bytes_eq}
use Rattle.pv_header.specs.declared.header.PvHeader.{PvHeader}
use Rattle.scan_rules.specs.Decision.{Found as PvOf, first_duplicate, ids_from}
use Rattle.scan_rules.proofs.Scanning.{same_bytes_tells, same_bytes_to}
use Rattle.vg_found.specs.declared.disk.Disk.{Disk}
use Rattle.vg_found.specs.Disks.{disk_with, has_header_id, header_on, pv_shape, shapes}

-- the ids of disks, where this header is on the first one
abbrev ids_with : ℕ → Option PvHeader → List Disk → List (ℕ × List ℕ)
ids_with base header disks =
    unwrap_or (option_map (λ (pv : PvOf). (base, pv.id) ∷ ids_from (base + 1) (shapes disks)) (option_map pv_shape header))
    (ids_from (base + 1) (shapes disks))

-- the header has the id
pub record HasHeader (disks : List Disk) (number : ℕ) (header : PvHeader) : Type 0 where
  pub disk : Disk
  pub there : slice_get disks number ≡ Some disk
  pub is : header_on disk.contents ≡ Some header

-- ---- what isn't found

split_found : (p : ℕ × List ℕ → Bool) (one : ℕ × List ℕ) (b : Bool) (more : List (ℕ × List ℕ)) → p one ≡ b
    → cond b (Some one) (find p more) ≡ None → (p one ≡ false) × (find p more ≡ None)
split_found p one true more is none = absurd cc
split_found p one false more is none = (is, none)

-- what no id of the disks has, no later one has, and no header
none_later : (p : ℕ × List ℕ → Bool) (base : ℕ) (o : Option PvHeader) (disks : List Disk) → find p (ids_with base o disks) ≡ None
    → find p (ids_from (base + 1) (shapes disks)) ≡ None
none_later p base None disks none = none
none_later p base (Some header) disks none =
    (split_found p (base, header.id) (p (base, header.id)) (ids_from (base + 1) (shapes disks)) refl none).1

none_first : (p : ℕ × List ℕ → Bool) (base : ℕ) (o : Option PvHeader) (disks : List Disk) (header : PvHeader) → o ≡ Some header
    → find p (ids_with base o disks) ≡ None → p (base, header.id) ≡ false
none_first p base None disks header is none = absurd cc
none_first p base (Some first) disks header is none =
    subst (λ (h : PvHeader). p (base, h.id) ≡ false) (same_Some first header is)
    (split_found p (base, first.id) (p (base, first.id)) (ids_from (base + 1) (shapes disks)) refl none).0

none_has : (test : List ℕ → Bool) (base : ℕ) (disks : List Disk)
    → find (λ (other : ℕ × List ℕ). test other.1) (ids_from base (shapes disks)) ≡ None → (k : ℕ) (disk : Disk) (header : PvHeader)
    → slice_get disks k ≡ Some disk → header_on disk.contents ≡ Some header → test header.id ≡ false
none_has test base [] none k disk header there is = absurd cc
none_has test base (first ∷ disks) none zero disk header there is =
    none_first (λ (other : ℕ × List ℕ). test other.1) base (header_on first.contents) disks header
    (ap (λ (d : Disk). header_on d.contents) (same_Some first disk there) ∙ is) none
none_has test base (first ∷ disks) none (suc k) disk header there is =
    none_has test (base + 1) disks (none_later (λ (other : ℕ × List ℕ). test other.1) base (header_on first.contents) disks none) k disk
    header there is

-- ---- no id stands twice

duplicate_by : (number : ℕ) (o : Option (ℕ × List ℕ)) (rest : Option (ℕ × ℕ))
    → unwrap_or (option_map (λ (other : ℕ × List ℕ). Some (number, other.0)) o) rest ≡ None → (o ≡ None) × (rest ≡ None)
duplicate_by number None rest none = (refl, none)
duplicate_by number (Some other) rest none = absurd cc

split_duplicate : (one : ℕ × List ℕ) (more : List (ℕ × List ℕ)) → first_duplicate (one ∷ more) ≡ None
    → (find (λ (other : ℕ × List ℕ). bytes_eq one.1 other.1) more ≡ None) × (first_duplicate more ≡ None)
split_duplicate one more none =
    duplicate_by one.0 (find (λ (other : ℕ × List ℕ). bytes_eq one.1 other.1) more) (first_duplicate more) none

apart_later : (base : ℕ) (o : Option PvHeader) (disks : List Disk) → first_duplicate (ids_with base o disks) ≡ None
    → first_duplicate (ids_from (base + 1) (shapes disks)) ≡ None
apart_later base None disks none = none
apart_later base (Some header) disks none = (split_duplicate (base, header.id) (ids_from (base + 1) (shapes disks)) none).1

apart_first : (base : ℕ) (o : Option PvHeader) (disks : List Disk) (header : PvHeader) → o ≡ Some header
    → first_duplicate (ids_with base o disks) ≡ None
    → find (λ (other : ℕ × List ℕ). bytes_eq header.id other.1) (ids_from (base + 1) (shapes disks)) ≡ None
apart_first base None disks header is none = absurd cc
apart_first base (Some first) disks header is none =
    subst (λ (h : PvHeader). find (λ (other : ℕ × List ℕ). bytes_eq h.id other.1) (ids_from (base + 1) (shapes disks)) ≡ None)
    (same_Some first header is) (split_duplicate (base, first.id) (ids_from (base + 1) (shapes disks)) none).0

-- two disks have two ids
pub ids_apart : (base : ℕ) (disks : List Disk) → first_duplicate (ids_from base (shapes disks)) ≡ None
    → (i j : ℕ) (a b : Disk) (first second : PvHeader) → i < j
    → slice_get disks i ≡ Some a → slice_get disks j ≡ Some b → header_on a.contents ≡ Some first → header_on b.contents ≡ Some second
    → first.id ≡ second.id → ⊥
ids_apart base [] none i j a b first second before at_i at_j is_a is_b same = absurd cc
ids_apart base (disk ∷ disks) none zero zero a b first second before at_i at_j is_a is_b same = omega arith
ids_apart base (disk ∷ disks) none zero (suc j) a b first second before at_i at_j is_a is_b same =
    let absent =
    apart_first base (header_on disk.contents) disks first (ap (λ (d : Disk). header_on d.contents) (same_Some disk a at_i) ∙ is_a)
    none in
    true≢false (sym (same_bytes_to first.id second.id same) ∙ none_has (bytes_eq first.id) (base + 1) disks absent j b second at_j is_b)
ids_apart base (disk ∷ disks) none (suc i) zero a b first second before at_i at_j is_a is_b same = omega arith
ids_apart base (disk ∷ disks) none (suc i) (suc j) a b first second before at_i at_j is_a is_b same =
    ids_apart (base + 1) disks (apart_later base (header_on disk.contents) disks none) i j a b first second (omega arith) at_i at_j is_a
    is_b same

-- ---- the disk with an id

pub has_own : (id : List ℕ) (o : Option PvHeader) (header : PvHeader) → o ≡ Some header → header.id ≡ id
    → unwrap_or (option_map (λ (h : PvHeader). bytes_eq h.id id) o) false ≡ true
has_own id None header is same = absurd cc
has_own id (Some first) header is same = same_bytes_to first.id id (ap (λ (h : PvHeader). h.id) (same_Some first header is) ∙ same)

has_no_other : (id : List ℕ) (o : Option PvHeader) → ((header : PvHeader) → o ≡ Some header → header.id ≡ id → ⊥)
    → unwrap_or (option_map (λ (h : PvHeader). bytes_eq h.id id) o) false ≡ false
has_no_other id None other = refl
has_no_other id (Some header) other = step (bytes_eq header.id id) refl
  where
    step : (b : Bool) → bytes_eq header.id id ≡ b → bytes_eq header.id id ≡ false
    step true is = absurd (other header refl (same_bytes_tells header.id id is))
    step false is = is

pub disk_with_own : (base : ℕ) (disks : List Disk) → first_duplicate (ids_from base (shapes disks)) ≡ None
    → (i : ℕ) (disk : Disk) (header : PvHeader) → slice_get disks i ≡ Some disk → header_on disk.contents ≡ Some header
    → disk_with disks header.id ≡ i
disk_with_own base [] none i disk header there is = absurd cc
disk_with_own base (first ∷ disks) none zero disk header there is =
    ap (λ (b : Bool). cond b 0 (disk_with disks header.id + 1))
    (has_own header.id (header_on first.contents) header (ap (λ (d : Disk). header_on d.contents) (same_Some first disk there) ∙ is)
    refl)
disk_with_own base (first ∷ disks) none (suc i) disk header there is =
    let other : has_header_id header.id first ≡ false =
    has_no_other header.id (header_on first.contents)
    (λ own own_is same. ids_apart base (first ∷ disks) none zero (suc i) first disk own header (omega arith) refl there own_is is same)
    in
    ap (λ (b : Bool). cond b 0 (disk_with disks header.id + 1)) other
    ∙ add-one (disk_with disks header.id)
    ∙ ap suc (disk_with_own (base + 1) disks (apart_later base (header_on first.contents) disks none) i disk header there is)
