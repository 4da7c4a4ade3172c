-- Where the metadata areas of a disk lie: behind the sectors of labels, and beside one another, also those that are ignored.
use Rattle.std.proofs.Common.{◌≡◌, ◌<◌, ◌≤◌, ◌⊎◌, ℕ, zero, suc, ◌+◌, ◌*◌, ◌%◌, ◌==◌, not, ◌||◌, nat_lt, Bool, true, false, cond, eqb, ltb}
use Rattle.std.proofs.Common.{min, max, List, [], ◌∷◌, ◌++◌, length, get_or, map, Option, Some, None, inl, inr, ⊎_elim, refl, sym, ap}
use Rattle.std.proofs.Common.{subst, ◌∙◌, arith}
use Rattle.std.specs.Prelude.{filter_map, find, slice_get, All, AllPairs}
use Rattle.std.specs.List.{cons_option}
use Rattle.std.specs.Option.{option_or}
use Rattle.std.proofs.lemmas.Bool.{cases_lt, cases_order, lt-ltb, or_left, or_right, true≢false}
use Rattle.std.proofs.lemmas.Bool.Decides.{nat_tests}
use Rattle.std.proofs.lemmas.List.{get_or_default}
use Rattle.std.proofs.lemmas.List.Elements.{All-nil, All-cons, All-append, All-head, All-tail}
use Rattle.std.proofs.lemmas.List.Folds.{find-append}
use Rattle.std.proofs.lemmas.List.Kept.{AllPairs-cons}
use Rattle.std.proofs.lemmas.Option.{same_Some}
use Rattle.mda_header.specs.declared.entry.HeaderEntry.{HeaderEntry}
use Rattle.mda_header.specs.declared.entry.HeaderEntry.TheVariants.{Ignored, Nothing, Text, Refused}
use Rattle.mda_header.specs.declared.header.Locn.{Locn}
use Rattle.mda_ring.specs.declared.area.Area.{Area}
use Rattle.pv_header.specs.declared.extent_list.Extent.{Extent}
use Rattle.pv_header.specs.Areas.{end_of, first_overlap, is_misshapen, pairs_of, shares_byte}
use Rattle.pv_header.proofs.Overlaps.{All-from_find}
use Rattle.disk_contents.specs.declared.contents.AreaFound.{AreaFound}
use Rattle.disk_contents.specs.declared.contents.PvFound.{PvFound}
use Rattle.disk_contents.specs.declared.contents.PvFound.TheVariants.{NoLabel, NoHeader, Whole}
use Rattle.disk_contents.specs.Standing.{IsUsable, area_on}
use Rattle.vg_found.specs.declared.disk.Disk.{Disk}
use Rattle.vg_found.specs.Disks.{areas_on, held_area, held_areas, held_by}
use Rattle.vg_found.specs.Shape.{ContentsCanStand, IsDisk}
use Rattle.list_laws.proofs.KeptLists.{all_kept}

-- ---- pairs

none_of_two : {X : Type 0} (a b : Option X) → option_or a b ≡ None → (a ≡ None) × (b ≡ None)
none_of_two None b none = (refl, none)
none_of_two (Some x) b none = absurd cc

module _ (p : Extent × Extent → Bool) where
  none_here : (b : Bool) (x : Extent × Extent) (rest : Option (Extent × Extent)) → cond b (Some x) rest ≡ None → (b ≡ false) × (rest ≡ None)
  none_here true x rest none = absurd cc
  none_here false x rest none = (refl, none)

  none_with : (x : Extent) (xs : List Extent) → find p (map (λ other. (x, other)) xs) ≡ None → All (λ other. p (x, other) ≡ false) xs
  none_with x [] none = All-nil (λ other. p (x, other) ≡ false)
  none_with x (y ∷ ys) none =
      let parts = none_here (p (x, y)) (x, y) (find p (map (λ other. (x, other)) ys)) none in
      All-cons (λ other. p (x, other) ≡ false) y ys parts.0 (none_with x ys parts.1)

  none_later : (x : Extent) (xs : List Extent) → find p (pairs_of (x ∷ xs)) ≡ None
      → (find p (map (λ other. (x, other)) xs) ≡ None) × (find p (pairs_of xs) ≡ None)
  none_later x xs none =
      none_of_two (find p (map (λ other. (x, other)) xs)) (find p (pairs_of xs))
      (sym (find-append p (map (λ other. (x, other)) xs) (pairs_of xs)) ∙ none)

  none_pairs : (xs : List Extent) → find p (pairs_of xs) ≡ None → AllPairs (λ x y. p (x, y) ≡ false) xs
  none_pairs [] none = λ i j d before within. absurd (omega (arith, within))
  none_pairs (x ∷ xs) none =
      let parts = none_later x xs none in AllPairs-cons (λ a b. p (a, b) ≡ false) x xs (none_with x xs parts.0) (none_pairs xs parts.1)

  none_behind : (xs ys : List Extent) → find p (pairs_of (xs ++ ys)) ≡ None → find p (pairs_of ys) ≡ None
  none_behind [] ys none = none
  none_behind (x ∷ xs) ys none = none_behind xs ys (none_later x (xs ++ ys) none).1

-- ---- two areas

abbrev pub LieBeside : Extent → Extent → Type 0
LieBeside a b = (a.offset + a.size ≤ b.offset) ⊎ (b.offset + b.size ≤ a.offset)

has_end : (all : List Extent) (bytes : ℕ) (area : Extent) → 0 < area.size → end_of all bytes area ≡ area.offset + area.size
has_end all bytes area some =
    let sized : eqb area.size 0 ≡ false = grind (arith, nat_tests) in
    ap (λ (b : Bool). cond b (end_of all bytes (record { offset = area.offset; size = 0 })) (area.offset + area.size)) sized

lie_beside : (all : List Extent) (bytes : ℕ) (a b : Extent) → 0 < a.size → 0 < b.size → shares_byte all bytes a b ≡ false → LieBeside a b
unfolding shares_byte
lie_beside all bytes a b some some' none =
    let ends : min (end_of all bytes a) (end_of all bytes b) ≡ min (a.offset + a.size) (b.offset + b.size) =
    ap (λ (n : ℕ). min n (end_of all bytes b)) (has_end all bytes a some)
    ∙ ap (λ (n : ℕ). min (a.offset + a.size) n) (has_end all bytes b some')
    in
    let below : ltb (max a.offset b.offset) (min (a.offset + a.size) (b.offset + b.size)) ≡ false =
    ap (λ (n : ℕ). ltb (max a.offset b.offset) n) (sym ends) ∙ none in
    let upto : min (a.offset + a.size) (b.offset + b.size) ≤ max a.offset b.offset = grind (arith, nat_tests) in
    elim (cases_lt b.offset (a.offset + a.size)) [ inl before ↦ inr (omega arith) | inr from ↦ inl from ]

-- ---- the areas of one disk

-- it begins at sector 4 or behind it, in whole sectors, and each area of the list is this one or lies beside it
pub record IsPlaced (founds : List AreaFound) (found : AreaFound) : Type 0 where
  pub far : 2048 ≤ found.area.offset
  pub starts : found.area.offset % 512 ≡ 0
  pub sized : found.area.size % 512 ≡ 0
  pub some : 1536 ≤ found.area.size
  pub beside : All (λ (other : AreaFound). (other ≡ found) ⊎ LieBeside other.area found.area) founds

shaped_far : (area : Extent) → is_misshapen area ≡ false → 2048 ≤ area.offset
shaped_far area none =
    ⊎_elim
    (λ (near : area.offset < 2048).
    let odd : Bool = not (area.offset % 512 == 0) || not (area.size % 512 == 0) in
    absurd (true≢false (sym (or_left (odd || nat_lt area.offset 2048) (nat_lt area.size 1536)
    (or_right odd (nat_lt area.offset 2048) (lt-ltb area.offset 2048 near))) ∙ none)))
    (λ (far : 2048 ≤ area.offset). far)
    (cases_lt area.offset 2048)

get_or_map : (founds : List AreaFound) (k : ℕ) (d : AreaFound)
    → get_or (map (λ (found : AreaFound). found.area) founds) k d.area ≡ (get_or founds k d).area
get_or_map [] k d = refl
get_or_map (found ∷ founds) zero d = refl
get_or_map (found ∷ founds) (suc k) d = get_or_map founds k d

length_map : (founds : List AreaFound) → length (map (λ (found : AreaFound). found.area) founds) ≡ length founds
length_map [] = refl
length_map (found ∷ founds) = ap suc (length_map founds)

module _ (pv sectors : ℕ) (data_areas : List Extent) (founds : List AreaFound) (bytes : ℕ) (usable : All (IsUsable pv sectors) founds)
    (shaped : find is_misshapen (map (λ (found : AreaFound). found.area) founds) ≡ None)
    (apart : first_overlap (data_areas ++ map (λ (found : AreaFound). found.area) founds) bytes ≡ None) where
  abbrev extents : List Extent
  extents = map (λ (found : AreaFound). found.area) founds

  two_apart : (i j : ℕ) (d : AreaFound) → i < j → j < length founds → LieBeside (get_or founds i d).area (get_or founds j d).area
  unfolding first_overlap
  two_apart i j d before within =
      let all : List Extent = data_areas ++ extents in
      let shares : Extent × Extent → Bool = λ pair. shares_byte all bytes pair.0 pair.1 in
      let none : AllPairs (λ x y. shares (x, y) ≡ false) extents =
      none_pairs shares extents (none_behind shares data_areas extents apart) in
      let pair : shares (get_or extents i d.area, get_or extents j d.area) ≡ false =
      none i j d.area before (omega (arith, within, length_map founds)) in
      let both : shares_byte all bytes (get_or founds i d).area (get_or founds j d).area ≡ false =
      ap (λ (x : Extent). shares (x, (get_or founds j d).area)) (sym (get_or_map founds i d))
      ∙ ap (λ (y : Extent). shares (get_or extents i d.area, y)) (sym (get_or_map founds j d)) ∙ pair
      in
      lie_beside all bytes (get_or founds i d).area (get_or founds j d).area
      (omega (arith, (usable i d (omega (arith, before, within))).area.has_ring)) (omega (arith, (usable j d within).area.has_ring))
      both

  same_or_beside : (i j : ℕ) (d : AreaFound) → i < length founds → j < length founds
      → (get_or founds j d ≡ get_or founds i d) ⊎ LieBeside (get_or founds j d).area (get_or founds i d).area
  same_or_beside i j d in_i in_j =
      elim (cases_order i j) [
        | inl equal ↦ inl (ap (λ (k : ℕ). get_or founds k d) (sym equal))
        | inr rest ↦ elim rest [
          | inl less ↦ inr (⊎_elim (λ x. inr x) (λ y. inl y) (two_apart i j d less in_j))
          | inr more ↦ inr (two_apart j i d more in_i)
        ]
      ]

  all_placed : All (IsPlaced founds) founds
  all_placed k d within =
      let here : IsUsable pv sectors (get_or founds k d) = usable k d within in
      let none : is_misshapen (get_or founds k d).area ≡ false =
      subst (λ (e : Extent). is_misshapen e ≡ false) (get_or_map founds k d)
      (All-from_find is_misshapen extents shaped k d.area (omega (arith, within, length_map founds))) in
      record {
        far = shaped_far (get_or founds k d).area none;
        starts = here.area.start_is_whole;
        sized = here.area.size_is_whole;
        some = here.area.has_ring;
        beside = λ j e within'.
            subst (λ (f : AreaFound). (f ≡ get_or founds k d) ⊎ LieBeside f.area (get_or founds k d).area)
            (get_or_default founds j d e within')
            (same_or_beside k j d within within');
      }

pub areas_placed : (pv sectors : ℕ) (contents : Option PvFound) → ContentsCanStand pv sectors contents
    → All (IsPlaced (areas_on contents)) (areas_on contents)
areas_placed pv sectors None stands = All-nil (IsPlaced [])
areas_placed pv sectors (Some (NoLabel refusal)) stands = All-nil (IsPlaced [])
areas_placed pv sectors (Some (NoHeader label refusal)) stands = All-nil (IsPlaced [])
areas_placed pv sectors (Some (Whole label header areas)) stands =
    let lie = stands.1.1.areas in
    all_placed pv sectors header.data_areas areas (sectors * 512) stands.3
    (subst (λ (l : List Extent). find is_misshapen l ≡ None) (sym stands.2) lie.well_shaped)
    (subst (λ (l : List Extent). first_overlap (header.data_areas ++ l) (sectors * 512) ≡ None) (sym stands.2) lie.apart)

-- ---- the areas of all disks

-- the area is that of an area that was found on its disk
pub record IsHeldOn (disks : List Disk) (held : Area × Option Locn) : Type 0 where
  pub disk : Disk
  pub there : slice_get disks held.0.pv ≡ Some disk
  pub found : AreaFound
  pub number : ℕ
  pub at : slice_get (areas_on disk.contents) number ≡ Some found
  pub placed : IsPlaced (areas_on disk.contents) found
  pub is : held_area held.0.pv found ≡ Some held

pub entry_kept : (area : Area) (entry : HeaderEntry) (kept : Area × Option Locn) → held_by area entry ≡ Some kept → kept.0 ≡ area
entry_kept area Ignored kept is = absurd cc
entry_kept area Nothing kept is = ap (λ (a : Area × Option Locn). a.0) (sym (same_Some (area, None) kept is))
entry_kept area (Text locn) kept is = ap (λ (a : Area × Option Locn). a.0) (sym (same_Some (area, Some locn) kept is))
entry_kept area (Refused refusal) kept is = ap (λ (a : Area × Option Locn). a.0) (sym (same_Some (area, None) kept is))

-- an area of a list, with its number
record IsAt (founds : List AreaFound) (found : AreaFound) : Type 0 where
  number : ℕ
  at : slice_get founds number ≡ Some found
  placed : IsPlaced founds found

got_at : (founds : List AreaFound) (k : ℕ) (d : AreaFound) → k < length founds → slice_get founds k ≡ Some (get_or founds k d)
got_at [] k d within = absurd (omega (arith, within))
got_at (found ∷ founds) zero d within = refl
got_at (found ∷ founds) (suc k) d within = got_at founds k d (omega (arith, within))

held_here : (all : List Disk) (pv : ℕ) (disk : Disk) → slice_get all pv ≡ Some disk → (found : AreaFound) (held : Area × Option Locn)
    → IsAt (areas_on disk.contents) found → held_area pv found ≡ Some held → IsHeldOn all held
held_here all pv disk there found held at is =
    let same : held.0.pv ≡ pv = ap (λ (a : Area). a.pv) (entry_kept (area_on pv found.area) found.entry held is) in
    record {
      disk = disk;
      there = ap (slice_get all) same ∙ there;
      found = found;
      number = at.number;
      at = at.at;
      placed = at.placed;
      is = ap (λ (n : ℕ). held_area n found) same ∙ is;
    }

abbrev IsThere : List Disk → ℕ → List Disk → Type 0
IsThere all pv disks = (k : ℕ) (disk : Disk) → slice_get disks k ≡ Some disk → IsDisk (pv + k) disk × (slice_get all (pv + k) ≡ Some disk)

held_from : (all : List Disk) (pv : ℕ) (disks : List Disk) → IsThere all pv disks → All (IsHeldOn all) (held_areas pv disks)
held_from all pv [] each = All-nil (IsHeldOn all)
held_from all pv (disk ∷ disks) each =
    let first : IsDisk pv disk × (slice_get all pv ≡ Some disk) =
    subst (λ (n : ℕ). IsDisk n disk × (slice_get all n ≡ Some disk)) (omega arith) (each 0 disk refl) in
    All-append (IsHeldOn all) (filter_map (held_area pv) (areas_on disk.contents)) (held_areas (pv + 1) disks)
    (all_kept (IsHeldOn all) (IsAt (areas_on disk.contents)) (held_area pv)
    (λ found held at is. held_here all pv disk first.1 found held at is) (areas_on disk.contents)
    (λ k d within. record {
      number = k;
      at = got_at (areas_on disk.contents) k d within;
      placed = areas_placed pv disk.sectors disk.contents first.0.contents k d within;
    }))
    (held_from all (pv + 1) disks (λ k d is. subst (λ (n : ℕ). IsDisk n d × (slice_get all n ≡ Some d)) (omega arith) (each (suc k) d is)))

pub all_held : (disks : List Disk) → ((pv : ℕ) (disk : Disk) → slice_get disks pv ≡ Some disk → IsDisk pv disk)
    → All (IsHeldOn disks) (held_areas 0 disks)
all_held disks each =
    held_from disks 0 disks (λ k disk there. subst (λ (n : ℕ). IsDisk n disk × (slice_get disks n ≡ Some disk)) (omega arith)
    (each k disk there, there))

-- the parts of a list
pub all_front : {X : Type 0} (P : X → Type 0) (xs ys : List X) → All P (xs ++ ys) → All P xs
all_front P [] ys all = All-nil P
all_front P (x ∷ xs) ys all = All-cons P x xs (All-head P x (xs ++ ys) all) (all_front P xs ys (All-tail P x (xs ++ ys) all))

pub all_back : {X : Type 0} (P : X → Type 0) (xs ys : List X) → All P (xs ++ ys) → All P ys
all_back P [] ys all = all
all_back P (x ∷ xs) ys all = all_back P xs ys (All-tail P x (xs ++ ys) all)

-- what holds of all held areas holds of that of an area that was found
abbrev Own : (Area × Option Locn → Type 0) → ℕ → AreaFound → Type 0
Own P pv found = (held : Area × Option Locn) → held_area pv found ≡ Some held → P held

one_kept : (P : Area × Option Locn → Type 0) (pv : ℕ) (found : AreaFound) (rest : List (Area × Option Locn))
    (o : Option (Area × Option Locn)) → held_area pv found ≡ o → All P (cons_option o rest) → Own P pv found × All P rest
one_kept P pv found rest None is all =
    ((λ held h. absurd (let e : ◌≡◌ {A = Option (Area × Option Locn)} None (Some held) = sym is ∙ h in cc)), all)
one_kept P pv found rest (Some kept) is all =
    ((λ held h. subst P (same_Some kept held (sym is ∙ h)) (All-head P kept rest all)), All-tail P kept rest all)

of_kept : (P : Area × Option Locn → Type 0) (pv : ℕ) (founds : List AreaFound) → All P (filter_map (held_area pv) founds)
    → All (Own P pv) founds
of_kept P pv [] all = All-nil (Own P pv)
of_kept P pv (found ∷ founds) all =
    let parts = one_kept P pv found (filter_map (held_area pv) founds) (held_area pv found) refl all in
    All-cons (Own P pv) found founds parts.0 (of_kept P pv founds parts.1)

pub of_held : (P : Area × Option Locn → Type 0) (pv : ℕ) (disks : List Disk) → All P (held_areas pv disks) → (k : ℕ) (disk : Disk)
    → slice_get disks k ≡ Some disk
    → All (λ found. (held : Area × Option Locn) → held_area (pv + k) found ≡ Some held → P held) (areas_on disk.contents)
of_held P pv [] all k disk there = absurd cc
of_held P pv (first ∷ disks) all zero disk there =
    let own : All P (filter_map (held_area pv) (areas_on first.contents)) =
    all_front P (filter_map (held_area pv) (areas_on first.contents)) (held_areas (pv + 1) disks) all in
    subst (λ (d : Disk). All (λ found. (held : Area × Option Locn) → held_area (pv + 0) found ≡ Some held → P held) (areas_on d.contents))
    (same_Some first disk there)
    (subst (λ (n : ℕ). All (λ found. (held : Area × Option Locn) → held_area n found ≡ Some held → P held) (areas_on first.contents))
    (omega arith) (of_kept P pv (areas_on first.contents) own))
of_held P pv (first ∷ disks) all (suc k) disk there =
    subst (λ (n : ℕ). All (λ found. (held : Area × Option Locn) → held_area n found ≡ Some held → P held) (areas_on disk.contents))
    (omega arith)
    (of_held P (pv + 1) disks (all_back P (filter_map (held_area pv) (areas_on first.contents)) (held_areas (pv + 1) disks) all) k disk
    there)
