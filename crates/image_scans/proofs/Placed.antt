-- Where primary places lie: behind sector 8 of a disk and beside its metadata areas.
use Rattle.std.proofs.Common.{◌≡◌, ◌≤◌, ◌<◌, ◌⊎◌, ℕ, zero, suc, ◌+◌, ◌*◌, ◌/◌, Bool, true, false, not, ◌&&◌, ◌||◌, nat_lt, cond, List, []}
use Rattle.std.proofs.Common.{◌∷◌, map, Option, Some, None, inl, inr, ⊎_elim, refl, sym, ap, subst, ◌∙◌, arith}
use Rattle.std.specs.Prelude.{find, option_map, slice_get, slice_index, unwrap_or}
use Rattle.std.specs.List.{AllByRecursion as Each, enumerate_from, list_any}
use Rattle.std.proofs.lemmas.Bool.{and_from, cases_lt, false≢true, lt-ltb, ltb-false, true≢false}
use Rattle.std.proofs.lemmas.Option.{same_Some}
use Rattle.std.specs.Str.{bytes_eq}
use Rattle.sector_base.specs.declared.places.At.{At}
use Rattle.meta_model.specs.declared.group.Group.{Group}
use Rattle.meta_model.specs.declared.pv.Pv.{Pv}
use Rattle.meta_model.specs.declared.segment.On.TheVariants as on
use Rattle.pv_header.specs.declared.extent_list.Extent.{Extent}
use Rattle.pv_header.specs.declared.header.PvHeader.{PvHeader}
use Rattle.scan_rules.specs.Decision.{Found as PvOf, Reading, first_misplaced, has_id, has_misplaced, is_misplaced, meets_area}
use Rattle.scan_rules.specs.Found.{is_missing, is_this_misplaced, misplaced_from, missing_of}
use Rattle.scan_rules.proofs.Scanning.{same_bytes_to}
use Rattle.volume_rules.specs.Rules.{IsAccepted}
use Rattle.volume_view.proofs.InExtents.{primary_in_extents}
use Rattle.volume_view.specs.Places.{primary}
use Rattle.vg_found.specs.declared.disk.Disk.{Disk}
use Rattle.vg_found.specs.Disks.{area_shape, disk_shape, disk_with, disks_of, header_on, pv_shape, shapes}
use Rattle.volume_view.specs.InExtents.{IsInExtents}
use Rattle.image_scans.proofs.Again.{all_there}
use Rattle.image_scans.proofs.Makes.{HasDisk, disk_found}

-- ---- on its disk

-- the sector is behind the first eight, and in none of these areas
pub record IsBeside (areas : List Extent) (sector : ℕ) : Type 0 where
  pub behind : 8 ≤ sector
  pub beside : Each (λ (area : Extent). (sector < area.offset / 512) ⊎ (area.offset / 512 + area.size / 512 ≤ sector)) areas

or_parts : (x y : Bool) → (x || y) ≡ false → (x ≡ false) × (y ≡ false)
or_parts true y is = absurd (true≢false is)
or_parts false y is = (refl, is)

and_right : (x y : Bool) → x ≡ true → (x && y) ≡ false → y ≡ false
and_right true y is none = none
and_right false y is none = absurd (false≢true is)

one_beside : (start end sector : ℕ) (area : Extent) → start ≤ sector → sector < end → meets_area start end (area_shape area) ≡ false
    → (sector < area.offset / 512) ⊎ (area.offset / 512 + area.size / 512 ≤ sector)
one_beside start end sector area from to none =
    ⊎_elim
    (λ (before : sector < area.offset / 512). inl before)
    (λ (reached : area.offset / 512 ≤ sector).
    ⊎_elim
    (λ (inside : sector < area.offset / 512 + area.size / 512).
    let first : nat_lt start (area.offset / 512 + area.size / 512) ≡ true =
    lt-ltb start (area.offset / 512 + area.size / 512) (omega (arith, from, inside)) in
    let second : nat_lt (area.offset / 512) end ≡ true = lt-ltb (area.offset / 512) end (omega (arith, reached, to)) in
    absurd (true≢false (sym (and_from (nat_lt start (area.offset / 512 + area.size / 512)) (nat_lt (area.offset / 512) end) first second)
    ∙ none)))
    (λ (past : area.offset / 512 + area.size / 512 ≤ sector). inr past)
    (cases_lt sector (area.offset / 512 + area.size / 512)))
    (cases_lt sector (area.offset / 512))

each_beside : (start end sector : ℕ) (areas : List Extent) → start ≤ sector → sector < end
    → list_any (meets_area start end) (map area_shape areas) ≡ false
    → Each (λ (area : Extent). (sector < area.offset / 512) ⊎ (area.offset / 512 + area.size / 512 ≤ sector)) areas
each_beside start end sector [] from to none = tt
each_beside start end sector (area ∷ areas) from to none =
    let parts = or_parts (meets_area start end (area_shape area)) (list_any (meets_area start end) (map area_shape areas)) none in
    (one_beside start end sector area from to parts.0, each_beside start end sector areas from to parts.1)

-- extents that aren't misplaced end within their disk, begin behind its first eight sectors and meet none of these areas
unmisplaced : (start end sectors : ℕ) (header : PvHeader) → start < end
    → is_misplaced start end (record { sectors = sectors; pv = Some (pv_shape header) }) (pv_shape header) ≡ false
    → (end ≤ sectors) × (8 ≤ start) × (list_any (meets_area start end) (map area_shape header.areas) ≡ false)
unmisplaced start end sectors header from none =
    let rest =
    and_right (nat_lt start end) (nat_lt sectors end
    || (nat_lt start 8 || list_any (meets_area start end) (map area_shape header.areas))) (lt-ltb start end from) none in
    let inside = or_parts (nat_lt sectors end) (nat_lt start 8 || list_any (meets_area start end) (map area_shape header.areas)) rest in
    let parts = or_parts (nat_lt start 8) (list_any (meets_area start end) (map area_shape header.areas)) inside.1 in
    (ltb-false sectors end inside.0, ltb-false start 8 parts.0, parts.1)

-- none of the volumes on a disk is misplaced
any_at : {X : Type 0} (p : X → Bool) (xs : List X) (k : ℕ) (x : X) → slice_get xs k ≡ Some x → list_any p xs ≡ false → p x ≡ false
any_at p [] k x there none = absurd cc
any_at p (y ∷ xs) zero x there none = ap p (sym (same_Some y x there)) ∙ (or_parts (p y) (list_any p xs) none).0
any_at p (y ∷ xs) (suc k) x there none = any_at p xs k x there (or_parts (p y) (list_any p xs) none).1

found_none : {X : Type 0} (p : ℕ × X → Bool) (n : ℕ) (x : X) (b : Bool) (rest : Option (ℕ × X)) → p (n, x) ≡ b
    → option_map (λ (d : ℕ × X). d.0) (cond b (Some (n, x)) rest) ≡ None
    → (p (n, x) ≡ false) × (option_map (λ (d : ℕ × X). d.0) rest ≡ None)
found_none p n x true rest is none = absurd cc
found_none p n x false rest is none = (is, none)

placed_at : (group : Group) (n : ℕ) (disks : List Disk) → misplaced_from group n (shapes disks) ≡ None → (k : ℕ) (disk : Disk)
    → slice_get disks k ≡ Some disk → has_misplaced group (disk_shape disk) ≡ false
placed_at group n [] none k disk there = absurd cc
placed_at group n (first ∷ disks) none zero disk there =
    ap (λ (d : Disk). has_misplaced group (disk_shape d)) (sym (same_Some first disk there))
    ∙ (found_none (λ (d : ℕ × Reading). has_misplaced group d.1) n (disk_shape first) (has_misplaced group (disk_shape first))
    (find (λ (d : ℕ × Reading). has_misplaced group d.1) (enumerate_from (n + 1) (shapes disks))) refl none).0
placed_at group n (first ∷ disks) none (suc k) disk there =
    placed_at group (n + 1) disks
    (found_none (λ (d : ℕ × Reading). has_misplaced group d.1) n (disk_shape first) (has_misplaced group (disk_shape first))
    (find (λ (d : ℕ × Reading). has_misplaced group d.1) (enumerate_from (n + 1) (shapes disks))) refl none).1
    k disk there

pub index_map : {X : Type 0} (f : X → ℕ) (xs : List X) (k : ℕ) (x : X) → slice_get xs k ≡ Some x → slice_index (map f xs) k ≡ f x
index_map f [] k x there = absurd cc
index_map f (y ∷ xs) zero x there = ap f (same_Some y x there)
index_map f (y ∷ xs) (suc k) x there = index_map f xs k x there

pub each_at : {X : Type 0} (P : X → Type 0) (xs : List X) (k : ℕ) (x : X) → Each P xs → slice_get xs k ≡ Some x → P x
each_at P [] k x all there = absurd cc
each_at P (y ∷ xs) zero x all there = subst P (same_Some y x there) all.0
each_at P (y ∷ xs) (suc k) x all there = each_at P xs k x all.1 there

pub present : (x y : Bool) → (x || not y) ≡ false → y ≡ true
present true y is = absurd (true≢false is)
present false true is = refl
present false false is = absurd (true≢false is)

-- the disk of a place, which has that sector, and what stands there
pub record IsPlaceOn (disks : List Disk) (number sector : ℕ) : Type 0 where
  pub disk : Disk
  pub there : slice_get disks number ≡ Some disk
  pub within : sector < disk.sectors
  pub header : PvHeader
  pub is : header_on disk.contents ≡ Some header
  pub beside : IsBeside header.areas sector

pub extent_beside : (group : Group) (disks : List Disk) → first_misplaced group (shapes disks) ≡ None
    → missing_of (shapes disks) group.pvs ≡ [] → (at : At) → IsInExtents group at
    → IsPlaceOn disks (slice_index (disks_of group disks) at.pv) at.sector
extent_beside group disks placed there at e =
    let pv : List ℕ × Pv = e.pv in
    let number : slice_index (disks_of group disks) at.pv ≡ disk_with disks pv.1.id =
    index_map (λ (p : List ℕ × Pv). disk_with disks p.1.id) group.pvs at.pv pv e.is_pv in
    let here : is_missing (shapes disks) pv ≡ false =
    each_at (λ (p : List ℕ × Pv). is_missing (shapes disks) p ≡ false) group.pvs at.pv pv (all_there (shapes disks) group.pvs there)
    e.is_pv in
    let d : HasDisk disks pv.1.id = disk_found pv.1.id disks (present pv.1.missing (list_any (has_id pv.1.id) (shapes disks)) here) in
    let none : has_misplaced group (disk_shape d.disk) ≡ false = placed_at group 0 disks placed (disk_with disks pv.1.id) d.disk d.there in
    let on_header : list_any (is_this_misplaced group.extent_size (disk_shape d.disk) (pv_shape d.header)) group.pvs ≡ false =
    sym (ap (λ (o : Option PvHeader). unwrap_or
    (option_map (λ (f : PvOf). list_any (is_this_misplaced group.extent_size (disk_shape d.disk) f) group.pvs) (option_map pv_shape o))
    false) d.is) ∙ none
    in
    let own : is_this_misplaced group.extent_size (disk_shape d.disk) (pv_shape d.header) pv ≡ false =
    any_at (is_this_misplaced group.extent_size (disk_shape d.disk) (pv_shape d.header)) group.pvs at.pv pv e.is_pv on_header in
    let end : ℕ = pv.1.pe_start + pv.1.pe_count * group.extent_size in
    let misplaced : is_misplaced pv.1.pe_start end (disk_shape d.disk) (pv_shape d.header) ≡ false =
    and_right (bytes_eq pv.1.id d.header.id) (is_misplaced pv.1.pe_start end (disk_shape d.disk) (pv_shape d.header))
    (same_bytes_to pv.1.id d.header.id (sym d.same)) own
    in
    let inside = unmisplaced pv.1.pe_start end d.disk.sectors d.header (omega (arith, e.from, e.to)) misplaced in
    let reach : end ≤ d.disk.sectors = inside.0 in
    let behind : 8 ≤ pv.1.pe_start = inside.1 in
    record {
      disk = d.disk;
      there = ap (slice_get disks) number ∙ d.there;
      within = omega (arith, reach, e.to);
      header = d.header;
      is = d.is;
      beside = record {
        behind = omega (arith, behind, e.from);
        beside = each_beside pv.1.pe_start end at.sector d.header.areas e.from e.to inside.2;
      };
    }

pub place_beside : (group : Group) (disks : List Disk) → IsAccepted group → first_misplaced group (shapes disks) ≡ None
    → missing_of (shapes disks) group.pvs ≡ [] → (lv sector : ℕ) (at : At) → primary group lv sector ≡ Some at
    → IsPlaceOn disks (slice_index (disks_of group disks) at.pv) at.sector
place_beside group disks accepted placed there lv sector at is =
    extent_beside group disks placed there at (primary_in_extents group accepted lv sector at is)
