-- The metadata areas of disks can be used, and share no sector.
use Rattle.std.proofs.Common.{◌≡◌, ◌<◌, ◌≤◌, ℕ, suc, ◌+◌, ◌*◌, Bool, true, false, cond, eqb, ltb, min, max, List, [], ◌∷◌, ◌++◌}
use Rattle.std.proofs.Common.{map, Option, Some, None, ◌⊎◌, inl, inr, refl, sym, ap, subst, ◌∙◌, arith}
use Rattle.std.specs.Prelude.{filter_map, find, slice_get, All, AllPairs}
use Rattle.std.specs.List.{cons_option}
use Rattle.std.specs.Option.{option_or}
use Rattle.std.proofs.lemmas.Bool.{cases_lt}
use Rattle.std.proofs.lemmas.Bool.Decides.{nat_tests}
use Rattle.std.proofs.lemmas.List.Elements.{All-nil, All-cons, All-head, All-tail, All-append, All-weaker}
use Rattle.std.proofs.lemmas.List.Folds.{find-append}
use Rattle.std.proofs.lemmas.List.Kept.{AllPairs-cons}
use Rattle.std.proofs.lemmas.Option.{same_Some}
use Rattle.mda_header.specs.declared.entry.HeaderEntry.{HeaderEntry}
use Rattle.mda_header.specs.declared.entry.HeaderEntry.TheVariants.{Ignored, Nothing, Text, Refused}
use Rattle.mda_header.specs.declared.header.Locn.{Locn}
use Rattle.mda_ring.specs.declared.area.Area.{Area}
use Rattle.mda_ring.specs.Areas.{CanTake, IsArea, LieApart}
use Rattle.pv_header.specs.declared.extent_list.Extent.{Extent}
use Rattle.pv_header.specs.Areas.{end_of, first_overlap, pairs_of, shares_byte}
use Rattle.disk_contents.specs.declared.contents.AreaFound.{AreaFound}
use Rattle.disk_contents.specs.declared.contents.PvFound.{PvFound}
use Rattle.disk_contents.specs.declared.contents.PvFound.TheVariants.{NoLabel, NoHeader, Whole}
use Rattle.disk_contents.specs.Standing.{IsUsable, LiesInside, area_on}
use Rattle.vg_found.specs.declared.disk.Disk.{Disk}
use Rattle.vg_found.specs.Disks.{areas_on, held_area, held_areas, held_by}
use Rattle.vg_found.specs.Shape.{ContentsCanStand, IsDisk}
use Rattle.list_laws.proofs.KeptLists.{all_kept}

-- ---- lists

module _ {X : Type 0} (R : X → X → Type 0) where
  no_pairs : AllPairs R []
  no_pairs i j d before within = absurd (omega arith)

  pairs_first : (x : X) (xs : List X) → AllPairs R (x ∷ xs) → All (R x) xs
  pairs_first x xs pairs k d within = pairs 0 (suc k) d (omega arith) (omega arith)

  pairs_later : (x : X) (xs : List X) → AllPairs R (x ∷ xs) → AllPairs R xs
  pairs_later x xs pairs i j d before within = pairs (suc i) (suc j) d (omega arith) (omega arith)

  pairs_append : (xs ys : List X) → AllPairs R xs → AllPairs R ys → All (λ x. All (R x) ys) xs → AllPairs R (xs ++ ys)
  pairs_append [] ys first second cross = second
  pairs_append (x ∷ xs) ys first second cross =
      AllPairs-cons R x (xs ++ ys)
      (All-append (R x) xs ys (pairs_first x xs first) (All-head (λ x. All (R x) ys) x xs cross))
      (pairs_append xs ys (pairs_later x xs first) second (All-tail (λ x. All (R x) ys) x xs cross))

-- where none of a row of pairs passes, none of its parts does
none_of_two : {X : Type 0} (a b : Option X) → option_or a b ≡ None → (a ≡ None) × (b ≡ None)
none_of_two None b none = (refl, none)
none_of_two (Some x) b none = cc

none_here : {X : Type 0} (b : Bool) (x : X) (rest : Option X) → cond b (Some x) rest ≡ None → (b ≡ false) × (rest ≡ None)
none_here true x rest none = cc
none_here false x rest none = (refl, none)

module _ (p : Extent × Extent → Bool) where
  none_first : (x : Extent) (xs : List Extent) → find p (pairs_of (x ∷ xs)) ≡ None
      → (find p (map (λ other. (x, other)) xs) ≡ None) × (find p (pairs_of xs) ≡ None)
  none_first x xs none =
      none_of_two (find p (map (λ other. (x, other)) xs)) (find p (pairs_of xs))
      (sym (find-append p (map (λ other. (x, other)) xs) (pairs_of xs)) ∙ none)

  none_behind : (xs ys : List Extent) → find p (pairs_of (xs ++ ys)) ≡ None → find p (pairs_of ys) ≡ None
  none_behind [] ys none = none
  none_behind (x ∷ xs) ys none = none_behind xs ys (none_first x (xs ++ ys) none).1

  none_with : (x : Extent) (founds : List AreaFound)
      → find p (map (λ other. (x, other)) (map (λ (found : AreaFound). found.area) founds)) ≡ None
      → All (λ found. p (x, found.area) ≡ false) founds
  none_with x [] none = All-nil (λ found. p (x, found.area) ≡ false)
  none_with x (found ∷ founds) none =
      let parts =
      none_here (p (x, found.area)) (x, found.area)
      (find p (map (λ other. (x, other)) (map (λ (found : AreaFound). found.area) founds))) none in
      All-cons (λ found. p (x, found.area) ≡ false) found founds parts.0 (none_with x founds parts.1)

-- ---- the areas of one disk

entry_kept : (area : Area) (entry : HeaderEntry) (kept : Area × Option Locn) → held_by area entry ≡ Some kept → kept.0 ≡ area
entry_kept area Ignored kept is = cc
entry_kept area Nothing kept is = ap (λ (a : Area × Option Locn). a.0) (sym (same_Some (area, None) kept is))
entry_kept area (Text locn) kept is = ap (λ (a : Area × Option Locn). a.0) (sym (same_Some (area, Some locn) kept is))
entry_kept area (Refused refusal) kept is = ap (λ (a : Area × Option Locn). a.0) (sym (same_Some (area, None) kept is))

can_take : (area : Area) (entry : HeaderEntry) (kept : Area × Option Locn) → IsArea area → LiesInside area.size entry
    → held_by area entry ≡ Some kept → CanTake kept
can_take area Ignored kept usable inside is = absurd cc
can_take area Nothing kept usable inside is = subst CanTake (same_Some (area, None) kept is) (usable, tt)
can_take area (Text locn) kept usable inside is = subst CanTake (same_Some (area, Some locn) kept is) (usable, inside)
can_take area (Refused refusal) kept usable inside is = subst CanTake (same_Some (area, None) kept is) (usable, tt)

-- an area that has a size ends behind it
has_end : (all : List Extent) (bytes : ℕ) (area : Extent) → 0 < area.size → end_of all bytes area ≡ area.offset + area.size
has_end all bytes area some =
    let sized : eqb area.size 0 ≡ false = grind (arith, nat_tests) in
    ap (λ (b : Bool). cond b (end_of all bytes (record { offset = area.offset; size = 0 })) (area.offset + area.size)) sized

share_nothing : (all : List Extent) (bytes : ℕ) (a b : Extent) → 0 < a.size → 0 < b.size → shares_byte all bytes a b ≡ false
    → (a.offset + a.size ≤ b.offset) ⊎ (b.offset + b.size ≤ a.offset)
unfolding shares_byte
share_nothing all bytes a b some some' none =
    let ends : min (end_of all bytes a) (end_of all bytes b) ≡ min (a.offset + a.size) (b.offset + b.size) =
    ap (λ (n : ℕ). min n (end_of all bytes b)) (has_end all bytes a some)
    ∙ ap (λ (n : ℕ). min (a.offset + a.size) n) (has_end all bytes b some')
    in
    let below : ltb (max a.offset b.offset) (min (a.offset + a.size) (b.offset + b.size)) ≡ false =
    ap (λ (n : ℕ). ltb (max a.offset b.offset) n) (sym ends) ∙ none in
    let upto : min (a.offset + a.size) (b.offset + b.size) ≤ max a.offset b.offset = grind (arith, nat_tests) in
    elim (cases_lt b.offset (a.offset + a.size)) [ inl before ↦ inr (omega arith) | inr from ↦ inl from ]

lie_apart : (pv disk : ℕ) (all : List Extent) (bytes : ℕ) (a b : AreaFound) (kept other : Area × Option Locn) → IsUsable pv disk a
    → IsUsable pv disk b → shares_byte all bytes a.area b.area ≡ false
    → held_area pv a ≡ Some kept → held_area pv b ≡ Some other → LieApart kept other
lie_apart pv disk all bytes a b kept other usable usable' none is is' =
    let first : area_on pv a.area ≡ kept.0 = sym (entry_kept (area_on pv a.area) a.entry kept is) in
    let second : area_on pv b.area ≡ other.0 = sym (entry_kept (area_on pv b.area) b.entry other is') in
    let some : 0 < a.area.size = omega (arith, usable.area.has_ring) in
    let some' : 0 < b.area.size = omega (arith, usable'.area.has_ring) in
    let apart : (a.area.offset + a.area.size ≤ b.area.offset) ⊎ (b.area.offset + b.area.size ≤ a.area.offset) =
    share_nothing all bytes a.area b.area some some' none in
    inr (
    subst (λ (x : Area). (kept.0.start + kept.0.size ≤ x.start) ⊎ (x.start + x.size ≤ kept.0.start)) second
    (subst (λ (x : Area). (x.start + x.size ≤ b.area.offset) ⊎ (b.area.offset + b.area.size ≤ x.start)) first apart)
    )

module _ (pv disk : ℕ) (all : List Extent) (bytes : ℕ) where
  abbrev shared : Extent × Extent → Bool
  shared pair = shares_byte all bytes pair.0 pair.1

  abbrev Beside : AreaFound → AreaFound → Type 0
  Beside first found = IsUsable pv disk found × (shared (first.area, found.area) ≡ false)

  beside : (first : AreaFound) (founds : List AreaFound) → All (IsUsable pv disk) founds
      → All (λ found. shared (first.area, found.area) ≡ false) founds → All (Beside first) founds
  beside first founds usable none k d within = (usable k d within, none k d within)

  with_first : (first : AreaFound) (founds : List AreaFound) → IsUsable pv disk first → All (Beside first) founds
      → (o : Option (Area × Option Locn)) → held_area pv first ≡ o
      → AllPairs LieApart (filter_map (held_area pv) founds) → AllPairs LieApart (cons_option o (filter_map (held_area pv) founds))
  with_first first founds usable others None is rest = rest
  with_first first founds usable others (Some kept) is rest =
      AllPairs-cons LieApart kept (filter_map (held_area pv) founds)
      (all_kept (LieApart kept) (Beside first) (held_area pv)
      (λ found other q is'. lie_apart pv disk all bytes first found kept other usable q.0 q.1 is is') founds others)
      rest

  areas_apart : (founds : List AreaFound) → All (IsUsable pv disk) founds
      → find shared (pairs_of (map (λ (found : AreaFound). found.area) founds)) ≡ None
      → AllPairs LieApart (filter_map (held_area pv) founds)
  areas_apart [] usable none = no_pairs LieApart
  areas_apart (first ∷ founds) usable none =
      let later : All (IsUsable pv disk) founds = All-tail (IsUsable pv disk) first founds usable in
      let parts = none_first shared first.area (map (λ (found : AreaFound). found.area) founds) none in
      with_first first founds (All-head (IsUsable pv disk) first founds usable)
      (beside first founds later (none_with shared first.area founds parts.0)) (held_area pv first) refl
      (areas_apart founds later parts.1)

abbrev Shaped : List (Area × Option Locn) → Type 0
Shaped areas = All CanTake areas × AllPairs LieApart areas

shaped_on : (pv sectors : ℕ) (contents : Option PvFound) → ContentsCanStand pv sectors contents
    → Shaped (filter_map (held_area pv) (areas_on contents))
unfolding first_overlap
shaped_on pv sectors None stands = (All-nil CanTake, no_pairs LieApart)
shaped_on pv sectors (Some (NoLabel refusal)) stands = (All-nil CanTake, no_pairs LieApart)
shaped_on pv sectors (Some (NoHeader label refusal)) stands = (All-nil CanTake, no_pairs LieApart)
shaped_on pv sectors (Some (Whole label header areas)) stands =
    let all : List Extent = header.data_areas ++ header.areas in
    let none : find (shared pv sectors all (sectors * 512)) (pairs_of header.areas) ≡ None =
    none_behind (shared pv sectors all (sectors * 512)) header.data_areas header.areas stands.1.1.areas.apart in (
      all_kept CanTake (IsUsable pv sectors) (held_area pv)
          (λ found kept usable is. can_take (area_on pv found.area) found.entry kept usable.area usable.text is) areas stands.3,
      areas_apart pv sectors all (sectors * 512) areas stands.3
          (subst (λ (l : List Extent). find (shared pv sectors all (sectors * 512)) (pairs_of l) ≡ None) (sym stands.2) none),
    )

-- ---- the areas of all disks

abbrev IsOn : ℕ → Area × Option Locn → Type 0
IsOn pv area = area.0.pv ≡ pv

abbrev IsFrom : ℕ → Area × Option Locn → Type 0
IsFrom pv area = pv ≤ area.0.pv

on_disk : (pv : ℕ) (founds : List AreaFound) → All (IsOn pv) (filter_map (held_area pv) founds)
on_disk pv founds =
    all_kept (IsOn pv) (λ found. Unit {0}) (held_area pv)
    (λ found kept any is. ap (λ (a : Area). a.pv) (entry_kept (area_on pv found.area) found.entry kept is)) founds (λ k d within. tt)

from_disk : (pv : ℕ) (disks : List Disk) → All (IsFrom pv) (held_areas pv disks)
from_disk pv [] = All-nil (IsFrom pv)
from_disk pv (disk ∷ disks) =
    All-append (IsFrom pv) (filter_map (held_area pv) (areas_on disk.contents)) (held_areas (pv + 1) disks)
    (All-weaker (IsOn pv) (IsFrom pv) (λ area is. omega (arith, is)) (filter_map (held_area pv) (areas_on disk.contents))
    (on_disk pv (areas_on disk.contents)))
    (All-weaker (IsFrom (pv + 1)) (IsFrom pv) (λ area from. omega (arith, from)) (held_areas (pv + 1) disks) (from_disk (pv + 1) disks))

-- areas of a disk and of later ones
on_two_disks : (pv : ℕ) (first later : List (Area × Option Locn)) → All (IsOn pv) first → All (IsFrom (pv + 1)) later
    → All (λ area. All (LieApart area) later) first
on_two_disks pv first later on from k d within j e within' = inl (λ same. absurd (omega (arith, on k d within, from j e within', same)))

shaped_from : (pv : ℕ) (disks : List Disk) → ((k : ℕ) (disk : Disk) → slice_get disks k ≡ Some disk → IsDisk (pv + k) disk)
    → Shaped (held_areas pv disks)
shaped_from pv [] each = (All-nil CanTake, no_pairs LieApart)
shaped_from pv (disk ∷ disks) each =
    let here : IsDisk pv disk = subst (λ (n : ℕ). IsDisk n disk) (omega arith) (each 0 disk refl) in
    let own : List (Area × Option Locn) = filter_map (held_area pv) (areas_on disk.contents) in
    let later : List (Area × Option Locn) = held_areas (pv + 1) disks in
    let shaped : Shaped own = shaped_on pv disk.sectors disk.contents here.contents in
    let rest : Shaped later = shaped_from (pv + 1) disks (λ k d is. subst (λ (n : ℕ). IsDisk n d) (omega arith) (each (suc k) d is)) in (
      All-append CanTake own later shaped.0 rest.0,
      pairs_append LieApart own later shaped.1 rest.1
          (on_two_disks pv own later (on_disk pv (areas_on disk.contents)) (from_disk (pv + 1) disks)),
    )

pub areas_shaped : (disks : List Disk) → ((pv : ℕ) (disk : Disk) → slice_get disks pv ≡ Some disk → IsDisk pv disk)
    → Shaped (held_areas 0 disks)
areas_shaped disks each = shaped_from 0 disks (λ k disk is. subst (λ (n : ℕ). IsDisk n disk) (omega arith) (each k disk is))
