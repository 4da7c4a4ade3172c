-- An area of a disk by its number: two numbers are two areas, so what is stale is known by its place.
use Rattle.std.proofs.Common.{◌≡◌, ◌<◌, ◌≤◌, ℕ, zero, suc, ◌+◌, Bool, true, false, cond, List, [], ◌∷◌, ◌++◌, Option, Some, None, inl, inr}
use Rattle.std.proofs.Common.{⊎_elim, refl, sym, ap, subst, ◌∙◌, arith}
use Rattle.std.specs.Prelude.{All, AllPairs, filter_map, slice_get}
use Rattle.std.specs.List.{cons_option}
use Rattle.std.proofs.lemmas.Bool.{cases_lt}
use Rattle.std.proofs.lemmas.List.Kept.{AllPairs-cons}
use Rattle.std.proofs.lemmas.Option.{same_Some}
use Rattle.mda_header.specs.declared.header.Locn.{Locn}
use Rattle.mda_ring.specs.declared.area.Area.{Area}
use Rattle.mda_ring.specs.Areas.{CanTake, LieApart}
use Rattle.disk_contents.specs.declared.contents.AreaFound.{AreaFound}
use Rattle.disk_contents.specs.Standing.{area_on}
use Rattle.list_laws.proofs.Members.{In, Numbered, flat_has, in_flat, in_kept, kept_has}
use Rattle.vg_found.specs.declared.disk.Disk.{Disk}
use Rattle.vg_found.specs.declared.found.Found.{Found}
use Rattle.vg_found.specs.Disks.{areas_on, held_area, held_areas}
use Rattle.vg_found.specs.Shape.{HasShape}
use Rattle.vg_repair.specs.Stale.{is_among, stale_areas, stale_in, stale_on}
use Rattle.vg_repair.proofs.Numbered.{all_at, all_in}
use Rattle.vg_repair.proofs.Sublists.{pairs_first, pairs_later}
use Rattle.image_scans.proofs.FoundAreas.{all_front, entry_kept, of_held}

-- ---- what is kept of a list

module _ {X Y : Type 0} (f : X → Option Y) where
  in_later : (o : Option Y) (rest : List Y) (y : Y) → In rest y → In (cons_option o rest) y
  in_later None rest y is = is
  in_later (Some z) rest y is = inr is

  kept_in : (xs : List X) (n : ℕ) (x : X) (y : Y) → slice_get xs n ≡ Some x → f x ≡ Some y → In (filter_map f xs) y
  kept_in [] n x y at is = absurd cc
  kept_in (z ∷ xs) zero x y at is =
      subst (λ (o : Option Y). In (cons_option o (filter_map f xs)) y) (sym (ap f (same_Some z x at) ∙ is)) (inl refl)
  kept_in (z ∷ xs) (suc n) x y at is = in_later (f z) (filter_map f xs) y (kept_in xs n x y at is)

  module _ (R : Y → Y → Type 0) where
    pairs_rest : (o : Option Y) (rest : List Y) → AllPairs R (cons_option o rest) → AllPairs R rest
    pairs_rest None rest pairs = pairs
    pairs_rest (Some y) rest pairs = pairs_later R y rest pairs

    -- two that are kept of two numbers are a pair
    pairs_kept : (xs : List X) → AllPairs R (filter_map f xs) → (i j : ℕ) (x y : X) (a b : Y) → i < j → slice_get xs i ≡ Some x
        → slice_get xs j ≡ Some y → f x ≡ Some a → f y ≡ Some b → R a b
    pairs_kept [] pairs i j x y a b before at_i at_j is_a is_b = absurd cc
    pairs_kept (z ∷ xs) pairs i zero x y a b before at_i at_j is_a is_b = absurd (omega (arith, before))
    pairs_kept (z ∷ xs) pairs zero (suc j) x y a b before at_i at_j is_a is_b =
        let own : AllPairs R (a ∷ filter_map f xs) =
        subst (λ (o : Option Y). AllPairs R (cons_option o (filter_map f xs))) (ap f (same_Some z x at_i) ∙ is_a) pairs in
        all_in (R a) (filter_map f xs) b (kept_in xs j y b at_j is_b) (pairs_first R a (filter_map f xs) own)
    pairs_kept (z ∷ xs) pairs (suc i) (suc j) x y a b before at_i at_j is_a is_b =
        pairs_kept xs (pairs_rest (f z) (filter_map f xs) pairs) i j x y a b (omega (arith, before)) at_i at_j is_a is_b

module _ {X : Type 0} (R : X → X → Type 0) where
  pairs_front : (xs ys : List X) → AllPairs R (xs ++ ys) → AllPairs R xs
  pairs_front [] ys pairs = λ i j d before within. absurd (omega (arith, within))
  pairs_front (x ∷ xs) ys pairs =
      AllPairs-cons R x xs (all_front (R x) xs ys (pairs_first R x (xs ++ ys) pairs)) (pairs_front xs ys (pairs_later R x (xs ++ ys) pairs))

  pairs_back : (xs ys : List X) → AllPairs R (xs ++ ys) → AllPairs R ys
  pairs_back [] ys pairs = pairs
  pairs_back (x ∷ xs) ys pairs = pairs_back xs ys (pairs_later R x (xs ++ ys) pairs)

-- of the areas of all disks, those of one
pairs_on : (R : Area × Option Locn → Area × Option Locn → Type 0) (pv : ℕ) (disks : List Disk) → AllPairs R (held_areas pv disks)
    → (k : ℕ) (disk : Disk) → slice_get disks k ≡ Some disk
    → AllPairs R (filter_map (held_area (pv + k)) (areas_on disk.contents))
pairs_on R pv [] pairs k disk there = absurd cc
pairs_on R pv (first ∷ disks) pairs zero disk there =
    let own : AllPairs R (filter_map (held_area pv) (areas_on first.contents)) =
    pairs_front R (filter_map (held_area pv) (areas_on first.contents)) (held_areas (pv + 1) disks) pairs in
    subst (λ (d : Disk). AllPairs R (filter_map (held_area (pv + 0)) (areas_on d.contents))) (same_Some first disk there)
    (subst (λ (n : ℕ). AllPairs R (filter_map (held_area n) (areas_on first.contents))) (omega arith) own)
pairs_on R pv (first ∷ disks) pairs (suc k) disk there =
    subst (λ (n : ℕ). AllPairs R (filter_map (held_area n) (areas_on disk.contents))) (omega arith)
    (pairs_on R (pv + 1) disks (pairs_back R (filter_map (held_area pv) (areas_on first.contents)) (held_areas (pv + 1) disks) pairs) k disk
    there)

-- ---- stale areas

-- the disk of a stale area, and its number there
record IsStaleAt (found : Found) (stale : Area × Option Locn) : Type 0 where
  pv : ℕ
  disk : Disk
  there : slice_get found.disks pv ≡ Some disk
  number : ℕ
  area : AreaFound
  at : slice_get (areas_on disk.contents) number ≡ Some area
  among : is_among found.stale pv number ≡ true
  held : held_area pv area ≡ Some stale

if_among : (b : Bool) (held : Option (Area × Option Locn)) (stale : Area × Option Locn) → cond b held None ≡ Some stale
    → (b ≡ true) × (held ≡ Some stale)
if_among true held stale is = (refl, is)
if_among false held stale is = absurd cc

stale_at : (found : Found) (stale : Area × Option Locn) → In (stale_areas found) stale → IsStaleAt found stale
stale_at found stale is =
    let d : Numbered found.disks (λ disk. In (stale_on found.stale disk) stale) = in_flat (stale_on found.stale) found.disks stale is in
    let a : Numbered (areas_on d.element.contents) (λ area. stale_in found.stale d.number area ≡ Some stale) =
    in_kept (stale_in found.stale d.number) (areas_on d.element.contents) stale d.holds in
    let both = if_among (is_among found.stale d.number a.number) (held_area d.number a.element) stale a.holds in
    record {
      pv = d.number;
      disk = d.element;
      there = d.got;
      number = a.number;
      area = a.element;
      at = a.got;
      among = both.0;
      held = both.1;
    }

module _ (found : Found) (shape : HasShape found) (pv : ℕ) (disk : Disk) (there : slice_get found.disks pv ≡ Some disk) where
  abbrev areas : List AreaFound
  areas = areas_on disk.contents

  -- what holds of all held areas holds of one of this disk
  pub of_all : (P : Area × Option Locn → Type 0) → All P found.areas → (n : ℕ) (area : AreaFound) (held : Area × Option Locn)
      → slice_get areas n ≡ Some area → held_area pv area ≡ Some held → P held
  of_all P all n area held at is =
      let each : All (λ f. (x : Area × Option Locn) → held_area (0 + pv) f ≡ Some x → P x) areas =
      of_held P 0 found.disks (subst (All P) shape.areas all) pv disk there in
      all_at (λ f. (x : Area × Option Locn) → held_area (0 + pv) f ≡ Some x → P x) areas n area at each held
      (ap (λ (m : ℕ). held_area m area) (let e : 0 + pv ≡ pv = omega arith in e) ∙ is)

  apart_here : (a b : Area × Option Locn) → a.0.pv ≡ b.0.pv → a.0.start ≡ b.0.start → CanTake a → CanTake b → LieApart a b → ⊥
  apart_here a b same_pv same_start take_a take_b (inl other) = other same_pv
  apart_here a b same_pv same_start take_a take_b (inr (inl before)) = omega (arith, before, same_start, take_a.0.has_ring)
  apart_here a b same_pv same_start take_a take_b (inr (inr behind)) = omega (arith, behind, same_start, take_b.0.has_ring)

  -- two areas at one place have one number
  one_number : (i j : ℕ) (x y : AreaFound) (a b : Area × Option Locn) → slice_get areas i ≡ Some x → slice_get areas j ≡ Some y
      → held_area pv x ≡ Some a → held_area pv y ≡ Some b → a.0.start ≡ b.0.start → i ≡ j
  one_number i j x y a b at_i at_j is_a is_b same_start =
      let pairs : AllPairs LieApart (filter_map (held_area pv) areas) =
      subst (λ (n : ℕ). AllPairs LieApart (filter_map (held_area n) areas)) (omega arith)
      (pairs_on LieApart 0 found.disks (subst (AllPairs LieApart) shape.areas shape.apart) pv disk there)
      in
      let take_a : CanTake a = of_all CanTake shape.take i x a at_i is_a in
      let take_b : CanTake b = of_all CanTake shape.take j y b at_j is_b in
      let same_pv : a.0.pv ≡ b.0.pv =
      ap (λ (o : Area). o.pv) (entry_kept (area_on pv x.area) x.entry a is_a)
      ∙ ap (λ (o : Area). o.pv) (sym (entry_kept (area_on pv y.area) y.entry b is_b)) in
      ⊎_elim
      (λ (below : i < j). absurd (apart_here a b same_pv same_start take_a take_b
      (pairs_kept (held_area pv) LieApart areas pairs i j x y a b below at_i at_j is_a is_b)))
      (λ (from : j ≤ i).
      ⊎_elim
      (λ (above : j < i). absurd (apart_here b a (sym same_pv) (sym same_start) take_b take_a
      (pairs_kept (held_area pv) LieApart areas pairs j i y x b a above at_j at_i is_b is_a)))
      (λ (upto : i ≤ j). omega (arith, from, upto))
      (cases_lt j i))
      (cases_lt i j)

  -- what holds of all stale areas holds of one of this disk, by its number
  pub of_stale : (P : Area × Option Locn → Type 0) → All P (stale_areas found) → (n : ℕ) (area : AreaFound) (held : Area × Option Locn)
      → slice_get areas n ≡ Some area → is_among found.stale pv n ≡ true → held_area pv area ≡ Some held → P held
  of_stale P all n area held at among is =
      let own : stale_in found.stale pv (n, area) ≡ Some held = ap (λ (b : Bool). cond b (held_area pv area) None) among ∙ is in
      all_in P (stale_areas found) held (flat_has (stale_on found.stale) found.disks held pv disk there
      (kept_has (stale_in found.stale pv) areas held n area at own)) all

  -- an area at the place of a stale one is among them
  pub stale_number : (stale : Area × Option Locn) → In (stale_areas found) stale → stale.0.pv ≡ pv
      → (n : ℕ) (area : AreaFound) (held : Area × Option Locn) → slice_get areas n ≡ Some area → held_area pv area ≡ Some held
      → stale.0.start ≡ held.0.start
      → is_among found.stale pv n ≡ true
  stale_number stale is here n area held at is_held same_start =
      let s : IsStaleAt found stale = stale_at found stale is in
      let on : s.pv ≡ pv = ap (λ (o : Area). o.pv) (sym (entry_kept (area_on s.pv s.area.area) s.area.entry stale s.held)) ∙ here in
      let same : s.disk ≡ disk = same_Some s.disk disk (sym s.there ∙ ap (slice_get found.disks) on ∙ there) in
      let number : s.number ≡ n =
      one_number s.number n s.area area stale held (ap (λ (d : Disk). slice_get (areas_on d.contents) s.number) (sym same) ∙ s.at) at
      (ap (λ (m : ℕ). held_area m s.area) (sym on) ∙ s.held) is_held same_start
      in
      ap (is_among found.stale pv) (sym number) ∙ ap (λ (m : ℕ). is_among found.stale m s.number) (sym on) ∙ s.among
