-- Some elements of a list, in its order, and the stale areas as some of those that are held.
use Rattle.std.proofs.Common.{◌≡◌, ℕ, suc, ◌+◌, Bool, true, false, cond, List, [], ◌∷◌, ◌++◌, Option, Some, None, ◌⊎◌, inl, inr, refl, sym}
use Rattle.std.proofs.Common.{subst, arith}
use Rattle.std.specs.Prelude.{All, AllPairs}
use Rattle.std.specs.List.{cons_option, enumerate_from, filter_map, flat_map}
use Rattle.std.proofs.lemmas.List.Elements.{All-cons, All-head, All-nil, All-tail}
use Rattle.std.proofs.lemmas.List.Kept.{AllPairs-cons}
use Rattle.mda_header.specs.declared.header.Locn.{Locn}
use Rattle.mda_ring.specs.declared.area.Area.{Area}
use Rattle.disk_contents.specs.declared.contents.AreaFound.{AreaFound}
use Rattle.vg_found.specs.Disks.{areas_on, held_area, held_areas}
use Rattle.vg_found.specs.declared.disk.Disk.{Disk}
use Rattle.vg_repair.specs.Stale.{is_among, stale_in, stale_on}

-- these are some of the elements of another list, in its order
abbrev pub AreSomeOf : {X : Type 0} → List X → List X → Type 0
AreSomeOf [] ys = Unit {0}
AreSomeOf (x ∷ xs) [] = ⊥
AreSomeOf (x ∷ xs) (y ∷ ys) = ((x ≡ y) × AreSomeOf xs ys) ⊎ AreSomeOf (x ∷ xs) ys

skip_one : {X : Type 0} (y : X) (xs ys : List X) → AreSomeOf xs ys → AreSomeOf xs (y ∷ ys)
skip_one y [] ys some = tt
skip_one y (x ∷ xs) ys some = inr some

some_append : {X : Type 0} (a b c d : List X) → AreSomeOf a b → AreSomeOf c d → AreSomeOf (a ++ c) (b ++ d)
some_append [] [] c d first second = second
some_append [] (y ∷ b) c d first second = skip_one y c (b ++ d) (some_append [] b c d tt second)
some_append (x ∷ a) [] c d first second = absurd first
some_append (x ∷ a) (y ∷ b) c d (inl here) second = inl (here.0, some_append a b c d here.1 second)
some_append (x ∷ a) (y ∷ b) c d (inr later) second = inr (some_append (x ∷ a) b c d later second)

-- what holds of all holds of these
pub some_all : {X : Type 0} (P : X → Type 0) (xs ys : List X) → AreSomeOf xs ys → All P ys → All P xs
some_all P [] ys some all = All-nil P
some_all P (x ∷ xs) [] some all = absurd some
some_all P (x ∷ xs) (y ∷ ys) (inl here) all =
    All-cons P x xs (subst P (sym here.0) (All-head P y ys all)) (some_all P xs ys here.1 (All-tail P y ys all))
some_all P (x ∷ xs) (y ∷ ys) (inr later) all = some_all P (x ∷ xs) ys later (All-tail P y ys all)

module _ {X : Type 0} (R : X → X → Type 0) where
  pub pairs_first : (x : X) (xs : List X) → AllPairs R (x ∷ xs) → All (R x) xs
  pairs_first x xs pairs k d within = pairs 0 (suc k) d (omega arith) (omega arith)

  pub pairs_later : (x : X) (xs : List X) → AllPairs R (x ∷ xs) → AllPairs R xs
  pairs_later x xs pairs i j d before within = pairs (suc i) (suc j) d (omega arith) (omega arith)

  -- and of all pairs, of all pairs of these
  pub some_pairs : (xs ys : List X) → AreSomeOf xs ys → AllPairs R ys → AllPairs R xs
  some_pairs [] ys some pairs = λ i j d before within. absurd (omega (arith, before, within))
  some_pairs (x ∷ xs) [] some pairs = absurd some
  some_pairs (x ∷ xs) (y ∷ ys) (inl here) pairs =
      AllPairs-cons R x xs (some_all (R x) xs ys here.1 (subst (λ (z : X). All (R z) ys) (sym here.0) (pairs_first y ys pairs)))
      (some_pairs xs ys here.1 (pairs_later y ys pairs))
  some_pairs (x ∷ xs) (y ∷ ys) (inr later) pairs = some_pairs (x ∷ xs) ys later (pairs_later y ys pairs)

-- what holds of all of two lists holds of all of each
module _ {X : Type 0} (P : X → Type 0) where
  pub all_front : (xs ys : List X) → All P (xs ++ ys) → All P xs
  all_front [] ys all = All-nil P
  all_front (x ∷ xs) ys all = All-cons P x xs (All-head P x (xs ++ ys) all) (all_front xs ys (All-tail P x (xs ++ ys) all))

  pub all_back : (xs ys : List X) → All P (xs ++ ys) → All P ys
  all_back [] ys all = all
  all_back (x ∷ xs) ys all = all_back xs ys (All-tail P x (xs ++ ys) all)

-- ---- areas

one_some : (stale : Bool) (held : Option (Area × Option Locn)) (xs ys : List (Area × Option Locn)) → AreSomeOf xs ys
    → AreSomeOf (cons_option (cond stale held None) xs) (cons_option held ys)
one_some true None xs ys some = some
one_some true (Some area) xs ys some = inl (refl, some)
one_some false None xs ys some = some
one_some false (Some area) xs ys some = skip_one area xs ys some

on_disk : (stale : List (ℕ × ℕ)) (pv number : ℕ) (founds : List AreaFound)
    → AreSomeOf (filter_map (stale_in stale pv) (enumerate_from number founds)) (filter_map (held_area pv) founds)
on_disk stale pv number [] = tt
on_disk stale pv number (found ∷ founds) =
    one_some (is_among stale pv number) (held_area pv found) (filter_map (stale_in stale pv) (enumerate_from (number + 1) founds))
    (filter_map (held_area pv) founds) (on_disk stale pv (number + 1) founds)

pub stale_some : (stale : List (ℕ × ℕ)) (pv : ℕ) (disks : List Disk)
    → AreSomeOf (flat_map (stale_on stale) (enumerate_from pv disks)) (held_areas pv disks)
stale_some stale pv [] = tt
stale_some stale pv (disk ∷ disks) =
    some_append (stale_on stale (pv, disk)) (filter_map (held_area pv) (areas_on disk.contents))
    (flat_map (stale_on stale) (enumerate_from (pv + 1) disks)) (held_areas (pv + 1) disks)
    (on_disk stale pv 0 (areas_on disk.contents)) (stale_some stale (pv + 1) disks)
