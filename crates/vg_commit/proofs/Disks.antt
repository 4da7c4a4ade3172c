-- The disks that the batches of a commit flush.
use Rattle.std.proofs.Common.{◌≡◌, ◌<◌, ℕ, Bool, true, false, ◌||◌, ◌==◌, cond, List, [], ◌∷◌, length, filter, Option, None, ⊎_elim, refl}
use Rattle.std.proofs.Common.{sym, ap, subst, ◌∙◌, eq-eqb}
use Rattle.std.specs.Prelude.{All}
use Rattle.std.specs.Cmp.{nat_cmp_total, unsigned_tied}
use Rattle.std.specs.Ordering.{nat_cmp}
use Rattle.std.specs.FinSet.{FinSet, contains, contains-empty, contains-insert, empty, insert}
use Rattle.std.specs.List.{AllByRecursion, range_with_len}
use Rattle.std.proofs.lemmas.Bool.{eqb-true, or_cases, or_left, or_right, true≢false}
use Rattle.std.proofs.lemmas.List.Elements.{All-cons, All-from_recursion, All-head, All-nil, All-tail, recursion_from_All}
use Rattle.disk_model.specs.InFlight.{IsAmong}
use Rattle.disk_batch.specs.Writes.{disks_in}
use Rattle.disk_batch.proofs.DisksOfSet.{among_disks, some_disk}
use Rattle.mda_header.specs.declared.header.Locn.{Locn}
use Rattle.mda_ring.specs.declared.area.Area.{Area}
use Rattle.vg_commit.specs.Preparing.{AreCommitted, IsOnDiskOf, area_disks, with_disks}

-- some area, where a list has none
pub no_area : Area × Option Locn
no_area = (record { pv = 0; start = 0; size = 0 }, None)

inserted : (disks : FinSet nat_cmp) (pv q : ℕ) → contains (insert disks pv) q ≡ ((q == pv) || contains disks q)
inserted disks pv q = contains-insert nat_cmp_total disks pv q ∙ ap (λ (t : Bool). t || contains disks q) (unsigned_tied q pv)

stays_in : (areas : List (Area × Option Locn)) (disks : FinSet nat_cmp) (pv : ℕ) → contains disks pv ≡ true
    → contains (with_disks disks areas) pv ≡ true
stays_in [] disks pv h = h
stays_in (a ∷ areas) disks pv h =
    stays_in areas (insert disks a.0.pv) pv (inserted disks a.0.pv pv ∙ or_right (pv == a.0.pv) (contains disks pv) h)

-- each area's disk is among those of the areas
pub each_in : (areas : List (Area × Option Locn)) (disks : FinSet nat_cmp)
    → All (λ (a : Area × Option Locn). contains (with_disks disks areas) a.0.pv ≡ true) areas
each_in [] disks = All-nil (λ (a : Area × Option Locn). contains disks a.0.pv ≡ true)
each_in (a ∷ areas) disks =
    All-cons (λ (b : Area × Option Locn). contains (with_disks (insert disks a.0.pv) areas) b.0.pv ≡ true) a areas
    (stays_in areas (insert disks a.0.pv) a.0.pv
    (inserted disks a.0.pv a.0.pv ∙ or_left (a.0.pv == a.0.pv) (contains disks a.0.pv) (eq-eqb a.0.pv a.0.pv refl)))
    (each_in areas (insert disks a.0.pv))

-- each area's disk is flushed by each batch
pub texts_on : (areas : List (Area × Option Locn)) (flush : FinSet nat_cmp) → All (IsOnDiskOf flush) areas
    → All (λ (a : Area × Option Locn). IsAmong (disks_in flush) a.0.pv) areas
texts_on areas flush on k d within = among_disks flush _ (on k d within).0 (on k d within).1

pub headers_on : (areas : List (Area × Option Locn)) (flush : FinSet nat_cmp) → All (IsOnDiskOf flush) areas
    → All (λ (a : Area × Option Locn). IsAmong (disks_in (area_disks areas)) a.0.pv) areas
headers_on areas flush on k d within = among_disks (area_disks areas) _ (on k d within).0 (each_in areas empty k d within)

-- and there is one
pub flush_some : (areas : List (Area × Option Locn)) (flush : FinSet nat_cmp) → AreCommitted areas flush → 0 < length (disks_in flush)
flush_some areas flush committed =
    some_disk flush _ (committed.on_disks 0 no_area committed.some).0 (committed.on_disks 0 no_area committed.some).1

pub area_disks_some : (areas : List (Area × Option Locn)) (flush disks : FinSet nat_cmp) → disks ≡ area_disks areas
    → AreCommitted areas flush → 0 < length (disks_in disks)
area_disks_some areas flush disks are committed =
    subst (λ (s : FinSet nat_cmp). 0 < length (disks_in s)) (sym are)
    (some_disk (area_disks areas) _ (committed.on_disks 0 no_area committed.some).0 (each_in areas empty 0 no_area committed.some))

-- only disks of areas are
only_in : (areas : List (Area × Option Locn)) (disks flush : FinSet nat_cmp) → All (IsOnDiskOf flush) areas
    → ((pv : ℕ) → contains disks pv ≡ true → contains flush pv ≡ true) → (pv : ℕ) → contains (with_disks disks areas) pv ≡ true
    → contains flush pv ≡ true
only_in [] disks flush on sub pv h = sub pv h
only_in (a ∷ areas) disks flush on sub pv h =
    only_in areas (insert disks a.0.pv) flush (All-tail (IsOnDiskOf flush) a areas on)
    (λ q is.
    ⊎_elim (λ same. ap (contains flush) (eqb-true q a.0.pv same) ∙ (All-head (IsOnDiskOf flush) a areas on).1) (λ old. sub q old)
    (or_cases (q == a.0.pv) (contains disks q) (sym (inserted disks a.0.pv q) ∙ is)))
    pv h

fewer : (P : ℕ → Type 0) (p q : ℕ → Bool) → ((x : ℕ) → q x ≡ true → p x ≡ true) → (xs : List ℕ) → AllByRecursion P (filter p xs)
    → AllByRecursion P (filter q xs)
fewer P p q sub [] h = tt
fewer P p q sub (x ∷ xs) h = step (λ rest. fewer P p q sub xs rest) (p x) (q x) refl refl h
  where
    step : (AllByRecursion P (filter p xs) → AllByRecursion P (filter q xs)) → (b c : Bool) → p x ≡ b → q x ≡ c
        → AllByRecursion P (cond b (x ∷ filter p xs) (filter p xs)) → AllByRecursion P (cond c (x ∷ filter q xs) (filter q xs))
    step rest true true e f k = (k.0, rest k.1)
    step rest true false e f k = rest k.1
    step rest false true e f k = absurd (true≢false (sym (sub x f) ∙ e))
    step rest false false e f k = rest k

-- so what holds of all that are flushed first holds of the areas' disks
pub area_disks_too : (P : ℕ → Type 0) (areas : List (Area × Option Locn)) (flush : FinSet nat_cmp) → All (IsOnDiskOf flush) areas
    → All P (disks_in flush) → All P (disks_in (area_disks areas))
unfolding disks_in
area_disks_too P areas flush on all =
    All-from_recursion P (filter (contains (area_disks areas)) (range_with_len 0 64))
    (fewer P (contains flush) (contains (area_disks areas))
    (only_in areas empty flush on (λ pv none. absurd (true≢false (sym none ∙ contains-empty nat_cmp pv)))) (range_with_len 0 64)
    (recursion_from_All P (filter (contains flush) (range_with_len 0 64)) all))
