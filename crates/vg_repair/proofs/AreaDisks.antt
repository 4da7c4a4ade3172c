-- The disks of areas.
use Rattle.std.proofs.Common.{◌≡◌, ◌<◌, ℕ, true, List, [], ◌∷◌, length, map, Option, refl, sym, subst}
use Rattle.std.specs.Prelude.{All}
use Rattle.std.specs.Ordering.{nat_cmp}
use Rattle.std.specs.FinSet.{FinSet, contains, empty, insert}
use Rattle.std.proofs.lemmas.List.Elements.{All-map}
use Rattle.mda_header.specs.declared.header.Locn.{Locn}
use Rattle.mda_ring.specs.declared.area.Area.{Area}
use Rattle.disk_batch.specs.Writes.{disks_in}
use Rattle.vg_commit.proofs.Disks.{each_in}
use Rattle.vg_commit.specs.Preparing.{area_disks, with_disks}
use Rattle.group_plan.specs.Judging.{with_all}
use Rattle.change_batches.proofs.DiskSets.{of_disks}
use Rattle.change_batches.specs.Building.{LiesIn}

-- each area's is one of them
pub disks_hold : (areas : List (Area × Option Locn)) → All (λ (a : Area × Option Locn). contains (area_disks areas) a.0.pv ≡ true) areas
disks_hold areas = each_in areas empty

as_numbers : (areas : List (Area × Option Locn)) (disks : FinSet nat_cmp)
    → with_disks disks areas ≡ with_all disks (map (λ (a : Area × Option Locn). a.0.pv) areas)
as_numbers [] disks = refl
as_numbers (a ∷ areas) disks = as_numbers areas (insert disks a.0.pv)

-- and each is a disk of the shelf
pub disks_within : (sizes : List ℕ) (areas : List (Area × Option Locn)) → All (LiesIn sizes) areas
    → All (λ (pv : ℕ). pv < length sizes) (disks_in (area_disks areas))
disks_within sizes areas lie =
    subst (λ (s : FinSet nat_cmp). All (λ (pv : ℕ). pv < length sizes) (disks_in s)) (sym (as_numbers areas empty))
    (of_disks (λ (pv : ℕ). pv < length sizes) (map (λ (a : Area × Option Locn). a.0.pv) areas)
    (All-map (λ (pv : ℕ). pv < length sizes) (λ (a : Area × Option Locn). a.0.pv) areas (λ k d within. (lie k d within).disk)))
