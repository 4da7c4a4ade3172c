-- Each metadata area that is held lies in its disk.
use Rattle.std.proofs.Common.{◌≡◌, ◌<◌, ◌≤◌, ℕ, suc, ◌+◌, ◌/◌, List, [], ◌∷◌, length, slice_index_or, Option, Some, None, refl, sym, ap}
use Rattle.std.proofs.Common.{subst, ◌∙◌, arith}
use Rattle.std.specs.Prelude.{All, filter_map, option_map, slice_get}
use Rattle.std.proofs.lemmas.List.{length-map}
use Rattle.std.proofs.lemmas.List.Elements.{All-nil, All-append, All-weaker}
use Rattle.std.proofs.lemmas.Option.{get_or_from_slice_get, same_Some, slice_get-map, slice_get_within}
use Rattle.disk_model.specs.Calls.{Reserves}
use Rattle.disk_model.specs.State.{State}
use Rattle.mda_header.specs.declared.entry.HeaderEntry.{HeaderEntry}
use Rattle.mda_header.specs.declared.entry.HeaderEntry.TheVariants.{Ignored, Nothing, Text, Refused}
use Rattle.mda_header.specs.declared.header.Locn.{Locn}
use Rattle.mda_ring.specs.declared.area.Area.{Area}
use Rattle.disk_contents.specs.declared.contents.AreaFound.{AreaFound}
use Rattle.disk_contents.specs.declared.contents.PvFound.{PvFound}
use Rattle.disk_contents.specs.declared.contents.PvFound.TheVariants.{NoLabel, NoHeader, Whole}
use Rattle.disk_contents.specs.Standing.{IsUsable, area_on}
use Rattle.list_laws.proofs.KeptLists.{all_kept}
use Rattle.vg_found.specs.declared.disk.Disk.{Disk}
use Rattle.vg_found.specs.Disks.{areas_on, held_area, held_areas, held_by}
use Rattle.vg_found.specs.Shape.{ContentsCanStand, IsDisk}
use Rattle.group_plan.specs.State.{IsState}
use Rattle.group_plan.specs.declared.state.GroupState.{GroupState}
use Rattle.change_batches.specs.Building.{LiesIn}
use Rattle.change_batches.specs.Sound.{sizes_of}

-- ---- sizes

-- the disk stands among the sizes
pub record HasSize (sizes : List ℕ) (pv sectors : ℕ) : Type 0 where
  pub within : pv < length sizes
  pub size : slice_index_or sizes pv 0 ≡ sectors

pub has_size : (disks : List Disk) (pv : ℕ) (disk : Disk) → slice_get disks pv ≡ Some disk → HasSize (sizes_of disks) pv disk.sectors
has_size disks pv disk there =
    let sized : slice_get (sizes_of disks) pv ≡ Some disk.sectors =
    slice_get-map (λ (d : Disk). d.sectors) disks pv ∙ ap (option_map (λ (d : Disk). d.sectors)) there in
    record {
      within = slice_get_within (sizes_of disks) pv disk.sectors sized;
      size = get_or_from_slice_get (sizes_of disks) pv disk.sectors 0 sized;
    }

pub sizes_below : (disks : List Disk) (numbers : List ℕ) → All (λ n. n < length disks) numbers
    → All (λ n. n < length (sizes_of disks)) numbers
sizes_below disks numbers below =
    subst (λ (count : ℕ). All (λ n. n < count) numbers) (sym (length-map disks (λ (d : Disk). d.sectors))) below

-- memory that is reserved leaves them as they are
pub sizes_kept : (old new : State) (ops sectors : ℕ) (sizes : List ℕ) → Reserves old ops sectors new → old.sizes ≡ sizes → sizes ≡ new.sizes
sizes_kept old new ops sectors sizes reserves are = sym (ap (λ (s : State). s.sizes) reserves.same ∙ are)

-- ---- the areas of one disk

-- the area is on this disk, and ends within so many sectors
record EndsOn (pv sectors : ℕ) (area : Area) : Type 0 where
  same : area.pv ≡ pv
  within : area.start / 512 + area.size / 512 ≤ sectors

kept_ends : (pv sectors : ℕ) (area : Area) (entry : HeaderEntry) (kept : Area × Option Locn) → held_by area entry ≡ Some kept
    → EndsOn pv sectors area → EndsOn pv sectors kept.0
kept_ends pv sectors area Ignored kept is ends = absurd cc
kept_ends pv sectors area Nothing kept is ends =
    subst (λ (a : Area × Option Locn). EndsOn pv sectors a.0) (same_Some (area, None) kept is) ends
kept_ends pv sectors area (Text locn) kept is ends =
    subst (λ (a : Area × Option Locn). EndsOn pv sectors a.0) (same_Some (area, Some locn) kept is) ends
kept_ends pv sectors area (Refused refusal) kept is ends =
    subst (λ (a : Area × Option Locn). EndsOn pv sectors a.0) (same_Some (area, None) kept is) ends

usable_ends : (pv sectors : ℕ) (found : AreaFound) → IsUsable pv sectors found → EndsOn pv sectors (area_on pv found.area)
usable_ends pv sectors found usable =
    record { same = refl; within = omega (arith, usable.area.start_is_whole, usable.area.size_is_whole, usable.within) }

on_one : (pv sectors : ℕ) (contents : Option PvFound) → ContentsCanStand pv sectors contents
    → All (λ (area : Area × Option Locn). EndsOn pv sectors area.0) (filter_map (held_area pv) (areas_on contents))
on_one pv sectors None stands = All-nil (λ (area : Area × Option Locn). EndsOn pv sectors area.0)
on_one pv sectors (Some (NoLabel refusal)) stands = All-nil (λ (area : Area × Option Locn). EndsOn pv sectors area.0)
on_one pv sectors (Some (NoHeader label refusal)) stands = All-nil (λ (area : Area × Option Locn). EndsOn pv sectors area.0)
on_one pv sectors (Some (Whole label header areas)) stands =
    all_kept (λ (area : Area × Option Locn). EndsOn pv sectors area.0) (IsUsable pv sectors) (held_area pv)
    (λ found kept usable is. kept_ends pv sectors (area_on pv found.area) found.entry kept is (usable_ends pv sectors found usable)) areas
    stands.3

-- ---- those of all disks

lies_in : (sizes : List ℕ) (pv sectors : ℕ) (area : Area × Option Locn) → HasSize sizes pv sectors → EndsOn pv sectors area.0
    → LiesIn sizes area
lies_in sizes pv sectors area has ends =
    let size : slice_index_or sizes area.0.pv 0 ≡ sectors = ap (λ (n : ℕ). slice_index_or sizes n 0) ends.same ∙ has.size in
    record { disk = omega (arith, has.within, ends.same); within = omega (arith, ends.within, size) }

abbrev IsThere : List Disk → ℕ → List Disk → Type 0
IsThere all pv disks = (k : ℕ) (disk : Disk) → slice_get disks k ≡ Some disk → IsDisk (pv + k) disk × (slice_get all (pv + k) ≡ Some disk)

lie_from : (all : List Disk) (pv : ℕ) (disks : List Disk) → IsThere all pv disks → All (LiesIn (sizes_of all)) (held_areas pv disks)
lie_from all pv [] each = All-nil (LiesIn (sizes_of all))
lie_from all pv (disk ∷ disks) each =
    let first : IsDisk pv disk × (slice_get all pv ≡ Some disk) =
    subst (λ (n : ℕ). IsDisk n disk × (slice_get all n ≡ Some disk)) (omega arith) (each 0 disk refl) in
    let has : HasSize (sizes_of all) pv disk.sectors = has_size all pv disk first.1 in
    All-append (LiesIn (sizes_of all)) (filter_map (held_area pv) (areas_on disk.contents)) (held_areas (pv + 1) disks)
    (All-weaker (λ (area : Area × Option Locn). EndsOn pv disk.sectors area.0) (LiesIn (sizes_of all))
    (λ area ends. lies_in (sizes_of all) pv disk.sectors area has ends)
    (filter_map (held_area pv) (areas_on disk.contents)) (on_one pv disk.sectors disk.contents first.0.contents))
    (lie_from all (pv + 1) disks (λ k d is. subst (λ (n : ℕ). IsDisk n d × (slice_get all n ≡ Some d)) (omega arith) (each (suc k) d is)))

pub held_lie : (disks : List Disk) → ((pv : ℕ) (disk : Disk) → slice_get disks pv ≡ Some disk → IsDisk pv disk)
    → All (LiesIn (sizes_of disks)) (held_areas 0 disks)
held_lie disks each =
    lie_from disks 0 disks (λ k disk there. subst (λ (n : ℕ). IsDisk n disk × (slice_get disks n ≡ Some disk)) (omega arith)
    (each k disk there, there))

-- all that a line is judged against
pub areas_lie : (state : GroupState) → IsState state → All (LiesIn (sizes_of state.disks)) state.areas
areas_lie state is = subst (All (LiesIn (sizes_of state.disks))) (sym is.areas) (held_lie state.disks is.disks)
