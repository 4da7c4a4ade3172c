-- The labels of the physical volumes that a line adds can be written where they were found.
use Rattle.std.proofs.Common.{◌≡◌, ◌≢◌, ◌≤◌, ◌<◌, ℕ, ◌+◌, List, [], ◌∷◌, length, map, Option, Some, None, refl, sym, subst, arith}
use Rattle.std.specs.Prelude.{All, AllPairs, option_map, slice_get}
use Rattle.std.specs.Option.{option_and_then}
use Rattle.std.specs.List.{AllByRecursion as Each}
use Rattle.std.proofs.lemmas.List.Elements.{All-from_recursion, All-map, All-weaker}
use Rattle.std.proofs.lemmas.List.Kept.{AllPairs-cons}
use Rattle.std.proofs.lemmas.Option.{none-some, option_and_then_some, same_Some, slice_get_within}
use Rattle.command_table.specs.Options.{number_named}
use Rattle.pv_header.specs.PvHeader.{IsPvHeader}
use Rattle.pv_header.specs.declared.header.PvHeader.{PvHeader}
use Rattle.disk_contents.specs.declared.contents.PvFound.{PvFound}
use Rattle.disk_contents.specs.declared.contents.PvFound.TheVariants.{NoLabel, NoHeader, Whole}
use Rattle.list_laws.proofs.KeptLists.{all_kept}
use Rattle.vg_found.specs.declared.disk.Disk.{Disk}
use Rattle.vg_found.specs.Shape.{ContentsCanStand, IsDisk}
use Rattle.group_plan.proofs.Passed.{DiskApart, DisksApart}
use Rattle.group_plan.specs.Added.{added_at, added_named, added_of, added_on, disks_added, label_of, pv_in}
use Rattle.group_plan.specs.State.{IsState}
use Rattle.group_plan.specs.declared.added.AddedPv.{AddedPv}
use Rattle.group_plan.specs.declared.state.GroupState.{GroupState}
use Rattle.group_plan.specs.declared.state.NewLabel.{NewLabel}
use Rattle.change_batches.proofs.HeldInDisks.{HasSize, has_size}
use Rattle.change_batches.specs.Sound.{sizes_of, CanLabel, LabelLies}

-- it stands on one of the disks, its label in one of the first four sectors, and its lists fit behind that
pub record StandsOn (disks : List Disk) (added : AddedPv) : Type 0 where
  pub disk : Disk
  pub there : slice_get disks added.disk ≡ Some disk
  pub least : 8 ≤ disk.sectors
  pub sector : added.label < 4
  pub fits : length added.header.data_areas + length added.header.areas ≤ 24

-- ---- what stands on its disk

-- lists that are read from a sector fit into one
lists_fit : (sector : List ℕ) (header : PvHeader) → IsPvHeader sector header [] → length header.data_areas + length header.areas ≤ 24
lists_fit sector header is = omega (arith, is.bootloader_at.within)

record Fits (label : ℕ) (header : PvHeader) : Type 0 where
  sector : label < 4
  fits : length header.data_areas + length header.areas ≤ 24

fits_by : (pv sectors : ℕ) (found : PvFound) (label : ℕ) (header : PvHeader) → ContentsCanStand pv sectors (Some found)
    → pv_in found ≡ Some (label, header) → Fits label header
fits_by pv sectors (NoLabel refusal) label header stands is = absurd cc
fits_by pv sectors (NoHeader other refusal) label header stands is = absurd cc
fits_by pv sectors (Whole other own areas) label header stands is =
    subst (λ (pair : ℕ × PvHeader). Fits pair.0 pair.1) (same_Some (other, own) (label, header) is)
    (record { sector = stands.0; fits = lists_fit stands.1.0 own stands.1.1.fields })

fits_in : (pv sectors : ℕ) (contents : Option PvFound) (label : ℕ) (header : PvHeader) → ContentsCanStand pv sectors contents
    → option_and_then pv_in contents ≡ Some (label, header) → Fits label header
fits_in pv sectors None label header stands is = absurd cc
fits_in pv sectors (Some found) label header stands is = fits_by pv sectors found label header stands is

-- ---- one of them

abbrev added_with : List ℕ → ℕ → ℕ → ℕ × PvHeader → AddedPv
added_with name number sectors pv = record { disk = number; name = name; sectors = sectors; label = pv.0; header = pv.1 }

stands_with : (state : GroupState) → IsState state → (name : List ℕ) (number : ℕ) (disk : Disk) → slice_get state.disks number ≡ Some disk
    → (o : Option (ℕ × PvHeader)) → option_and_then pv_in disk.contents ≡ o → (added : AddedPv)
    → option_map (added_with name number disk.sectors) o ≡ Some added → StandsOn state.disks added
stands_with state is name number disk there None found added has = absurd (none-some added has)
stands_with state is name number disk there (Some (label, header)) found added has =
    let whole : IsDisk number disk = is.disks number disk there in
    let fits : Fits label header = fits_in number disk.sectors disk.contents label header whole.contents found in
    subst (StandsOn state.disks) (same_Some (added_with name number disk.sectors (label, header)) added has)
    (record { disk = disk; there = there; least = whole.least; sector = fits.sector; fits = fits.fits })

stands_on : (state : GroupState) → IsState state → (name : List ℕ) (added : AddedPv) → added_named state name ≡ Some added
    → StandsOn state.disks added
unfolding added_named
stands_on state is name added found =
    option_and_then_some {P = StandsOn state.disks added} (added_at state name) (number_named state.names name) added found
    (λ number named at.
    option_and_then_some {P = StandsOn state.disks added} (added_on name number) (slice_get state.disks number) added at
    (λ disk there on. stands_with state is name number disk there (option_and_then pv_in disk.contents) refl added on))

-- all of them
pub all_stand : (state : GroupState) → IsState state → (names : List (List ℕ)) → All (StandsOn state.disks) (added_of state names)
all_stand state is names =
    all_kept (StandsOn state.disks) (λ name. Unit {0}) (added_named state) (λ name added any found. stands_on state is name added found)
    names (λ k d within. tt)

-- ---- their labels

module _ (disks : List Disk) (all : List AddedPv) (stand : All (StandsOn disks) all) where
  pub can_label : length disks ≤ 64 → All CanLabel (map label_of all)
  can_label few =
      All-map CanLabel label_of all
      (All-weaker (StandsOn disks) (λ added. CanLabel (label_of added))
      (λ added stands. record {
        disk_below =
            let within : added.disk < length disks = slice_get_within disks added.disk stands.disk stands.there in omega
            (arith, within, few);
        sector_below = stands.sector;
        fits = stands.fits;
      }) all stand)

  pub labels_lie : All (LabelLies (sizes_of disks)) (map label_of all)
  labels_lie =
      All-map (LabelLies (sizes_of disks)) label_of all
      (All-weaker (StandsOn disks) (λ added. LabelLies (sizes_of disks) (label_of added))
      (λ added stands.
      let has : HasSize (sizes_of disks) added.disk stands.disk.sectors = has_size disks added.disk stands.disk stands.there in
      record { disk = has.within; within = omega (arith, has.size, stands.sector, stands.least) }) all stand)

  pub added_there : All (λ n. n < length disks) (disks_added all)
  added_there =
      All-map (λ n. n < length disks) (λ (added : AddedPv). added.disk) all
      (All-weaker (StandsOn disks) (λ (added : AddedPv). added.disk < length disks)
      (λ added stands. slice_get_within disks added.disk stands.disk stands.there) all stand)

-- on disks that differ
abbrev LabelsApart : NewLabel → NewLabel → Type 0
LabelsApart a b = a.disk ≢ b.disk

first_apart : (added : AddedPv) (more : List AddedPv) → Each (DiskApart added) more
    → Each (LabelsApart (label_of added)) (map label_of more)
first_apart added [] apart = tt
first_apart added (other ∷ more) apart = ((λ same. apart.0 (sym same)), first_apart added more apart.1)

pub labels_differ : (all : List AddedPv) → DisksApart all → AllPairs LabelsApart (map label_of all)
labels_differ [] apart = λ i j d before within. absurd (omega (arith, before, within))
labels_differ (added ∷ more) apart =
    AllPairs-cons LabelsApart (label_of added) (map label_of more)
    (All-from_recursion (LabelsApart (label_of added)) (map label_of more) (first_apart added more apart.0))
    (labels_differ more apart.1)
