-- A group that a line extends keeps all rules, but for the number of its physical volumes, and can be printed.
use Rattle.std.proofs.Common.{◌≡◌, ◌≢◌, ◌≤◌, ◌<◌, ℕ, ◌+◌, ◌-◌, ◌*◌, ◌/◌, ◌^◌, List, [], ◌∷◌, length, map, ap, ◌∙◌, arith}
use Rattle.std.specs.Prelude.{All}
use Rattle.std.specs.List.{AllByRecursion as Each}
use Rattle.std.proofs.Math.Nat.{div-le_self, div-mul-le_self}
use Rattle.std.proofs.lemmas.List.{length-map}
use Rattle.lvm_id.specs.LvmId.{IsId}
use Rattle.conf_text.specs.Grammar.{IsContent}
use Rattle.meta_model.specs.declared.group.Group.{Group}
use Rattle.meta_model.specs.declared.lv.Lv.{Lv}
use Rattle.meta_model.specs.declared.pv.Pv.{Pv}
use Rattle.meta_print.proofs.Printable.{IsPv}
use Rattle.volume_rules.specs.Rules.{FitsDevice, PvIsSmall, ids_of}
use Rattle.group_edits.proofs.JoinedRules.{AreApart as PvsApart, Fits as PvFits, IdApart as PvApart, IsFresh as PvIsFresh, IsGood}
use Rattle.group_edits.proofs.JoinedRules.{count_joined, good_joined}
use Rattle.group_edits.proofs.PrintedIds.{id_again}
use Rattle.group_plan.specs.Added.{IsAdded, data_end, data_start, pv_of}
use Rattle.group_plan.specs.NewGroup.{with_added}
use Rattle.group_plan.specs.declared.added.AddedPv.{AddedPv}

-- an extent fits in it, and its name and id can be printed
pub record Fits (extent_size : ℕ) (added : AddedPv) : Type 0 where
  pub is : IsAdded added
  pub fits : data_start added + extent_size ≤ data_end added
  pub id : IsId added.header.id
  pub content : IsContent added.name

-- no id of the group is its
abbrev pub IsFresh : Group → AddedPv → Type 0
IsFresh group added = All (λ id. id ≢ added.header.id) (ids_of group)

abbrev pub IdApart : AddedPv → AddedPv → Type 0
IdApart a b = a.header.id ≢ b.header.id

-- no two of them have one
abbrev pub AreApart : List AddedPv → Type 0
AreApart [] = Unit {0}
AreApart (added ∷ more) = Each (IdApart added) more × AreApart more

-- ---- one

whole_extents : (room extent_size : ℕ) → 1 ≤ extent_size → (room / extent_size * extent_size ≤ room) × (room / extent_size ≤ room)
whole_extents room extent_size some = (div-mul-le_self room extent_size, div-le_self room extent_size)

small : (extent_size : ℕ) (added : AddedPv) → 1 ≤ extent_size → Fits extent_size added → PvIsSmall (pv_of extent_size added)
small extent_size added some fits =
    let whole : ((data_end added - data_start added) / extent_size * extent_size ≤ data_end added - data_start added)
    × ((data_end added - data_start added) / extent_size ≤ data_end added - data_start added) =
    whole_extents (data_end added - data_start added) extent_size some
    in
    let most : added.sectors ≤ 2 ^ 40 = fits.is.most in
    let starts : data_start added ≤ added.sectors = fits.is.starts in
    let ends : data_end added ≤ added.sectors = fits.is.ends in
    (omega (arith, most), omega (arith, most, starts), omega (arith, most, ends, whole.1))

fits_device : (extent_size : ℕ) (added : AddedPv) → 1 ≤ extent_size → Fits extent_size added
    → FitsDevice extent_size (pv_of extent_size added)
fits_device extent_size added some fits =
    let whole : ((data_end added - data_start added) / extent_size * extent_size ≤ data_end added - data_start added)
    × ((data_end added - data_start added) / extent_size ≤ data_end added - data_start added) =
    whole_extents (data_end added - data_start added) extent_size some
    in
    let most : added.sectors ≤ 2 ^ 40 = fits.is.most in
    let ends : data_end added ≤ added.sectors = fits.is.ends in
    let room : data_start added + extent_size ≤ data_end added = fits.fits in
    let within : data_start added + (data_end added - data_start added) / extent_size * extent_size ≤ added.sectors =
    omega (arith, whole.0, ends, room) in
    (omega (arith, within, most), λ known. within)

printable_pv : (extent_size : ℕ) (added : AddedPv) → 1 ≤ extent_size → Fits extent_size added → IsPv (pv_of extent_size added)
printable_pv extent_size added some fits =
    let numbers : PvIsSmall (pv_of extent_size added) = small extent_size added some fits in
    record {
      id_again = id_again added.header.id fits.id;
      device_content = fits.content;
      size_fits = omega (arith, numbers.0);
      start_fits = omega (arith, numbers.1);
      count_fits = omega (arith, numbers.2);
    }

fits_pv : (extent_size : ℕ) (added : AddedPv) → 1 ≤ extent_size → Fits extent_size added → PvFits extent_size (pv_of extent_size added)
fits_pv extent_size added some fits = record {
  small = small extent_size added some fits;
  device = fits_device extent_size added some fits;
  printable = printable_pv extent_size added some fits;
}

-- ---- all of them

module _ (group : Group) (extent_size : ℕ) (some : 1 ≤ extent_size) where
  all_fit : (all : List AddedPv) → Each (Fits extent_size) all → Each (PvFits extent_size) (map (pv_of extent_size) all)
  all_fit [] fits = tt
  all_fit (added ∷ more) fits = (fits_pv extent_size added some fits.0, all_fit more fits.1)

  all_fresh : (all : List AddedPv) → Each (IsFresh group) all → Each (PvIsFresh group) (map (pv_of extent_size) all)
  all_fresh [] fresh = tt
  all_fresh (added ∷ more) fresh = (fresh.0, all_fresh more fresh.1)

  one_apart : (added : AddedPv) (all : List AddedPv) → Each (IdApart added) all
      → Each (PvApart (pv_of extent_size added)) (map (pv_of extent_size) all)
  one_apart added [] apart = tt
  one_apart added (other ∷ more) apart = (apart.0, one_apart added more apart.1)

  all_apart : (all : List AddedPv) → AreApart all → PvsApart (map (pv_of extent_size) all)
  all_apart [] apart = tt
  all_apart (added ∷ more) apart = (one_apart added more apart.0, all_apart more apart.1)

pub good_added : (group : Group) (all : List AddedPv) → 1 ≤ group.extent_size → length group.pvs + length group.lvs + length all < 2 ^ 33
    → IsGood group → Each (Fits group.extent_size) all → Each (IsFresh group) all → AreApart all
    → IsGood (record group { pvs = with_added group.lvs group.extent_size group.pvs all })
good_added group all some few good fits fresh apart =
    let size : ℕ = group.extent_size in
    good_joined group (map (pv_of size) all) (omega (arith, few, length-map all (pv_of size))) good (all_fit group size some all fits)
    (all_fresh group size some all fresh) (all_apart group size some all apart)

pub count_added : (lvs : List (List ℕ × Lv)) (extent_size : ℕ) (pvs : List (List ℕ × Pv)) (all : List AddedPv)
    → length (with_added lvs extent_size pvs all) ≡ length pvs + length all
count_added lvs extent_size pvs all =
    count_joined lvs pvs (map (pv_of extent_size) all) ∙ ap (λ (n : ℕ). length pvs + n) (length-map all (pv_of extent_size))
