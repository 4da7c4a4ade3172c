-- Physical volumes on disks that differ are no more than there are disks.
use Rattle.std.proofs.Common.{◌≡◌, ◌≤◌, ◌<◌, ℕ, Bool, true, false, ◌||◌, eqb, List, [], ◌∷◌, length, None, refl, sym, subst, arith}
use Rattle.std.specs.Prelude.{All}
use Rattle.std.specs.List.{AllByRecursion as Each, IsDistinct, list_any}
use Rattle.std.proofs.lemmas.Bool.{eqb-true, ne_eqb, true≢false}
use Rattle.std.proofs.lemmas.List.{length-map}
use Rattle.std.proofs.lemmas.List.Elements.{recursion_from_All}
use Rattle.std.proofs.lemmas.Map.Steps.{length-le_from_distinct_below}
use Rattle.group_plan.proofs.Passed.{DiskApart, DisksApart, all_unused}
use Rattle.group_plan.specs.Added.{IsAdded, disks_added}
use Rattle.group_plan.specs.Judging.{used_row}
use Rattle.group_plan.specs.declared.added.AddedPv.{AddedPv}

none_equal : (added : AddedPv) (more : List AddedPv) → Each (DiskApart added) more → Each (λ n. eqb added.disk n ≡ false) (disks_added more)
none_equal added [] apart = tt
none_equal added (other ∷ more) apart = (ne_eqb added.disk other.disk (λ same. apart.0 (sym same)), none_equal added more apart.1)

distinct : (all : List AddedPv) → DisksApart all → IsDistinct eqb (disks_added all)
unfolding IsDistinct
distinct [] apart = tt
distinct (added ∷ more) apart = (none_equal added more apart.0, distinct more apart.1)

below_by : (q n : ℕ) (b rest : Bool) → eqb q n ≡ b → (b || rest) ≡ true → n < 64 → (rest ≡ true → q < 64) → q < 64
below_by q n true rest is any below later = subst (λ (m : ℕ). m < 64) (sym (eqb-true q n is)) below
below_by q n false rest is any below later = later any

below : (all : List AddedPv) (q : ℕ) → Each IsAdded all → list_any (eqb q) (disks_added all) ≡ true → q < 64
below [] q are any = absurd (true≢false (sym any))
below (added ∷ more) q are any =
    below_by q added.disk (eqb q added.disk) (list_any (eqb q) (disks_added more)) refl any are.0.disk_below (below more q are.1)

-- where none is used, they are at most 64
pub few_added : (listed : List ℕ) (all : List AddedPv) → All IsAdded all → used_row listed all ≡ None → length all ≤ 64
few_added listed all are none =
    let few : length (disks_added all) ≤ 64 =
    length-le_from_distinct_below (disks_added all) 64 (distinct all (all_unused listed all none).1)
    (λ q any. below all q (recursion_from_All IsAdded all are) any)
    in
    omega (arith, few, length-map all (λ (added : AddedPv). added.disk))
