-- What the rows and the change ask of the disks that a line is judged against.
use Rattle.std.proofs.Common.{◌≡◌, ◌<◌, ℕ, List, ◌++◌, length, Option, Some, sym, subst, arith}
use Rattle.std.specs.Prelude.{All, IfSome}
use Rattle.std.proofs.lemmas.List.Elements.{All-append, All-map, All-weaker}
use Rattle.mda_ring.specs.Areas.{CanTake}
use Rattle.meta_model.specs.declared.group.Group.{Group}
use Rattle.vg_found.proofs.ShapedAreas.{areas_shaped}
use Rattle.vg_found.specs.Disks.{disks_of}
use Rattle.group_plan.specs.Added.{IsAdded, disks_added}
use Rattle.group_plan.specs.State.{IsState}
use Rattle.group_plan.specs.declared.added.AddedPv.{AddedPv}
use Rattle.group_plan.specs.declared.state.GroupState.{GroupState}

-- a number of one of 64 disks
abbrev pub IsBelow : ℕ → Type 0
IsBelow number = number < 64

pub areas_take : (state : GroupState) → IsState state → All CanTake state.areas
areas_take state is = subst (All CanTake) (sym is.areas) (areas_shaped state.disks is.disks).0

pub added_below : (all : List AddedPv) → All IsAdded all → All IsBelow (disks_added all)
added_below all are = All-map IsBelow (λ (added : AddedPv). added.disk) all (λ k d within. (are k d within).disk_below)

pub listed_are : (state : GroupState) (group : Group) → IsState state → state.group ≡ Some group
    → state.disk_of ≡ disks_of group state.disks
listed_are state group is found = subst (λ (o : Option Group). IfSome o (λ g. state.disk_of ≡ disks_of g state.disks)) found is.disk_of

pub listed_below : (state : GroupState) (group : Group) → IsState state → state.group ≡ Some group → All IsBelow state.disk_of
listed_below state group is found =
    let there : All (λ n. n < length state.disks) state.disk_of =
    subst (λ (o : Option Group). IfSome o (λ g. All (λ n. n < length state.disks) state.disk_of)) found is.there in
    All-weaker (λ n. n < length state.disks) IsBelow (λ n below. omega (arith, below, is.few)) state.disk_of there

pub both_below : (listed : List ℕ) (all : List AddedPv) → All IsBelow listed → All IsAdded all → All IsBelow (listed ++ disks_added all)
both_below listed all below are = All-append IsBelow listed (disks_added all) below (added_below all are)
