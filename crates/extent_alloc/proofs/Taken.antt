-- What a leg takes: free runs where the request may have them, apart, and with enough extents.
use Rattle.std.proofs.Common.{◌≡◌, ℕ, ◌+◌, ◌<◌, ◌≤◌, ◌^◌, true, List, [], ◌∷◌, length, inl, inr, sym, subst, arith, IsTrue, IsPermutation}
use Rattle.std.specs.Prelude.{All}
use Rattle.std.specs.List.{AllByRecursion}
use Rattle.std.proofs.lemmas.List.Elements.{All-contains, All-from_recursion, recursion_from_All}
use Rattle.std.proofs.lemmas.List.Sorted.{All-permutation, sum_by-IsPermutation}
use Rattle.meta_model.specs.declared.group.Group.{Group}
use Rattle.volume_rules.specs.Rules.{IsAccepted}
use Rattle.volume_rules.proofs.Permuted.{pairs_permuted}
use Rattle.extent_map.specs.FreeRuns.{IsFree}
use Rattle.extent_alloc.specs.Free.{free_at, free_on, total}
use Rattle.extent_alloc.specs.Giving.{LieApart}
use Rattle.extent_alloc.specs.Laying.{RunEnds}
use Rattle.extent_alloc.specs.Taking.{IsTaken}
use Rattle.extent_alloc.specs.Usable.{is_usable, usable_pvs}
use Rattle.extent_alloc.specs.declared.part.PvRun.{PvRun}
use Rattle.extent_alloc.specs.declared.request.Request.{Request}
use Rattle.extent_alloc.proofs.FreeOn.{IsFreeRun, all_stand, free_at_apart, free_at_free, free_on_apart, free_on_free, on_volumes, stands}
use Rattle.extent_alloc.proofs.FreeOn.{usable_are, usable_differ}
use Rattle.extent_alloc.proofs.LaidParts.{Some, total_cons}
use Rattle.extent_alloc.proofs.LongestFirst.{IsSmall}
use Rattle.list_laws.proofs.Pairs.{Pairs, all_weaker, pairs_from, pairs_to}
use Rattle.extent_alloc.proofs.Spots.{IsLeg, each_spot, spots_differ}

-- a free run on a volume that may be used
pub record IsFine (group : Group) (want : Request) (run : PvRun) : Type 0 where
  pub free : IsFreeRun group run
  pub usable : IsTrue (is_usable group want run.pv)

-- fine runs that lie apart
pub record AreFine (group : Group) (want : Request) (runs : List PvRun) : Type 0 where
  pub each : AllByRecursion (IsFine group want) runs
  pub apart : Pairs LieApart runs

both : (P Q : PvRun → Type 0) (runs : List PvRun) → AllByRecursion P runs → AllByRecursion Q runs
    → AllByRecursion (λ run. P run × Q run) runs
both P Q [] p q = tt
both P Q (run ∷ runs) p q = ((p.0, q.0), both P Q runs p.1 q.1)

-- all runs of the volumes that may be used
pub usable_fine : (group : Group) (want : Request) → IsAccepted group → AreFine group want (free_on group (usable_pvs group want))
usable_fine group want accepted =
    let pvs : List ℕ = usable_pvs group want in
    let are = usable_are group want in
    let below : AllByRecursion (λ pv. pv < length group.pvs) pvs =
    all_weaker (λ pv. (pv < length group.pvs) × (is_usable group want pv ≡ true)) (λ pv. pv < length group.pvs) (λ pv h. h.0) pvs are in
    let may : AllByRecursion (λ pv. is_usable group want pv ≡ true) pvs =
    all_weaker (λ pv. (pv < length group.pvs) × (is_usable group want pv ≡ true)) (λ pv. is_usable group want pv ≡ true) (λ pv h. h.1)
    pvs are in
    record {
      each =
          all_weaker (λ run. IsFreeRun group run × (is_usable group want run.pv ≡ true)) (IsFine group want)
          (λ run h. record { free = h.0; usable = h.1 }) (free_on group pvs)
          (both (IsFreeRun group) (λ run. is_usable group want run.pv ≡ true) (free_on group pvs)
          (free_on_free group pvs accepted (all_stand group pvs below))
          (on_volumes (λ pv. is_usable group want pv ≡ true) group pvs may));
      apart = free_on_apart group pvs (usable_differ group want);
    }

-- those of one of them
pub volume_fine : (group : Group) (want : Request) (pv : ℕ) → IsAccepted group → pv < length group.pvs → IsTrue (is_usable group want pv)
    → AreFine group want (free_at group pv)
volume_fine group want pv accepted lt may =
    let here = stands group pv lt in
    record {
      each =
          all_weaker (λ run. (run.pv ≡ pv) × IsFreeRun group run) (IsFine group want)
          (λ run h. record { free = h.1; usable = subst (λ n. IsTrue (is_usable group want n)) (sym h.0) may }) (free_at group pv)
          (free_at_free group pv here.0 accepted here.1);
      apart = free_at_apart group pv;
    }

apart_turned : (a b : PvRun) → LieApart a b → LieApart b a
apart_turned a b apart pv extent in_b in_a = apart pv extent in_a in_b

-- in another order
pub moved_fine : (group : Group) (want : Request) (before after : List PvRun) → IsPermutation before after → AreFine group want before
    → AreFine group want after
moved_fine group want before after moved fine =
    record {
      each =
          recursion_from_All (IsFine group want) after
          (All-permutation (IsFine group want) before after moved (All-from_recursion (IsFine group want) before fine.each));
      apart = pairs_from LieApart after (pairs_permuted LieApart apart_turned before after moved (pairs_to LieApart before fine.apart));
    }

-- what one leg takes
pub taken_fine : (group : Group) (want : Request) (extents : ℕ) (runs taken : List PvRun) → IsTaken extents runs taken
    → AreFine group want runs → AreFine group want taken
taken_fine group want extents runs taken (inl one) fine =
    subst (AreFine group want) (sym one.3)
    (record {
      each = (All-contains (IsFine group want) runs one.0 (All-from_recursion (IsFine group want) runs fine.each) one.1, tt);
      apart = (tt, tt);
    })
taken_fine group want extents runs taken (inr all) fine = moved_fine group want runs taken all.1.0 fine

pub taken_enough : (extents : ℕ) (runs taken : List PvRun) → IsTaken extents runs taken → extents ≤ total runs → extents ≤ total taken
taken_enough extents runs taken (inl one) enough =
    subst (λ some. extents ≤ total some) (sym one.3) (omega (arith, one.2, total_cons one.0 []))
taken_enough extents runs taken (inr all) enough = omega (arith, enough, sum_by-IsPermutation (λ (r : PvRun). r.count) runs taken all.1.0)

-- a leg of fine runs
pub fine_some : (group : Group) (want : Request) (runs : List PvRun) → AreFine group want runs → Some runs
fine_some group want runs fine = all_weaker (IsFine group want) (λ (run : PvRun). 1 ≤ run.count) (λ run h. h.free.some) runs fine.each

pub fine_small : (group : Group) (want : Request) (runs : List PvRun) → AreFine group want runs → All IsSmall runs
fine_small group want runs fine =
    All-from_recursion IsSmall runs (all_weaker (IsFine group want) IsSmall
    (λ run h. let small : run.first + run.count ≤ 2 ^ 48 = h.free.small in omega arith) runs fine.each)

pub fine_end : (group : Group) (want : Request) (runs : List PvRun) → AreFine group want runs → All RunEnds runs
fine_end group want runs fine =
    All-from_recursion RunEnds runs (all_weaker (IsFine group want) RunEnds
    (λ run h. let small : run.first + run.count ≤ 2 ^ 48 = h.free.small in omega arith) runs fine.each)

pub fine_leg : (group : Group) (want : Request) (extents : ℕ) (leg : List PvRun) → AreFine group want leg → extents ≤ total leg
    → IsLeg group want extents leg
fine_leg group want extents leg fine enough =
    record {
      fine = λ n lt. each_spot (λ pv extent. IsTrue (is_usable group want pv) × IsFree group pv extent) leg n (omega (arith, lt, enough))
          (all_weaker (IsFine group want) (λ (run : PvRun). (extent : ℕ) → run.first ≤ extent → extent < run.first + run.count
          → IsTrue (is_usable group want run.pv) × IsFree group run.pv extent)
          (λ run h extent low high. (h.usable, h.free.free extent low high)) leg fine.each);
      apart = λ m n low high differ. spots_differ leg m n fine.apart (omega (arith, low, enough)) (omega (arith, high, enough)) differ;
      small = λ n lt. each_spot (λ pv extent. extent < 2 ^ 48) leg n (omega (arith, lt, enough))
          (all_weaker (IsFine group want) (λ (run : PvRun). (extent : ℕ) → run.first ≤ extent → extent < run.first + run.count
          → extent < 2 ^ 48) (λ run h extent low high. let small : run.first + run.count ≤ 2 ^ 48 = h.free.small in omega (arith, high))
          leg fine.each);
    }
