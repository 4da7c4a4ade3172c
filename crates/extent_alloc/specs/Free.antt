-- The runs of free extents of a physical volume, extent by extent.
use Rattle.std.specs.Prelude.{ℕ, zero, suc, ◌+◌, Bool, nat_eq, if◌then◌else◌, List, [], ◌∷◌, map, sum_by}
use Rattle.std.specs.List.{flat_map, list_any}
use Rattle.meta_model.specs.declared.group.Group.{Group}
use Rattle.volume_rules.specs.Depths.{greatest}
use Rattle.extent_map.specs.Covered.{is_in, lvs_on}
use Rattle.extent_map.specs.FreeCount.{all_extents}
use Rattle.extent_map.specs.declared.extent_run.ExtentRun.{ExtentRun}
use Rattle.extent_alloc.specs.declared.part.PvRun.{PvRun}

-- an extent before runs: it lengthens the first of them where that begins right behind it
abbrev pub with_extent : ℕ → List ExtentRun → List ExtentRun
with_extent at [] = record { first = at; count = 1 } ∷ []
with_extent at (run ∷ runs) =
    if nat_eq run.first (at + 1)
    then (record { first = at; count = run.count + 1 }) ∷ runs
    else (record { first = at; count = 1 }) ∷ run ∷ runs

-- the longest runs of extents that aren't used, among so many extents from one on
abbrev pub unused : (ℕ → Bool) → ℕ → ℕ → List ExtentRun
unused used at zero = []
unused used at (suc count) = if used at then unused used (at + 1) count else with_extent at (unused used (at + 1) count)

-- the runs of free extents of the physical volume, in their order
abbrev pub free_in : Group → ℕ → List ExtentRun
free_in group pv = unused (λ extent. list_any (is_in extent) (lvs_on pv group.lvs)) 0 (all_extents group pv)

-- runs of one volume, with its number
abbrev pub runs_on : ℕ → List ExtentRun → List PvRun
runs_on pv runs = map (λ (run : ExtentRun). record { pv = pv; first = run.first; count = run.count }) runs

-- the same with the number of the volume
abbrev pub free_at : Group → ℕ → List PvRun
free_at group pv = runs_on pv (free_in group pv)

-- the runs of free extents of these volumes, in their order
abbrev pub free_on : Group → List ℕ → List PvRun
free_on group pvs = flat_map (free_at group) pvs

-- how many extents each of these runs has
abbrev pub counts_of : List PvRun → List ℕ
counts_of runs = map (λ (run : PvRun). run.count) runs

-- how many extents these runs have together
abbrev pub total : List PvRun → ℕ
total runs = sum_by (λ (run : PvRun). run.count) runs

-- how many extents the longest of these runs has
abbrev pub longest : List PvRun → ℕ
longest runs = greatest (counts_of runs)
