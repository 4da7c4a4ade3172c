-- The free runs of all volumes are those of each.
use Rattle.std.proofs.Common.{◌≡◌, ℕ, ◌<◌, ◌^◌, List, [], ◌∷◌, ◌++◌, length, filter, refl, sym, ap, ap₂, subst, ◌∙◌, arith}
use Rattle.std.specs.Prelude.{All, if◌then◌else◌, nat_le, slice_index_or}
use Rattle.std.specs.List.{AllByRecursion, flat_map}
use Rattle.std.proofs.lemmas.List.Elements.{All-from_recursion, recursion_from_All}
use Rattle.std.proofs.lemmas.Option.{slice_get-get_or}
use Rattle.meta_model.specs.declared.group.Group.{Group}
use Rattle.volume_rules.specs.Rules.{IsAccepted}
use Rattle.extent_map.specs.AllFree.{AreAllFree}
use Rattle.extent_map.specs.declared.extent_run.ExtentRun.{ExtentRun}
use Rattle.extent_alloc.specs.AllRuns.{AreTakenAt, has_room_at, runs_at}
use Rattle.extent_alloc.specs.Few.{has_room, room_for}
use Rattle.extent_alloc.specs.Free.{free_at, free_on, runs_on, total}
use Rattle.extent_alloc.specs.Laying.{RunEnds}
use Rattle.extent_alloc.specs.Taking.{AreTaken, IsLongestFirst}
use Rattle.extent_alloc.specs.Usable.{usable_pvs}
use Rattle.extent_alloc.specs.declared.part.PvRun.{PvRun}
use Rattle.extent_alloc.specs.declared.request.Request.{Request}
use Rattle.extent_alloc.proofs.FreeOn.{IsFreeRun, free_at_few, free_at_free, free_runs_here, stands, usable_below}
use Rattle.list_laws.proofs.Pairs.{all_weaker}

-- of one
pub free_here : (group : Group) (all : List (List ExtentRun)) (pv : ℕ) → AreAllFree group all → pv < length group.pvs
    → runs_at all pv ≡ free_at group pv
free_here group all pv free lt =
    ap (runs_on pv) (free_runs_here group pv (slice_index_or all pv []) lt
    (free.each pv (slice_index_or all pv []) (slice_get-get_or all pv [] (omega (arith, lt, free.count)))))

-- of several
abbrev Below : Group → List ℕ → Type 0
Below group pvs = AllByRecursion (λ pv. pv < length group.pvs) pvs

free_along : (group : Group) (all : List (List ExtentRun)) (pvs : List ℕ) → AreAllFree group all → Below group pvs
    → flat_map (runs_at all) pvs ≡ free_on group pvs
free_along group all [] free below = refl
free_along group all (pv ∷ pvs) free below =
    ap₂ (λ (here rest : List PvRun). here ++ rest) (free_here group all pv free below.0) (free_along group all pvs free below.1)

free_there : (group : Group) (all : List (List ExtentRun)) (pvs : List ℕ) → AreAllFree group all → All (λ pv. pv < length group.pvs) pvs
    → flat_map (runs_at all) pvs ≡ free_on group pvs
free_there group all pvs free below = free_along group all pvs free (recursion_from_All (λ pv. pv < length group.pvs) pvs below)

pub found_free : (group : Group) (want : Request) (all : List (List ExtentRun)) (pvs : List ℕ) (runs : List PvRun) → AreAllFree group all
    → pvs ≡ usable_pvs group want → runs ≡ flat_map (runs_at all) pvs → runs ≡ free_on group (usable_pvs group want)
found_free group want all pvs runs free are is =
    is ∙ ap (flat_map (runs_at all)) are ∙ free_there group all (usable_pvs group want) free (usable_below group want)

-- each is one of them
pub all_there : (group : Group) (want : Request) (all : List (List ExtentRun)) (pvs : List ℕ) → AreAllFree group all
    → pvs ≡ usable_pvs group want → All (λ pv. pv < length all) pvs
all_there group want all pvs free are =
    subst (All (λ pv. pv < length all)) (sym are)
    (subst (λ n. All (λ pv. pv < n) (usable_pvs group want)) (sym free.count) (usable_below group want))

-- which have room
roomy_along : (group : Group) (want : Request) (all : List (List ExtentRun)) (pvs : List ℕ) → AreAllFree group all → Below group pvs
    → filter (has_room_at all want) pvs ≡ filter (has_room group want) pvs
roomy_along group want all [] free below = refl
roomy_along group want all (pv ∷ pvs) free below =
    ap₂ (λ (here : List PvRun) (rest : List ℕ). if nat_le want.extents (room_for want here) then pv ∷ rest else rest)
    (free_here group all pv free below.0) (roomy_along group want all pvs free below.1)

pub found_roomy : (group : Group) (want : Request) (all : List (List ExtentRun)) (pvs fit : List ℕ) → AreAllFree group all
    → pvs ≡ usable_pvs group want → fit ≡ filter (has_room_at all want) pvs → fit ≡ filter (has_room group want) (usable_pvs group want)
found_roomy group want all pvs fit free are is =
    is ∙ ap (filter (has_room_at all want)) are
    ∙ roomy_along group want all (usable_pvs group want) free
    (recursion_from_All (λ pv. pv < length group.pvs) (usable_pvs group want) (usable_below group want))

-- what legs take
taken_along : (group : Group) (all : List (List ExtentRun)) (pvs : List ℕ) (legs : List (List PvRun)) → AreAllFree group all
    → Below group pvs → AreTakenAt all pvs legs → AreTaken group pvs legs
taken_along group all [] [] free below taken = tt
taken_along group all [] (leg ∷ legs) free below taken = absurd taken
taken_along group all (pv ∷ pvs) [] free below taken = absurd taken
taken_along group all (pv ∷ pvs) (leg ∷ legs) free below taken = (
  subst (λ runs. IsLongestFirst runs leg) (free_here group all pv free below.0) taken.0,
  taken_along group all pvs legs free below.1 taken.1,
)

pub taken_there : (group : Group) (all : List (List ExtentRun)) (pvs : List ℕ) (legs : List (List PvRun)) → AreAllFree group all
    → All (λ pv. pv < length group.pvs) pvs → AreTakenAt all pvs legs → AreTaken group pvs legs
taken_there group all pvs legs free below taken =
    taken_along group all pvs legs free (recursion_from_All (λ pv. pv < length group.pvs) pvs below) taken

pub taken_one_more : (all : List (List ExtentRun)) (pvs : List ℕ) (legs : List (List PvRun)) (pv : ℕ) (leg : List PvRun)
    → AreTakenAt all pvs legs → IsLongestFirst (runs_at all pv) leg → AreTakenAt all (pvs ++ pv ∷ []) (legs ++ leg ∷ [])
taken_one_more all [] [] pv leg taken is = (is, tt)
taken_one_more all [] (l ∷ legs) pv leg taken is = absurd taken
taken_one_more all (p ∷ pvs) [] pv leg taken is = absurd taken
taken_one_more all (p ∷ pvs) (l ∷ legs) pv leg taken is = (taken.0, taken_one_more all pvs legs pv leg taken.1 is)

-- they have few extents, and end below 2^64
pub free_few : (group : Group) (all : List (List ExtentRun)) (pv : ℕ) → IsAccepted group → AreAllFree group all → pv < length group.pvs
    → total (runs_at all pv) < 2 ^ 64
free_few group all pv accepted free lt = omega (arith, free_at_few group pv accepted lt, ap total (free_here group all pv free lt))

pub free_ends : (group : Group) (all : List (List ExtentRun)) (pv : ℕ) → IsAccepted group → AreAllFree group all → pv < length group.pvs
    → All RunEnds (runs_at all pv)
free_ends group all pv accepted free lt =
    let here = stands group pv lt in
    subst (All RunEnds) (sym (free_here group all pv free lt))
    (All-from_recursion RunEnds (free_at group pv)
    (all_weaker (λ run. (run.pv ≡ pv) × IsFreeRun group run) RunEnds (λ run fine. omega (arith, fine.1.small)) (free_at group pv)
    (free_at_free group pv here.0 accepted here.1)))
