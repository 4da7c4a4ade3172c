-- How the parts of some legs are cut where one more leg goes on from run to run.
use Rattle.std.specs.Prelude.{ℕ, ◌+◌, ◌-◌, ◌<◌, ◌^◌, nat_eq, nat_lt, if◌then◌else◌, List, [], ◌∷◌, ◌++◌, map, All}
use Rattle.extent_alloc.specs.declared.part.Part.{Part}
use Rattle.extent_alloc.specs.declared.part.PartRun.{PartRun}
use Rattle.extent_alloc.specs.declared.part.PvRun.{PvRun}

-- where a leg begins, so many extents later
abbrev pub later : ℕ → PartRun → PartRun
later n run = record { pv = run.pv; first = run.first + n }

-- where legs begin, so many extents later
abbrev pub all_later : ℕ → List PartRun → List PartRun
all_later n runs = map (later n) runs

-- so many extents of a part from one on, with one more leg that begins where the run does
abbrev pub piece : Part → ℕ → ℕ → PvRun → Part
piece part from count run = record { extents = count; runs = all_later from part.runs ++ (record { pv = run.pv; first = run.first }) ∷ [] }

-- the run without its first extents
abbrev pub behind : ℕ → PvRun → PvRun
behind n run = record { pv = run.pv; first = run.first + n; count = run.count - n }

-- the pieces of so many extents of a part from one on, with a leg more that takes these runs one after another
abbrev pub pieces : Part → ℕ → ℕ → List PvRun → List Part
pieces part from left [] = []
pieces part from left (run ∷ runs) =
    if nat_eq left 0 then []
    else if nat_lt left run.count then piece part from left run ∷ []
    else piece part from run.count run ∷ pieces part (from + run.count) (left - run.count) runs

-- the runs that so many extents leave
abbrev pub left_of : ℕ → List PvRun → List PvRun
left_of left [] = []
left_of left (run ∷ runs) =
    if nat_eq left 0 then run ∷ runs
    else if nat_lt left run.count then behind left run ∷ runs
    else left_of (left - run.count) runs

-- the pieces of the parts, with a leg more that takes these runs one after another
abbrev pub laid_on : List Part → List PvRun → List Part
laid_on [] runs = []
laid_on (part ∷ parts) runs = pieces part 0 part.extents runs ++ laid_on parts (left_of part.extents runs)

-- one part of so many extents, without a leg
abbrev pub whole_part : ℕ → List Part
whole_part extents = (record { extents = extents; runs = [] }) ∷ []

-- a run ends below 2^64
abbrev pub RunEnds : PvRun → Type 0
RunEnds run = run.first + run.count < 2 ^ 64

-- so does each run of the part
abbrev pub PartEnds : Part → Type 0
PartEnds part = All (λ run. run.first + part.extents < 2 ^ 64) part.runs
