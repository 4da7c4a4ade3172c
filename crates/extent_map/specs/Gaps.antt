-- The gaps between runs that stand in order.
use Rattle.std.specs.Prelude.{ℕ, ◌+◌, ◌-◌, ◌≤◌, cond, nat_lt, List, [], ◌∷◌, ◌++◌}
use Rattle.meta_model.specs.declared.extent_span.ExtentSpan.{ExtentSpan}
use Rattle.extent_map.specs.declared.extent_run.ExtentRun.{ExtentRun}

-- the extents from one up to another, where there are any
abbrev pub gap : ℕ → ℕ → List ExtentRun
gap from to = cond (nat_lt from to) (record { first = from; count = to - from } ∷ []) []

-- the gaps from an extent on, before, between and behind the runs, up to the end
abbrev pub gaps : ℕ → ℕ → List ExtentSpan → List ExtentRun
gaps at end [] = gap at end
gaps at end (run ∷ runs) = gap at run.first ++ gaps (run.first + run.count) end runs

-- the runs have extents, and stand in order and apart from an extent on, up to the end
abbrev pub StandBetween : ℕ → ℕ → List ExtentSpan → Type 0
StandBetween at end [] = at ≤ end
StandBetween at end (run ∷ runs) = (at ≤ run.first) × (1 ≤ run.count) × StandBetween (run.first + run.count) end runs
