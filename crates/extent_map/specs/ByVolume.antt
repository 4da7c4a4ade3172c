-- Runs that are put into buckets, one for each physical volume.
use Rattle.std.specs.Prelude.{ℕ, ◌+◌, List, [], ◌∷◌, ◌++◌, Vec, map}
use Rattle.meta_model.specs.declared.extent_span.ExtentSpan.{ExtentSpan}

-- what each bucket has
abbrev pub lists_of : {Z : Type 0} → List (Vec ExtentSpan Z) → List (List ExtentSpan)
lists_of buckets = map (λ bucket. bucket.items) buckets

-- the lists, numbered from a volume on, each with more of its volume behind
abbrev pub each_with : (ℕ → List ExtentSpan) → ℕ → List (List ExtentSpan) → List (List ExtentSpan)
each_with more pv [] = []
each_with more pv (runs ∷ lists) = (runs ++ more pv) ∷ each_with more (pv + 1) lists
