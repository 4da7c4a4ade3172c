-- The values that a crash may leave in a sector, as a list in the order in which they came.
use Rattle.std.specs.Prelude.{ℕ, Bool, true, false, ◌==◌, ◌&&◌, ◌||◌, not, if◌then◌else◌, List, [], ◌∷◌, ◌++◌, filter, Option, Some, None}
use Rattle.sector_base.specs.Spans.{covers}
use Rattle.disk_model.specs.Steps.{Image, Writing, Flushing, Step, Submitted, Completed, value_at}

-- whether the write with this tag has completed, well or not; the opened value, None, counts as completed
abbrev pub has_completed : List Step → Option ℕ → Bool
has_completed steps None = true
has_completed [] (Some write) = false
has_completed (Completed tag work well fresh ∷ steps) (Some write) = (tag == write) || has_completed steps (Some write)
has_completed (Submitted tag work ∷ steps) (Some write) = has_completed steps (Some write)

-- whether a write of the sector has completed well, and this one had completed before it
abbrev pub is_overtaken : List Step → ℕ → ℕ → Option ℕ → Bool
is_overtaken [] pv sector write = false
is_overtaken (Completed tag (Writing span sectors) true fresh ∷ steps) pv sector write =
    is_overtaken steps pv sector write || (covers span pv sector && has_completed steps write)
is_overtaken (_ ∷ steps) pv sector write = is_overtaken steps pv sector write

-- whether the write was overtaken when this flush was submitted
abbrev pub is_dropped : List Step → ℕ → ℕ → ℕ → Option ℕ → Bool
is_dropped [] flush pv sector write = false
is_dropped (Submitted tag work ∷ steps) flush pv sector write =
    is_dropped steps flush pv sector write || ((tag == flush) && is_overtaken steps pv sector write)
is_dropped (_ ∷ steps) flush pv sector write = is_dropped steps flush pv sector write

-- all values that a crash may leave in the sector, each with the tag of the write that brought it: the opened one
-- first, then in the order in which they were submitted
abbrev pub values : Image → List Step → ℕ → ℕ → List (Option ℕ × List ℕ)
values opened [] pv sector = (None, opened pv sector) ∷ []
values opened (Submitted tag (Writing span sectors) ∷ steps) pv sector =
    if covers span pv sector then values opened steps pv sector ++ (Some tag, value_at span sectors sector)
    ∷ [] else values opened steps pv sector
values opened (Completed tag (Flushing disk) true fresh ∷ steps) pv sector =
    if disk == pv then filter (λ v. not (is_dropped steps tag pv sector v.0)) (values opened steps pv sector) else values opened steps pv
    sector
values opened (_ ∷ steps) pv sector = values opened steps pv sector
