-- The values that steps bring.
use Rattle.std.specs.Prelude.{ℕ, Bool, false, IsTrue, List, [], ◌∷◌}
use Rattle.sector_base.specs.Spans.{covers}
use Rattle.disk_model.specs.Steps.{Work, Reading, Writing, Flushing, Step, Submitted, Completed, value_at}

-- whether the work is a write of the sector
abbrev pub writes : Work → ℕ → ℕ → Bool
writes (Writing span sectors) pv sector = covers span pv sector
writes (Reading span) pv sector = false
writes (Flushing disk) pv sector = false

-- whether the step brings a value for the sector: only the submission of a write of it does
abbrev pub brings : Step → ℕ → ℕ → Bool
brings (Submitted tag work) pv sector = writes work pv sector
brings (Completed tag work well fresh) pv sector = false

-- each value that these steps bring for a sector has Q there
abbrev pub BringOnly : (ℕ → ℕ → List ℕ → Type 0) → List Step → Type 0
BringOnly Q [] = Unit {0}
BringOnly Q (Submitted tag (Writing span sectors) ∷ steps) =
    ((pv sector : ℕ) → IsTrue (covers span pv sector) → Q pv sector (value_at span sectors sector)) × BringOnly Q steps
BringOnly Q (_ ∷ steps) = BringOnly Q steps
