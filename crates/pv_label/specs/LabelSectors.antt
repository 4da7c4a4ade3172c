-- The sectors of a disk one of which may be its label: lvm2 looks in the first four.
use Rattle.std.specs.Prelude.{ℕ, List, [], ◌∷◌}
use Rattle.sector_base.specs.declared.spans.Span.{Span}
use Rattle.pv_label.specs.declared.read.TheConstants.{LABEL_SECTORS}

-- these sectors, as a span of the disk of this number
abbrev pub label_span : ℕ → Span
label_span pv = record { pv = pv; first = 0; count = LABEL_SECTORS }

-- their contents, on a disk with these contents
abbrev pub first_four : (ℕ → List ℕ) → List (List ℕ)
first_four sector_at = sector_at 0 ∷ sector_at 1 ∷ sector_at 2 ∷ sector_at 3 ∷ []
