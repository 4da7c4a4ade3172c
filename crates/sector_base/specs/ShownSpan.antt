-- How each SpanRefusal is printed.
use Rattle.std.specs.Prelude.{ℕ, List, [], ◌∷◌, codes}
use Rattle.sector_base.specs.Shown.{Value}
use Rattle.sector_base.specs.Shown.Value.{number}
use Rattle.sector_base.specs.declared.spans.SpanRefusal.{SpanRefusal}
use Rattle.sector_base.specs.declared.spans.SpanRefusal.TheVariants.{Empty, PastEnd}

-- its kind, and its values in the order of its fields
abbrev pub shown_span : SpanRefusal → List ℕ × List Value
shown_span Empty = (codes "Empty", [])
shown_span (PastEnd end disk) = (codes "PastEnd", number end ∷ number disk ∷ [])
