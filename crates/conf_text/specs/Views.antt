-- What the code's entries stand for.
use Rattle.std.specs.Prelude.{map}
use Rattle.conf_text.specs.declared.tree.Scalar as scalar
use Rattle.conf_text.specs.declared.tree.Scalar.TheVariants as scalars
use Rattle.conf_text.specs.declared.tree.ConfEntry as entry
use Rattle.conf_text.specs.declared.tree.ConfEntry.TheVariants as entries
use Rattle.conf_text.specs.Entries.{Scalar, Number, Text, One, Many, ConfEntry, Open, Close, Assign}

-- what an element of a list stands for
abbrev pub scalar_view : scalar.Scalar → Scalar
scalar_view (scalars.Number n) = Number n
scalar_view (scalars.Text s) = Text s.items

-- what an entry stands for
abbrev pub entry_view : entry.ConfEntry → ConfEntry
entry_view (entries.Open name) = Open name.now
entry_view entries.Close = Close
entry_view (entries.Number name n) = Assign name.now (One (Number n))
entry_view (entries.Text name s) = Assign name.now (One (Text s.items))
entry_view (entries.List name scalars) = Assign name.now (Many (map scalar_view scalars.items))
