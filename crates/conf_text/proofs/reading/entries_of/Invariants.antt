use Rattle.std.proofs.Common.{◌≡◌, drop, take}
use Rattle.conf_text.specs.Reader.{reading, outcome}
use Rattle.conf_text.specs.ReaderViews.{reader_view}
use Rattle.conf_text.proofs.Standing.{Stands}
use Rattle.conf_text.proofs.Upto.{Any}
use Rattle.conf_text.proofs.reading.entries_of.Given as goal

-- the reader stands behind what it read, and what is left gives the outcome of the whole
abbrev pub invariant-loop-at : goal.invariant-loop-at
invariant-loop-at l =
    Stands Any (take l.at l.text) (reader_view l.reader) × (outcome l.at (reader_view l.reader) (drop l.at l.text) ≡ reading l.text)
