-- Sectors that nobody writes, until a flush leaves one value in each.
use Rattle.std.specs.Prelude.{◌≡◌, ℕ, Bool, false, List, [], ◌∷◌}
use Rattle.sector_base.specs.Spans.{covers}
use Rattle.disk_model.specs.Steps.{Completed, Image, Step, Record, Writing}
use Rattle.disk_batch.specs.Rounds.{BatchHolds}
use Rattle.disk_batch.specs.Views.{View}

-- each write of the sector that has completed did so well
abbrev pub WroteWell : List Step → ℕ → ℕ → Type 0
WroteWell [] pv sector = Unit {0}
WroteWell (Completed tag (Writing span sectors) false fresh ∷ steps) pv sector = (covers span pv sector ≡ false) × WroteWell steps pv sector
WroteWell (_ ∷ steps) pv sector = WroteWell steps pv sector

-- the value is that of the image
abbrev pub IsOf : Image → ℕ → ℕ → List ℕ → Type 0
IsOf image pv sector value = value ≡ image pv sector

-- any value
abbrev pub IsAny : ℕ → ℕ → List ℕ → Type 0
IsAny pv sector value = Unit {0}

-- a batch on its way, which writes none of these sectors, will leave in each the one value that the image has
abbrev pub IsSettling : (ℕ → ℕ → Bool) → Image → View → Record → Type 0
IsSettling free image view told = BatchHolds free free IsAny (IsOf image) view told
