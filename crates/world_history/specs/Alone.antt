-- That reads in flight met no write of their sectors.
use Rattle.std.specs.Prelude.{◌≡◌, ℕ, IsTrue, Some}
use Rattle.sector_base.specs.declared.spans.Span.{Span}
use Rattle.sector_base.specs.Spans.{covers}
use Rattle.disk_model.specs.Reading.{IsAlone}
use Rattle.disk_model.specs.State.{State}
use Rattle.disk_model.specs.Steps.{Reading, Record}
use Rattle.world_acts.specs.Owners.{in_flight_at}

-- no write of a sector was in flight together with a read of it that is in flight now
abbrev pub AreAlone : State → Record → Type 0
AreAlone s told =
    (tag : ℕ) (span : Span) → in_flight_at s.in_flight tag ≡ Some (Reading span) → (pv sector : ℕ) → IsTrue (covers span pv sector)
    → IsAlone told.steps tag pv sector
