-- What stands in the buffer of a read that completed.
use Rattle.std.specs.Prelude.{◌≡◌, ◌≢◌, ℕ, Bool, true, false, IsTrue, List, [], ◌∷◌, All}
use Rattle.sector_base.specs.Spans.{covers}
use Rattle.disk_model.specs.declared.ops.Op.{Op}
use Rattle.disk_model.specs.declared.ops.Op.TheVariants.{Read}
use Rattle.disk_model.specs.Steps.{Step, Submitted, Completed, Record, now_after, value_at}
use Rattle.disk_model.specs.Record.{in_flight_after}
use Rattle.disk_model.specs.Brought.{writes}

-- no write of the sector was in flight together with the read: none when it was submitted, and none was submitted since
abbrev pub IsAlone : List Step → ℕ → ℕ → ℕ → Type 0
IsAlone [] read pv sector = Unit {0}
IsAlone (Submitted tag work ∷ steps) read pv sector =
    (tag ≡ read → All (λ o. writes o.work pv sector ≡ false) (in_flight_after steps))
    × ((tag ≢ read) → (writes work pv sector ≡ false) × IsAlone steps read pv sector)
IsAlone (Completed tag work well fresh ∷ steps) read pv sector = IsAlone steps read pv sector

-- the buffer of a read that completed well holds what stands in its sectors, wherever the read was alone
abbrev pub Reads : Record → ℕ → Op → Bool → Type 0
Reads told tag (Read span buffer) true = (pv sector : ℕ) → IsTrue (covers span pv sector) → IsAlone told.steps tag pv sector
    → value_at span buffer sector ≡ now_after told.opened told.steps pv sector
Reads told tag _ _ = Unit {0}

-- the buffer of a read that completed well holds what stands in each of its sectors
abbrev pub ReadsAll : Record → Op → Bool → Type 0
ReadsAll told (Read span buffer) true =
    (pv sector : ℕ) → IsTrue (covers span pv sector) → value_at span buffer sector ≡ now_after told.opened told.steps pv sector
ReadsAll told _ _ = Unit {0}
