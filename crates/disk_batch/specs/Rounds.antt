-- A batch on its way, among other operations.
use Rattle.std.specs.Prelude.{◌≡◌, ℕ, Bool, false, IsTrue, List, map}
use Rattle.disk_model.specs.Steps.{Work, Step, Record}
use Rattle.disk_model.specs.Brought.{brings}
use Rattle.disk_model.specs.Durability.{AllLeave}
use Rattle.disk_batch.specs.Views.{View}
use Rattle.disk_batch.specs.Writes.{write_work}
use Rattle.disk_batch.specs.Progress.{Brings}
use Rattle.disk_model.specs.Submitting.{writes_at, BringAt}
use Rattle.disk_model.specs.InFlight.{IsStill, IsForeign}

-- no write of these sectors is in flight
abbrev pub AreStill : (ℕ → ℕ → Bool) → Record → Type 0
AreStill mine told = (pv sector : ℕ) → IsTrue (mine pv sector) → IsStill told pv sector

-- A batch that writes the targets among sectors that are its own: nobody else writes these. A crash may leave only values
-- with Now in its sectors, the batch is bringing values with Goal to the targets, and the writes to come bring only values with
-- Now, and to the targets alone.
pub record BatchHolds (mine target : ℕ → ℕ → Bool) (Now Goal : ℕ → ℕ → List ℕ → Type 0) (view : View) (told : Record) : Type 0 where
  pub leaves : AllLeave mine Now told
  pub targets : (pv sector : ℕ) → IsTrue (mine pv sector) → IsTrue (target pv sector) → Brings view told pv sector (Goal pv sector)
  pub others : (pv sector : ℕ) → IsTrue (mine pv sector) → target pv sector ≡ false → IsStill told pv sector
  pub rest_allowed : (pv sector : ℕ) → IsTrue (mine pv sector) → BringAt (map write_work view.rest) pv sector (Now pv sector)
  pub rest_apart :
      (pv sector : ℕ) → IsTrue (mine pv sector) → target pv sector ≡ false → writes_at (map write_work view.rest) pv sector ≡ false

-- what these writes bring to the batch's own sectors
pub record WriteTargets (mine target : ℕ → ℕ → Bool) (Now Goal : ℕ → ℕ → List ℕ → Type 0) (works : List Work) : Type 0 where
  pub allowed : (pv sector : ℕ) → IsTrue (mine pv sector) → BringAt works pv sector (Now pv sector)
  pub wanted : (pv sector : ℕ) → IsTrue (mine pv sector) → BringAt works pv sector (Goal pv sector)
  pub targets : (pv sector : ℕ) → IsTrue (mine pv sector) → IsTrue (target pv sector) → IsTrue (writes_at works pv sector)
  pub others : (pv sector : ℕ) → IsTrue (mine pv sector) → target pv sector ≡ false → writes_at works pv sector ≡ false

-- the step is none of the batch's, and writes none of its sectors
pub record IsElsewhere (mine : ℕ → ℕ → Bool) (tags : List ℕ) (step : Step) : Type 0 where
  pub foreign : IsForeign tags step
  pub apart : (pv sector : ℕ) → IsTrue (mine pv sector) → brings step pv sector ≡ false
