-- What a queue has made sure of, whatever else is in flight.
use Rattle.std.specs.Prelude.{◌≡◌, ◌⊎◌, ℕ, Bool, false, IsTrue, IfSome, List, [], ◌∷◌, ◌++◌, map, All}
use Rattle.disk_model.specs.Durability.{AllLeave}
use Rattle.disk_model.specs.State.{State}
use Rattle.disk_model.specs.Steps.{Image, Record}
use Rattle.disk_model.specs.Submitting.{writes_at}
use Rattle.disk_batch.specs.InTurn.{HasFirstBatches, Put, ShareNoSector}
use Rattle.disk_batch.specs.Rounds.{AreStill, BatchHolds}
use Rattle.disk_batch.specs.Views.{View}
use Rattle.disk_batch.specs.WriteAll.{CanLeave}
use Rattle.disk_batch.specs.Writes.{IsWrittenBy, write_work}
use Rattle.batch_queue.specs.Queues.{turn_view}
use Rattle.batch_queue.specs.declared.queue.TurnStep.{TurnStep}
use Rattle.batch_queue.specs.declared.queue.TurnStep.TheVariants.{Going, Through, Lost}

-- the sectors that are the queue's own, which nobody else writes, and what was told when it was made
pub record Lot : Type 0 where
  pub mine : ℕ → ℕ → Bool
  pub start : Record

-- whether one of the writes covers the sector
abbrev pub covered_by : List Put → ℕ → ℕ → Bool
covered_by puts pv sector = writes_at (map write_work puts) pv sector

-- the value is as these batches leave it, the last of them first, over one that the sector could have at the start
abbrev pub After : Lot → List (List Put) → ℕ → ℕ → List ℕ → Type 0
After lot [] pv sector value = CanLeave lot.start pv sector value
After lot (puts ∷ older) pv sector value =
    IsWrittenBy puts pv sector value ⊎ ((covered_by puts pv sector ≡ false) × After lot older pv sector value)

-- so it is, or the batch on its way writes it
abbrev pub Between : Lot → List (List Put) → List Put → ℕ → ℕ → List ℕ → Type 0
Between lot through puts pv sector value = After lot through pv sector value ⊎ IsWrittenBy puts pv sector value

-- at rest, where these batches are through: no write to its sectors is in flight
abbrev pub Rests : Lot → List (List Put) → Record → Type 0
Rests lot through told = AreStill lot.mine told × AllLeave lot.mine (After lot through) told

-- while a batch that writes this is on its way
abbrev pub IsOnWay : Lot → List (List Put) → List Put → View → Record → Type 0
IsOnWay lot through puts view told = BatchHolds lot.mine (covered_by puts) (Between lot through puts) (IsWrittenBy puts) view told

-- once it has lost an operation, and all have completed
abbrev pub IsLost : Lot → List (List Put) → List Put → Record → Type 0
IsLost lot through puts told = AreStill lot.mine told × AllLeave lot.mine (Between lot through puts) told

-- what it came to
abbrev pub Came : Lot → List (List Put) → List Put → TurnStep → State → Type 0
Came lot through puts (Going turning) state = IfSome state.told (IsOnWay lot through puts (turn_view turning).batch)
Came lot through puts (Through queue) state = IfSome state.told (Rests lot (puts ∷ through))
Came lot through puts (Lost pv) state = IfSome state.told (IsLost lot through puts)

-- the batches in the order in which they were carried out
abbrev pub in_order : List (List Put) → List (List Put)
in_order [] = []
in_order (puts ∷ older) = in_order older ++ puts ∷ []

-- the batches write sectors of the queue alone, and no two writes of one share a sector
pub record AreOwn (lot : Lot) (batches : List (List Put)) : Type 0 where
  pub apart : All ShareNoSector batches
  pub own : (pv sector : ℕ) → lot.mine pv sector ≡ false → All (λ (puts : List Put). covered_by puts pv sector ≡ false) batches

-- the image is on the way of these batches, over a base of its own: one that the queue's sectors could show at the start, and that
-- has what the image has in all other sectors
pub record IsOnWayOver (lot : Lot) (batches : List (List Put)) (image : Image) : Type 0 where
  pub base : Image
  pub could : (pv sector : ℕ) → IsTrue (lot.mine pv sector) → CanLeave lot.start pv sector (base pv sector)
  pub others : (pv sector : ℕ) → lot.mine pv sector ≡ false → base pv sector ≡ image pv sector
  pub first : HasFirstBatches batches base image
