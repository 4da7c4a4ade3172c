-- Batches of writes that are carried out one after another, each lasting before the next begins.
use Rattle.std.specs.Prelude.{◌≡◌, ◌≤◌, ◌<◌, ◌⊎◌, ◌+◌, ℕ, suc, Bool, false, IsTrue, if◌then◌else◌, List, [], ◌∷◌, ◌++◌, length, map, take}
use Rattle.std.specs.Prelude.{flat_map, sum_by, Option, All}
use Rattle.sector_base.specs.declared.spans.Span.{Span}
use Rattle.sector_base.specs.Spans.{covers}
use Rattle.disk_model.specs.Steps.{Image, IsSame, Step, Record, now_after, steps_on, value_at}
use Rattle.disk_model.specs.Idle.{SpendsAtMost}
use Rattle.disk_model.specs.State.{State}
use Rattle.disk_model.specs.Moments.{EveryImageSince}
use Rattle.disk_model.specs.Durability.{IsBase}
use Rattle.disk_model.specs.InFlight.{IsAmong}
use Rattle.disk_model.specs.Since.{BetweenRecords, spans_read, writes_submitted}
use Rattle.disk_model.specs.Submitting.{writes_at}
use Rattle.disk_batch.specs.declared.batch.Batch.{Batch}
use Rattle.disk_batch.specs.Batches.{disks_of, writes_of}
use Rattle.disk_batch.specs.Writes.{LieIn, span_count, write_work}

-- a write: its span, and the sectors for it
abbrev pub Put : Type 0
Put = Span × List (List ℕ)

-- the image after this write
abbrev pub written_on : Put → Image → Image
written_on put image pv sector = if covers put.0 pv sector then value_at put.0 put.1 sector else image pv sector

-- the image after these writes, the first of them first
abbrev pub with_writes : List Put → Image → Image
with_writes [] image = image
with_writes (put ∷ puts) image = with_writes puts (written_on put image)

-- the image after these batches of writes
abbrev pub with_batches : List (List Put) → Image → Image
with_batches [] image = image
with_batches (batch ∷ batches) image = with_batches batches (with_writes batch image)

-- each sector of the image is as in the one or as in the other
abbrev pub IsEither : Image → Image → Image → Type 0
IsEither before after image = (pv sector : ℕ) → (image pv sector ≡ before pv sector) ⊎ (image pv sector ≡ after pv sector)

-- the image is the base with the first so many batches written, and of the next one each sector written or not
pub record HasFirstBatches (batches : List (List Put)) (base image : Image) : Type 0 where
  pub count : ℕ
  pub among : count ≤ length batches
  pub either : IsEither (with_batches (take count batches) base) (with_batches (take (suc count) batches) base) image

-- The first so many of the batches were submitted in their order, each write once, and no other write, nor any read. At
-- every moment a crash leaves some of these whole, and each sector of the next one of these old or new. Where all went well
-- all were submitted, a crash leaves all of them, and a read gives what they wrote.
pub record WritesInTurn (old : Record) (batches : List (List Put)) (well : Bool) (new : Record) : Type 0 where
  pub since : List Step
  pub steps : new ≡ steps_on since old
  pub submitted : ℕ
  pub among : submitted ≤ length batches
  pub writes : writes_submitted since ≡ flat_map (λ batch. batch) (take submitted batches)
  pub unread : spans_read since ≡ []
  pub whole : IsTrue well → submitted ≡ length batches
  pub every_image : (base : Image) → IsBase old base
      → EveryImageSince (length old.steps) new (HasFirstBatches (take submitted batches) base)
  pub lasting : IsTrue well → (base : Image) → IsBase old base → IsBase new (with_batches batches base)
  pub now : IsTrue well → IsSame (now_after new.opened new.steps) (with_batches batches (now_after old.opened old.steps))

-- the same of a call, where the shelf tells its record
abbrev pub WritesInTurnTold : Option Record → List (List Put) → Bool → Option Record → Type 0
WritesInTurnTold before batches well after = BetweenRecords (λ old new. WritesInTurn old batches well new) before after

-- no two of the writes share a sector
abbrev pub ShareNoSector : List Put → Type 0
ShareNoSector [] = Unit {0}
ShareNoSector (put ∷ puts) =
    ((pv sector : ℕ) → IsTrue (covers put.0 pv sector) → writes_at (map write_work puts) pv sector ≡ false) × ShareNoSector puts

-- the batch can be carried out on disks of these sizes: it writes and flushes something, no two of its writes share a
-- sector, and the disk of each is one that it flushes
pub record CanRun (sizes : List ℕ) (batch : Batch) : Type 0 where
  pub writes : 0 < length (writes_of batch)
  pub flushes : 0 < length (disks_of batch)
  pub lie : LieIn sizes (writes_of batch)
  pub disks : All (λ (pv : ℕ). pv < length sizes) (disks_of batch)
  pub apart : ShareNoSector (writes_of batch)
  pub flushed : (pv sector : ℕ) → IsTrue (writes_at (map write_work (writes_of batch)) pv sector) → IsAmong (disks_of batch) pv

-- how many operations it uses up: its writes, and the flushes behind them
abbrev pub ops_of : Batch → ℕ
ops_of batch = length (writes_of batch) + length (disks_of batch)

-- how many sectors its writes have
abbrev pub sectors_of : Batch → ℕ
sectors_of batch = sum_by span_count (writes_of batch)

-- the last of the batches was taken off and carried out
pub record WritesLast (old : State) (list rest : List Batch) (well : Bool) (new : State) : Type 0 where
  pub batch : Batch
  pub last : list ≡ rest ++ batch ∷ []
  pub spends : SpendsAtMost old (ops_of batch) (sectors_of batch) new
  pub told : WritesInTurnTold old.told (writes_of batch ∷ []) well new.told
