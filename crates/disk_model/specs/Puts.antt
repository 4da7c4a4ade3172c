-- Sectors that are put one after another, each made lasting before the next.
use Rattle.std.specs.Prelude.{◌≡◌, ◌≤◌, ◌⊎◌, ℕ, Bool, IsTrue, ◌&&◌, ◌==◌, if◌then◌else◌, List, [], ◌∷◌, length, map, take, Option}
use Rattle.sector_base.specs.declared.spans.Span.{Span}
use Rattle.disk_model.specs.Steps.{Image, IsSame, Writing, Flushing, Step, Record, now_after, steps_on}
use Rattle.disk_model.specs.Moments.{EveryImageSince}
use Rattle.disk_model.specs.Durability.{IsBase}
use Rattle.disk_model.specs.State.{State}
use Rattle.disk_model.specs.Since.{BetweenRecords, writes_submitted}
use Rattle.disk_model.specs.Faults.{IsLastFault}

-- a sector of a disk, and what it gets
pub record Put : Type 0 where
  pub pv : ℕ
  pub sector : ℕ
  pub value : List ℕ

-- the span of one sector
abbrev pub one_sector : ℕ → ℕ → Span
one_sector pv sector = record { pv = pv; first = sector; count = 1 }

-- the write that a put submits
abbrev pub write_of_put : Put → Span × List (List ℕ)
write_of_put put = (one_sector put.pv put.sector, put.value ∷ [])

-- the image with this sector replaced
abbrev pub put_on : Put → Image → Image
put_on put image pv sector = if (pv == put.pv) && (sector == put.sector) then put.value else image pv sector

-- the image after these puts, the first of them first
abbrev pub with_puts : List Put → Image → Image
with_puts [] image = image
with_puts (put ∷ puts) image = with_puts puts (put_on put image)

-- the image is the base after the first so many of the puts
pub record HasFirst (puts : List Put) (base image : Image) : Type 0 where
  pub count : ℕ
  pub among : count ≤ length puts
  pub same : IsSame image (with_puts (take count puts) base)

-- The first so many of the puts were submitted in their order, each once, and no other write. At every moment a crash
-- leaves the first so many of them, whole. Where all went well all were submitted, a crash leaves all of them, and a
-- read gives what they put.
pub record PutsAll (old : Record) (puts : List Put) (well : Bool) (new : Record) : Type 0 where
  pub since : List Step
  pub steps : new ≡ steps_on since old
  pub submitted : ℕ
  pub among : submitted ≤ length puts
  pub writes : writes_submitted since ≡ map write_of_put (take submitted puts)
  pub whole : IsTrue well → submitted ≡ length puts
  pub every_image : (base : Image) → IsBase old base → EveryImageSince (length old.steps) new (HasFirst puts base)
  pub lasting : IsTrue well → (base : Image) → IsBase old base → IsBase new (with_puts puts base)
  pub now : IsTrue well → IsSame (now_after new.opened new.steps) (with_puts puts (now_after old.opened old.steps))

-- a call that puts sectors, where the shelf tells its record
abbrev pub PutsAllTold : Option Record → List Put → Bool → Option Record → Type 0
PutsAllTold before puts well after = BetweenRecords (λ old new. PutsAll old puts well new) before after

-- the write of this put failed, or the flush of its disk after it, and that was the last step
abbrev pub IsPutFault : State → State → Put → ℕ → Type 0
IsPutFault old new put pv =
    IsLastFault old new pv (Writing (one_sector put.pv put.sector) (put.value ∷ [])) ⊎ IsLastFault old new pv (Flushing put.pv)
