-- Committing by three batches: the texts to free sectors; then each header, with the old entry in force; then each header,
-- with the new one. A reading is what it asks of the value of each single sector.
use Rattle.std.specs.Prelude.{◌≡◌, ◌⊎◌, ℕ, Bool, false, IsTrue, List, map}
use Rattle.sector_base.specs.declared.spans.Span.{Span}
use Rattle.disk_model.specs.Submitting.{writes_at}
use Rattle.disk_model.specs.InFlight.{IsAmong}
use Rattle.disk_batch.specs.Writes.{IsWrittenBy, write_work}

-- whether one of these writes covers the sector
abbrev pub written_at : List (Span × List (List ℕ)) → ℕ → ℕ → Bool
written_at puts = writes_at (map write_work puts)

-- what a crash may leave once the texts are there: the old reading, and beside the headers the new one too
abbrev pub WithTexts : (header : ℕ → ℕ → Bool) (Old New : ℕ → ℕ → List ℕ → Type 0) → ℕ → ℕ → List ℕ → Type 0
WithTexts header Old New pv sector value = Old pv sector value × (header pv sector ≡ false → New pv sector value)

-- and since it is published: of a header the old reading or the new one, of other sectors both
abbrev pub Published : (header : ℕ → ℕ → Bool) (Old New : ℕ → ℕ → List ℕ → Type 0) → ℕ → ℕ → List ℕ → Type 0
Published header Old New pv sector value =
    (Old pv sector value ⊎ New pv sector value) × (header pv sector ≡ false → Old pv sector value × New pv sector value)

-- What makes three batches a commit: the texts are none that the old reading asks for, and read as the new one; the headers
-- read as the old one, and then as the new one; the new reading asks for nothing else; and each batch flushes the disks that
-- it writes to.
pub record MakeCommit (Old New : ℕ → ℕ → List ℕ → Type 0) (texts headers publish : List (Span × List (List ℕ)))
    (text_disks publish_disks : List ℕ) : Type 0 where
  pub texts_old : (pv sector : ℕ) (value : List ℕ) → IsWrittenBy texts pv sector value → Old pv sector value
  pub texts_new : (pv sector : ℕ) (value : List ℕ) → IsWrittenBy texts pv sector value → New pv sector value
  pub headers_old : (pv sector : ℕ) (value : List ℕ) → IsWrittenBy headers pv sector value → Old pv sector value
  pub publish_new : (pv sector : ℕ) (value : List ℕ) → IsWrittenBy publish pv sector value → New pv sector value
  pub same_headers : (pv sector : ℕ) → written_at publish pv sector ≡ written_at headers pv sector
  pub rest : (pv sector : ℕ) (value : List ℕ) → written_at headers pv sector ≡ false → written_at texts pv sector ≡ false
      → New pv sector value
  pub texts_flushed : (pv sector : ℕ) → IsTrue (written_at texts pv sector) → IsAmong text_disks pv
  pub headers_flushed : (pv sector : ℕ) → IsTrue (written_at headers pv sector) → IsAmong publish_disks pv
