-- The parts of a call that only reads.
use Rattle.std.specs.Prelude.{◌≡◌, ℕ, List, ◌++◌, None}
use Rattle.sector_base.specs.declared.spans.Span.{Span}
use Rattle.disk_model.specs.Faults.{HasSameFaults}
use Rattle.disk_model.specs.Idle.{IsIdleAgain}
use Rattle.disk_model.specs.Since.{HoldsOfDisk, ReadsTold}
use Rattle.disk_model.specs.State.{State}
use Rattle.pv_header.specs.declared.extent_list.Extent.{Extent}
use Rattle.disk_contents.specs.declared.read_refusal.ReadRefusal.{ReadRefusal}
use Rattle.disk_contents.specs.Causes.{IsReadCause}
use Rattle.disk_contents.specs.Reads.{AreAreasOf}

-- these spans were read, and nothing failed; a shelf that doesn't tell its record goes on so
pub record ReadsWell (old : State) (spans : List Span) (new : State) : Type 0 where
  pub reads : ReadsTold old.told spans new.told
  pub silent : old.told ≡ None → new.told ≡ None
  pub again : IsIdleAgain old new
  pub faults : HasSameFaults old new

-- the first so many of these spans were read, and then there was no going on
pub record ReadsUntil (pv : ℕ) (old : State) (spans : List Span) (new : State) (refusal : ReadRefusal) : Type 0 where
  pub read : List Span
  pub rest : List Span
  pub front : read ++ rest ≡ spans
  pub reads : ReadsTold old.told read new.told
  pub again : IsIdleAgain old new
  pub cause : IsReadCause pv old new refusal

-- the same of the spans that the metadata areas of the disk give
abbrev pub ReadsAreasUntil : (pv disk : ℕ) → State → (List Extent → List Span) → State → ReadRefusal → Type 0
ReadsAreasUntil pv disk old spans new refusal =
    (areas : List Extent) × HoldsOfDisk old.told pv (λ sector_at. AreAreasOf sector_at disk areas)
    × ReadsUntil pv old (spans areas) new refusal
