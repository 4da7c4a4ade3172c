-- The steps of a call, on top of those before it.
use Rattle.std.specs.Prelude.{◌≡◌, ℕ, List, [], ◌∷◌, ◌++◌, All, Option, Some, IfSome}
use Rattle.sector_base.specs.declared.spans.Span.{Span}
use Rattle.disk_model.specs.Steps.{IsSame, Reading, Writing, Step, Submitted, Completed, Record, now_after, steps_on}
use Rattle.disk_model.specs.Order.{HasFlushed, WritesNothing}

-- the writes that were submitted in these steps, the oldest first: the span of each, and its sectors
abbrev pub writes_submitted : List Step → List (Span × List (List ℕ))
writes_submitted [] = []
writes_submitted (Submitted tag (Writing span sectors) ∷ steps) = writes_submitted steps ++ (span, sectors) ∷ []
writes_submitted (_ ∷ steps) = writes_submitted steps

-- the spans of the reads that were submitted in these steps, the oldest first
abbrev pub spans_read : List Step → List Span
spans_read [] = []
spans_read (Submitted tag (Reading span) ∷ steps) = spans_read steps ++ span ∷ []
spans_read (_ ∷ steps) = spans_read steps

-- each of these steps is the submission or the completion of a read
abbrev pub ReadsAlone : List Step → Type 0
ReadsAlone [] = Unit {0}
ReadsAlone (Submitted tag (Reading span) ∷ steps) = ReadsAlone steps
ReadsAlone (Completed tag (Reading span) well fresh ∷ steps) = ReadsAlone steps
ReadsAlone (_ ∷ steps) = ⊥

-- a relation between what is told before a call and after it, where the shelf tells its record
abbrev pub BetweenRecords : (Record → Record → Type 0) → Option Record → Option Record → Type 0
BetweenRecords R before after = (old : Record) → before ≡ Some old → (new : Record) × (after ≡ Some new) × R old new

-- the newer record has the reads of these spans, in this order and each once, on top of the older one, and nothing else
pub record OnlyReads (old : Record) (spans : List Span) (new : Record) : Type 0 where
  pub since : List Step
  pub steps : new ≡ steps_on since old
  pub reads : ReadsAlone since
  pub spans_are : spans_read since ≡ spans

-- the same of a call, where the shelf tells its record
abbrev pub ReadsTold : Option Record → List Span → Option Record → Type 0
ReadsTold before spans after = BetweenRecords (λ old new. OnlyReads old spans new) before after

-- no write was submitted, a read gives what it gave, and a flush of each of these disks was submitted and completed well
pub record KeepsSectors (old : Record) (flushed : List ℕ) (new : Record) : Type 0 where
  pub since : List Step
  pub steps : new ≡ steps_on since old
  pub nothing : WritesNothing since
  pub same : IsSame (now_after new.opened new.steps) (now_after old.opened old.steps)
  pub flushes : All (λ pv. HasFlushed pv since) flushed

-- the same of a call, where the shelf tells its record
abbrev pub KeepsSectorsTold : Option Record → List ℕ → Option Record → Type 0
KeepsSectorsTold before flushed after = BetweenRecords (λ old new. KeepsSectors old flushed new) before after

-- what holds of the sectors of a disk, by what a read gives, where the shelf tells its record
abbrev pub HoldsOfDisk : Option Record → ℕ → ((ℕ → List ℕ) → Type 0) → Type 0
HoldsOfDisk told pv P = IfSome told (λ t. P (now_after t.opened t.steps pv))
