-- A batch on its way, as the layers above see it, and what it does when one of its operations completes.
use Rattle.std.specs.Prelude.{ℕ, ◌+◌, Bool, true, false, not, ◌==◌, if◌then◌else◌, List, [], ◌∷◌, length, filter, sum_by, Option, Some}
use Rattle.std.specs.Prelude.{None}
use Rattle.sector_base.specs.declared.spans.Span.{Span}
use Rattle.disk_batch.specs.Writes.{span_count}

-- a batch on its way
pub record View : Type 0 where
  -- the tags of its operations that haven't completed
  pub tags : List ℕ
  -- the disks that it flushes
  pub flush : List ℕ
  -- whether the flushes have been submitted
  pub flushing : Bool
  -- the disk of the last operation of the batch that failed, if one did
  pub lost : Option ℕ
  -- the writes that are still to be submitted, one whenever an operation has completed
  pub rest : List (Span × List (List ℕ))

-- how many flushes are still to be submitted
abbrev pub flushes_to_come : View → ℕ
flushes_to_come view = if view.flushing then 0 else length view.flush

-- how many operations are still to be submitted
abbrev pub to_come : View → ℕ
to_come view = length view.rest + flushes_to_come view

-- and how many sectors
abbrev pub sectors_to_come : View → ℕ
sectors_to_come view = sum_by span_count view.rest

-- an operation of the batch, with this tag and on this disk, has completed, well or not
abbrev pub done_on : ℕ → ℕ → Bool → View → View
done_on tag pv well view = record view {
  tags = filter (λ (t : ℕ). not (t == tag)) view.tags;
  lost = if well then view.lost else Some pv;
}

-- what a batch does when one of its operations has completed
pub data Turn : Type 0 where
  Waits : Turn
  Writes : Turn
  Flushes : Turn
  IsWell : Turn
  IsLost : ℕ → Turn

-- once every write was submitted: after the last completion it has lost an operation, or is through, or submits its flushes
abbrev pub last_turn : Bool → Option ℕ → Turn
last_turn flushing (Some pv) = IsLost pv
last_turn true None = IsWell
last_turn false None = Flushes

-- and before that it waits for the others
abbrev pub late_turn : View → Turn
late_turn view = elim view.tags as (λ _. Turn) [ [] ↦ last_turn view.flushing view.lost | (t ∷ ts) ↦ Waits ]

-- before its flushes it submits the next of the writes to come, if there is one, well or not
abbrev pub early_turn : View → Turn
early_turn view = elim view.rest as (λ _. Turn) [ [] ↦ late_turn view | (put ∷ puts) ↦ Writes ]

-- and so its turn is
abbrev pub turn_of : View → Turn
turn_of view = if view.flushing then late_turn view else early_turn view
