-- A small world as plain data, and what events make of it.
use Rattle.std.specs.Prelude.{◌≡◌, ℕ, ◌+◌, List, [], ◌∷◌, ◌++◌, length}
use Rattle.lvm_script.specs.declared.line.Line.{Line}
use Rattle.line_table.specs.declared.journal.JournalEntry.{JournalEntry}
use Rattle.disk_model.specs.State.{State}
use Rattle.io_session.specs.Events.{Event, Begins, RefusesLine, Completes, Idles, Tends, RefusesCommit, Halts}

-- a small world: the lines that were begun and their journal, how many writes are in flight and how many more can be submitted
-- without taking memory, and how many commits are due
pub record Small : Type 0 where
  pub begun : List Line
  pub entries : List JournalEntry
  pub flying : ℕ
  pub spare : ℕ
  pub due : ℕ

-- what an event makes of a small world; where memory was wanted only what is spare differs
abbrev pub Happens : Small → Event Line → Small → Type 0
Happens old (Begins line) new = (new.begun ≡ old.begun ++ line ∷ []) × (new.flying ≡ old.flying + 1) × (new.due ≡ old.due)
Happens old (RefusesLine line) new = new ≡ record old { spare = new.spare }
Happens old Completes new = (new.begun ≡ old.begun) × (new.flying + 1 ≡ old.flying) × (new.due ≡ old.due)
Happens old Idles new = new ≡ old
Happens old Tends new = (new.begun ≡ old.begun) × (new.flying ≡ old.flying) × (new.due + 1 ≡ old.due)
Happens old RefusesCommit new = new ≡ record old { spare = new.spare }
Happens old Halts new = (new.begun ≡ old.begun) × (new.flying ≡ old.flying) × (new.due + 1 ≡ old.due)

-- one operation fewer is in flight, on the same disks
pub record IsOneFewer (old new : State) : Type 0 where
  pub fewer : length new.in_flight + 1 ≡ length old.in_flight
  pub sizes : new.sizes ≡ old.sizes

-- as much is in flight and spare, on the same disks
pub record IsAsFull (old new : State) : Type 0 where
  pub same : length new.in_flight ≡ length old.in_flight
  pub spare : new.spare_ops ≡ old.spare_ops
  pub sizes : new.sizes ≡ old.sizes
