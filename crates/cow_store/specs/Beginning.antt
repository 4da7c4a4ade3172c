-- How a store begins: with the snapshot that was taken, or with that which it has when it is opened.
use Rattle.std.specs.Prelude.{◌≡◌, ℕ, false, List, [], length, replicate, Ok}
use Rattle.disk_model.specs.Steps.{Step, Record, now_after, steps_on}
use Rattle.cow_store.specs.Entries.{chunks_of}
use Rattle.cow_store.specs.Layout.{Lengths, slots_in}
use Rattle.cow_store.specs.Opening.{opens}
use Rattle.cow_store.specs.Snapshot.{snapshot}
use Rattle.cow_store.specs.Stands.{Past, Stands}
use Rattle.cow_store.specs.VolStates.{WritesWell}

-- the past of a store that was just taken: its snapshot is what a read of the origin gave before
abbrev pub taken_past : Record → Record → Past
taken_past old new = record { start = length new.steps; was = now_after old.opened old.steps 0; chunks = [] }

-- the past of a store that was just opened: its snapshot is that of what a read gave before
abbrev pub opened_past : Lengths → List ℕ → Record → Record → Past
opened_past lengths entries old new =
    record { start = length new.steps; was = snapshot lengths (now_after old.opened old.steps); chunks = chunks_of entries }

-- a table of so many slots, all free
abbrev pub no_entries : Lengths → List ℕ
no_entries lengths = replicate (slots_in lengths.store) 0

-- A snapshot was taken: the record goes on, the origin is as it was, and where each write before went well the promise stands.
pub record Takes (lengths : Lengths) (old new : Record) : Type 0 where
  pub since : List Step
  pub steps : new ≡ steps_on since old
  pub origin : (sector : ℕ) → now_after new.opened new.steps 0 sector ≡ now_after old.opened old.steps 0 sector
  pub stands : WritesWell old.steps → Stands lengths (taken_past old new) (no_entries lengths) false new

-- A store was opened: the record goes on, these are the entries, which opening finds in what a read gives, and where each write before went
-- well the promise
-- stands.
pub record Opens (lengths : Lengths) (entries : List ℕ) (old new : Record) : Type 0 where
  pub since : List Step
  pub steps : new ≡ steps_on since old
  pub found : opens lengths (now_after old.opened old.steps) ≡ Ok entries
  pub stands : WritesWell old.steps → Stands lengths (opened_past lengths entries old new) entries false new
