-- What the calls on a store do.
use Rattle.std.specs.Prelude.{◌≡◌, ◌≤◌, ℕ, ◌+◌, ◌==◌, ◌/◌, false, List, length, if◌then◌else◌, Option, Some, None, unwrap_or}
use Rattle.disk_model.specs.Since.{BetweenRecords}
use Rattle.disk_model.specs.Steps.{Step, Record, now_after, steps_on}
use Rattle.cow_store.specs.Entries.{free_slot, slot_of, with_chunk}
use Rattle.cow_store.specs.Layout.{lengths_of}
use Rattle.cow_store.specs.Snapshot.{old_sector, snapshot}
use Rattle.cow_store.specs.Stands.{Past, Stands}
use Rattle.cow_store.specs.Views.{CowView, IsStore}
use Rattle.cow_store.specs.VolStates.{VolState}

-- a store on volumes of these sizes that was just taken or opened, with these entries
pub record IsNew (vols : VolState) (entries : List ℕ) (view : CowView) : Type 0 where
  pub store : IsStore view
  pub sizes : view.vols.sizes ≡ vols.sizes
  pub entries_are : view.entries ≡ entries
  pub spent : view.spent ≡ false

-- the record goes on, and whatever the past, the promise still stands, with a past that may have more
pub record StillStands (more : Past → Past) (old new : CowView) (before after : Record) : Type 0 where
  pub since : List Step
  pub steps : after ≡ steps_on since before
  pub stands : (past : Past) → Stands (lengths_of old.vols.sizes) past old.entries old.spent before
      → Stands (lengths_of old.vols.sizes) (more past) new.entries new.spent after

-- a call on a store: it is still a store on its volumes, and the promise still stands
pub record Keeps (more : Past → Past) (old new : CowView) : Type 0 where
  pub store : IsStore new
  pub sizes : new.vols.sizes ≡ old.vols.sizes
  pub told : BetweenRecords (StillStands more old new) old.vols.told new.vols.told

-- no past has more
abbrev pub as_it_was : Past → Past
as_it_was past = past

-- the entries once the chunk has a slot: the first free one where it had none
abbrev pub entries_by : Option ℕ → List ℕ → ℕ → List ℕ
entries_by (Some slot) entries chunk = entries
entries_by None entries chunk = with_chunk entries (unwrap_or (free_slot entries) 0) chunk

abbrev pub entries_with : List ℕ → ℕ → List ℕ
entries_with entries chunk = entries_by (slot_of entries chunk) entries chunk

-- a read of this sector of the origin gives the value, and of the others what it gave
abbrev pub IsSetIn : ℕ → List ℕ → Record → Record → Type 0
IsSetIn at value before after =
    (sector : ℕ) → now_after after.opened after.steps 0 sector
    ≡ (if sector == at then value else now_after before.opened before.steps 0 sector)

-- a read of each sector of the origin gives what it gave
abbrev pub ReadsOrigin : Record → Record → Type 0
ReadsOrigin before after =
    (sector : ℕ) → now_after after.opened after.steps 0 sector ≡ now_after before.opened before.steps 0 sector

-- the sector of the origin was set, and its chunk has a slot
pub record Sets (at : ℕ) (value : List ℕ) (old new : CowView) : Type 0 where
  pub entries : new.entries ≡ entries_with old.entries (at / 8)
  pub now : BetweenRecords (IsSetIn at value) old.vols.told new.vols.told

-- the sector is that of the snapshot: by the entries, and where the promise stands, what it was, which is that of the snapshot of what a
-- read gives
pub record IsOld (view : CowView) (at : ℕ) (sector : List ℕ) (told : Record) : Type 0 where
  pub value : sector ≡ old_sector (length view.entries) view.entries (now_after told.opened told.steps) at
  pub was : (past : Past) → Stands (lengths_of view.vols.sizes) past view.entries view.spent told
      → (sector ≡ past.was at) × (sector ≡ snapshot (lengths_of view.vols.sizes) (now_after told.opened told.steps) at)

-- the chunk has the slot, the origin reads as before, and at most 20 operations were used up
pub record Saves (slot chunk : ℕ) (old new : CowView) : Type 0 where
  pub entries : new.entries ≡ with_chunk old.entries slot chunk
  pub spare : old.vols.spare ≤ new.vols.spare + 20
  pub faults : (v : ℕ) → old.vols.faults v ≤ new.vols.faults v
  pub going : new.spent ≡ false
  pub now : BetweenRecords ReadsOrigin old.vols.told new.vols.told
