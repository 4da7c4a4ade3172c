-- What the parts of a call do to the volumes, and that the promise goes on with them.
use Rattle.std.specs.Prelude.{◌≡◌, ◌≢◌, ◌≤◌, ◌<◌, ℕ, ◌+◌, ◌/◌, ◌%◌, Bool, IsTrue, List, [], ◌∷◌, Some, None}
use Rattle.std.specs.Prelude.{Contains, Option}
use Rattle.disk_model.specs.CrashValues.{MayLeave}
use Rattle.disk_model.specs.Durability.{OnlyLeaves}
use Rattle.disk_model.specs.Puts.{put_on}
use Rattle.disk_model.specs.Since.{KeepsSectors}
use Rattle.disk_model.specs.Steps.{IsSame, Step, Record, now_after, steps_on}
use Rattle.cow_store.specs.Entries.{free_slot, slot_of, with_chunk}
use Rattle.cow_store.specs.Layout.{Lengths, slot_start, slots_in, table_sectors, zeros}
use Rattle.cow_store.specs.Stands.{IsKept, IsPromised, Past}
use Rattle.cow_store.specs.VolStates.{AreOneByOne, VolState, WritesWell}

-- at most so many operations were used up, no count of faults has fallen, and the volumes have their sizes
pub record Spends (old : VolState) (ops : ℕ) (new : VolState) : Type 0 where
  pub spare : old.spare ≤ new.spare + ops
  pub faults : (v : ℕ) → old.faults v ≤ new.faults v
  pub sizes : new.sizes ≡ old.sizes

-- the volume is one of the two, and its count of faults has risen
abbrev pub HasFault : VolState → ℕ → VolState → Type 0
HasFault old volume new = (volume < 2) × (old.faults volume < new.faults volume)

-- the record goes on by operations, one by one, and each write went well where all did
pub record GoesOn (well : Bool) (old new : Record) : Type 0 where
  pub since : List Step
  pub steps : new ≡ steps_on since old
  pub one_by_one : AreOneByOne old.steps → AreOneByOne new.steps
  pub wells : IsTrue well → WritesWell old.steps → WritesWell new.steps

-- Whatever the past, where the promise stood and all was kept with entries of which this holds, the promise stands; and all is kept, with
-- entries that may have changed, where all went well.
abbrev pub PromiseGoesOn : Lengths → (Past → List ℕ → Type 0) → (List ℕ → List ℕ) → Bool → Record → Record → Type 0
PromiseGoesOn lengths When change well old new =
    (past : Past) (entries : List ℕ) → When past entries → IsPromised lengths past old → IsKept lengths past entries old
    → IsPromised lengths past new × (IsTrue well → IsKept lengths past (change entries) new)

-- no promise stands on the sector of the store: it is behind the table, and in no slot of a chunk
abbrev pub IsUnused : Lengths → ℕ → Past → List ℕ → Type 0
IsUnused lengths at past entries =
    (1 + table_sectors (slots_in lengths.store) ≤ at)
    × ((x slot : ℕ) → slot_of entries (x / 8) ≡ Some slot → at ≢ slot_start (slots_in lengths.store) slot + x % 8)

-- each of so many sectors of the store is unused
abbrev pub AreUnused : Lengths → ℕ → ℕ → Past → List ℕ → Type 0
AreUnused lengths at count past entries = (k : ℕ) → k < count → IsUnused lengths (at + k) past entries

-- the entries stay as they are
abbrev pub unchanged : List ℕ → List ℕ
unchanged entries = entries

-- so many sectors of the origin were copied to the store, the first ones from a sector to a sector
pub record CopiesSectors (lengths : Lengths) (from to count : ℕ) (well : Bool) (old new : Record) : Type 0 where
  pub goes : GoesOn well old new
  pub origin : (sector : ℕ) → now_after new.opened new.steps 0 sector ≡ now_after old.opened old.steps 0 sector
  pub earlier : (sector : ℕ) → sector < to → now_after new.opened new.steps 1 sector ≡ now_after old.opened old.steps 1 sector
  pub copied : IsTrue well → (k : ℕ) → k < count → now_after new.opened new.steps 1 (to + k) ≡ now_after old.opened old.steps 0 (from + k)
  pub promise : PromiseGoesOn lengths (AreUnused lengths to count) unchanged well old new

-- they were, and where all went well the copies last
pub record CopiesChunk (lengths : Lengths) (from to count : ℕ) (well : Bool) (old new : Record) : Type 0 where
  pub copies : CopiesSectors lengths from to count well old new
  pub lasting : IsTrue well → WritesWell old.steps → AreOneByOne old.steps → (k : ℕ) → k < count
      → OnlyLeaves new 1 (to + k) (λ v. v ≡ now_after old.opened old.steps 0 (from + k))

-- the slot is free, the chunk has none, and the past may have it; and the slot holds what the chunk was, which lasts
pub record IsSaved (lengths : Lengths) (chunk slot : ℕ) (told : Record) (past : Past) (entries : List ℕ) : Type 0 where
  pub free : free_slot entries ≡ Some slot
  pub new : slot_of entries chunk ≡ None
  pub may : Contains past.chunks chunk
  pub holds : (x : ℕ) → x < lengths.origin → x / 8 ≡ chunk
      → OnlyLeaves told 1 (slot_start (slots_in lengths.store) slot + x % 8) (λ v. v ≡ past.was x)

-- the entries once the slot has the chunk
abbrev pub giving : ℕ → ℕ → List ℕ → List ℕ
giving chunk slot entries = with_chunk entries slot chunk

-- the entry of the slot was put
pub record PutsEntry (lengths : Lengths) (chunk slot : ℕ) (well : Bool) (old new : Record) : Type 0 where
  pub goes : GoesOn well old new
  pub origin : (sector : ℕ) → now_after new.opened new.steps 0 sector ≡ now_after old.opened old.steps 0 sector
  pub promise : PromiseGoesOn lengths (IsSaved lengths chunk slot old) (giving chunk slot) well old new

-- the slot is free, the chunk has none, and the past may have it
abbrev pub CanBeSaved : ℕ → ℕ → Past → List ℕ → Type 0
CanBeSaved chunk slot past entries = (free_slot entries ≡ Some slot) × (slot_of entries chunk ≡ None) × Contains past.chunks chunk

-- a chunk was copied to the slot, and then its entry was put
pub record SavesChunk (lengths : Lengths) (chunk slot : ℕ) (well : Bool) (old new : Record) : Type 0 where
  pub goes : GoesOn well old new
  pub origin : (sector : ℕ) → now_after new.opened new.steps 0 sector ≡ now_after old.opened old.steps 0 sector
  pub promise : PromiseGoesOn lengths (CanBeSaved chunk slot) (giving chunk slot) well old new

-- the chunk of the sector has a slot
abbrev pub HasSlot : ℕ → Past → List ℕ → Type 0
HasSlot sector past entries = (slot : ℕ) × (slot_of entries (sector / 8) ≡ Some slot)

-- any past and entries
abbrev pub Always : Past → List ℕ → Type 0
Always past entries = Unit {0}

-- nothing was written
pub record WritesNone (lengths : Lengths) (well : Bool) (old new : Record) : Type 0 where
  pub goes : GoesOn well old new
  pub promise : PromiseGoesOn lengths Always unchanged well old new

-- both volumes were flushed, and where each write before went well each of their sectors has one value, which a read gives
pub record FlushesBoth (old new : Record) : Type 0 where
  pub keeps : KeepsSectors old (0 ∷ 1 ∷ []) new
  pub lasting : AreOneByOne old.steps → WritesWell old.steps → (v sector : ℕ) → v < 2
      → OnlyLeaves new v sector (λ value. value ≡ now_after old.opened old.steps v sector)

-- a sector of the store was put, and lasts where all went well
pub record PutsSector (at : ℕ) (value : List ℕ) (well : Bool) (old new : Record) : Type 0 where
  pub goes : GoesOn well old new
  pub now : IsTrue well → IsSame (now_after new.opened new.steps)
      (put_on (record { pv = 1; sector = at; value = value }) (now_after old.opened old.steps))
  pub lasting : IsTrue well → OnlyLeaves new 1 at (λ v. v ≡ value)
  pub others : (v sector : ℕ) (write : Option ℕ) (value : List ℕ) → (v ≡ 1 → sector ≢ at)
      → MayLeave new.opened new.steps v sector write value → MayLeave old.opened old.steps v sector write value

-- the table was cleared, and the zeros last where all went well
pub record ClearsTable (tables : ℕ) (well : Bool) (old new : Record) : Type 0 where
  pub goes : GoesOn well old new
  pub origin : (sector : ℕ) → now_after new.opened new.steps 0 sector ≡ now_after old.opened old.steps 0 sector
  pub lasting : IsTrue well → AreOneByOne old.steps → WritesWell old.steps → (sector : ℕ) → 0 < sector → sector < 1 + tables
      → OnlyLeaves new 1 sector (λ v. v ≡ zeros)
  pub others : (v sector : ℕ) (write : Option ℕ) (value : List ℕ) → (v ≡ 1 → sector ≡ 0)
      → MayLeave new.opened new.steps v sector write value → MayLeave old.opened old.steps v sector write value
