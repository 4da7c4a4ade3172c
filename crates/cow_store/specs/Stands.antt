-- The promise of a snapshot: at every moment since it was taken or opened, and in every image that a crash may leave.
use Rattle.std.specs.Prelude.{◌≡◌, ◌≤◌, ◌<◌, ℕ, ◌+◌, ◌/◌, ◌%◌, Bool, false, List, ◌∷◌, length, All, Contains, Some, None, Ok}
use Rattle.disk_model.specs.Durability.{EachOnlyLeaves, OnlyLeaves}
use Rattle.disk_model.specs.Moments.{EachImage, EveryImageSince, Throughout}
use Rattle.disk_model.specs.Steps.{Image, Record}
use Rattle.cow_store.specs.Candidates.{HasCandidates, IsCandidate, now_at, steps_since}
use Rattle.cow_store.specs.Entries.{chunks_of, slot_of}
use Rattle.cow_store.specs.Layout.{Lengths, slot_start, slots_in, table_sectors}
use Rattle.cow_store.specs.Opening.{opens}
use Rattle.cow_store.specs.Snapshot.{snapshot}
use Rattle.cow_store.specs.VolStates.{AreOneByOne, WritesWell}

-- The past of a store: how many steps were told when it was taken or opened, what each sector of the origin held when it was taken, or
-- of the snapshot when it was opened, and the chunks that may have an entry: those that had one when it was opened, and those in
-- which a sector was set since.
pub record Past : Type 0 where
  pub start : ℕ
  pub was : ℕ → List ℕ
  pub chunks : List ℕ

-- the past once a sector was set in the chunk
abbrev pub setting : ℕ → Past → Past
setting chunk past = record past { chunks = chunk ∷ past.chunks }

-- the image opens, with entries of no other chunks than these, and its snapshot is what it was
pub record IsWhole (lengths : Lengths) (past : Past) (image : Image) : Type 0 where
  pub entries : List ℕ
  pub found : opens lengths image ≡ Ok entries
  pub chunks : All (Contains past.chunks) (chunks_of entries)
  pub same : (sector : ℕ) → sector < lengths.origin → snapshot lengths image sector ≡ past.was sector

-- THE PROMISE. At every moment since the store was taken or opened, every image that a crash may leave opens with the snapshot as it was,
-- and each sector of the origin has a candidate.
pub record IsPromised (lengths : Lengths) (past : Past) (told : Record) : Type 0 where
  pub begun : past.start ≤ length told.steps
  pub snapshots : EveryImageSince past.start told (IsWhole lengths past)
  pub candidates : Throughout past.start (length told.steps) told (λ t. EachImage (HasCandidates past.start 0 lengths.origin t) t)

-- The value is one that a crash may leave in the sector: of the head and the table the one that stands there; in the slot of a chunk that
-- has one, and in the origin where the chunk has none, what the sector of the snapshot was.
pub record IsRight (lengths : Lengths) (was : ℕ → List ℕ) (entries : List ℕ) (table : ℕ → List ℕ) (v sector : ℕ) (value : List ℕ) : Type
    0 where
  pub stands : v ≡ 1 → sector < 1 + table_sectors (slots_in lengths.store) → value ≡ table sector
  pub saved : v ≡ 1 → (x slot : ℕ) → x < lengths.origin → slot_of entries (x / 8) ≡ Some slot
      → sector ≡ slot_start (slots_in lengths.store) slot + x % 8 → value ≡ was x
  pub unsaved : v ≡ 0 → sector < lengths.origin → slot_of entries (sector / 8) ≡ None → value ≡ was sector

-- What is kept while no operation fails: head and table open with these entries, and each value that a crash may leave is right, and in the
-- origin a candidate.
pub record IsKept (lengths : Lengths) (past : Past) (entries : List ℕ) (told : Record) : Type 0 where
  pub one_by_one : AreOneByOne told.steps
  pub well : WritesWell told.steps
  pub chunks : All (Contains past.chunks) (chunks_of entries)
  pub table : ℕ → List ℕ
  pub found : opens lengths (λ v. table) ≡ Ok entries
  pub right : EachOnlyLeaves (IsRight lengths past.was entries table) told
  pub candidates : (sector : ℕ) → sector < lengths.origin
      → OnlyLeaves told 0 sector (IsCandidate (now_at past.start told) (steps_since past.start told) 0 sector)

-- the promise, and what is kept for it unless an operation has failed
pub record Stands (lengths : Lengths) (past : Past) (entries : List ℕ) (spent : Bool) (told : Record) : Type 0 where
  pub promise : IsPromised lengths past told
  pub kept : spent ≡ false → IsKept lengths past entries told
