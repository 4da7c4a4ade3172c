-- What opening a store finds in an image: the entries of its table, or the first reason against it.
use Rattle.std.specs.Prelude.{ℕ, nat_lt, ◌==◌, ◌&&◌, ◌||◌, not, Bool, if◌then◌else◌, List, [], ◌∷◌, ◌++◌, length, take}
use Rattle.std.specs.Prelude.{Option, Some, None, Result, Ok, Err, nat_eq}
use Rattle.std.specs.Cmp.Lexicographic.{pointwise}
use Rattle.std.specs.List.{list_any}
use Rattle.sector_base.specs.Fields.{field}
use Rattle.disk_model.specs.Steps.{Image}
use Rattle.cow_store.specs.declared.refusal.CowRefusal.{CowRefusal}
use Rattle.cow_store.specs.declared.refusal.CowRefusal.TheVariants.{StoreTooSmall, NoHead, OtherLength, BadEntry}
use Rattle.cow_store.specs.Entries.{is_free}
use Rattle.cow_store.specs.Layout.{Lengths, chunks_in, magic, slots_in}
use Rattle.cow_store.specs.Snapshot.{entries_in}

-- whether the sector begins with the magic
abbrev pub has_magic : List ℕ → Bool
has_magic sector = pointwise nat_eq (take 8 sector) magic

-- whether the entry, behind these, names a chunk outside of an origin of so many chunks, or one that was listed before
abbrev pub is_bad : ℕ → List ℕ → ℕ → Bool
is_bad chunks before entry = not (is_free entry) && (nat_lt chunks entry || list_any (λ other. other == entry) before)

-- the first bad one of the entries behind these, with its slot
abbrev pub first_bad : ℕ → List ℕ → List ℕ → Option (ℕ × ℕ)
first_bad chunks before [] = None
first_bad chunks before (entry ∷ entries) =
    if is_bad chunks before entry then Some (length before, entry) else first_bad chunks (before ++ entry ∷ []) entries

-- the entries, unless one is bad
abbrev pub if_good : List ℕ → Option (ℕ × ℕ) → Result (List ℕ) CowRefusal
if_good entries None = Ok entries
if_good entries (Some bad) = Err (BadEntry bad.0 bad.1)

-- what is found of the entries of a table, for an origin of so many sectors
abbrev pub opened_table : ℕ → List ℕ → Result (List ℕ) CowRefusal
opened_table origin entries = if_good entries (first_bad (chunks_in origin) [] entries)

-- why the first sector isn't the head of a store for an origin of so many sectors
abbrev pub refused_head : ℕ → List ℕ → Option CowRefusal
refused_head origin sector =
    if not (has_magic sector) then Some NoHead
    else if field 8 sector 8 == origin then None
    else Some (OtherLength (field 8 sector 8) origin)

-- what was found, unless there is a reason against it
abbrev pub unless : Option CowRefusal → Result (List ℕ) CowRefusal → Result (List ℕ) CowRefusal
unless None found = found
unless (Some why) found = Err why

-- why a store of so many sectors is too small
abbrev pub refused_size : ℕ → Option CowRefusal
refused_size store = if nat_lt store 10 then Some (StoreTooSmall 10 store) else None

-- What opening finds: a store that is large enough, a head with the origin's length, and a table without bad entries; else the first reason
-- in this order.
abbrev pub opens : Lengths → Image → Result (List ℕ) CowRefusal
opens lengths image =
    unless (refused_size lengths.store) (unless (refused_head lengths.origin (image 1 0))
    (opened_table lengths.origin (entries_in (slots_in lengths.store) image)))
