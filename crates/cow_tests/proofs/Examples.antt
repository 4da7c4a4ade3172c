-- A snapshot of 32 sectors in a store of 24, judged by computing.
use Rattle.std.proofs.Common.{◌≡◌, ℕ, ◌==◌, cond, true, false, List, [], ◌∷◌, replicate, slice_index_or, Some, None, Ok, Err, inl, inr}
use Rattle.std.proofs.Common.{refl, ap, arith}
use Rattle.sector_base.specs.declared.spans.Span.{Span}
use Rattle.disk_model.specs.Steps.{Image, Writing, Flushing, Step, Submitted, Completed}
use Rattle.cow_store.specs.declared.refusal.CowRefusal.TheVariants.{BadEntry, Full, NoHead, OtherLength, PastEnd, Spent, StoreTooSmall}
use Rattle.cow_store.specs.Answers.{refused_at, refused_set}
use Rattle.cow_store.specs.Calls.{entries_with}
use Rattle.cow_store.specs.Candidates.{IsCandidate}
use Rattle.cow_store.specs.Layout.{Lengths, chunks_in, head_for, slot_start, slots_in, used_sectors, with_entry, zeros}
use Rattle.cow_store.specs.Opening.{opened_table, opens}
use Rattle.cow_store.specs.Preparing.{slot_for}
use Rattle.cow_store.specs.Snapshot.{snapshot}
use Rattle.cow_store.specs.Views.{CowView}

-- how many slots stores have: 64 of them fill a sector of the table
slots-0 : slots_in 9 ≡ 0
slots-0 = refl

slots-1 : slots_in 10 ≡ 1
slots-1 = refl

slots-2 : slots_in 24 ≡ 2
slots-2 = refl

slots-63 : slots_in 513 ≡ 63
slots-63 = refl

slots-64 : (slots_in 514 ≡ 64) × (used_sectors 64 ≡ 514)
slots-64 = (refl, refl)

slots-65 : (slots_in 522 ≡ 64) × (slots_in 523 ≡ 65)
slots-65 = (refl, refl)

-- where the data of the second slot begin
second-slot : slot_start 2 1 ≡ 10
second-slot = refl

abbrev lengths : Lengths
lengths = record { origin = 32; store = 24 }

-- the sector 3 was set, and then the sector 8: two chunks have a slot
abbrev both_set : Image
both_set v sector =
    cond (v == 0) (cond (sector == 3) (replicate 512 7) (cond (sector == 8) (replicate 512 1) zeros))
    (cond (sector == 0) (head_for 32) (cond (sector == 1) (with_entry (with_entry zeros 0 0) 1 1) zeros))

opens-both : opens lengths both_set ≡ Ok (1 ∷ 2 ∷ [])
opens-both = refl

was-3 : snapshot lengths both_set 3 ≡ zeros
was-3 = refl

was-8 : snapshot lengths both_set 8 ≡ zeros
was-8 = refl

-- the head is there, but the copy's entry isn't yet
abbrev none_set : Image
none_set v sector = cond (v == 1) (cond (sector == 0) (head_for 32) (cond (sector == 5) (replicate 512 7) zeros)) zeros

opens-none : opens lengths none_set ≡ Ok (0 ∷ 0 ∷ [])
opens-none = refl

-- what isn't opened
too-small : opens (record { origin = 32; store = 9 }) both_set ≡ Err (StoreTooSmall 10 9)
too-small = refl

no-head : opens lengths (λ v sector. zeros) ≡ Err NoHead
no-head = refl

other-length : opens (record { origin = 31; store = 24 }) both_set ≡ Err (OtherLength 32 31)
other-length = refl

outside : opened_table 32 (4 ∷ 5 ∷ []) ≡ Err (BadEntry 1 5)
outside = refl

listed-before : opened_table 32 (3 ∷ 0 ∷ 3 ∷ []) ≡ Err (BadEntry 2 3)
listed-before = refl

-- the last chunk may be short
short : (chunks_in 25 ≡ 4) × (opened_table 25 (4 ∷ []) ≡ Ok (4 ∷ []))
short = (refl, refl)

abbrev view : List ℕ → CowView
view entries = record {
  vols = record { sizes = 32 ∷ 24 ∷ []; spare = 0; faults = λ v. 0; told = None };
  entries = entries;
  spent = false;
}

-- the first free slot is taken, unless the chunk has one
first-free : entries_with (0 ∷ 0 ∷ []) 3 ≡ 4 ∷ 0 ∷ []
first-free = refl

slot-behind : (slot_for (4 ∷ 0 ∷ []) 1 ≡ Some 1) × (entries_with (4 ∷ 0 ∷ []) 1 ≡ 4 ∷ 2 ∷ [])
slot-behind = (refl, refl)

slot-had : (slot_for (4 ∷ 2 ∷ []) 1 ≡ None) × (entries_with (4 ∷ 2 ∷ []) 1 ≡ 4 ∷ 2 ∷ [])
slot-had = (refl, refl)

-- in which order a call is refused
full : refused_set (view (1 ∷ 2 ∷ [])) 16 ≡ Some (Full 2)
full = refl

full-but-had : refused_set (view (1 ∷ 2 ∷ [])) 15 ≡ None
full-but-had = refl

past-end : refused_set (view (1 ∷ 2 ∷ [])) 32 ≡ Some (PastEnd 33 32)
past-end = refl

spent : refused_set (record (view (1 ∷ 2 ∷ [])) { spent = true }) 32 ≡ Some Spent
spent = refl

read-at : refused_at (view (1 ∷ 2 ∷ [])) 31 ≡ None
read-at = refl

-- a sector was written, flushed, and written again
abbrev here : Span
here = record { pv = 0; first = 3; count = 1 }

abbrev value : ℕ → List ℕ
value n = n ∷ []

abbrev steps : List Step
steps =
    Completed 2 (Writing here (value 2 ∷ [])) true []
    ∷ Submitted 2 (Writing here (value 2 ∷ []))
    ∷ Completed 1 (Flushing 0) true []
    ∷ Submitted 1 (Flushing 0)
    ∷ Completed 0 (Writing here (value 1 ∷ [])) true []
    ∷ Submitted 0 (Writing here (value 1 ∷ []))
    ∷ []

abbrev base : Image
base v sector = value 0

-- the value before the flush is a candidate, and so is that which was written since, and the first one isn't
flushed : IsCandidate base steps 0 3 (value 1)
flushed = inl (inr (refl, refl), λ same. refl)

since : IsCandidate base steps 0 3 (value 2)
since = inr (refl, refl)

apart : (a b : ℕ) → value a ≡ value b → a ≡ b
apart a b e = ap (λ (l : List ℕ). slice_index_or l 0 0) e

first : IsCandidate base steps 0 3 (value 0) → ⊥
first (inl before) = let e : 0 ≡ 1 = apart 0 1 (before.1 refl) in absurd (omega (arith, e))
first (inr new) = let e : 0 ≡ 2 = apart 0 2 new.1 in absurd (omega (arith, e))
