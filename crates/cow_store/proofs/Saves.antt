-- A chunk is copied to a free slot, and then the entry of that is put.
use Rattle.std.proofs.Common.{◌≡◌, ◌≤◌, ◌<◌, ℕ, zero, suc, ◌+◌, ◌-◌, ◌*◌, ◌/◌, ◌%◌, cond, min, Bool, true, false, List, [], ◌∷◌, length}
use Rattle.std.proofs.Common.{Some, None, refl, sym, ap, ◌∙◌, arith}
use Rattle.std.specs.List.{position_from, slice_get}
use Rattle.std.proofs.lemmas.Bool.Decides.{nat_tests}
use Rattle.disk_model.specs.Record.{IsRecord}
use Rattle.disk_model.specs.Steps.{Record, now_after}
use Rattle.disk_model.proofs.NowStands.{now_has}
use Rattle.cow_store.specs.Entries.{free_slot, names, slot_of}
use Rattle.cow_store.specs.Layout.{Lengths, slot_start, slots_in}
use Rattle.cow_store.specs.Stands.{IsKept, Past}
use Rattle.cow_store.specs.Writing.{AreUnused, CanBeSaved, CopiesChunk, IsSaved, PutsEntry, SavesChunk, giving, unchanged}
use Rattle.cow_store.proofs.Goes.{goes_both, promise_both, promise_failed, promise_weaker}
use Rattle.cow_store.proofs.PutTable.{free_there}

-- the slot of a chunk has its entry
slot_has : (entries : List ℕ) (chunk first slot : ℕ) → position_from (names chunk) first entries ≡ Some slot
    → (k : ℕ) × (slot ≡ first + k) × (slice_get entries k ≡ Some (chunk + 1))
slot_has [] chunk first slot e = absurd (let h : None ≡ Some slot = e in cc)
slot_has (entry ∷ entries) chunk first slot e = by (names chunk entry) refl e (λ h. slot_has entries chunk (first + 1) slot h)
  where
    by : (b : Bool) → names chunk entry ≡ b → cond b (Some first) (position_from (names chunk) (first + 1) entries) ≡ Some slot
        → (position_from (names chunk) (first + 1) entries ≡ Some slot
        → (k : ℕ) × (slot ≡ first + 1 + k) × (slice_get entries k ≡ Some (chunk + 1)))
        → (k : ℕ) × (slot ≡ first + k) × (slice_get (entry ∷ entries) k ≡ Some (chunk + 1))
    by true is e rest =
        let here : first ≡ slot = cc in
        let own : entry ≡ chunk + 1 = grind (arith, nat_tests) in
        (0, omega (arith, here), ap (λ (n : ℕ). Some n) own)
    by false is e rest = let h = rest e in (suc h.0, omega (arith, h.1), h.2)

pub slot_entry : (entries : List ℕ) (chunk slot : ℕ) → slot_of entries chunk ≡ Some slot → slice_get entries slot ≡ Some (chunk + 1)
slot_entry entries chunk slot e =
    let h = slot_has entries chunk 0 slot e in
    let same : slot ≡ h.0 = omega (arith, h.1) in
    ap (slice_get entries) same ∙ h.2

-- a free slot's sectors are unused
free_unused : (lengths : Lengths) (slot count : ℕ) (past : Past) (entries : List ℕ) → count ≤ 8 → free_slot entries ≡ Some slot
    → AreUnused lengths (slot_start (slots_in lengths.store) slot) count past entries
free_unused lengths slot count past entries few free k lt = (
  omega arith,
  λ x other has there.
      let same : slot ≡ other = omega (arith, lt, few, there) in
      let zero_there = free_there entries slot free in
      let own = slot_entry entries (x / 8) other has in
      let both : Some 0 ≡ Some (x / 8 + 1) = sym zero_there ∙ ap (slice_get entries) same ∙ own in
      let numbers : 0 ≡ x / 8 + 1 = cc in
      omega (arith, numbers),
)

module _ (lengths : Lengths) (chunk slot : ℕ) (a b : Record) (is : IsRecord a.steps) where
  -- what the chunk was lasts in the slot
  saved : (past : Past) (entries : List ℕ) → CanBeSaved chunk slot past entries → IsKept lengths past entries a
      → CopiesChunk lengths (8 * chunk) (slot_start (slots_in lengths.store) slot) (min 8 (lengths.origin - 8 * chunk)) true a b
      → IsSaved lengths chunk slot b past entries
  saved past entries can k c = record {
    free = can.0;
    new = can.1;
    may = can.2;
    holds = λ x lt of_chunk.
        let place : 8 * chunk + x % 8 ≡ x = omega (arith, of_chunk) in
        let none : slot_of entries (x / 8) ≡ None = ap (slot_of entries) of_chunk ∙ can.1 in
        let was : now_after a.opened a.steps 0 x ≡ past.was x =
        now_has a 0 x (λ v. v ≡ past.was x) is
        (record { each = λ write v leaves. ((k.right 0 x).each write v leaves).unsaved refl lt none }) in
        let last = c.lasting refl k.well k.one_by_one (x % 8) (omega (arith, lt, place)) in
        record {
          each = λ write v leaves. last.each write v leaves ∙ ap (λ (n : ℕ). now_after a.opened a.steps 0 n) place ∙ was;
        };
  }

  -- the copying failed
  pub chunk_unsaved : CopiesChunk lengths (8 * chunk) (slot_start (slots_in lengths.store) slot) (min 8 (lengths.origin - 8 * chunk)) false
      a b
      → SavesChunk lengths chunk slot false a b
  chunk_unsaved c = record {
    goes = c.copies.goes;
    origin = c.copies.origin;
    promise =
        promise_failed lengths (CanBeSaved chunk slot) unchanged (giving chunk slot) a b
        (promise_weaker lengths
        (AreUnused lengths (slot_start (slots_in lengths.store) slot) (min 8 (lengths.origin - 8 * chunk))) (CanBeSaved chunk slot)
        unchanged false a b
        (λ past entries can. free_unused lengths slot (min 8 (lengths.origin - 8 * chunk)) past entries (omega arith) can.0)
        c.copies.promise);
  }

  -- it went well, and then the entry was put or not
  pub chunk_saved : (well : Bool) (d : Record)
      → CopiesChunk lengths (8 * chunk) (slot_start (slots_in lengths.store) slot) (min 8 (lengths.origin - 8 * chunk)) true a b
      → PutsEntry lengths chunk slot well b d → SavesChunk lengths chunk slot well a d
  chunk_saved well d c e = record {
    goes = goes_both a b d well c.copies.goes e.goes;
    origin = λ sector. e.origin sector ∙ c.copies.origin sector;
    promise =
        promise_both lengths (CanBeSaved chunk slot) (IsSaved lengths chunk slot b) unchanged (giving chunk slot) well a b d
        (promise_weaker lengths
        (AreUnused lengths (slot_start (slots_in lengths.store) slot) (min 8 (lengths.origin - 8 * chunk))) (CanBeSaved chunk slot)
        unchanged true a b
        (λ past entries can. free_unused lengths slot (min 8 (lengths.origin - 8 * chunk)) past entries (omega arith) can.0)
        c.copies.promise)
        e.promise (λ past entries can k. saved past entries can k c);
  }

-- a slot is one of the table
pub slot_below : (entries : List ℕ) (chunk slot : ℕ) → slot_of entries chunk ≡ Some slot → slot < length entries
slot_below entries chunk slot e = below entries slot (slot_entry entries chunk slot e)
  where
    below : (l : List ℕ) (k : ℕ) → {x : ℕ} → slice_get l k ≡ Some x → k < length l
    below [] k e = cc
    below (y ∷ l) zero e = omega arith
    below (y ∷ l) (suc k) e = omega (arith, below l k e)
