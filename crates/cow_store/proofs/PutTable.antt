-- The table once an entry was put.
use Rattle.std.proofs.Common.{◌≡◌, ◌≢◌, ◌≤◌, ◌<◌, ℕ, zero, suc, ◌+◌, ◌^◌, ◌==◌, cond, Bool, true, false, List, [], ◌∷◌, length, map, set}
use Rattle.std.proofs.Common.{Option, Some, None, Result, Ok, refl, sym, ap, ⊎_elim, ◌∙◌, arith}
use Rattle.std.specs.List.{position_from, range_with_len, slice_get}
use Rattle.std.proofs.lemmas.Bool.{cases_lt}
use Rattle.std.proofs.lemmas.Bool.Decides.{eqb_tells, nat_tests}
use Rattle.std.proofs.lemmas.Iterator.Adapters.{position_from-zero}
use Rattle.sector_base.specs.Fields.{field}
use Rattle.cow_store.specs.declared.refusal.CowRefusal.{CowRefusal}
use Rattle.cow_store.specs.Entries.{free_slot, is_free, slot_of, with_chunk}
use Rattle.cow_store.specs.Layout.{Lengths, chunks_in, entry_place, entry_sector, slots_in, with_entry}
use Rattle.cow_store.specs.Opening.{first_bad, if_good, opened_table, opens, refused_head, refused_size, unless}
use Rattle.cow_store.specs.Snapshot.{entries_in, entry_in}
use Rattle.cow_store.proofs.EntryBytes.{field_before, field_behind, field_put}
use Rattle.cow_store.proofs.GoodEntries.{good_given}
use Rattle.cow_store.proofs.Images.{opened_entries, same_on_range, unless_ok}

-- the first free slot has no chunk
free_from : (entries : List ℕ) (first slot : ℕ) → position_from is_free first entries ≡ Some slot
    → (k : ℕ) × (slot ≡ first + k) × (slice_get entries k ≡ Some 0)
free_from [] first slot e = absurd (let h : None ≡ Some slot = e in cc)
free_from (entry ∷ entries) first slot e = by (is_free entry) refl e (λ h. free_from entries (first + 1) slot h)
  where
    by : (b : Bool) → is_free entry ≡ b → cond b (Some first) (position_from is_free (first + 1) entries) ≡ Some slot
        → (position_from is_free (first + 1) entries ≡ Some slot
        → (k : ℕ) × (slot ≡ first + 1 + k) × (slice_get entries k ≡ Some 0))
        → (k : ℕ) × (slot ≡ first + k) × (slice_get (entry ∷ entries) k ≡ Some 0)
    by true is e rest =
        let here : first ≡ slot = cc in
        let none : entry ≡ 0 = grind (arith, nat_tests) in
        (0, omega (arith, here), ap (λ (n : ℕ). Some n) none)
    by false is e rest = let h = rest e in (suc h.0, omega (arith, h.1), h.2)

pub free_there : (entries : List ℕ) (slot : ℕ) → free_slot entries ≡ Some slot → slice_get entries slot ≡ Some 0
free_there entries slot e =
    let h = free_from entries 0 slot (sym (position_from-zero is_free entries) ∙ e) in
    let same : slot ≡ h.0 = omega (arith, h.1) in
    ap (slice_get entries) same ∙ h.2

-- one item of a range gets another value
set_on_range : (f g : ℕ → ℕ) (first count i value : ℕ) → i < count → g (first + i) ≡ value
    → ((k : ℕ) → k < first + count → k ≢ first + i → g k ≡ f k)
    → map g (range_with_len first count) ≡ set (map f (range_with_len first count)) i value
set_on_range f g first zero i value lt here away = absurd (omega arith)
set_on_range f g first (suc count) zero value lt here away =
    ap (λ (n : ℕ). n ∷ map g (range_with_len (first + 1) count)) (ap g (omega arith) ∙ here)
    ∙ ap (λ (l : List ℕ). value ∷ l)
    (same_on_range g f (first + 1) count (λ k low high. away k (omega (arith, high)) (λ e. omega (arith, low, e))))
set_on_range f g first (suc count) (suc i) value lt here away =
    ap (λ (n : ℕ). n ∷ map g (range_with_len (first + 1) count)) (away first (omega arith) (λ e. omega (arith, e)))
    ∙ ap (λ (l : List ℕ). f first ∷ l)
    (set_on_range f g (first + 1) count i value (omega arith) (ap g (omega arith) ∙ here)
    (λ k high other. away k (omega (arith, high)) (λ e. other (omega (arith, e)))))

module _ (table : ℕ → List ℕ) (slot chunk : ℕ) (long : length (table (entry_sector slot)) ≡ 512) (small : chunk + 1 < 2 ^ 64) where
  abbrev at : ℕ
  at = entry_sector slot

  abbrev put : List ℕ
  put = with_entry (table (entry_sector slot)) slot chunk

  -- the table with the entry
  abbrev pub put_table : ℕ → List ℕ
  put_table sector = cond (sector == entry_sector slot) (with_entry (table (entry_sector slot)) slot chunk) (table sector)

  pub put_there : (sector : ℕ) → sector ≡ entry_sector slot → put_table sector ≡ put
  put_there sector is =
      let e : (sector == entry_sector slot) ≡ true = grind (arith, nat_tests) in ap (λ (b : Bool). cond b put (table sector)) e

  pub put_away : (sector : ℕ) → sector ≢ entry_sector slot → put_table sector ≡ table sector
  put_away sector other =
      ap (λ (b : Bool). cond b put (table sector))
      (⊎_elim (λ same. absurd (other same.1)) (λ away. away.0) (eqb_tells sector (entry_sector slot)))

  own_entry : entry_in (λ v. put_table) slot ≡ chunk + 1
  own_entry =
      ap (λ (s : List ℕ). field 8 s (entry_place slot)) (put_there (entry_sector slot) refl)
      ∙ field_put (table (entry_sector slot)) (entry_place slot) (chunk + 1) (omega (arith, long)) small

  in_sector : (k : ℕ) → k ≢ slot → entry_sector k ≡ entry_sector slot
      → field 8 put (entry_place k) ≡ field 8 (table (entry_sector slot)) (entry_place k)
  in_sector k other same =
      ⊎_elim
      (λ (before : k < slot).
      field_before (table (entry_sector slot)) (entry_place slot) (chunk + 1) (omega (arith, long)) (entry_place k)
      (omega (arith, before, same)))
      (λ (behind : slot ≤ k).
      let more : slot < k = ⊎_elim (λ lt. lt) (λ le. absurd (other (omega (arith, behind, le)))) (cases_lt slot k) in
      field_behind (table (entry_sector slot)) (entry_place slot) (chunk + 1) (omega (arith, long)) (entry_place k)
      (omega (arith, more, same)))
      (cases_lt k slot)

  other_entry : (k : ℕ) → k ≢ slot → entry_in (λ v. put_table) k ≡ entry_in (λ v. table) k
  other_entry k other =
      ⊎_elim
      (λ same.
      ap (λ (s : List ℕ). field 8 s (entry_place k)) (put_there (entry_sector k) same.1)
      ∙ in_sector k other same.1
      ∙ ap (λ (s : ℕ). field 8 (table s) (entry_place k)) (sym same.1))
      (λ away. ap (λ (s : List ℕ). field 8 s (entry_place k)) (put_away (entry_sector k) away.1))
      (eqb_tells (entry_sector k) (entry_sector slot))

  -- the entries of that table
  put_entries : (slots : ℕ) → slot < slots → entries_in slots (λ v. put_table) ≡ with_chunk (entries_in slots (λ v. table)) slot chunk
  put_entries slots lt =
      set_on_range (entry_in (λ v. table)) (entry_in (λ v. put_table)) 0 slots slot (chunk + 1) lt
      (ap (entry_in (λ v. put_table)) (omega arith) ∙ own_entry)
      (λ k high other. other_entry k (λ e. other (omega (arith, e))))

  -- it opens with the chunk in its slot
  pub put_opens : (lengths : Lengths) (entries : List ℕ) → slot < slots_in lengths.store → opens lengths (λ v. table) ≡ Ok entries
      → slot_of entries chunk ≡ None → slice_get entries slot ≡ Some 0 → chunk < chunks_in lengths.origin
      → opens lengths (λ v. put_table) ≡ Ok (with_chunk entries slot chunk)
  put_opens lengths entries lt found new free within =
      let slots : ℕ = slots_in lengths.store in
      let all = opened_entries lengths (λ v. table) entries found in
      let after_size =
      unless_ok (refused_size lengths.store) (unless (refused_head lengths.origin (table 0)) (opened_table lengths.origin (entries_in slots
      (λ v. table)))) entries found in
      let size : refused_size lengths.store ≡ None =
      refused_none (refused_size lengths.store)
      (unless (refused_head lengths.origin (table 0)) (opened_table lengths.origin (entries_in slots
      (λ v. table)))) entries found in
      let head : refused_head lengths.origin (table 0) ≡ None =
      refused_none (refused_head lengths.origin (table 0)) (opened_table lengths.origin (entries_in slots (λ v. table))) entries
      after_size in
      let after_head =
      unless_ok (refused_head lengths.origin (table 0)) (opened_table lengths.origin (entries_in slots (λ v. table))) entries after_size in
      let good : first_bad (chunks_in lengths.origin) [] entries ≡ None =
      good_none entries entries (first_bad (chunks_in lengths.origin) [] entries)
      (ap (λ (l : List ℕ). if_good l (first_bad (chunks_in lengths.origin) [] l)) (sym all) ∙ after_head) in
      let first : put_table 0 ≡ table 0 = put_away 0 (λ e. omega (arith, e)) in
      ap (λ (s : List ℕ). unless (refused_size lengths.store) (unless (refused_head lengths.origin s)
      (opened_table lengths.origin (entries_in slots (λ v. put_table))))) first
      ∙ ap (λ (l : List ℕ). unless (refused_size lengths.store)
      (unless (refused_head lengths.origin (table 0)) (opened_table lengths.origin l)))
      (put_entries slots lt ∙ ap (λ (l : List ℕ). with_chunk l slot chunk) all)
      ∙ ap (λ (o : Option CowRefusal). unless o (unless (refused_head lengths.origin (table 0)) (opened_table lengths.origin
      (with_chunk entries slot chunk)))) size
      ∙ ap (λ (o : Option CowRefusal). unless o (opened_table lengths.origin (with_chunk entries slot chunk))) head
      ∙ ap (if_good (with_chunk entries slot chunk))
      (good_given (chunks_in lengths.origin) chunk 0 slot entries [] within refl new free good)
    where
      refused_none : (refused : Option CowRefusal) (found : Result (List ℕ) CowRefusal) (entries : List ℕ)
          → unless refused found ≡ Ok entries → refused ≡ None
      refused_none None found entries e = refl
      refused_none (Some why) found entries e = cc

      good_none : (entries found : List ℕ) (bad : Option (ℕ × ℕ)) → if_good entries bad ≡ Ok found → bad ≡ None
      good_none entries found None e = refl
      good_none entries found (Some bad) e = cc
