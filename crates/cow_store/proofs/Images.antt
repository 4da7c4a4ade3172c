-- An image of right values is whole.
use Rattle.std.proofs.Common.{◌≡◌, ◌≤◌, ◌<◌, ℕ, zero, suc, ◌+◌, ◌/◌, ◌%◌, List, [], ◌∷◌, map, Option, Some, None, Result, Ok, All, Contains}
use Rattle.std.proofs.Common.{refl, ap, ◌∙◌, arith}
use Rattle.std.specs.List.{range_with_len}
use Rattle.sector_base.specs.Fields.{field}
use Rattle.disk_model.specs.Steps.{Image}
use Rattle.cow_store.specs.declared.refusal.CowRefusal.{CowRefusal}
use Rattle.cow_store.specs.Entries.{chunks_of, slot_of}
use Rattle.cow_store.specs.Layout.{Lengths, chunks_in, entry_place, entry_sector, slot_start, slots_in, table_sectors}
use Rattle.cow_store.specs.Opening.{first_bad, if_good, opened_table, opens, refused_head, refused_size, unless}
use Rattle.cow_store.specs.Snapshot.{entries_in, entry_in, sector_by}
use Rattle.cow_store.specs.Stands.{IsRight, IsWhole, Past}

-- functions that agree on a range
pub same_on_range : (f g : ℕ → ℕ) (first count : ℕ) → ((k : ℕ) → first ≤ k → k < first + count → f k ≡ g k)
    → map f (range_with_len first count) ≡ map g (range_with_len first count)
same_on_range f g first zero same = refl
same_on_range f g first (suc count) same =
    ap (λ (n : ℕ). n ∷ map f (range_with_len (first + 1) count)) (same first (omega arith) (omega arith))
    ∙ ap (λ (l : List ℕ). g first ∷ l)
    (same_on_range f g (first + 1) count (λ k low high. same k (omega (arith, low)) (omega (arith, high))))

-- what is found was not refused before
pub unless_ok : (refused : Option CowRefusal) (found : Result (List ℕ) CowRefusal) (entries : List ℕ) → unless refused found ≡ Ok entries
    → found ≡ Ok entries
unless_ok None found entries e = e
unless_ok (Some why) found entries e = cc

pub good_ok : (entries found : List ℕ) (bad : Option (ℕ × ℕ)) → if_good entries bad ≡ Ok found → entries ≡ found
good_ok entries found None e = cc
good_ok entries found (Some bad) e = cc

-- what opening finds are the entries of the table
pub opened_entries : (lengths : Lengths) (image : Image) (entries : List ℕ) → opens lengths image ≡ Ok entries
    → entries_in (slots_in lengths.store) image ≡ entries
opened_entries lengths image entries found =
    let all : List ℕ = entries_in (slots_in lengths.store) image in
    let head =
    unless_ok (refused_size lengths.store) (unless (refused_head lengths.origin (image 1 0)) (opened_table lengths.origin all)) entries
    found in
    let table = unless_ok (refused_head lengths.origin (image 1 0)) (opened_table lengths.origin all) entries head in
    good_ok all entries (first_bad (chunks_in lengths.origin) [] all) table

-- images with the same head and table open alike
module _ (lengths : Lengths) (a b : Image)
    (same : (sector : ℕ) → sector < 1 + table_sectors (slots_in lengths.store) → a 1 sector ≡ b 1 sector)
  where
    same_entries : entries_in (slots_in lengths.store) a ≡ entries_in (slots_in lengths.store) b
    same_entries =
        same_on_range (entry_in a) (entry_in b) 0 (slots_in lengths.store)
        (λ slot low high. ap (λ (s : List ℕ). field 8 s (entry_place slot)) (same (entry_sector slot) (omega (arith, high))))

    pub same_opens : opens lengths a ≡ opens lengths b
    same_opens =
        ap (λ (s : List ℕ). unless (refused_size lengths.store) (unless (refused_head lengths.origin s)
        (opened_table lengths.origin (entries_in (slots_in lengths.store) a)))) (same 0 (omega arith))
        ∙ ap (λ (l : List ℕ). unless (refused_size lengths.store)
        (unless (refused_head lengths.origin (b 1 0)) (opened_table lengths.origin l)))
        same_entries

module _ (lengths : Lengths) (past : Past) (entries : List ℕ) (table : ℕ → List ℕ) (chunks : All (Contains past.chunks) (chunks_of entries))
    (found : opens lengths (λ v. table) ≡ Ok entries) (image : Image)
    (right : (v sector : ℕ) → IsRight lengths past.was entries table v sector (image v sector)) where
  opens_so : opens lengths image ≡ Ok entries
  opens_so = same_opens lengths image (λ v. table) (λ sector lt. (right 1 sector).stands refl lt) ∙ found

  by_slot : (sector : ℕ) → sector < lengths.origin → (slot : Option ℕ) → slot_of entries (sector / 8) ≡ slot
      → sector_by (slots_in lengths.store) slot image sector ≡ past.was sector
  by_slot sector lt None e = (right 0 sector).unsaved refl lt e
  by_slot sector lt (Some slot) e =
      (right 1 (slot_start (slots_in lengths.store) slot + sector % 8)).saved refl sector slot lt e refl

  -- so the image is whole
  pub whole : IsWhole lengths past image
  whole = record {
    entries = entries;
    found = opens_so;
    chunks = chunks;
    same = λ sector lt.
        ap (λ (l : List ℕ). sector_by (slots_in lengths.store) (slot_of l (sector / 8)) image sector)
        (opened_entries lengths image entries opens_so)
        ∙ by_slot sector lt (slot_of entries (sector / 8)) refl;
  }
