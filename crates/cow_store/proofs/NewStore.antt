-- An empty store opens, with all its slots free.
use Rattle.std.proofs.Common.{◌≡◌, ◌≤◌, ◌<◌, ℕ, zero, suc, ◌+◌, ◌-◌, ◌^◌, not, ◌==◌, cond, Bool, true, false, nat_eq, nat_lt, List, [], ◌∷◌}
use Rattle.std.proofs.Common.{◌++◌}
use Rattle.std.proofs.Common.{length, take, map, replicate, Option, Some, None, Ok, All, refl, sym, ap, ◌∙◌, arith}
use Rattle.std.specs.Cmp.Lexicographic.{pointwise}
use Rattle.std.specs.List.{range_with_len}
use Rattle.std.proofs.lemmas.Bool.Decides.{nat_tests}
use Rattle.std.proofs.lemmas.List.Elements.{All-nil}
use Rattle.std.proofs.lemmas.List.{drop-replicate, replicate-append-replicate}
use Rattle.byteorder.specs.Numbers.{little_number-reads_back}
use Rattle.sector_base.specs.Fields.{field, with_bytes}
use Rattle.cow_store.specs.declared.refusal.CowRefusal.{CowRefusal}
use Rattle.cow_store.specs.declared.refusal.CowRefusal.TheVariants.{NoHead, OtherLength, StoreTooSmall}
use Rattle.cow_store.specs.Beginning.{no_entries}
use Rattle.cow_store.specs.Entries.{chunks_of}
use Rattle.cow_store.specs.Layout.{Lengths, chunks_in, entry_place, entry_sector, head_for, magic, slots_in, zeros}
use Rattle.cow_store.specs.Opening.{first_bad, has_magic, if_good, opened_table, opens, refused_head, refused_size, unless}
use Rattle.cow_store.specs.Snapshot.{entries_in, entry_in}
use Rattle.cow_store.proofs.EntryBytes.{before, field_put}
use Rattle.cow_store.proofs.GoodEntries.{free_good, good_more}
use Rattle.cow_store.proofs.Images.{same_on_range}

-- the head and the table of an empty store
abbrev pub new_table : ℕ → ℕ → List ℕ
new_table origin sector = cond (sector == 0) (head_for origin) zeros

-- a number in zeros
zeros_field : (place : ℕ) → place + 8 ≤ 512 → field 8 zeros place ≡ 0
zeros_field place fits =
    let rest : List ℕ = replicate (504 - place) 0 in
    let many : 512 - place ≡ 8 + (504 - place) = omega (arith, fits) in
    ap (λ (l : List ℕ). field 8 l 0)
    (drop-replicate place 512 0 ∙ ap (λ (n : ℕ). replicate n 0) many ∙ sym (replicate-append-replicate 8 (504 - place) 0))
    ∙ little_number-reads_back 8 0 rest (omega arith)

-- the entry of a free slot
abbrev free_entry : ℕ → ℕ
free_entry slot = 0

all_zeros : (first count : ℕ) → map free_entry (range_with_len first count) ≡ replicate count 0
all_zeros first zero = refl
all_zeros first (suc count) = ap (λ (l : List ℕ). 0 ∷ l) (all_zeros (first + 1) count)

-- its entries
new_entries : (origin slots : ℕ) → entries_in slots (λ v. new_table origin) ≡ replicate slots 0
new_entries origin slots =
    same_on_range (entry_in (λ v. new_table origin)) free_entry 0 slots
    (λ k low high.
    let away : (entry_sector k == 0) ≡ false = grind (arith, nat_tests) in
    ap (λ (b : Bool). field 8 (cond b (head_for origin) zeros) (entry_place k)) away ∙ zeros_field (entry_place k) (omega arith))
    ∙ all_zeros 0 slots

none_bad : (chunks count : ℕ) (earlier : List ℕ) → first_bad chunks earlier (replicate count 0) ≡ None
none_bad chunks zero earlier = refl
none_bad chunks (suc count) earlier =
    good_more chunks earlier 0 (replicate count 0) (free_good chunks earlier 0 refl) (none_bad chunks count (earlier ++ 0 ∷ []))

-- a sector that begins with the magic
abbrev blank : List ℕ
blank = with_bytes zeros 0 magic

blank_long : length blank ≡ 512
blank_long = refl

blank_begins : pointwise nat_eq (take 8 blank) magic ≡ true
blank_begins = refl

-- its head is one for the origin
new_head : (origin : ℕ) → origin < 2 ^ 64 → refused_head origin (head_for origin) ≡ None
new_head origin small =
    let begins : has_magic (head_for origin) ≡ true =
    ap (λ (l : List ℕ). pointwise nat_eq l magic) (before blank 8 origin (omega (arith, blank_long))) ∙ blank_begins in
    let said : field 8 (head_for origin) 8 ≡ origin = field_put blank 8 origin (omega (arith, blank_long)) small in
    let same : (field 8 (head_for origin) 8 == origin) ≡ true = equal _ _ said in
    ap (λ (b : Bool). cond (not b) (Some NoHead)
    (cond (field 8 (head_for origin) 8 == origin) None (Some (OtherLength (field 8 (head_for origin) 8) origin)))) begins
    ∙ ap (λ (b : Bool). cond b None (Some (OtherLength (field 8 (head_for origin) 8) origin))) same
  where
    equal : (x y : ℕ) → x ≡ y → (x == y) ≡ true
    equal x y is = grind (arith, nat_tests)

-- so it opens
pub new_opens : (lengths : Lengths) → 10 ≤ lengths.store → lengths.origin < 2 ^ 64
    → opens lengths (λ v. new_table lengths.origin) ≡ Ok (no_entries lengths)
new_opens lengths large small =
    let slots : ℕ = slots_in lengths.store in
    let enough : nat_lt lengths.store 10 ≡ false = grind (arith, nat_tests) in
    let size : refused_size lengths.store ≡ None = ap (λ (b : Bool). cond b (Some (StoreTooSmall 10 lengths.store)) None) enough in
    ap (λ (o : Option CowRefusal). unless o (unless (refused_head lengths.origin (head_for lengths.origin)) (opened_table lengths.origin
    (entries_in slots (λ v. new_table lengths.origin))))) size
    ∙ ap (λ (o : Option CowRefusal). unless o (opened_table lengths.origin (entries_in slots (λ v. new_table lengths.origin))))
    (new_head lengths.origin small)
    ∙ ap (opened_table lengths.origin) (new_entries lengths.origin slots)
    ∙ ap (if_good (replicate slots 0)) (none_bad (chunks_in lengths.origin) slots [])

-- no chunk has a slot
pub no_chunks : (P : ℕ → Type 0) (count : ℕ) → All P (chunks_of (replicate count 0))
no_chunks P zero = All-nil P
no_chunks P (suc count) = no_chunks P count
