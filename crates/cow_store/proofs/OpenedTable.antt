-- What is found of a table whose entries were read.
use Rattle.std.proofs.Common.{◌≡◌, ◌≤◌, ◌<◌, ℕ, ◌+◌, ◌-◌, ◌*◌, List, [], ◌∷◌, length, take, drop, replicate, Option, Some, None, Ok, Err}
use Rattle.std.proofs.Common.{IfSome}
use Rattle.std.proofs.Common.{refl, sym, ap, subst, ◌∙◌, arith}
use Rattle.std.proofs.lemmas.List.{length-replicate, take_all}
use Rattle.sector_base.specs.Fields.{field}
use Rattle.disk_model.specs.Since.{KeepsSectorsTold}
use Rattle.disk_model.specs.Steps.{Image, Record, now_after}
use Rattle.disk_model.proofs.WhereTold.{told_at}
use Rattle.cow_store.specs.declared.refusal.CowRefusal.{CowRefusal}
use Rattle.cow_store.specs.declared.refusal.CowRefusal.TheVariants.{BadEntry}
use Rattle.cow_store.specs.Answers.{EndsReading}
use Rattle.cow_store.specs.Layout.{chunks_in, entry_place, entry_sector}
use Rattle.cow_store.specs.Opening.{first_bad, if_good, opened_table}
use Rattle.cow_store.specs.Reading.{IsFirstBad, IsReadTo}
use Rattle.cow_store.specs.Snapshot.{entries_in, entry_in}
use Rattle.cow_store.specs.VolStates.{VolState}

-- what holds of whatever is told
pub told_all : (o : Option Record) (P : Record → Type 0) → ((t : Record) → o ≡ Some t → P t) → IfSome o P
told_all None P h = tt
told_all (Some t) P h = h t refl

take_none : (l : List ℕ) → take 0 l ≡ []
take_none [] = refl
take_none (x ∷ l) = refl

drop_none : (l : List ℕ) → drop 0 l ≡ l
drop_none [] = refl
drop_none (x ∷ l) = refl

-- nothing was read
pub none_read : (chunks slots at : ℕ) (read : ℕ → ℕ) (entries : List ℕ) → entries ≡ replicate slots 0 → at ≡ 0
    → IsReadTo chunks at read entries
none_read chunks slots at read entries free zero =
    let many : slots ≡ length entries - 0 = omega (arith, ap (λ (l : List ℕ). length l) free, length-replicate {A = ℕ} slots 0) in
    subst (λ (n : ℕ). IsReadTo chunks n read entries) (sym zero)
    (record {
      front = take_none entries;
      rest = drop_none entries ∙ free ∙ ap (λ (n : ℕ). replicate n 0) many;
      good = ap (λ (l : List ℕ). first_bad chunks [] l) (take_none entries);
    })

-- all was read
pub all_read : (origin slots at : ℕ) (image : Image) (entries : List ℕ) → length entries ≡ slots → at ≡ slots
    → IsReadTo (chunks_in origin) at (entry_in image) entries → opened_table origin (entries_in slots image) ≡ Ok entries
all_read origin slots at image entries long all r =
    let r' : IsReadTo (chunks_in origin) slots (entry_in image) entries =
    subst (λ (n : ℕ). IsReadTo (chunks_in origin) n (entry_in image) entries) all r in
    ap (opened_table origin) (sym r'.front)
    ∙ ap (if_good (take slots entries)) r'.good
    ∙ ap (λ (l : List ℕ). Ok l) (take_all slots entries (omega (arith, long)))

-- an entry was bad
pub ends_bad : (origin slots : ℕ) (s0 s1 : VolState) (read : ℕ → ℕ) (why : CowRefusal) → IsFirstBad (chunks_in origin) slots read why
    → ((t : Record) → s0.told ≡ Some t → IsFirstBad (chunks_in origin) slots (entry_in (now_after t.opened t.steps)) why)
    → EndsReading s0 (λ t. opened_table origin (entries_in slots (now_after t.opened t.steps)) ≡ Err why) why s1
ends_bad origin slots s0 s1 read (BadEntry slot value) some bad =
    told_all s0.told (λ t. opened_table origin (entries_in slots (now_after t.opened t.steps)) ≡ Err (BadEntry slot value))
    (λ t e. ap (if_good (entries_in slots (now_after t.opened t.steps))) (bad t e))
ends_bad origin slots s0 s1 read _ some bad = absurd some

-- the entries of the slots of a sector that was read
pub entries_of : (o0 o1 : Option Record) (k : ℕ) (sector : List ℕ) (t : Record) → KeepsSectorsTold o0 [] o1
    → IfSome o1 (λ t. sector ≡ now_after t.opened t.steps 1 (1 + k)) → o0 ≡ Some t → (slot : ℕ) → 64 * k ≤ slot → slot < 64 * k + 64
    → entry_in (now_after t.opened t.steps) slot ≡ field 8 sector (entry_place slot)
entries_of o0 o1 k sector t keeps read e slot low high =
    let mid = keeps t e in
    let there : entry_sector slot ≡ 1 + k = omega (arith, low, high) in
    ap (λ (n : ℕ). field 8 (now_after t.opened t.steps 1 n) (entry_place slot)) there
    ∙ ap (λ (s : List ℕ). field 8 s (entry_place slot))
    (sym (mid.2.same 1 (1 + k)) ∙ sym (told_at (λ u. sector ≡ now_after u.opened u.steps 1 (1 + k)) o1 mid.0 read mid.1))
