-- A store is read once both volumes were flushed: its head, and then its table.
use Rattle.std.proofs.Common.{◌≡◌, ◌≤◌, ℕ, List, [], ◌∷◌, Some, None, Ok, Err, IfSome, subst, ◌∙◌}
use Rattle.disk_model.specs.Since.{BetweenRecords, KeepsSectorsTold}
use Rattle.disk_model.specs.Steps.{Image, Record, now_after}
use Rattle.disk_model.proofs.WhereTold.{told_at, told_both, told_weaker}
use Rattle.cow_store.specs.declared.refusal.CowRefusal.{CowRefusal}
use Rattle.cow_store.specs.Answers.{EndsReading}
use Rattle.cow_store.specs.Beginning.{Opens}
use Rattle.cow_store.specs.Layout.{Lengths, lengths_of, slots_in}
use Rattle.cow_store.specs.Opening.{opened_table, opens, refused_head}
use Rattle.cow_store.specs.Snapshot.{entries_in}
use Rattle.cow_store.specs.VolStates.{AreOneByOne, VolState}
use Rattle.cow_store.specs.Writing.{FlushesBoth}
use Rattle.cow_store.proofs.OpenedStore.{opened}
use Rattle.cow_store.proofs.ReadBefore.{bad_head, ends_before, ends_by, good_head, told_before}

-- what holds of a head, and of the entries of so many slots, in an image
abbrev HeadIs : ℕ → Image → CowRefusal → Type 0
HeadIs origin image why = refused_head origin (image 1 0) ≡ Some why

abbrev IsHead : ℕ → Image → Type 0
IsHead origin image = refused_head origin (image 1 0) ≡ None

abbrev TableIs : ℕ → ℕ → Image → CowRefusal → Type 0
TableIs origin slots image why = opened_table origin (entries_in slots image) ≡ Err why

abbrev IsTable : ℕ → ℕ → List ℕ → Image → Type 0
IsTable origin slots entries image = opened_table origin (entries_in slots image) ≡ Ok entries

module _ (old : VolState) (large : 10 ≤ (lengths_of old.sizes).store) where
  abbrev lengths : Lengths
  lengths = lengths_of old.sizes

  abbrev Finds : CowRefusal → Record → Type 0
  Finds why t = opens lengths (now_after t.opened t.steps) ≡ Err why

  -- the head was bad
  pub head_refused : (flushed new : VolState) (why : CowRefusal) → KeepsSectorsTold old.told (0 ∷ 1 ∷ []) flushed.told
      → ((v : ℕ) → old.faults v ≤ flushed.faults v) → flushed.sizes ≡ old.sizes
      → EndsReading flushed (λ t. HeadIs (lengths_of flushed.sizes).origin (now_after t.opened t.steps) why) why new
      → EndsReading old (Finds why) why new
  head_refused flushed new why keeps faults sizes ends =
      ends_by old new (λ t. HeadIs lengths.origin (now_after t.opened t.steps) why) (Finds why) why
      (told_weaker (λ t. HeadIs lengths.origin (now_after t.opened t.steps) why) (Finds why) old.told
      (λ t h. bad_head lengths large (now_after t.opened t.steps) why h))
      (ends_before (0 ∷ 1 ∷ []) (λ image. HeadIs lengths.origin image why) old flushed new why keeps faults
      (subst (λ (l : List ℕ). EndsReading flushed (λ t. HeadIs (lengths_of l).origin (now_after t.opened t.steps) why) why new) sizes ends))

  -- the head was good
  pub head_good : (flushed : VolState) → KeepsSectorsTold old.told (0 ∷ 1 ∷ []) flushed.told → flushed.sizes ≡ old.sizes
      → IfSome flushed.told (λ t. IsHead (lengths_of flushed.sizes).origin (now_after t.opened t.steps))
      → IfSome old.told (λ t. IsHead lengths.origin (now_after t.opened t.steps))
  head_good flushed keeps sizes h =
      told_before (0 ∷ 1 ∷ []) (IsHead lengths.origin) old.told flushed.told keeps
      (subst (λ (l : List ℕ). IfSome flushed.told (λ t. IsHead (lengths_of l).origin (now_after t.opened t.steps))) sizes h)

  module _ (read : VolState) (slots : ℕ) (keeps : KeepsSectorsTold old.told (0 ∷ 1 ∷ []) read.told) (sizes : read.sizes ≡ old.sizes)
      (many : slots ≡ slots_in lengths.store) (head : IfSome old.told (λ t. IsHead lengths.origin (now_after t.opened t.steps))) where
    -- and then the table was bad
    pub table_refused : (new : VolState) (why : CowRefusal) → ((v : ℕ) → old.faults v ≤ read.faults v)
        → EndsReading read (λ t. TableIs (lengths_of read.sizes).origin slots (now_after t.opened t.steps) why) why new
        → EndsReading old (Finds why) why new
    table_refused new why faults ends =
        let P : Record → Type 0 = λ t. TableIs lengths.origin (slots_in lengths.store) (now_after t.opened t.steps) why in
        ends_by old new P (Finds why) why
        (λ bad. told_weaker (λ t. IsHead lengths.origin (now_after t.opened t.steps) × P t) (Finds why) old.told
        (λ t h. good_head lengths large (now_after t.opened t.steps) h.0 ∙ h.1)
        (told_both (λ t. IsHead lengths.origin (now_after t.opened t.steps)) P old.told head bad))
        (ends_before (0 ∷ 1 ∷ []) (λ image. TableIs lengths.origin (slots_in lengths.store) image why) old read new why keeps faults
        (subst (λ (n : ℕ). EndsReading read (λ t. TableIs lengths.origin n (now_after t.opened t.steps) why) why new) many
        (subst (λ (l : List ℕ). EndsReading read (λ t. TableIs (lengths_of l).origin slots (now_after t.opened t.steps) why) why new) sizes
        ends)))

    -- or good, and the promise stands
    pub table_good : (flushed new : VolState) (entries : List ℕ) → BetweenRecords FlushesBoth old.told flushed.told
        → KeepsSectorsTold flushed.told [] new.told → IfSome old.told (λ t. AreOneByOne t.steps)
        → IfSome new.told (λ t. AreOneByOne t.steps)
        → IfSome read.told (λ t. IsTable (lengths_of read.sizes).origin slots entries (now_after t.opened t.steps))
        → BetweenRecords (Opens lengths entries) old.told new.told
    table_good flushed new entries both reads one0 one2 table t0 e =
        let a = both t0 e in
        let b = reads a.0 a.1 in
        let good : IfSome old.told (λ t. IsTable lengths.origin (slots_in lengths.store) entries (now_after t.opened t.steps)) =
        told_before (0 ∷ 1 ∷ []) (IsTable lengths.origin (slots_in lengths.store) entries) old.told read.told keeps
        (subst (λ (n : ℕ). IfSome read.told (λ t. IsTable lengths.origin n entries (now_after t.opened t.steps))) many
        (subst (λ (l : List ℕ). IfSome read.told (λ t. IsTable (lengths_of l).origin slots entries (now_after t.opened t.steps))) sizes
        table)) in
        let found : opens lengths (now_after t0.opened t0.steps) ≡ Ok entries =
        good_head lengths large (now_after t0.opened t0.steps)
        (told_at (λ t. IsHead lengths.origin (now_after t.opened t.steps)) old.told t0 head e)
        ∙ told_at (λ t. IsTable lengths.origin (slots_in lengths.store) entries (now_after t.opened t.steps)) old.told t0 good e in (
          b.0,
          b.1,
          opened lengths entries t0 a.0 b.0 a.2 b.2 (told_at (λ t. AreOneByOne t.steps) old.told t0 one0 e)
              (told_at (λ t. AreOneByOne t.steps) new.told b.0 one2 b.1) found,
        )
