-- What was read says what a read gave before.
use Rattle.std.proofs.Common.{◌≡◌, ◌≤◌, ℕ, List, Option, Some, None, Result, Err, IfSome, nat_lt, cond, Bool, false, ap, subst, ◌∙◌, arith}
use Rattle.std.proofs.Math.Path.{fun_ext}
use Rattle.std.proofs.lemmas.Bool.Decides.{nat_tests}
use Rattle.disk_model.specs.Since.{KeepsSectors, KeepsSectorsTold}
use Rattle.disk_model.specs.Steps.{Image, Record, now_after}
use Rattle.disk_model.proofs.WhereTold.{told_at}
use Rattle.cow_store.specs.declared.refusal.CowRefusal.{CowRefusal}
use Rattle.cow_store.specs.declared.refusal.CowRefusal.TheVariants.{BadEntry, Fault, NoHead, OtherLength, StoreTooSmall}
use Rattle.cow_store.specs.Answers.{EndsReading}
use Rattle.cow_store.specs.Layout.{Lengths, slots_in}
use Rattle.cow_store.specs.Opening.{opened_table, opens, refused_head, unless}
use Rattle.cow_store.specs.Snapshot.{entries_in}
use Rattle.cow_store.specs.VolStates.{VolState}
use Rattle.cow_store.proofs.OpenedTable.{told_all}

-- a read gives what it gave
same_now : (flushed : List ℕ) (t u : Record) → KeepsSectors t flushed u → now_after u.opened u.steps ≡ now_after t.opened t.steps
same_now flushed t u keeps = fun_ext (λ (v : ℕ). fun_ext (λ (sector : ℕ). keeps.same v sector))

-- what holds of it held before
pub told_before : (flushed : List ℕ) (P : Image → Type 0) (old mid : Option Record) → KeepsSectorsTold old flushed mid
    → IfSome mid (λ u. P (now_after u.opened u.steps)) → IfSome old (λ t. P (now_after t.opened t.steps))
told_before flushed P old mid keeps h =
    told_all old (λ t. P (now_after t.opened t.steps))
    (λ t e.
    let m = keeps t e in
    subst P (same_now flushed t m.0 m.2) (told_at (λ u. P (now_after u.opened u.steps)) mid m.0 h m.1))

-- reading comes to its end for a reason that holds where another does
pub ends_by : (old new : VolState) (P Q : Record → Type 0) (why : CowRefusal) → (IfSome old.told P → IfSome old.told Q)
    → EndsReading old P why new
    → EndsReading old Q why new
ends_by old new P Q (Fault volume) make ends = ends
ends_by old new P Q NoHead make ends = make ends
ends_by old new P Q (OtherLength said found) make ends = make ends
ends_by old new P Q (BadEntry slot value) make ends = make ends
ends_by old new P Q _ make ends = absurd ends

-- or for one that held before
pub ends_before : (flushed : List ℕ) (P : Image → Type 0) (old mid new : VolState) (why : CowRefusal)
    → KeepsSectorsTold old.told flushed mid.told → ((v : ℕ) → old.faults v ≤ mid.faults v)
    → EndsReading mid (λ u. P (now_after u.opened u.steps)) why new → EndsReading old (λ t. P (now_after t.opened t.steps)) why new
ends_before flushed P old mid new (Fault volume) keeps faults ends = (ends.0, omega (arith, ends.1, faults volume))
ends_before flushed P old mid new NoHead keeps faults ends = told_before flushed P old.told mid.told keeps ends
ends_before flushed P old mid new (OtherLength said found) keeps faults ends = told_before flushed P old.told mid.told keeps ends
ends_before flushed P old mid new (BadEntry slot value) keeps faults ends = told_before flushed P old.told mid.told keeps ends
ends_before flushed P old mid new _ keeps faults ends = absurd ends

-- what opening finds where the store is large enough
module _ (lengths : Lengths) (large : 10 ≤ lengths.store) (image : Image) where
  abbrev table : Result (List ℕ) CowRefusal
  table = opened_table lengths.origin (entries_in (slots_in lengths.store) image)

  by_head : opens lengths image ≡ unless (refused_head lengths.origin (image 1 0)) table
  by_head =
      let enough : nat_lt lengths.store 10 ≡ false = grind (arith, nat_tests) in
      ap (λ (b : Bool). unless (cond b (Some (StoreTooSmall 10 lengths.store)) None)
      (unless (refused_head lengths.origin (image 1 0)) table)) enough

  pub bad_head : (why : CowRefusal) → refused_head lengths.origin (image 1 0) ≡ Some why → opens lengths image ≡ Err why
  bad_head why head = by_head ∙ ap (λ (o : Option CowRefusal). unless o table) head

  pub good_head : refused_head lengths.origin (image 1 0) ≡ None → opens lengths image ≡ table
  good_head head = by_head ∙ ap (λ (o : Option CowRefusal). unless o table) head
