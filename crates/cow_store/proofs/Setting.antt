-- A sector is set once its chunk was saved.
use Rattle.std.proofs.Common.{◌≡◌, ℕ, ◌+◌, ◌/◌, ◌==◌, cond, Bool, true, List, Option, Some, None, Result, Ok, Err, OnOk, IsSome, refl, sym}
use Rattle.std.proofs.Common.{ap, subst}
use Rattle.std.proofs.Common.{is_ok, unwrap_or, ◌∙◌, arith, eq-eqb}
use Rattle.disk_model.specs.Steps.{Record}
use Rattle.disk_model.proofs.StepsSince.{between_both}
use Rattle.cow_store.specs.declared.refusal.CowRefusal.{CowRefusal}
use Rattle.cow_store.specs.Answers.{IsSameButSpare}
use Rattle.cow_store.specs.Preparing.{EndsEarly}
use Rattle.cow_store.specs.Calls.{IsSetIn, ReadsOrigin, Saves, Sets, entries_by, entries_with}
use Rattle.cow_store.specs.Entries.{free_slot, slot_of, with_chunk}
use Rattle.cow_store.specs.Views.{CowView}
use Rattle.cow_store.proofs.PutTable.{free_there}
use Rattle.cow_store.proofs.Slots.{slot_given}

pub on_ok : {T E : Type 0} (r : Result T E) (P Q : Type 0) → (P → Q) → OnOk r P → OnOk r Q
on_ok (Ok x) P Q make h = make h
on_ok (Err e) P Q make h = tt

-- the saved chunk has its slot
pub saved_slot : (entries : List ℕ) (slot chunk : ℕ) → free_slot entries ≡ Some slot → slot_of entries chunk ≡ None
    → slot_of (with_chunk entries slot chunk) chunk ≡ Some slot
saved_slot entries slot chunk free none =
    slot_given entries slot chunk chunk 0 (free_there entries slot free) none
    ∙ ap (λ (b : Bool). cond b (Some (0 + slot)) (slot_of entries chunk)) (eq-eqb chunk chunk refl)
    ∙ ap (λ (n : ℕ). Some n) (omega arith)

pub some_is : {T : Type 0} (o : Option T) (x : T) → o ≡ Some x → IsSome o
some_is o x e = subst (λ (p : Option _). IsSome p) (sym e) refl

set_after : (at : ℕ) (value : List ℕ) (a b c : Record) → ReadsOrigin a b → IsSetIn at value b c → IsSetIn at value a c
set_after at value a b c first next sector =
    next sector ∙ ap (λ (old : List ℕ). cond (sector == at) value old) (first sector)

-- the sector was set once the chunk was saved
pub sets_saved : (at slot : ℕ) (value : List ℕ) (old mid new : CowView) → free_slot old.entries ≡ Some slot
    → slot_of old.entries (at / 8) ≡ None
    → Saves slot (at / 8) old mid → Sets at value mid new → Sets at value old new
sets_saved at slot value old mid new free none first next = record {
  entries =
      next.entries
      ∙ ap (λ (l : List ℕ). entries_with l (at / 8)) first.entries
      ∙ ap (λ (o : Option ℕ). entries_by o (with_chunk old.entries slot (at / 8)) (at / 8)) (saved_slot old.entries slot (at / 8) free none)
      ∙ sym
      (ap (λ (o : Option ℕ). entries_by o old.entries (at / 8)) none
      ∙ ap (λ (o : Option ℕ). with_chunk old.entries (unwrap_or o 0) (at / 8)) free);
  now =
      between_both ReadsOrigin (IsSetIn at value) (IsSetIn at value) old.vols.told mid.vols.told new.vols.told (set_after at value)
      first.now
      next.now;
}

-- a call that ends early changes nothing but how many operations are spare
pub early_same : (refused : Option CowRefusal) (old new : CowView) (why : CowRefusal) → EndsEarly refused old why new
    → IsSameButSpare old new
early_same (Some refusal) old new why ends =
    subst (λ (v : CowView). IsSameButSpare old v) (sym ends.1) (record { vols = refl; entries = refl; spent = refl })
early_same None old new why ends = ends.1

-- what a call that went well gives
pub on_well : {T E : Type 0} (r : Result T E) (P : Bool → Type 0) (Q : Type 0) → P (is_ok r) → (P true → Q) → OnOk r Q
on_well (Ok x) P Q h make = make h
on_well (Err e) P Q h make = tt
