-- The parts of a call on a store: it is prepared, and then carried out.
use Rattle.std.specs.Prelude.{◌≡◌, ◌≤◌, ℕ, false, List, length, Option, Some, None, Result, Ok, Err}
use Rattle.cow_store.specs.declared.refusal.CowRefusal.{CowRefusal}
use Rattle.cow_store.specs.declared.refusal.CowRefusal.TheVariants.{NoMemory}
use Rattle.cow_store.specs.Answers.{IsSameButSpare, refused_room}
use Rattle.cow_store.specs.Entries.{free_slot, slot_of}
use Rattle.cow_store.specs.Views.{CowView, IsStore}

-- a call comes to its end before anything is done: for the reason for which it is refused, or for want of memory
abbrev pub EndsEarly : Option CowRefusal → CowView → CowRefusal → CowView → Type 0
EndsEarly (Some refused) old why new = (why ≡ refused) × (new ≡ old)
EndsEarly None old why new = (why ≡ NoMemory) × IsSameButSpare old new

-- a call is prepared: it isn't refused, so many operations are spare, and nothing else has changed; or it ends early
abbrev pub Prepares : {T : Type 0} → ℕ → Option CowRefusal → CowView → Result T CowRefusal → CowView → Type 0
Prepares ops refused old (Ok value) new = (refused ≡ None) × IsSameButSpare old new × (ops ≤ new.vols.spare)
Prepares ops refused old (Err why) new = EndsEarly refused old why new

-- the slot that a chunk is to have: none where it has one, else the first that is free
abbrev pub slot_by : Option ℕ → List ℕ → Option ℕ
slot_by (Some slot) entries = None
slot_by None entries = free_slot entries

abbrev pub slot_for : List ℕ → ℕ → Option ℕ
slot_for entries chunk = slot_by (slot_of entries chunk) entries

-- no operation has failed, and so many are spare
pub record HasOps (ops : ℕ) (view : CowView) : Type 0 where
  pub store : IsStore view
  pub going : view.spent ≡ false
  pub spare : ops ≤ view.vols.spare

-- the chunk has a slot, or one is free
abbrev pub HasRoom : CowView → ℕ → Type 0
HasRoom view chunk = refused_room (slot_of view.entries chunk) (free_slot view.entries) (length view.entries) ≡ None
