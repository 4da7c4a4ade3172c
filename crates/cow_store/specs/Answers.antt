-- When a call on a store is refused, and what it answers otherwise.
use Rattle.std.specs.Prelude.{◌≡◌, ◌≤◌, ◌<◌, ℕ, ◌+◌, ◌-◌, ◌/◌, ◌^◌, nat_lt, min, true, false, if◌then◌else◌, length, Option}
use Rattle.std.specs.Prelude.{Some, None, Result, Ok, Err, IfSome}
use Rattle.disk_model.specs.Steps.{Record, now_after}
use Rattle.cow_store.specs.declared.refusal.CowRefusal.{CowRefusal}
use Rattle.cow_store.specs.declared.refusal.CowRefusal.TheVariants.{NoMemory, StoreTooSmall, NoHead, OtherLength, BadEntry, PastEnd, Full}
use Rattle.cow_store.specs.declared.refusal.CowRefusal.TheVariants.{Fault, Spent}
use Rattle.cow_store.specs.Entries.{free_slot, slot_of}
use Rattle.cow_store.specs.Layout.{lengths_of}
use Rattle.cow_store.specs.Opening.{opens}
use Rattle.cow_store.specs.Views.{CowView}
use Rattle.cow_store.specs.VolStates.{VolState}

-- how many sectors the origin has
abbrev pub origin_of : CowView → ℕ
origin_of view = (lengths_of view.vols.sizes).origin

-- the end of one sector, as a refusal shows it
abbrev pub end_of : ℕ → ℕ
end_of at = min (at + 1) (2 ^ 64 - 1)

-- why any call is refused before anything is done: an operation has failed
abbrev pub refused_spent : CowView → Option CowRefusal
refused_spent view = if view.spent then Some Spent else None

-- why a call on this sector is refused: an operation has failed, or the sector is past the origin's end
abbrev pub refused_at : CowView → ℕ → Option CowRefusal
refused_at view at =
    if view.spent then Some Spent
    else if nat_lt at (origin_of view) then None
    else Some (PastEnd (end_of at) (origin_of view))

-- why there is no room: the chunk has no slot, and none of so many is free
abbrev pub refused_room : Option ℕ → Option ℕ → ℕ → Option CowRefusal
refused_room (Some slot) free slots = None
refused_room None (Some slot) slots = None
refused_room None None slots = Some (Full slots)

-- the first of two reasons
abbrev pub first_reason : Option CowRefusal → Option CowRefusal → Option CowRefusal
first_reason (Some why) later = Some why
first_reason None later = later

-- why a call that sets this sector is refused: for one of these reasons, or because there is no room for its chunk
abbrev pub refused_set : CowView → ℕ → Option CowRefusal
refused_set view at =
    first_reason (refused_at view at) (refused_room (slot_of view.entries (at / 8)) (free_slot view.entries) (length view.entries))

-- nothing has changed but how many operations are spare
pub record IsSameButSpare (old new : CowView) : Type 0 where
  pub vols : new.vols ≡ record old.vols { spare = new.vols.spare }
  pub entries : new.entries ≡ old.entries
  pub spent : new.spent ≡ old.spent

-- What a call answers that isn't refused: Ok; want of memory, which changes nothing; or the fault of a volume whose count has risen in the
-- call, after which the store is spent.
abbrev pub MayAnswer : {T : Type 0} → CowView → Result T CowRefusal → CowView → Type 0
MayAnswer old (Ok value) new = new.spent ≡ false
MayAnswer old (Err NoMemory) new = IsSameButSpare old new
MayAnswer old (Err (Fault volume)) new = (volume < 2) × (old.vols.faults volume < new.vols.faults volume) × (new.spent ≡ true)
MayAnswer old (Err why) new = ⊥

-- what a part of a call answers that takes no memory
abbrev pub MayFail : {T : Type 0} → CowView → Result T CowRefusal → CowView → Type 0
MayFail old (Ok value) new = new.spent ≡ false
MayFail old (Err (Fault volume)) new = (volume < 2) × (old.vols.faults volume < new.vols.faults volume) × (new.spent ≡ true)
MayFail old (Err why) new = ⊥

-- what a call answers: the reason for which it is refused, and then nothing has changed, or else one of these
abbrev pub Answers : {T : Type 0} → Option CowRefusal → CowView → Result T CowRefusal → CowView → Type 0
Answers (Some why) old result new = (result ≡ Err why) × (new ≡ old)
Answers None old result new = MayAnswer old result new

-- how many sectors the store volume has
abbrev pub store_of : VolState → ℕ
store_of vols = (lengths_of vols.sizes).store

-- why a snapshot isn't taken: the store has fewer than ten sectors, which is tested first; want of memory, which changes nothing; or a
-- fault
abbrev pub RefusesTake : VolState → CowRefusal → VolState → Type 0
RefusesTake old (StoreTooSmall need have) new = (need ≡ 10) × (have ≡ store_of old) × (have < 10) × (new ≡ old)
RefusesTake old NoMemory new = (10 ≤ store_of old) × (new ≡ record old { spare = new.spare })
RefusesTake old (Fault volume) new = (10 ≤ store_of old) × (volume < 2) × (old.faults volume < new.faults volume)
RefusesTake old why new = ⊥

-- opening finds this in what a read gives, where the volumes tell it
abbrev pub Finds : VolState → CowRefusal → Type 0
Finds vols why = IfSome vols.told (λ told. opens (lengths_of vols.sizes) (now_after told.opened told.steps) ≡ Err why)

-- why a store isn't opened: for a reason of these, or for what opening finds
abbrev pub RefusesOpen : VolState → CowRefusal → VolState → Type 0
RefusesOpen old NoHead new = Finds old NoHead
RefusesOpen old (OtherLength said found) new = Finds old (OtherLength said found)
RefusesOpen old (BadEntry slot value) new = Finds old (BadEntry slot value)
RefusesOpen old why new = RefusesTake old why new

-- reading comes to its end: by a fault, or for what was found in what the volumes tell
abbrev pub EndsReading : VolState → (Record → Type 0) → CowRefusal → VolState → Type 0
EndsReading old P (Fault volume) new = (volume < 2) × (old.faults volume < new.faults volume)
EndsReading old P NoHead new = IfSome old.told P
EndsReading old P (OtherLength said found) new = IfSome old.told P
EndsReading old P (BadEntry slot value) new = IfSome old.told P
EndsReading old P why new = ⊥
