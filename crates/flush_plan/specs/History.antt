-- What happened to a plan, and which writes that has made stable, by the events alone.
use Rattle.std.specs.Prelude.{◌≡◌, ◌<◌, ℕ, Bool, false, ◌==◌, ◌&&◌, ◌||◌, max, if◌then◌else◌, IsFalse, IsTrue, List, [], ◌∷◌, Option}
use Rattle.std.specs.Prelude.{None, Some, length}
use Rattle.std.specs.Option.{option_map, option_map_or}
use Rattle.flush_plan.specs.Plans.{Plan, is_ended, is_in_flight, is_stable}
use Rattle.flush_plan.specs.Steps.{new_plan, after_wrote, after_forgot, after_submitted, after_flushed, after_lost}

-- room was made for so many writes and flushes, a write completed well, the writes of a number on a disk were forgotten, a
-- flush was submitted, it completed well, or it failed
pub data Event : Type 0 where
  Reserved : (writes flushes : ℕ) → Event
  Wrote : (number pv : ℕ) → Event
  Forgot : (number pv : ℕ) → Event
  Submitted : (pv tag : ℕ) → Event
  Flushed : (tag : ℕ) → Event
  Lost : (tag : ℕ) → Event

-- the disk of the flush that is in flight under this tag after these events, the last of them first, if one is
abbrev pub flight_of : ℕ → List Event → Option ℕ
flight_of tag [] = None
flight_of tag (Reserved writes flushes ∷ before) = flight_of tag before
flight_of tag (Wrote number pv ∷ before) = flight_of tag before
flight_of tag (Forgot number pv ∷ before) = flight_of tag before
flight_of tag (Submitted pv own ∷ before) = if own == tag then Some pv else flight_of tag before
flight_of tag (Flushed own ∷ before) = if own == tag then None else flight_of tag before
flight_of tag (Lost own ∷ before) = if own == tag then None else flight_of tag before

-- whether the disk is this one
abbrev pub is_disk : ℕ → Option ℕ → Bool
is_disk pv disk = option_map_or (λ p. p == pv) disk false

-- whether among these events, the last of them first, a flush of the disk was submitted and then completed well
abbrev pub has_flushed : ℕ → List Event → Bool
has_flushed pv [] = false
has_flushed pv (Reserved writes flushes ∷ before) = has_flushed pv before
has_flushed pv (Wrote number disk ∷ before) = has_flushed pv before
has_flushed pv (Forgot number disk ∷ before) = has_flushed pv before
has_flushed pv (Submitted disk tag ∷ before) = has_flushed pv before
has_flushed pv (Flushed tag ∷ before) = is_disk pv (flight_of tag before) || has_flushed pv before
has_flushed pv (Lost tag ∷ before) = has_flushed pv before

-- whether among these events, the last of them first, a flush of the disk was submitted and then ended, well or not
abbrev pub has_ended : ℕ → List Event → Bool
has_ended pv [] = false
has_ended pv (Reserved writes flushes ∷ before) = has_ended pv before
has_ended pv (Wrote number disk ∷ before) = has_ended pv before
has_ended pv (Forgot number disk ∷ before) = has_ended pv before
has_ended pv (Submitted disk tag ∷ before) = has_ended pv before
has_ended pv (Flushed tag ∷ before) = is_disk pv (flight_of tag before) || has_ended pv before
has_ended pv (Lost tag ∷ before) = is_disk pv (flight_of tag before) || has_ended pv before

-- whether a write of this number on this disk completed
abbrev pub is_write : ℕ → ℕ → Event → Bool
is_write number pv (Reserved writes flushes) = false
is_write number pv (Wrote own disk) = (number == own) && (pv == disk)
is_write number pv (Forgot own disk) = false
is_write number pv (Submitted disk tag) = false
is_write number pv (Flushed tag) = false
is_write number pv (Lost tag) = false

-- whether the writes of this number on this disk were forgotten
abbrev pub is_forgotten : ℕ → ℕ → Event → Bool
is_forgotten number pv (Reserved writes flushes) = false
is_forgotten number pv (Wrote own disk) = false
is_forgotten number pv (Forgot own disk) = (number == own) && (pv == disk)
is_forgotten number pv (Submitted disk tag) = false
is_forgotten number pv (Flushed tag) = false
is_forgotten number pv (Lost tag) = false

-- the events since the last write of this number on this disk completed, if one did that isn't forgotten
abbrev pub since_write : ℕ → ℕ → List Event → Option (List Event)
since_write number pv [] = None
since_write number pv (e ∷ before) =
    if is_write number pv e then Some [] else if is_forgotten number pv e then None
    else option_map (λ since. e ∷ since) (since_write number pv before)

-- whether a write of this number on this disk is held, and a flush that was submitted after the completion of the last of
-- them has completed well
abbrev pub is_flushed_after : ℕ → ℕ → List Event → Bool
is_flushed_after number pv events = option_map_or (has_flushed pv) (since_write number pv events) false

-- the same of a flush that has ended, well or not
abbrev pub is_ended_after : ℕ → ℕ → List Event → Bool
is_ended_after number pv events = option_map_or (has_ended pv) (since_write number pv events) false

-- what an event leaves of a plan
abbrev pub after_event : Plan → Event → Plan
after_event plan (Reserved writes flushes) =
    record plan { spare = max writes plan.spare; spare_flushes = max flushes plan.spare_flushes }
after_event plan (Wrote number pv) = after_wrote plan number pv
after_event plan (Forgot number pv) = after_forgot plan number pv
after_event plan (Submitted pv tag) = after_submitted plan pv tag
after_event plan (Flushed tag) = after_flushed plan tag
after_event plan (Lost tag) = after_lost plan tag

-- whether a plan may be told of the event
abbrev pub MayBeTold : Plan → Event → Type 0
MayBeTold plan (Reserved writes flushes) = Unit {0}
MayBeTold plan (Wrote number pv) = (0 < plan.spare) × (pv < length plan.marks)
MayBeTold plan (Forgot number pv) = Unit {0}
MayBeTold plan (Submitted pv tag) = (pv < length plan.marks) × (0 < plan.spare_flushes) × IsFalse (is_in_flight plan tag)
MayBeTold plan (Flushed tag) = IsTrue (is_in_flight plan tag)
MayBeTold plan (Lost tag) = IsTrue (is_in_flight plan tag)

-- the plan over so many disks after these events, the last of them first
abbrev pub plan_after : ℕ → List Event → Plan
plan_after disks [] = new_plan disks
plan_after disks (e ∷ before) = after_event (plan_after disks before) e

-- a new plan over so many disks may be told of these events, the last of them first
abbrev pub MayBeToldAll : ℕ → List Event → Type 0
MayBeToldAll disks [] = Unit {0}
MayBeToldAll disks (e ∷ before) = MayBeTold (plan_after disks before) e × MayBeToldAll disks before

-- after any events a plan says of a write that it is stable exactly where a flush that was submitted after its last
-- completion has completed well
abbrev pub StableIsFlushedAfter : Type 0
StableIsFlushedAfter =
    (disks : ℕ) (events : List Event) (number pv : ℕ) → MayBeToldAll disks events
    → is_stable (plan_after disks events) number pv ≡ is_flushed_after number pv events

-- and that one has ended exactly where a flush that was submitted after its last completion has ended, well or not
abbrev pub EndedIsEndedAfter : Type 0
EndedIsEndedAfter =
    (disks : ℕ) (events : List Event) (number pv : ℕ) → MayBeToldAll disks events
    → is_ended (plan_after disks events) number pv ≡ is_ended_after number pv events
