-- The history of a lock: what was done with its turn, in order, by whichever seat.
use Rattle.std.specs.Prelude.{◌≡◌, ℕ, Bool, true, false, List, [], ◌∷◌, ◌++◌, Option, Some, None, replicate}
use Rattle.std.specs.Option.{option_map_or}
use mathlib.Core.List.{IsPrefix}
use Rattle.table_lock.specs.declared.event.LockEvent.{LockEvent}
use Rattle.table_lock.specs.declared.event.LockEvent.TheVariants.{Given, Taken, Missed}

module _ {T : Type 0} where
  -- whether the turn is taken after these events, where before them it was or wasn't
  abbrev pub turn_after : Bool → List (LockEvent T) → Bool
  turn_after turn [] = turn
  turn_after turn (Given value ∷ events) = turn_after false events
  turn_after turn (Taken ∷ events) = turn_after true events
  turn_after turn (Missed ∷ events) = turn_after turn events

  -- the value that was given last after these events, where before them it was this one
  abbrev pub value_after : Option T → List (LockEvent T) → Option T
  value_after last [] = last
  value_after last (Given value ∷ events) = value_after (Some value) events
  value_after last (Taken ∷ events) = value_after last events
  value_after last (Missed ∷ events) = value_after last events

  -- whether the turn is taken at the end of a history; before the first value is given, the one who opens the lock has it
  abbrev pub is_taken : List (LockEvent T) → Bool
  is_taken history = turn_after true history

  -- the value that was given last
  abbrev pub last_value : List (LockEvent T) → Option T
  last_value history = value_after None history

  -- the history begins with this value, which the lock was opened with
  abbrev pub IsOpenedWith : T → List (LockEvent T) → Type 0
  IsOpenedWith value history = (rest : List (LockEvent T)) × (history ≡ Given value ∷ rest)

-- the story of the value that was given last
abbrev pub story_at : {T E : Type 0} → (T → List E) → List (LockEvent T) → List E
story_at story history = option_map_or story (last_value history) []

-- the second value has the origin of the first, and its story begins with that of the first
pub record Continues {T O E : Type 0} (origin : T → O) (story : T → List E) (v w : T) : Type 0 where
  pub same : origin w ≡ origin v
  pub longer : IsPrefix (story v) (story w)

module _ {T O E : Type 0} (origin : T → O) (story : T → List E) where
  -- the value continues this one, if there is one
  abbrev pub Follows : Option T → T → Type 0
  Follows None w = Unit {0}
  Follows (Some v) w = Continues origin story v w

  -- one seat after another may do this, where before it the turn was or wasn't taken and this value was given last: whoever
  -- has the turn gives a value that continues the last one, the turn is taken where it is free, and missed where it is taken
  abbrev pub IsLegalFrom : Bool → Option T → List (LockEvent T) → Type 0
  IsLegalFrom turn last [] = Unit {0}
  IsLegalFrom turn last (Given value ∷ events) = (turn ≡ true) × Follows last value × IsLegalFrom false (Some value) events
  IsLegalFrom turn last (Taken ∷ events) = (turn ≡ false) × IsLegalFrom true last events
  IsLegalFrom turn last (Missed ∷ events) = (turn ≡ true) × IsLegalFrom true last events

  -- a history that seats may have, one after another
  abbrev pub IsLegal : List (LockEvent T) → Type 0
  IsLegal history = IsLegalFrom true None history

-- a seat that had seen the first history does this: then the second is the first, what other seats did since, and this
pub record Adds {T O E : Type 0} (origin : T → O) (story : T → List E) (before : List (LockEvent T)) (event : LockEvent T)
    (after : List (LockEvent T)) : Type 0 where
  pub between : List (LockEvent T)
  pub is : after ≡ (before ++ between) ++ event ∷ []
  pub legal : IsLegal origin story after

-- a seat that has the turn and had seen the first history gives this value: other seats did nothing since but miss the turn
pub record GivesBack {T O E : Type 0} (origin : T → O) (story : T → List E) (before : List (LockEvent T)) (value : T)
    (after : List (LockEvent T)) : Type 0 where
  pub misses : ℕ
  pub is : after ≡ (before ++ replicate misses Missed) ++ Given value ∷ []
  pub legal : IsLegal origin story after
