-- The rule of a lock with one word, the turn, and one slot, the value, and what each kind of step tells.
use Rattle.std.specs.Prelude.{◌≡◌, ◌≢◌, ℕ, ◌+◌, ◌⊎◌, true, false, List, [], ◌∷◌, ◌++◌, Option, Some, length, replicate}
use mathlib.Core.Option.{some}
use mathlib.Core.List.{IsPrefix}
use lib.ListN.{get_elem?}
use Rattle.atomic_table.specs.Table.{State, Me, Step}
use Rattle.table_lock.specs.declared.event.LockEvent.{LockEvent}
use Rattle.table_lock.specs.declared.event.LockEvent.TheVariants.{Given, Taken, Missed}
use Rattle.table_lock.specs.declared.view.SeatView.{SeatView}
use Rattle.table_lock.specs.History.{is_taken, last_value, IsLegal, Adds, GivesBack}
use Rattle.table_lock.specs.Views.{weight, view, turns, all_parts, all_moves, EachBegins, IsSpent}

module _ {T : Type 0} where
  -- some seat has seen the whole history, or was told it
  abbrev pub IsKnown : List (SeatView T) → List (LockEvent T) → Type 0
  IsKnown views history = (k : ℕ) × (v : SeatView T) × (get_elem? views k ≡ some v) × ((v.history ≡ history) ⊎ (v.told ≡ history))

  -- the slot has the value that was given last
  abbrev pub IsHome : State (Option T) (SeatView T) → List (LockEvent T) → Type 0
  IsHome s history = (value : T) × (get_elem? s.homes 0 ≡ some (some (Some value))) × (last_value history ≡ Some value)

  -- nothing happened since but that other seats missed the turn
  abbrev pub IsSince : List (LockEvent T) → List (LockEvent T) → Type 0
  IsSince seen history = (misses : ℕ) × (history ≡ seen ++ replicate misses Missed)

-- There is one legal history, which begins with all that each seat has seen, and which some seat knows whole; each entry is one seat's own.
-- The word is 1 where the turn is taken, and then one seat has it. While it is free, the slot has the value that was given last; while it
-- is
-- taken, other seats only miss it. All parts add up to 64, and a seat without a part knows nothing.
pub record IsKept {T O E : Type 0} (origin : T → O) (story : T → List E) (s : State (Option T) (SeatView T)) : Type 0 where
  pub history : List (LockEvent T)
  pub legal : IsLegal origin story history
  pub begins : EachBegins s.views history
  pub known : IsKnown s.views history
  pub moves : all_moves s.views ≡ length history
  pub word : s.words ≡ weight (is_taken history) ∷ []
  pub turn : turns s.views ≡ weight (is_taken history)
  pub home : is_taken history ≡ false → IsHome s history
  pub held : (k : ℕ) (v : SeatView T) → get_elem? s.views k ≡ some v → v.has_turn ≡ true → IsSince v.history history
  pub parts : all_parts s.views ≡ 64
  pub spent : (k : ℕ) (v : SeatView T) → get_elem? s.views k ≡ some v → v.parts ≡ 0 → IsSpent v

-- the seat took the turn, and the slot with the value that was given last; where it has all parts, it had seen all that was done before
pub record TakesTurn {T O E : Type 0} (origin : T → O) (story : T → List E) (m n : Me (Option T) (SeatView T)) : Type 0 where
  pub after : List (LockEvent T)
  pub value : T
  pub is : n ≡ (view m.0.parts true after m.0.told (m.0.moves + 1), (0, Some value) ∷ m.1)
  pub adds : Adds origin story m.0.history Taken after
  pub last : last_value after ≡ Some value
  pub alone : m.0.parts ≡ 64 → m.0.told ≡ [] → after ≡ m.0.history ++ Taken ∷ []

-- the seat missed the turn; one with all parts doesn't
pub record MissesTurn {T O E : Type 0} (origin : T → O) (story : T → List E) (m n : Me (Option T) (SeatView T)) : Type 0 where
  pub after : List (LockEvent T)
  pub is : n ≡ (view m.0.parts m.0.has_turn after m.0.told (m.0.moves + 1), m.1)
  pub adds : Adds origin story m.0.history Missed after
  pub others : m.0.parts ≢ 64

-- the seat gave the value in its slot, and the turn is free
pub record FreesTurn {T O E : Type 0} (origin : T → O) (story : T → List E) (m : Me (Option T) (SeatView T)) (value : T)
    (n : Me (Option T) (SeatView T)) : Type 0 where
  pub after : List (LockEvent T)
  pub is : n ≡ (view m.0.parts false after m.0.told (m.0.moves + 1), [])
  pub gives : GivesBack origin story m.0.history value after
  pub alone : m.0.parts ≡ 64 → m.0.told ≡ [] → after ≡ m.0.history ++ Given value ∷ []

-- of the history that the seat had seen and the one that it was told it keeps the longer
pub record SettlesHistory {T O E : Type 0} (origin : T → O) (story : T → List E) (m n : Me (Option T) (SeatView T)) : Type 0 where
  pub both : List (LockEvent T)
  pub is : n ≡ (view m.0.parts m.0.has_turn both [] m.0.moves, m.1)
  pub one : (both ≡ m.0.history) ⊎ (both ≡ m.0.told)
  pub own : IsPrefix m.0.history both
  pub told : IsPrefix m.0.told both
  pub legal : IsLegal origin story both

module _ {T O E : Type 0} (origin : T → O) (story : T → List E) where
  -- a compare-exchange of 0 for 1: the turn is taken where it was found free, and else missed
  abbrev pub Takes : Step (Option T) → Me (Option T) (SeatView T) → ℕ → Me (Option T) (SeatView T) → Type 0
  Takes st m found n = (found ≡ 0 → TakesTurn origin story m n) × (found ≢ 0 → MissesTurn origin story m n)

  -- a store of 0: the value in the seat's slot is given
  abbrev pub Frees : Step (Option T) → Me (Option T) (SeatView T) → ℕ → Me (Option T) (SeatView T) → Type 0
  Frees st m found n = (value : T) → m.1 ≡ (0, Some value) ∷ [] → FreesTurn origin story m value n

  -- a load after a join
  abbrev pub Settles : Step (Option T) → Me (Option T) (SeatView T) → ℕ → Me (Option T) (SeatView T) → Type 0
  Settles st m found n = SettlesHistory origin story m n
