-- What clauses say of a lock and its seats.
use Rattle.std.specs.Prelude.{◌≡◌, ℕ, Bool, List, Option}
use Rattle.table_lock.specs.declared.event.LockEvent.{LockEvent}
use Rattle.table_lock.specs.declared.grows.Grows.{Ghosts}
use Rattle.table_lock.specs.declared.lock.LockSeat.{LockSeat}
use Rattle.table_lock.specs.declared.lock.TableLock.{TableLock}
use Rattle.table_lock.specs.History.{IsOpenedWith, last_value, story_at}

-- the value that the lock was opened with
abbrev pub opened : {T O E : Type 0} → TableLock T O E → T
opened lock = lock.table.shared.key.value

module _ {T O E : Type 0} {G : Ghosts T O E} where
  -- the seat's parts of the 64
  abbrev pub parts : LockSeat T O E G → ℕ
  parts seat = seat.seat.me.0.parts

  -- whether the seat has the turn: then the value is out with it
  abbrev pub has_taken : LockSeat T O E G → Bool
  has_taken seat = seat.seat.me.0.has_turn

  -- the lock's history as far as the seat has seen it
  abbrev pub history : LockSeat T O E G → List (LockEvent T)
  history seat = seat.seat.me.0.history

  -- how many entries of the history are the seat's own, or were of seats that were joined in
  abbrev pub moves : LockSeat T O E G → ℕ
  moves seat = seat.seat.me.0.moves

  -- the last value that the seat knows to have been given
  abbrev pub last_seen : LockSeat T O E G → Option T
  last_seen seat = last_value (history seat)

  -- what the seat has seen of the story: that of the last value that it knows
  abbrev pub seen : LockSeat T O E G → List E
  seen seat = story_at G.story (history seat)

-- the seat is the one that opening the lock answered, or comes from it
pub record IsSeatOf {T O E : Type 0} {G : Ghosts T O E} (lock : TableLock T O E) (seat : LockSeat T O E G) : Type 0 where
  pub table : seat.seat.table_id ≡ lock.table.shared.table_id
  pub opening : IsOpenedWith (opened lock) (history seat)
