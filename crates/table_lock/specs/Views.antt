-- What seats know, and how it is cut in two and put together.
use Rattle.std.specs.Prelude.{◌≡◌, ℕ, ◌+◌, ◌-◌, Bool, true, false, List, [], ◌∷◌, Option, None}
use mathlib.Core.Option.{some}
use mathlib.Core.List.{IsPrefix}
use lib.ListN.{get_elem?}
use Rattle.table_lock.specs.declared.event.LockEvent.{LockEvent}
use Rattle.table_lock.specs.declared.event.LockEvent.TheVariants.{Given}
use Rattle.table_lock.specs.declared.view.SeatView.{SeatView}

-- 1 of what is so, and 0 of what isn't
abbrev pub weight : Bool → ℕ
weight true = 1
weight false = 0

-- f of each, added up
abbrev pub total : {X : Type 0} → (X → ℕ) → List X → ℕ
total f [] = 0
total f (x ∷ xs) = f x + total f xs

-- the slots that a seat holds: where it has the turn, the one of the value, which is empty then
abbrev pub slots_of : {T : Type 0} → Bool → List (ℕ × Option T)
slots_of true = (0, None) ∷ []
slots_of false = []

module _ {T : Type 0} where
  -- a view of these parts, turn, histories and moves
  abbrev pub view : ℕ → Bool → List (LockEvent T) → List (LockEvent T) → ℕ → SeatView T
  view parts has_turn history told moves = record { parts = parts; has_turn = has_turn; history = history; told = told; moves = moves }

  -- who opens the lock has all parts and gave the first value
  abbrev pub first_view : T → SeatView T
  first_view value = view 64 false (Given value ∷ []) [] 1

  -- one part less
  abbrev pub less_one_part : SeatView T → SeatView T
  less_one_part v = view (v.parts - 1) v.has_turn v.history v.told v.moves

  -- a new seat with one part, which has seen the same and done nothing
  abbrev pub one_part : SeatView T → SeatView T
  one_part v = view 1 false v.history [] 0

  -- a seat that took another one's parts in, and was told what that one had seen
  abbrev pub joined_views : SeatView T → SeatView T → SeatView T
  joined_views v w = view (v.parts + w.parts) v.has_turn v.history w.history (v.moves + w.moves)

  -- what is left of a seat that was joined into another
  abbrev pub spent_view : SeatView T
  spent_view = view 0 false [] [] 0

  -- how many seats have the turn
  abbrev pub turns : List (SeatView T) → ℕ
  turns views = total (λ v. weight v.has_turn) views

  -- the parts of all seats
  abbrev pub all_parts : List (SeatView T) → ℕ
  all_parts views = total (λ v. v.parts) views

  -- what all seats did
  abbrev pub all_moves : List (SeatView T) → ℕ
  all_moves views = total (λ v. v.moves) views

  -- the history begins with all that each seat has seen or was told
  abbrev pub EachBegins : List (SeatView T) → List (LockEvent T) → Type 0
  EachBegins views history = (k : ℕ) (v : SeatView T) → get_elem? views k ≡ some v → IsPrefix v.history history × IsPrefix v.told history

-- a seat without a part doesn't have the turn and knows nothing
pub record IsSpent {T : Type 0} (v : SeatView T) : Type 0 where
  pub idle : v.has_turn ≡ false
  pub unseen : v.history ≡ []
  pub untold : v.told ≡ []
