-- Worked rows: values with a name and a list of entries, and what may be done with them.
use Rattle.std.proofs.Common.{◌≡◌, ℕ, true, false, List, [], ◌∷◌, refl, sym, true≢false, Some}
use native.Mathlib.Omega.{arith}
use Rattle.table_lock.specs.declared.event.LockEvent.{LockEvent}
use Rattle.table_lock.specs.declared.event.LockEvent.TheVariants.{Given, Taken, Missed}
use Rattle.table_lock.specs.History.{is_taken, last_value, story_at, IsLegal}

abbrev Book : Type 0
Book = ℕ × List ℕ

abbrev name_of : Book → ℕ
name_of book = book.0

abbrev entries_of : Book → List ℕ
entries_of book = book.1

abbrev empty : Book
empty = (7, [])

abbrev with_entry : Book
with_entry = (7, 1 ∷ [])

-- it was opened, taken, missed by another seat, and given with one entry more
abbrev one_turn : List (LockEvent Book)
one_turn = Given empty ∷ Taken ∷ Missed ∷ Given with_entry ∷ []

one_turn_is_legal : IsLegal name_of entries_of one_turn
one_turn_is_legal = (refl, tt, (refl, (refl, (refl, record { same = refl; longer = (1 ∷ [], refl) }, tt))))

it_is_free : is_taken one_turn ≡ false
it_is_free = refl

last_is_given : last_value one_turn ≡ Some with_entry
last_is_given = refl

story_is_given : story_at entries_of one_turn ≡ 1 ∷ []
story_is_given = refl

-- while it is out, the turn is taken, and the last value is the one that was taken
out_is_taken : is_taken {T = Book} (Given empty ∷ Taken ∷ Missed ∷ []) ≡ true
out_is_taken = refl

out_is_last : last_value {T = Book} (Given empty ∷ Taken ∷ Missed ∷ []) ≡ Some empty
out_is_last = refl

-- nobody takes the turn twice
taken_twice : IsLegal name_of entries_of (Given empty ∷ Taken ∷ Taken ∷ []) → ⊥
taken_twice h = true≢false h.2.1.0

-- nobody misses a turn that is free
missed_while_free : IsLegal name_of entries_of (Given empty ∷ Missed ∷ []) → ⊥
missed_while_free h = true≢false (sym h.2.0)

-- nobody gives without the turn
given_while_free : IsLegal name_of entries_of (Given empty ∷ Given with_entry ∷ []) → ⊥
given_while_free h = true≢false (sym h.2.0)

-- nobody gives an older value
given_older : IsLegal name_of entries_of (Given with_entry ∷ Taken ∷ Given empty ∷ []) → ⊥
given_older h = absurd (cc (h.2.1.1.longer.1))

-- nobody gives a value of another origin
given_another : IsLegal name_of entries_of (Given empty ∷ Taken ∷ Given (8, 1 ∷ []) ∷ []) → ⊥
given_another h = let same : ◌≡◌ {A = ℕ} 8 7 = h.2.1.1.same in absurd (omega arith)
