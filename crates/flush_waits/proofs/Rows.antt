-- Worked rows over one disk: two pieces wait, and a flush is submitted; then a line begins to wait for the second piece's write, and
-- a third piece for one that completed behind the submission.
use Rattle.std.specs.Prelude.{◌≡◌, ℕ, true, false, List, [], ◌∷◌, map}
use Rattle.std.proofs.Common.{refl}
use Rattle.flush_waits.specs.declared.ticket.Waiter.{Waiter}
use Rattle.flush_waits.specs.declared.ticket.Waiter.TheVariants.{Line, Piece}
use Rattle.flush_waits.specs.declared.ticket.Waiting.{Waiting}
use Rattle.flush_waits.specs.declared.waits.Awaited.TheVariants.{Lost, Served, Stable, Unserved}
use Rattle.flush_waits.specs.Waits.{Waits, awaited, disk_waits, is_wanted, new_waits}
use Rattle.flush_waits.specs.Steps.{after_ended, after_reserve, after_submitted, after_wait, after_wrote}

-- a piece's write completed, and it waits for that
abbrev written : Waits → ℕ → ℕ → Waits
written waits number place = after_wait (after_wrote waits number 0) (record { waiter = Piece number; place = place }) 0

abbrev two_wait : Waits
two_wait = written (written (after_reserve (new_waits 1 1) 8 8) 6 1) 7 2

abbrev one_flies : Waits
one_flies = after_submitted two_wait 0 100

abbrev all_wait : Waits
all_wait = written (after_wait one_flies (record { waiter = Line 5; place = 2 }) 0) 8 3

abbrev flushed : Waits
flushed = after_ended all_wait 100 true

abbrev lost : Waits
lost = after_ended all_wait 100 false

abbrev who : List Waiting → List Waiter
who ws = map (λ (w : Waiting). w.waiter) ws

-- one flush is wanted for both, and serves both
both_want_one : is_wanted two_wait 0 ≡ true
both_want_one = refl

one_serves_both : who (disk_waits one_flies 0).served ≡ Piece 6 ∷ Piece 7 ∷ []
one_serves_both = refl

-- the line joins the flush in flight
line_is_served : awaited one_flies 0 2 ≡ Served
line_is_served = refl

line_joins : who (disk_waits all_wait 0).served ≡ Piece 6 ∷ Piece 7 ∷ Line 5 ∷ []
line_joins = refl

-- the third piece waits for the next one, which isn't wanted while one is in flight
third_is_not_served : who (disk_waits all_wait 0).next ≡ Piece 8 ∷ []
third_is_not_served = refl

none_is_wanted_yet : is_wanted all_wait 0 ≡ false
none_is_wanted_yet = refl

next_is_wanted : is_wanted flushed 0 ≡ true
next_is_wanted = refl

-- what the flush served is stable, or lost where it failed, and the third write is neither
second_is_stable : awaited flushed 0 2 ≡ Stable
second_is_stable = refl

second_is_lost : awaited lost 0 2 ≡ Lost
second_is_lost = refl

third_is_behind : awaited flushed 0 3 ≡ Unserved
third_is_behind = refl
