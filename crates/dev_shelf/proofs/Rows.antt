-- Worked rows of a hold: a write of sector 0 of a disk is held until one of sector 2 is flushed. Operation 0 is the one, and
-- operation 1 the other.
use Rattle.std.specs.Prelude.{◌≡◌, ℕ, true, false, List, [], ◌∷◌, Some}
use Rattle.std.proofs.Common.{refl}
use Rattle.disk_model.specs.Record.{Operation, in_flight_after}
use Rattle.disk_model.specs.Steps.{Work, Writing, Flushing, Step, Submitted, Completed}
use Rattle.dev_shelf.specs.Plan.{PlanLeft, after_vain, before_settling, held_back, letting_go}

-- the write of this sector
abbrev write_of : ℕ → Work
write_of sector = Writing (record { pv = 0; first = sector; count = 1 }) ([] ∷ [])

-- the plan with this limit, after so many vain answers
abbrev plan_with : ℕ → ℕ → PlanLeft
plan_with limit vain = record {
  picks = [];
  fails = [];
  holds = record { pv = 0; sector = 0; until_pv = 0; until = 2 } ∷ [];
  limit = limit;
  vain = vain;
  let_go = 0;
  forced = 0;
}

-- the tags of those that are ready after these steps
abbrev ready_after : PlanLeft → List Step → List ℕ
ready_after plan steps =
    (held_back plan (record {
      sizes = 8 ∷ [];
      in_flight = in_flight_after steps;
      ready = [];
      spare_ops = 0;
      spare_sectors = 0;
      steps = 0;
      faults = λ pv. 0;
      next_tag = 9;
      told = Some (record { opened = λ pv sector. []; steps = steps });
    })).ready

-- both writes are in flight
abbrev both : List Step
both = Submitted 1 (write_of 2) ∷ Submitted 0 (write_of 0) ∷ []

-- and a flush of their disk
abbrev with_flush : List Step
with_flush = Submitted 2 (Flushing 0) ∷ both

-- the first is held
holds_first : ready_after (plan_with 9 0) both ≡ 1 ∷ []
holds_first = refl

-- that the other was written isn't enough, nor that it was flushed
holds_when_written : ready_after (plan_with 9 0) (Completed 1 (write_of 2) true [] ∷ with_flush) ≡ 2 ∷ []
holds_when_written = refl

holds_when_flushed : ready_after (plan_with 9 0) (Completed 2 (Flushing 0) true [] ∷ with_flush) ≡ 1 ∷ []
holds_when_flushed = refl

-- both are, in any order
comes : ready_after (plan_with 9 0) (Completed 2 (Flushing 0) true [] ∷ Completed 1 (write_of 2) true [] ∷ with_flush) ≡ 0 ∷ []
comes = refl

comes_so : ready_after (plan_with 9 0) (Completed 1 (write_of 2) true [] ∷ Completed 2 (Flushing 0) true [] ∷ with_flush) ≡ 0 ∷ []
comes_so = refl

-- a flush that failed doesn't count, nor one that was submitted before the write, nor one of another disk
not_failed : ready_after (plan_with 9 0) (Completed 2 (Flushing 0) false [] ∷ Completed 1 (write_of 2) true [] ∷ with_flush) ≡ []
not_failed = refl

not_before : ready_after (plan_with 9 0)
    (Completed 1 (Flushing 0) true [] ∷ Completed 2 (write_of 2) true [] ∷ Submitted 2 (write_of 2) ∷ Submitted 1 (Flushing 0)
    ∷ Submitted 0 (write_of 0) ∷ []) ≡ []
not_before = refl

not_other : ready_after (plan_with 9 0) (Completed 2 (Flushing 1) true [] ∷ Completed 1 (write_of 2) true [] ∷ Submitted 2 (Flushing 1)
    ∷ both) ≡ []
not_other = refl

-- the first vain answer of two is counted, and the second lets the oldest go
abbrev first : Operation
first = record { tag = 0; work = write_of 0 }

counted : after_vain (first ∷ []) (plan_with 2 0) ≡ plan_with 2 1
counted = refl

let_go : after_vain (first ∷ []) (plan_with 2 1) ≡ letting_go first (plan_with 2 1)
let_go = refl

let_go_at_once : (after_vain (first ∷ []) (plan_with 0 0)).forced ≡ 1
let_go_at_once = refl

is_ready : ready_after (letting_go first (plan_with 2 1)) both ≡ 0 ∷ 1 ∷ []
is_ready = refl

-- `settle` lets it go where nothing is ready, and else not
settles : (before_settling [] (first ∷ []) (plan_with 9 0)).forced ≡ 1
settles = refl

settles_ready : before_settling (1 ∷ []) (first ∷ []) (plan_with 9 0) ≡ plan_with 9 0
settles_ready = refl
