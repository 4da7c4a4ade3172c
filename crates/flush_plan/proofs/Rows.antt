-- Worked rows of a plan over one disk. Of eight writes the first has completed when flush 9 is submitted, and the seven others
-- when flush 10 is: two flushes serve all.
use Rattle.std.specs.Prelude.{◌≡◌, true, false, List, [], ◌∷◌}
use Rattle.std.proofs.Common.{refl}
use Rattle.flush_plan.specs.History.{Event, Flushed, Forgot, Lost, Reserved, Submitted, Wrote, is_ended_after, is_flushed_after, plan_after}
use Rattle.flush_plan.specs.Plans.{is_ended, is_stable, is_wanted}

-- the first write completed
abbrev first_written : List Event
first_written = Wrote 0 0 ∷ Reserved 8 8 ∷ []

-- the other seven did while its flush is in flight
abbrev all_written : List Event
all_written = Wrote 7 0 ∷ Wrote 6 0 ∷ Wrote 5 0 ∷ Wrote 4 0 ∷ Wrote 3 0 ∷ Wrote 2 0 ∷ Wrote 1 0 ∷ Submitted 0 9 ∷ first_written

-- that flush completed well, and then another
abbrev first_flushed : List Event
first_flushed = Flushed 9 ∷ all_written

abbrev all_flushed : List Event
all_flushed = Flushed 10 ∷ Submitted 0 10 ∷ first_flushed

-- that one failed
abbrev second_lost : List Event
second_lost = Lost 10 ∷ Submitted 0 10 ∷ first_flushed

-- a write alone wants a flush, and isn't stable
wants_one : is_wanted (plan_after 1 first_written) 0 ≡ true
wants_one = refl

not_stable_yet : is_stable (plan_after 1 first_written) 0 0 ≡ false
not_stable_yet = refl

-- while its flush is in flight, no other is wanted
wants_none_in_flight : is_wanted (plan_after 1 all_written) 0 ≡ false
wants_none_in_flight = refl

-- the flush makes stable what had completed before it, and another is wanted for the rest
first_is_stable : is_stable (plan_after 1 first_flushed) 0 0 ≡ true
first_is_stable = refl

first_was_flushed_after : is_flushed_after 0 0 first_flushed ≡ true
first_was_flushed_after = refl

second_is_not : is_stable (plan_after 1 first_flushed) 1 0 ≡ false
second_is_not = refl

second_was_not_flushed_after : is_flushed_after 1 0 first_flushed ≡ false
second_was_not_flushed_after = refl

wants_another : is_wanted (plan_after 1 first_flushed) 0 ≡ true
wants_another = refl

-- one flush serves the seven others, and then none is wanted
last_is_stable : is_stable (plan_after 1 all_flushed) 7 0 ≡ true
last_is_stable = refl

wants_no_more : is_wanted (plan_after 1 all_flushed) 0 ≡ false
wants_no_more = refl

-- one that failed makes nothing stable, and isn't wanted again
lost_makes_nothing_stable : is_stable (plan_after 1 second_lost) 7 0 ≡ false
lost_makes_nothing_stable = refl

lost_is_not_wanted_again : is_wanted (plan_after 1 second_lost) 0 ≡ false
lost_is_not_wanted_again = refl

-- but it has ended for them
lost_has_ended : is_ended (plan_after 1 second_lost) 7 0 ≡ true
lost_has_ended = refl

lost_ended_after : is_ended_after 7 0 second_lost ≡ true
lost_ended_after = refl

second_has_not_ended : is_ended (plan_after 1 first_flushed) 1 0 ≡ false
second_has_not_ended = refl

-- a write that is forgotten isn't held, and the others are as stable as before
forgotten_is_not_held : is_stable (plan_after 1 (Forgot 0 0 ∷ all_flushed)) 0 0 ≡ false
forgotten_is_not_held = refl

forgotten_was_forgotten : is_flushed_after 0 0 (Forgot 0 0 ∷ all_flushed) ≡ false
forgotten_was_forgotten = refl

last_is_stable_still : is_stable (plan_after 1 (Forgot 0 0 ∷ all_flushed)) 7 0 ≡ true
last_is_stable_still = refl

-- a second write of one number isn't stable with the first
again_is_not_stable : is_stable (plan_after 1 (Wrote 0 0 ∷ Reserved 1 1 ∷ first_flushed)) 0 0 ≡ false
again_is_not_stable = refl

again_was_not_flushed_after : is_flushed_after 0 0 (Wrote 0 0 ∷ Reserved 1 1 ∷ first_flushed) ≡ false
again_was_not_flushed_after = refl
