-- Worked rows: how many flushes of a disk steps leave in flight, the newest first.
use Rattle.std.proofs.Common.{◌≡◌, true, false, List, [], ◌∷◌, refl}
use Rattle.disk_model.specs.Steps.{Completed, Flushing, Step, Submitted}
use Rattle.world_history.specs.Flushing.{open_flushes}

-- a flush of each of two disks, and another of the first before the first one has completed
abbrev two : List Step
two = Submitted 12 (Flushing 0) ∷ Submitted 11 (Flushing 1) ∷ Submitted 10 (Flushing 0) ∷ []

two_of_the_first : open_flushes 0 two ≡ 2
two_of_the_first = refl

one_of_the_second : open_flushes 1 two ≡ 1
one_of_the_second = refl

none_of_the_third : open_flushes 2 two ≡ 0
none_of_the_third = refl

-- one that completes badly is in flight no more either
one_left : open_flushes 0 (Completed 10 (Flushing 0) false [] ∷ two) ≡ 1
one_left = refl

none_left : open_flushes 0 (Completed 12 (Flushing 0) true [] ∷ Completed 10 (Flushing 0) false [] ∷ two) ≡ 0
none_left = refl

still_one : open_flushes 1 (Completed 12 (Flushing 0) true [] ∷ Completed 10 (Flushing 0) false [] ∷ two) ≡ 1
still_one = refl
