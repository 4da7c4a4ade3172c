-- The time of a run, and the seed of the ids.
use Rattle.std.specs.Prelude.{ℕ, ◌-◌, ◌/◌, ◌^◌, min, Option, Some, None, bit_xor}
use Rattle.std.specs.declared.time.Duration.{Duration}
use Rattle.std.specs.Duration.{as_nanos}

-- whole seconds of the time since 1970, 0 where it isn't to be had, and at most 2^48 - 1
abbrev pub seconds_since : Option Duration → ℕ
seconds_since None = 0
seconds_since (Some since) = min (as_nanos since / 1000000000) (2 ^ 48 - 1)

-- a number of the system's random source combined with the clock's, or the one of them that is to be had
abbrev pub mixed_seed : Option ℕ → Option ℕ → Option ℕ
mixed_seed (Some random) (Some clock) = Some (bit_xor random clock)
mixed_seed (Some random) None = Some random
mixed_seed None (Some clock) = Some clock
mixed_seed None None = None
