-- The first Unsynced region, as a search and as writes change it.
use Rattle.std.proofs.Common.{◌≡◌, ◌≤◌, ◌<◌, ℕ, zero, suc, ◌+◌, min, true, false, not, List, [], ◌∷◌, length, get_or, set, replicate, refl}
use Rattle.std.proofs.Common.{arith}
use Rattle.std.specs.List.{position_or_len}
use Rattle.std.proofs.lemmas.List.Sums.{prefix_len-le-length}
use Rattle.region_log.specs.declared.region.Region.{Region}
use Rattle.region_log.specs.declared.region.Region.TheVariants.{Unsynced, Copying, Synced}
use Rattle.region_log.specs.Regions.{is_unsynced}

-- of regions that are all Unsynced it is number 0
pub first_of_all : (n : ℕ) → 0 ≡ position_or_len is_unsynced (replicate n Unsynced)
first_of_all zero = refl
first_of_all (suc n) = refl

-- a region that isn't Unsynced isn't the first
pub past_synced : (states : List Region) (at : ℕ) (d : Region) → at ≤ position_or_len is_unsynced states → at < length states
    → is_unsynced (get_or states at d) ≡ false → at + 1 ≤ position_or_len is_unsynced states
past_synced [] at d le lt h = absurd (omega arith)
past_synced (Unsynced ∷ states) zero d le lt h = cc
past_synced (Copying ∷ states) zero d le lt h = omega arith
past_synced (Synced ∷ states) zero d le lt h = omega arith
past_synced (Unsynced ∷ states) (suc at) d le lt h = absurd (omega arith)
past_synced (Copying ∷ states) (suc at) d le lt h = omega (arith, past_synced states at d (omega arith) (omega arith) h)
past_synced (Synced ∷ states) (suc at) d le lt h = omega (arith, past_synced states at d (omega arith) (omega arith) h)

-- the first is where an Unsynced region stands with none before it
pub first_here : (states : List Region) (at : ℕ) (d : Region) → at ≤ position_or_len is_unsynced states → at < length states
    → is_unsynced (get_or states at d) ≡ true → at ≡ position_or_len is_unsynced states
first_here [] at d le lt h = absurd (omega arith)
first_here (Unsynced ∷ states) zero d le lt h = refl
first_here (Copying ∷ states) zero d le lt h = cc
first_here (Synced ∷ states) zero d le lt h = cc
first_here (Unsynced ∷ states) (suc at) d le lt h = absurd (omega arith)
first_here (Copying ∷ states) (suc at) d le lt h = omega (arith, first_here states at d (omega arith) (omega arith) h)
first_here (Synced ∷ states) (suc at) d le lt h = omega (arith, first_here states at d (omega arith) (omega arith) h)

-- with none in the list, it is their number
pub first_at_end : (states : List Region) (at : ℕ) → at ≤ position_or_len is_unsynced states → length states ≤ at
    → at ≡ position_or_len is_unsynced states
first_at_end states at le end = omega (arith, prefix_len-le-length (λ s. not (is_unsynced s)) states)

-- a state that isn't Unsynced brings none before the first
pub first_set_synced : (states : List Region) (at : ℕ) (state : Region) → is_unsynced state ≡ false
    → position_or_len is_unsynced states ≤ position_or_len is_unsynced (set states at state)
first_set_synced [] at state h = omega arith
first_set_synced (Unsynced ∷ states) at state h = omega arith
first_set_synced (Copying ∷ states) zero Unsynced h = cc
first_set_synced (Copying ∷ states) zero Copying h = omega arith
first_set_synced (Copying ∷ states) zero Synced h = omega arith
first_set_synced (Synced ∷ states) zero Unsynced h = cc
first_set_synced (Synced ∷ states) zero Copying h = omega arith
first_set_synced (Synced ∷ states) zero Synced h = omega arith
first_set_synced (Copying ∷ states) (suc at) state h = omega (arith, first_set_synced states at state h)
first_set_synced (Synced ∷ states) (suc at) state h = omega (arith, first_set_synced states at state h)

-- any state brings none before its own place
pub first_set : (states : List Region) (at : ℕ) (state : Region)
    → min (position_or_len is_unsynced states) at ≤ position_or_len is_unsynced (set states at state)
first_set [] at state = omega arith
first_set (Unsynced ∷ states) at state = omega arith
first_set (Copying ∷ states) zero state = omega arith
first_set (Synced ∷ states) zero state = omega arith
first_set (Copying ∷ states) (suc at) state = omega (arith, first_set states at state)
first_set (Synced ∷ states) (suc at) state = omega (arith, first_set states at state)
