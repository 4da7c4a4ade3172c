-- The parts of a store lie within it.
use Rattle.std.proofs.Common.{◌≤◌, ◌<◌, ℕ, ◌+◌, arith}
use Rattle.cow_store.specs.Layout.{slot_start, slots_in, used_sectors}

-- all slots have room
pub used_fit : (store : ℕ) → 1 ≤ store → used_sectors (slots_in store) ≤ store
used_fit store some = omega arith

-- and each of them
pub slot_fits : (slots slot k : ℕ) → slot < slots → k < 8 → slot_start slots slot + k < used_sectors slots
slot_fits slots slot k lt few = omega arith

-- a store with a slot isn't empty
pub some_slot : (store slot : ℕ) → slot < slots_in store → 1 ≤ store
some_slot store slot lt = omega arith
