use Rattle.std.proofs.Common.{◌≡◌, ◌≤◌, ◌+◌, ◌-◌, length, map, take}
use Rattle.std.specs.List.{range_with_len}
use Rattle.mda_ring.specs.Texts.{byte_in}
use Rattle.mda_ring.proofs.text_read.are_at.Given as goal

abbrev pub invariant-loop-done : goal.invariant-loop-done
invariant-loop-done l =
    (take l.done l.bytes ≡ map (λ j. byte_in l.sectors (l.skip + j)) (range_with_len 0 l.done)) × (l.done ≤ length l.bytes)

abbrev pub decreases-loop-done : goal.decreases-loop-done
decreases-loop-done l = length l.bytes - l.done
