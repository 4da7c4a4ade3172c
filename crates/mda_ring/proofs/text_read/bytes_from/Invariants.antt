use Rattle.std.proofs.Common.{◌≡◌, ◌≤◌, ◌+◌, ◌-◌, map}
use Rattle.std.specs.List.{range_with_len}
use Rattle.std.specs.Vec.{vec_len}
use Rattle.mda_ring.specs.Texts.{byte_in}
use Rattle.mda_ring.proofs.text_read.bytes_from.Given as goal

abbrev pub invariant-loop-bytes : goal.invariant-loop-bytes
invariant-loop-bytes l =
    (l.bytes.items ≡ map (λ m. byte_in l.sectors (l.skip + m)) (range_with_len 0 (vec_len l.bytes))) × (vec_len l.bytes ≤ l.count)

abbrev pub decreases-loop-bytes : goal.decreases-loop-bytes
decreases-loop-bytes l = l.count - vec_len l.bytes
