-- The bytes of the part that comes next are behind those that were taken.
use Rattle.std.proofs.Common.{◌+◌, arith}
use Rattle.std.specs.Vec.{vec_len}
use Rattle.mda_ring.proofs.SectorParts.{taken_more}
use Rattle.mda_ring.proofs.text_read.bytes_from.Goals as goal

pub loop-bytes-preserved : goal.loop-bytes-preserved
loop-bytes-preserved c = (
  taken_more c.args.sectors.now c.args.skip (vec_len c.loop-bytes.bytes) (c.args.skip + c.len-in-loop-bytes.result)
      (vec_len c.extend_from_slice.new.self) c.loop-bytes.bytes.items c.part_at-part.result.now c.extend_from_slice.new.self.items
      c.loop-bytes.invariant.0
      c.part_at-part.ensures.bytes (omega arith) c.in_ok-extend_from_slice.ensures.items c.in_ok-extend_from_slice.ensures.len,
  omega (arith, c.in_ok-extend_from_slice.ensures.len),
)
