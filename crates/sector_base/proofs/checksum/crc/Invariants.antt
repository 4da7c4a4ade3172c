use Rattle.std.proofs.Common.{◌≡◌, ◌<◌, ◌^◌, length, drop}
use Rattle.std.specs.List.{flat_map}
use Rattle.sector_base.specs.Checksum.{bits_of, with_bits}
use Rattle.sector_base.proofs.checksum.crc.Given as goal

abbrev pub invariant-loop-eight : goal.invariant-loop-eight
invariant-loop-eight l = record {
  same : with_bits (bits_of 32 l.state) (flat_map (bits_of 8) l.rest) ≡ with_bits (bits_of 32 l.start) (flat_map (bits_of 8) l.bytes);
  fits : l.state < 2 ^ 32;
}

abbrev pub decreases-loop-eight : goal.decreases-loop-eight
decreases-loop-eight l = length l.rest

abbrev pub invariant-loop-byte : goal.invariant-loop-byte
invariant-loop-byte l = record {
  same : with_bits (bits_of 32 l.state) (flat_map (bits_of 8) (drop l.byte-index l.byte-items))
      ≡ with_bits (bits_of 32 l.start) (flat_map (bits_of 8) l.bytes);
  fits : l.state < 2 ^ 32;
}
