-- The bytes from byte 4 on are those that the checksum covers.
use Rattle.std.proofs.Common.{drop, ap, ◌∙◌, arith}
use Rattle.std.proofs.lemmas.Slice.{between_to_end}
use Rattle.sector_base.specs.Checksum.{checksum, lvm_crc_start}
use Rattle.mda_header.proofs.read.covered_sum.Goals as goal

pub returns : goal.returns
returns c =
    c.crc.ensures ∙ ap (checksum lvm_crc_start)
    (between_to_end c.as_bytes.result.now 4 512 (omega arith) ∙ ap (drop 4) c.as_bytes.ensures.value)
