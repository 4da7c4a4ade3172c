-- The fields are put one behind the other, and the checksum last.
use Rattle.std.proofs.Common.{◌≡◌, ◌<◌, ◌^◌, ℕ, List, drop, ap, sym, subst, ◌∙◌, arith}
use Rattle.std.proofs.lemmas.Slice.{between_to_end}
use Rattle.sector_base.specs.Checksum.{checksum, lvm_crc_start}
use Rattle.mda_header.specs.Header.{IsHeader}
use Rattle.mda_header.specs.HeaderBytes.{summed_bytes, header_bytes}
use Rattle.mda_header.proofs.ReadAgain.{header_read}
use Rattle.mda_header.proofs.HeaderBytes.{covered_put, from_bool-cond, header_put}
use Rattle.mda_header.proofs.write.write_mda.Goals as goal

rest_is : (c : goal.After-put_u32-2) → drop 4 c.put_locn-2.new.sector ≡ summed_bytes c.args.header.now
rest_is c =
    covered_put c.args.header.now c.from.result c.zeroed-sector.result c.put.new.self c.put_u32.new.s c.put_u64.new.s c.put_u64-2.new.s
    c.put_locn.new.sector c.put_locn-2.new.sector
    c.zeroed-sector.ensures (c.from.ensures ∙ from_bool-cond c.args.header.now.ignored) c.put.ensures c.put_u32.ensures c.put_u64.ensures
    c.put_u64-2.ensures c.put_locn.ensures.bytes c.put_locn-2.ensures.bytes

sum_is : (c : goal.After-put_u32-2) → c.crc-sum.result ≡ checksum lvm_crc_start (summed_bytes c.args.header.now)
sum_is c =
    c.crc-sum.ensures ∙ ap (checksum lvm_crc_start)
    (between_to_end c.as_bytes.result.now 4 512 (omega arith) ∙ ap (drop 4) c.as_bytes.ensures.value ∙ rest_is c)

written_is : (c : goal.After-put_u32-2) → c.put_u32-2.new.s ≡ header_bytes c.args.header.now
written_is c =
    header_put c.args.header.now c.crc-sum.result c.put_locn-2.new.sector c.put_u32-2.new.s (rest_is c) (sum_is c) c.put_u32-2.ensures

pub returns-clause-bytes : goal.returns-clause-bytes
returns-clause-bytes c = written_is c

pub returns-clause-read_again : goal.returns-clause-read_again
returns-clause-read_again c = λ can.
    let header = c.args.header.now in
    let sum_fits : checksum lvm_crc_start (summed_bytes header) < 256 ^ 4 = subst (λ (n : ℕ). n < 256 ^ 4) (sum_is c) c.crc-sum.type_inv in
    subst (λ (s : List ℕ). IsHeader s header) (sym (written_is c))
    (header_read header.start header.size header.committed header.precommitted header.ignored (omega arith) (omega arith)
    c.put_locn.ensures.fits c.put_locn-2.ensures.fits sum_fits can.committed can.precommitted)
