-- The bytes from byte 20 on are those that the checksum covers.
use Rattle.std.proofs.Common.{◌≡◌, ◌≤◌, length, drop, ap, sym, ◌∙◌, arith, eq-eqb}
use Rattle.std.proofs.lemmas.Map.Views.{exact_unsigned_eq}
use Rattle.std.proofs.lemmas.Slice.{between_to_end}
use Rattle.sector_base.specs.Checksum.{checksum, lvm_crc_start}
use Rattle.pv_label.proofs.read.agrees_with_sum.Goals as goal

pub returns : goal.returns
returns c =
    let all : length c.as_bytes.result.now ≤ 512 = omega arith in
    let sum : c.crc.result ≡ checksum lvm_crc_start (drop 20 c.args.sector.now) =
    c.crc.ensures ∙ ap (checksum lvm_crc_start)
    (between_to_end c.as_bytes.result.now 20 512 all ∙ ap (drop 20) c.as_bytes.ensures.value) in (
      λ same. sym c.get_u32.ensures ∙ exact_unsigned_eq c.get_u32.result c.crc.result same ∙ sum,
      λ same. eq-eqb c.get_u32.result c.crc.result (c.get_u32.ensures ∙ same ∙ sym sum),
    )
