use Rattle.std.proofs.Common.{rules, ◌≡◌, ◌+◌, length, ap, ◌∙◌, arith}
use Rattle.byteorder.specs.Endian.{little_bytes}
use Rattle.byteorder.specs.Numbers.{length-bytes_low_first}
use Rattle.sector_base.specs.Fields.{with_field}
use Rattle.pv_header.specs.Extents.{pair_bytes}
use Rattle.pv_header.proofs.Placed.{with_bytes-with_bytes}
use Rattle.pv_header.proofs.list_write.put_pair.Goals as goal

pub returns-clause-bytes : goal.returns-clause-bytes
unfolding pair_bytes
returns-clause-bytes c =
    let a = c.args.area in
    let size : length c.args.into.now ≡ 512 = search rules in
    let first = length-bytes_low_first 0 8 a.offset in
    let second = length-bytes_low_first 0 8 a.size in
    c.put_u64-2.ensures ∙ ap (λ s. with_field 8 s (c.args.at + 8) a.size) c.put_u64.ensures
    ∙ with_bytes-with_bytes c.args.into.now c.args.at (little_bytes 8 a.offset) (little_bytes 8 a.size) (c.args.at + 8) (omega arith)
    (omega arith)
