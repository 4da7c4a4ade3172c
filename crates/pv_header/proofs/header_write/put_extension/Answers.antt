use Rattle.std.proofs.Common.{rules, ◌≡◌, ◌+◌, length, ap, ◌∙◌, arith}
use Rattle.byteorder.specs.Endian.{little_bytes}
use Rattle.byteorder.specs.Numbers.{length-bytes_low_first}
use Rattle.sector_base.specs.Fields.{with_field}
use Rattle.pv_header.proofs.Placed.{with_bytes-with_bytes}
use Rattle.pv_header.proofs.header_write.put_extension.Goals as goal

pub returns-clause-bytes : goal.returns-clause-bytes
returns-clause-bytes c =
    let at = c.args.at in
    let flags = c.args.flags in
    let size : length c.args.into.now ≡ 512 = search rules in
    let first = length-bytes_low_first 0 4 2 in
    let second = length-bytes_low_first 0 4 flags in
    c.put_u32-2.ensures ∙ ap (λ s. with_field 4 s (at + 4) flags) c.put_u32.ensures
    ∙ with_bytes-with_bytes c.args.into.now at (little_bytes 4 2) (little_bytes 4 flags) (at + 4) (omega arith) (omega arith)
