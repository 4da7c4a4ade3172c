use Rattle.std.proofs.Common.{◌≡◌, ◌/◌, ℕ, [], slice_index, slice_index_or, false, replicate, arith, sym, ap, ◌∙◌}
use Rattle.std.specs.Int.RustNames.{bit_xor}
use Rattle.std.proofs.lemmas.Nat.{xor_of_32}
use Rattle.sector_base.specs.Checksum.{bits_of, with_bits}
use Rattle.sector_base.specs.declared.division_table.TheConstants.{DIVIDED}
use Rattle.sector_base.proofs.Checksums.{with_bits-byte}
use Rattle.sector_base.proofs.DivisionTable.{with_bits-table}
use Rattle.sector_base.proofs.checksum.divide_byte.Goals as goal

pub returns : goal.returns
returns c =
    let byte : c.from.result ≡ c.args.byte = c.from.ensures in
    let state : ℕ = bit_xor c.args.state c.from.result in
    ap (λ (n : ℕ). bits_of 32 (bit_xor n (state / 256))) (c.divided.ensures ∙ ap (slice_index (slice_index_or DIVIDED 0 [])) c.from-2.ensures)
    ∙ sym (with_bits-table state (xor_of_32 c.args.state c.from.result (omega arith) (omega arith)))
    ∙ ap (λ (n : ℕ). with_bits (bits_of 32 (bit_xor c.args.state n)) (replicate 8 false)) byte
    ∙ sym (with_bits-byte c.args.state c.args.byte c.ranges.byte.fits)
