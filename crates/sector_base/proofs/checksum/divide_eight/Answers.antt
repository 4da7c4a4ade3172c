use Rattle.std.proofs.Common.{◌≡◌, ◌<◌, ℕ, suc, [], ◌+◌, ◌-◌, ◌/◌, ◌%◌, ◌^◌, slice_index, slice_index_or, arith, sym, ap, subst, ◌∙◌}
use Rattle.std.specs.Int.RustNames.{bit_xor}
use Rattle.std.proofs.lemmas.Nat.{xor_comm, xor_lt}
use lib.Bits.{xor_assoc, xor_zero_r}
use Rattle.sector_base.specs.Checksum.{bits_of}
use Rattle.sector_base.specs.declared.division_table.TheConstants.{DIVIDED}
use Rattle.sector_base.proofs.DivisionTable.{dividings, dividings-more, eight-low_first, low_first, with_bits-dividings}
use Rattle.sector_base.proofs.checksum.divide_eight.Goals as goal

pub loop-at-init : goal.loop-at-init
loop-at-init c =
    let word = c.read_u64.ensures ∙ eight-low_first c.args.bytes.now c.told-bytes in
    record {
      left = ap (dividings 8) (ap (bit_xor c.read_u64.result) c.from.ensures ∙ xor_comm c.read_u64.result c.args.state
          ∙ ap (bit_xor c.args.state) word);
      behind = xor_lt 64 c.read_u64.result c.from.result c.read_u64.type_inv c.from.type_inv;
    }

pub loop-at-preserved : goal.loop-at-preserved
loop-at-preserved c =
    let k = 7 - c.loop-at.at in
    let table = slice_index (slice_index_or DIVIDED k []) (c.loop-at.rest % 256) in
    let behind = dividings k (c.loop-at.rest / 256) in
    let more : 8 - c.loop-at.at ≡ suc k = omega (arith, c.loop-at-test.true) in
    let less : 8 - (c.loop-at.at + 1) ≡ k = omega (arith, c.loop-at-test.true) in
    let below : c.loop-at.rest < 256 ^ suc k = subst (λ n. c.loop-at.rest < 256 ^ n) more c.loop-at.invariant.behind in
    let moved : c.loop-at.rest / 256 < 256 ^ k = omega (arith, below) in
    record {
      left = ap (λ (n : ℕ). bit_xor (bit_xor c.loop-at.left c.divided-left.result) (dividings n (c.loop-at.rest / 256))) less
          ∙ ap (λ (n : ℕ). bit_xor (bit_xor c.loop-at.left n) behind) c.divided-left.ensures
          ∙ xor_assoc c.loop-at.left table behind
          ∙ sym (ap (bit_xor c.loop-at.left) (ap (λ (n : ℕ). dividings n c.loop-at.rest) more ∙ dividings-more k c.loop-at.rest (omega arith)))
          ∙ c.loop-at.invariant.left;
      behind = subst (λ n. c.loop-at.rest / 256 < 256 ^ n) (sym less) moved;
    }

pub returns : goal.returns
returns c =
    let bytes = c.args.bytes.now in
    let none : 8 - c.loop-at.at ≡ 0 = omega (arith, c.loop-at-test.false) in
    let below : c.loop-at.rest < 256 ^ 0 = subst (λ n. c.loop-at.rest < 256 ^ n) none c.loop-at.invariant.behind in
    let empty : c.loop-at.rest ≡ 0 = omega (arith, below) in
    let left : c.loop-at.left ≡ dividings 8 (bit_xor c.args.state (low_first bytes)) =
    sym (ap (bit_xor c.loop-at.left) (ap (λ (n : ℕ). dividings n c.loop-at.rest) none ∙ empty) ∙ xor_zero_r c.loop-at.left)
    ∙ c.loop-at.invariant.left in
    ap (bits_of 32) (left ∙ ap (λ (n : ℕ). dividings n (bit_xor c.args.state (low_first bytes))) (sym c.told-bytes))
    ∙ sym (with_bits-dividings bytes c.args.state c.fits-bytes c.ranges.state.fits)
