use Rattle.std.proofs.Common.{◌≡◌, ◌+◌, ℕ, List, Bool, [], ◌++◌, drop, get_or, take, sym, ap, ◌∙◌}
use Rattle.std.specs.List.{flat_map}
use Rattle.std.proofs.lemmas.List.{drop_all, drop_more, take-append-drop}
use Rattle.std.proofs.lemmas.List.Concat.{flat_map-append}
use Rattle.sector_base.specs.Checksum.{bits_of, checksum, with_bits, number_of}
use Rattle.sector_base.proofs.Checksums.{with_bits-append, number_of-bits_of}
use Rattle.sector_base.proofs.checksum.crc.Goals as goal

pub loop-eight-preserved : goal.loop-eight-preserved
loop-eight-preserved c =
    let rest = c.loop-eight.rest.now in
    let state = bits_of 32 c.loop-eight.state in
    let eight = c.in-Some.eight.now in
    let behind = c.in-Some.behind.now in
    let parts : eight ++ behind ≡ rest =
    ap (λ (l : List ℕ). l ++ behind) c.in-Some.ensures.cases.0 ∙ ap (λ (l : List ℕ). take 8 rest ++ l) c.in-Some.ensures.cases.1
    ∙ take-append-drop 8 rest in
    record {
      same = ap (λ (l : List Bool). with_bits l (flat_map (bits_of 8) behind)) c.divide_eight-state.ensures
          ∙ sym (with_bits-append state (flat_map (bits_of 8) eight) (flat_map (bits_of 8) behind))
          ∙ ap (with_bits state) (sym (flat_map-append (bits_of 8) eight behind) ∙ ap (flat_map (bits_of 8)) parts)
          ∙ c.loop-eight.invariant.same;
      fits = c.divide_eight-state.type_inv;
    }

pub loop-byte-preserved : goal.loop-byte-preserved
loop-byte-preserved c =
    let rest = c.loop-eight.rest.now in
    let at = c.loop-byte.byte-index in
    let state = bits_of 32 c.loop-byte.state in
    let byte = get_or rest at 0 in
    let behind = drop (at + 1) rest in
    record {
      same = ap (λ (l : List Bool). with_bits l (flat_map (bits_of 8) behind)) c.divide_byte-state.ensures
          ∙ sym (with_bits-append state (bits_of 8 byte) (flat_map (bits_of 8) behind))
          ∙ ap (λ (l : List ℕ). with_bits state (flat_map (bits_of 8) l)) (sym (drop_more rest at 0 c.loop-byte-test.true))
          ∙ c.loop-byte.invariant.same;
      fits = c.divide_byte-state.type_inv;
    }

pub returns : goal.returns
unfolding checksum
returns c =
    let none : drop c.loop-byte.byte-index c.loop-eight.rest.now ≡ [] = drop_all c.loop-byte.byte-index c.loop-eight.rest.now c.loop-byte-test.false in
    sym (number_of-bits_of 32 c.loop-byte.state c.loop-byte.invariant.fits)
    ∙ ap number_of (sym (ap (λ (l : List ℕ). with_bits (bits_of 32 c.loop-byte.state) (flat_map (bits_of 8) l)) none)
    ∙ c.loop-byte.invariant.same)
