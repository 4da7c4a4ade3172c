use Rattle.std.proofs.Common.{rules, ◌≡◌, ℕ, List, length, drop, Err, sym, ap, subst, ◌∙◌, slice_range, arith}
use Rattle.std.proofs.lemmas.List.{length-take-le, length-drop}
use Rattle.lvm_id.specs.LvmId.{IsFirstMisfit, fits_plain}
use Rattle.pv_header.proofs.header_read.read_id.Goals as goal

part_len : (sector : List ℕ) → length sector ≡ 512 → length (slice_range sector 32 64) ≡ 32
part_len sector size = length-take-le 32 (drop 32 sector) (omega (arith, length-drop 32 sector))

pub unreachable-requires : goal.unreachable-requires
unreachable-requires c =
    let size : length c.as_bytes.result.now ≡ 512 = search rules in
    let said = (c.in-Err-BadLength.ensures.bad_length c.in-Err-BadLength.field-0-0).0 (ap Err c.in-Err-BadLength.field-0-is) in
    said.1 (sym said.0 ∙ part_len c.as_bytes.result.now size)

pub unreachable-requires-in-Err-BadHyphen : goal.unreachable-requires-in-Err-BadHyphen
unreachable-requires-in-Err-BadHyphen c =
    c.in-Err-BadHyphen.ensures.bad_hyphen c.in-Err-BadHyphen.field-0-0 (ap Err c.in-Err-BadHyphen.field-0-is)

pub returns-in-Err-BadChar : goal.returns-in-Err-BadChar
returns-in-Err-BadChar c =
    let said = (c.in-Err-BadChar.ensures.bad_char c.in-Err-BadChar.place).0 (ap Err c.in-Err-BadChar.field-0-is) in
    subst (λ s. IsFirstMisfit fits_plain (slice_range s 32 64) c.in-Err-BadChar.place) c.as_bytes.ensures.value said.1
