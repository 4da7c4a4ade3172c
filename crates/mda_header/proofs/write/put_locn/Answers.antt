-- The fields of an entry are put one behind the other.
use Rattle.std.proofs.Common.{◌≡◌, ℕ, ◌+◌, List, ◌++◌, length, refl, ap, sym, ◌∙◌, arith}
use Rattle.sector_base.specs.Fields.{little_bytes, with_bytes}
use Rattle.mda_header.specs.declared.write.TheConstants.{NO_TEXT}
use Rattle.mda_header.proofs.HeaderBytes.{locn_bytes-fields, one_more}
use Rattle.mda_header.proofs.write.put_locn.Goals as goal

pub returns-clause-bytes : goal.returns-clause-bytes
returns-clause-bytes c =
    let base = c.args.sector.now in
    let at = c.args.at in
    let size : length base ≡ 512 = ap length (sym c.as_bytes.ensures.value) ∙ (omega arith) in
    let text = c.unwrap_or-locn.result in
    let a : List ℕ = little_bytes 8 text.offset in
    let b : List ℕ = little_bytes 8 text.size in
    let s : List ℕ = little_bytes 4 text.sum in
    let two : c.put_u64-2.new.s ≡ with_bytes base at (a ++ b) =
    one_more base a b c.put_u64.new.s c.put_u64-2.new.s at (at + 8) c.put_u64.ensures c.put_u64-2.ensures refl (omega arith) in
    let three : c.put_u32.new.s ≡ with_bytes base at (a ++ b ++ s) =
    one_more base (a ++ b) s c.put_u64-2.new.s c.put_u32.new.s at (at + 16) two c.put_u32.ensures refl (omega arith) in
    one_more base (a ++ b ++ s) (little_bytes 4 c.args.flags) c.put_u32.new.s c.put_u32-2.new.s at (at + 20) three c.put_u32-2.ensures refl
    (omega arith)
    ∙ ap (with_bytes base at) (locn_bytes-fields c.args.locn NO_TEXT text c.args.flags refl refl refl c.unwrap_or-locn.ensures)
