-- The bytes that the checksum covers are written first, and then those in front of them.
use Rattle.std.proofs.Common.{◌≡◌, ℕ, List, ◌++◌, length, drop, codes, refl, ap, sym, ◌∙◌, arith, subst, ◌<◌, ◌^◌}
use Rattle.std.proofs.lemmas.Slice.{between_to_end}
use Rattle.sector_base.specs.Checksum.{checksum, lvm_crc_start}
use Rattle.sector_base.specs.Fields.{little_bytes, with_bytes}
use Rattle.sector_base.proofs.Puts.{drop-with_bytes, length-with_bytes, with_bytes-behind, with_bytes-start}
use Rattle.pv_label.specs.Label.{IsLabel}
use Rattle.pv_label.specs.LabelBytes.{summed_bytes, with_label}
use Rattle.pv_label.proofs.LabelBytes.{IsLabel-with_label, drop-with_label}
use Rattle.pv_label.proofs.seal.seal_label.Goals as goal

-- the bytes that the checksum covers, once they are written
covered_is : (c : goal.After-put_u32-2) → (length c.args.contents.now ≡ 512) × (length c.put.new.self ≡ 512)
    × (drop 20 c.put.new.self ≡ summed_bytes c.args.contents.now)
covered_is c =
    let old = c.args.contents.now in
    let tail : List ℕ = little_bytes 4 32 ++ codes "LVM2 001" in
    let lowest : length c.put.new.self ≡ 512 = ap length (sym c.as_bytes.ensures.value) ∙ (omega arith) in
    let written : length (with_bytes (with_bytes old 20 (little_bytes 4 32)) 24 (codes "LVM2 001")) ≡ 512 =
    ap length (sym (c.put.ensures ∙ ap (λ (s : List ℕ). with_bytes s 24 (codes "LVM2 001")) c.put_u32.ensures)) ∙ lowest in
    let fits : length old ≡ 512 =
    omega (
      arith,
      written,
      length-with_bytes (with_bytes old 20 (little_bytes 4 32)) 24 (codes "LVM2 001"),
      length-with_bytes old 20 (little_bytes 4 32),
    ) in
    let low : c.put.new.self ≡ with_bytes old 20 tail =
    c.put.ensures ∙ ap (λ (s : List ℕ). with_bytes s 24 (codes "LVM2 001")) c.put_u32.ensures
    ∙ with_bytes-behind old 20 (little_bytes 4 32) 24 (codes "LVM2 001") refl (omega arith) in
    (fits, lowest, ap (drop 20) low ∙ drop-with_bytes old 20 tail (omega arith))

sum_is : (c : goal.After-put_u32-2) → c.crc-sum.result ≡ checksum lvm_crc_start (summed_bytes c.args.contents.now)
sum_is c =
    c.crc-sum.ensures
    ∙ ap (checksum lvm_crc_start) (between_to_end c.as_bytes.result.now 20 512 (omega arith) ∙ ap (drop 20) c.as_bytes.ensures.value
    ∙ (covered_is c).2)

sealed_is : (c : goal.After-put_u32-2) → c.put_u32-2.new.s ≡ with_label c.args.contents.now c.args.sector
sealed_is c =
    let old = c.args.contents.now in
    let low = c.put.new.self in
    let label : List ℕ = codes "LABELONE" in
    let number : List ℕ = little_bytes 8 c.args.sector in
    let sum : List ℕ = little_bytes 4 (checksum lvm_crc_start (summed_bytes old)) in
    let known = covered_is c in
    let two : c.put_u64.new.s ≡ with_bytes low 0 (label ++ number) =
    c.put_u64.ensures
    ∙ ap (λ (n : ℕ). with_bytes c.put-2.new.self 8 (little_bytes 8 n)) c.from.ensures
    ∙ ap (λ (s : List ℕ). with_bytes s 8 number) c.put-2.ensures
    ∙ with_bytes-behind low 0 label 8 number refl (omega (arith, known.1)) in
    c.put_u32-2.ensures
    ∙ ap (λ (n : ℕ). with_bytes c.put_u64.new.s 16 (little_bytes 4 n)) (sum_is c)
    ∙ ap (λ (s : List ℕ). with_bytes s 16 sum) two
    ∙ with_bytes-behind low 0 (label ++ number) 16 sum refl (omega (arith, known.1))
    ∙ with_bytes-start low ((label ++ number) ++ sum)
    ∙ ap (λ (l : List ℕ). (label ++ number) ++ sum ++ l) known.2

pub returns-clause-bytes : goal.returns-clause-bytes
returns-clause-bytes c = sealed_is c

pub returns-clause-rest : goal.returns-clause-rest
returns-clause-rest c = ap (drop 32) (sealed_is c) ∙ drop-with_label c.args.contents.now c.args.sector

pub returns-clause-label : goal.returns-clause-label
returns-clause-label c =
    let P : List ℕ → Type 0 = λ s. IsLabel s c.args.sector in
    let fits : checksum lvm_crc_start (summed_bytes c.args.contents.now) < 256 ^ 4 =
    subst (λ (n : ℕ). n < 256 ^ 4) (sum_is c) c.crc-sum.type_inv in
    subst P (sym (sealed_is c)) (IsLabel-with_label c.args.contents.now c.args.sector (omega arith) fits)
