-- What is put into a sector of zeros, one field behind the other, is what the checksum covers.
use Rattle.std.proofs.Common.{◌≡◌, ◌≤◌, ℕ, ◌+◌, Bool, true, false, cond, List, ◌++◌, length, drop, replicate, codes, Option, None, Some}
use Rattle.std.proofs.Common.{unwrap_or, refl, ap, ◌∙◌, arith, length-append, append_assoc}
use Rattle.std.proofs.lemmas.List.{drop-replicate, length-replicate}
use Rattle.std.specs.Int.{from_bool}
use Rattle.sector_base.specs.Checksum.{checksum, lvm_crc_start}
use Rattle.sector_base.specs.Fields.{little_bytes, with_bytes}
use Rattle.sector_base.proofs.Puts.{drop-with_bytes, with_bytes-behind, with_bytes-start}
use Rattle.mda_header.specs.declared.header.Locn.{Locn}
use Rattle.mda_header.specs.declared.header.MdaHeader.{MdaHeader}
use Rattle.mda_header.specs.HeaderBytes.{summed_bytes, header_bytes, locn_bytes}

-- a flag as a number
pub from_bool-cond : (flag : Bool) → from_bool flag ≡ cond flag 1 0
from_bool-cond true = refl
from_bool-cond false = refl

pub length-locn_bytes : (locn : Option Locn) (flags : ℕ) → length (locn_bytes locn flags) ≡ 24
length-locn_bytes None flags = refl
length-locn_bytes (Some locn) flags = refl

-- an entry is the fields of its text, or zeros
pub locn_bytes-fields : (locn : Option Locn) (none text : Locn) (flags : ℕ) → none.offset ≡ 0 → none.size ≡ 0 → none.sum ≡ 0
    → text ≡ unwrap_or locn none
    → ((little_bytes 8 text.offset ++ little_bytes 8 text.size) ++ little_bytes 4 text.sum) ++ little_bytes 4 flags ≡ locn_bytes locn flags
locn_bytes-fields None none text flags offset size sum is =
    ap (λ (l : Locn). ((little_bytes 8 l.offset ++ little_bytes 8 l.size) ++ little_bytes 4 l.sum) ++ little_bytes 4 flags) is
    ∙ ap (λ (n : ℕ). ((little_bytes 8 n ++ little_bytes 8 none.size) ++ little_bytes 4 none.sum) ++ little_bytes 4 flags) offset
    ∙ ap (λ (n : ℕ). ((little_bytes 8 0 ++ little_bytes 8 n) ++ little_bytes 4 none.sum) ++ little_bytes 4 flags) size
    ∙ ap (λ (n : ℕ). ((little_bytes 8 0 ++ little_bytes 8 0) ++ little_bytes 4 n) ++ little_bytes 4 flags) sum
locn_bytes-fields (Some locn) none text flags offset size sum is =
    ap (λ (l : Locn). ((little_bytes 8 l.offset ++ little_bytes 8 l.size) ++ little_bytes 4 l.sum) ++ little_bytes 4 flags) is

-- one field more, behind those before
pub one_more : (base before bytes old new : List ℕ) (at next : ℕ) → old ≡ with_bytes base at before → new ≡ with_bytes old next bytes
    → next ≡ at + length before → next ≤ length base → new ≡ with_bytes base at (before ++ bytes)
one_more base before bytes old new at next was put is fits =
    put ∙ ap (λ (s : List ℕ). with_bytes s next bytes) was ∙ with_bytes-behind base at before next bytes is fits

zeros_left : (base : List ℕ) → base ≡ replicate 512 0 → drop 88 base ≡ replicate 424 0
zeros_left base zeros = ap (drop 88) zeros ∙ drop-replicate 88 512 0

-- all fields of a header but its checksum
pub covered_put : (header : MdaHeader) (flags : ℕ) (base s1 s2 s3 s4 s5 s6 : List ℕ) → base ≡ replicate 512 0
    → flags ≡ cond header.ignored 1 0
    → s1 ≡ with_bytes base 4 (codes " LVM2 x[5A%r0N*>") → s2 ≡ with_bytes s1 20 (little_bytes 4 1)
    → s3 ≡ with_bytes s2 24 (little_bytes 8 header.start) → s4 ≡ with_bytes s3 32 (little_bytes 8 header.size)
    → s5 ≡ with_bytes s4 40 (locn_bytes header.committed flags) → s6 ≡ with_bytes s5 64 (locn_bytes header.precommitted 0)
    → drop 4 s6 ≡ summed_bytes header
unfolding summed_bytes
covered_put header flags base s1 s2 s3 s4 s5 s6 zeros is_flags put1 put2 put3 put4 put5 put6 =
    let size : length base ≡ 512 = ap length zeros ∙ length-replicate {A = ℕ} 512 0 in
    let magic : List ℕ = codes " LVM2 x[5A%r0N*>" in
    let version : List ℕ = little_bytes 4 1 in
    let start : List ℕ = little_bytes 8 header.start in
    let area : List ℕ = little_bytes 8 header.size in
    let first : List ℕ = locn_bytes header.committed flags in
    let second : List ℕ = locn_bytes header.precommitted 0 in
    let to2 : s2 ≡ with_bytes base 4 (magic ++ version) = one_more base magic version s1 s2 4 20 put1 put2 refl (omega arith) in
    let to3 : s3 ≡ with_bytes base 4 (magic ++ version ++ start) =
    one_more base (magic ++ version) start s2 s3 4 24 to2 put3 refl (omega arith) in
    let to4 : s4 ≡ with_bytes base 4 (magic ++ version ++ start ++ area) =
    one_more base (magic ++ version ++ start) area s3 s4 4 32 to3 put4 refl (omega arith) in
    let to5 : s5 ≡ with_bytes base 4 (magic ++ version ++ start ++ area ++ first) =
    one_more base (magic ++ version ++ start ++ area) first s4 s5 4 40 to4 put5 refl (omega arith) in
    let long : length (magic ++ version ++ start ++ area ++ first) ≡ 60 =
    omega (arith, length-append (magic ++ version ++ start ++ area) first, length-locn_bytes header.committed flags) in
    let to6 : s6 ≡ with_bytes base 4 (magic ++ version ++ start ++ area ++ first ++ second) =
    one_more base (magic ++ version ++ start ++ area ++ first) second s5 s6 4 64 to5 put6 (omega arith) (omega arith) in
    let longer : 4 + length (magic ++ version ++ start ++ area ++ first ++ second) ≡ 88 =
    omega (arith, length-append (magic ++ version ++ start ++ area ++ first) second, length-locn_bytes header.precommitted 0) in
    ap (drop 4) to6
    ∙ drop-with_bytes base 4 (magic ++ version ++ start ++ area ++ first ++ second) (omega arith)
    ∙ ap (λ (n : ℕ). magic ++ version ++ start ++ area ++ first ++ second ++ drop n base) longer
    ∙ ap (λ (l : List ℕ). magic ++ version ++ start ++ area ++ first ++ second ++ l) (zeros_left base zeros)
    ∙ append_assoc (magic ++ version ++ start ++ area ++ first) second (replicate 424 0)
    ∙ append_assoc (magic ++ version ++ start ++ area) first (second ++ replicate 424 0)
    ∙ ap (λ (n : ℕ). magic ++ version ++ start ++ area ++ (locn_bytes header.committed n ++ (second ++ replicate 424 0))) is_flags

-- the whole sector, once the checksum is put in front
pub header_put : (header : MdaHeader) (sum : ℕ) (s6 s7 : List ℕ) → drop 4 s6 ≡ summed_bytes header
    → sum ≡ checksum lvm_crc_start (summed_bytes header) → s7 ≡ with_bytes s6 0 (little_bytes 4 sum) → s7 ≡ header_bytes header
unfolding header_bytes
header_put header sum s6 s7 rest is_sum put =
    put
    ∙ with_bytes-start s6 (little_bytes 4 sum)
    ∙ ap (λ (l : List ℕ). little_bytes 4 sum ++ l) rest
    ∙ ap (λ (n : ℕ). little_bytes 4 n ++ summed_bytes header) is_sum
