-- The bytes of a header are read as that header.
use Rattle.std.proofs.Common.{◌≡◌, ◌<◌, ◌≤◌, ◌↔◌, IsTrue, ℕ, ◌+◌, ◌%◌, ◌^◌, Bool, true, false, List, ◌++◌, drop, replicate, Option, None}
use Rattle.std.proofs.Common.{Some, IfSome, if◌then◌else◌, refl, sym, ◌∙◌, arith}
use Rattle.std.proofs.lemmas.Bool.{true≢false}
use Rattle.sector_base.specs.Checksum.{checksum, lvm_crc_start}
use Rattle.sector_base.specs.Fields.{field, little_bytes}
use Rattle.sector_base.proofs.Puts.{field-front}
use Rattle.mda_header.specs.declared.header.Locn.{Locn}
use Rattle.mda_header.specs.declared.header.MdaHeader.{MdaHeader}
use Rattle.mda_header.specs.Header.{IsCommitted, IsHeader, IsInside, IsPrecommitted, IsSound, locn_at}
use Rattle.mda_header.specs.HeaderBytes.{IsNoneOrInside, summed_bytes, header_bytes}

abbrev of_fields : ℕ → ℕ → Option Locn → Option Locn → Bool → MdaHeader
of_fields start size committed precommitted ignored =
    record { start = start; size = size; committed = committed; precommitted = precommitted; ignored = ignored }

-- an entry is read where it stands
entry_read : (sector rest : List ℕ) (at : ℕ) (size flags : ℕ) (locn : Locn) → size < 256 ^ 8 → locn.sum < 2 ^ 32 → IsInside size locn
    → field 8 sector at ≡ field 8 (little_bytes 8 locn.offset
    ++ (little_bytes 8 locn.size ++ (little_bytes 4 locn.sum ++ little_bytes 4 flags)) ++ rest) 0
    → field 8 sector (at + 8) ≡ field 8 (little_bytes 8 locn.size ++ (little_bytes 4 locn.sum ++ little_bytes 4 flags) ++ rest) 0
    → field 4 sector (at + 16) ≡ field 4 (little_bytes 4 locn.sum ++ little_bytes 4 flags ++ rest) 0
    → (locn ≡ locn_at sector at) × IsInside size locn
entry_read sector rest at size flags locn fits sum_fits inside offset_is size_is sum_is =
    let low : locn.offset < 256 ^ 8 = omega (arith, inside.before_end) in
    let short : locn.size < 256 ^ 8 = omega (arith, inside.has_room) in (
      λ i. record {
        offset =
            sym (offset_is ∙ field-front 8 locn.offset
            (little_bytes 8 locn.size ++ (little_bytes 4 locn.sum ++ little_bytes 4 flags) ++ rest) low) i;
        size = sym (size_is ∙ field-front 8 locn.size (little_bytes 4 locn.sum ++ little_bytes 4 flags ++ rest) short) i;
        sum = sym (sum_is ∙ field-front 4 locn.sum (little_bytes 4 flags ++ rest) sum_fits) i;
      },
      inside,
    )

committed_read : (start size : ℕ) (committed precommitted : Option Locn) (ignored : Bool) → size < 256 ^ 8
    → IfSome committed (λ text. text.sum < 2 ^ 32) → IsNoneOrInside size committed
    → IsCommitted (header_bytes (of_fields start size committed precommitted ignored)) size committed
unfolding header_bytes summed_bytes
committed_read start size None precommitted ignored fits sum inside = refl
committed_read start size (Some locn) precommitted ignored fits sum inside =
    entry_read (header_bytes (of_fields start size (Some locn) precommitted ignored))
    (drop 64 (header_bytes (of_fields start size (Some locn) precommitted ignored))) 40 size (if ignored then 1 else 0) locn fits sum
    inside refl refl refl

precommitted_read : (start size : ℕ) (committed precommitted : Option Locn) (ignored : Bool) → size < 256 ^ 8
    → IfSome precommitted (λ text. text.sum < 2 ^ 32) → IsNoneOrInside size precommitted
    → IsPrecommitted (header_bytes (of_fields start size committed precommitted ignored)) size precommitted
unfolding header_bytes summed_bytes
precommitted_read start size None None ignored fits sum inside = λ is. let behind : 512 ≤ 0 = is.behind_header in absurd (omega arith)
precommitted_read start size (Some first) None ignored fits sum inside =
    λ is. let behind : 512 ≤ 0 = is.behind_header in absurd (omega arith)
precommitted_read start size None (Some locn) ignored fits sum inside =
    entry_read (header_bytes (of_fields start size None (Some locn) ignored)) (replicate 424 0) 64 size 0 locn fits sum inside refl refl
    refl
precommitted_read start size (Some first) (Some locn) ignored fits sum inside =
    entry_read (header_bytes (of_fields start size (Some first) (Some locn) ignored)) (replicate 424 0) 64 size 0 locn fits sum inside refl
    refl refl

ignored_read : (start size : ℕ) (committed precommitted : Option Locn) (ignored : Bool)
    → IsTrue ignored ↔ (field 4 (header_bytes (of_fields start size committed precommitted ignored)) 60 % 2 ≡ 1)
unfolding header_bytes summed_bytes
ignored_read start size None precommitted true = (λ _. refl, λ _. refl)
ignored_read start size (Some locn) precommitted true = (λ _. refl, λ _. refl)
ignored_read start size None precommitted false = (λ h. absurd (true≢false (sym h)), λ h. let no : 0 ≡ 1 = h in absurd (omega arith))
ignored_read start size (Some locn) precommitted false = (λ h. absurd (true≢false (sym h)), λ h. let no : 0 ≡ 1 = h in absurd (omega arith))

sound_read : (header : MdaHeader) → checksum lvm_crc_start (summed_bytes header) < 256 ^ 4 → IsSound (header_bytes header)
unfolding header_bytes summed_bytes
sound_read header fits = record {
  checksum_is = field-front 4 (checksum lvm_crc_start (summed_bytes header)) (summed_bytes header) fits;
  magic = refl;
  version = refl;
}

pub header_read : (start size : ℕ) (committed precommitted : Option Locn) (ignored : Bool) → start < 256 ^ 8 → size < 256 ^ 8
    → IfSome committed (λ text. text.sum < 2 ^ 32) → IfSome precommitted (λ text. text.sum < 2 ^ 32)
    → checksum lvm_crc_start (summed_bytes (of_fields start size committed precommitted ignored)) < 256 ^ 4 → IsNoneOrInside size committed
    → IsNoneOrInside size precommitted
    → IsHeader (header_bytes (of_fields start size committed precommitted ignored)) (of_fields start size committed precommitted ignored)
unfolding header_bytes summed_bytes
header_read start size committed precommitted ignored start_fits size_fits sum sum' fits inside inside' = record {
  sound = sound_read (of_fields start size committed precommitted ignored) fits;
  start = field-front 8 start (drop 32 (header_bytes (of_fields start size committed precommitted ignored))) start_fits;
  size = field-front 8 size (drop 40 (header_bytes (of_fields start size committed precommitted ignored))) size_fits;
  committed = committed_read start size committed precommitted ignored size_fits sum inside;
  precommitted = precommitted_read start size committed precommitted ignored size_fits sum' inside';
  ignored = ignored_read start size committed precommitted ignored;
}
