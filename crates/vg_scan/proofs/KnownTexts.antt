-- A text that was read before is known again by its bytes.
use Rattle.std.proofs.Common.{◌≡◌, ℕ, ◌+◌, ◌-◌, ◌<◌, ◌++◌, List, [], ◌∷◌, length, take, slice_index_or, slice_get, Bool, true, false, ◌==◌}
use Rattle.std.proofs.Common.{if◌then◌else◌, option_map, unwrap_or, Option, Some, refl, sym, ap, ◌∙◌, arith}
use Rattle.std.proofs.lemmas.Bool.Decides.{nat_tests}
use Rattle.std.proofs.lemmas.List.{length_push, take_all, take_more}
use Rattle.sector_base.specs.Checksum.{checksum, lvm_crc_start}
use Rattle.mda_header.specs.declared.header.Locn.{Locn}
use Rattle.mda_ring.specs.Texts.{without_zero}
use Rattle.scan_rules.specs.Decision.{HoldsNone}
use Rattle.scan_rules.specs.Readings.{copied, gives_of}
use Rattle.scan_rules.specs.declared.readings.AreaGives.TheVariants.{Copy as Numbered}
use Rattle.scan_rules.specs.declared.readings.GroupCopy.{GroupCopy}
use Rattle.vg_scan.specs.Collected.{IsKnown}
use Rattle.vg_scan.specs.Texts.{IsStored}

-- ---- two byte lists of one length that are the same without a zero byte at their ends

abbrev ends_zero : List ℕ → Bool
ends_zero a = slice_index_or a (length a - 1) 1 == 0

cut_true : (a : List ℕ) → ends_zero a ≡ true → without_zero a ≡ take (length a - 1) a
cut_true a e = ap (λ (b : Bool). if b then take (length a - 1) a else a) e

cut_false : (a : List ℕ) → ends_zero a ≡ false → without_zero a ≡ a
cut_false a e = ap (λ (b : Bool). if b then take (length a - 1) a else a) e

is_zero : (n : ℕ) → (n == 0) ≡ true → n ≡ 0
is_zero n e = grind (arith, nat_tests)

some_at_end : (a : List ℕ) → ends_zero a ≡ true → 0 < length a
some_at_end [] e = absurd cc
some_at_end (x ∷ a) e = omega arith

whole_again : (a : List ℕ) → ends_zero a ≡ true → take (length a - 1) a ++ 0 ∷ [] ≡ a
whole_again a e =
    let some : 0 < length a = some_at_end a e in
    let next : (length a - 1) + 1 ≡ length a = omega arith in
    ap (λ (n : ℕ). take (length a - 1) a ++ n ∷ []) (sym (is_zero (slice_index_or a (length a - 1) 1) e))
    ∙ sym (take_more a (length a - 1) 1 (omega arith))
    ∙ ap (λ (n : ℕ). take n a) next
    ∙ take_all (length a) a (omega arith)

cut_length : (a : List ℕ) → ends_zero a ≡ true → length (without_zero a) + 1 ≡ length a
cut_length a e =
    let some : 0 < length a = some_at_end a e in
    let long : length (take (length a - 1) a ++ 0 ∷ []) ≡ length (take (length a - 1) a) + 1 = length_push (take (length a - 1) a) 0 in
    let whole : length (take (length a - 1) a ++ 0 ∷ []) ≡ length a = ap length (whole_again a e) in
    let cut : length (without_zero a) ≡ length (take (length a - 1) a) = ap length (cut_true a e) in
    omega arith

same_by_ends : (a b : List ℕ) (x y : Bool) → ends_zero a ≡ x → ends_zero b ≡ y → length a ≡ length b → without_zero a ≡ without_zero b
    → a ≡ b
same_by_ends a b true true ea eb long same =
    sym (whole_again a ea) ∙ ap (λ (l : List ℕ). l ++ 0 ∷ []) (sym (cut_true a ea) ∙ same ∙ cut_true b eb) ∙ whole_again b eb
same_by_ends a b true false ea eb long same =
    let cut : length (without_zero a) + 1 ≡ length a = cut_length a ea in
    let kept : length (without_zero a) ≡ length b = ap length (same ∙ cut_false b eb) in
    absurd (omega arith)
same_by_ends a b false true ea eb long same =
    let cut : length (without_zero b) + 1 ≡ length b = cut_length b eb in
    let kept : length (without_zero b) ≡ length a = ap length (sym same ∙ cut_false a ea) in
    absurd (omega arith)
same_by_ends a b false false ea eb long same = sym (cut_false a ea) ∙ same ∙ cut_false b eb

pub same_stored : (a b : List ℕ) → length a ≡ length b → without_zero a ≡ without_zero b → a ≡ b
same_stored a b long same = same_by_ends a b (ends_zero a) (ends_zero b) refl refl long same

-- ---- the copies that are known

-- a copy is that of other bytes of one size, where its text is stored as these
pub known_again : (entry locn : Locn) (copy : GroupCopy) (bytes : List ℕ) → IsKnown entry copy → entry.size ≡ locn.size
    → entry.sum ≡ locn.sum → length bytes ≡ locn.size → copy.text ≡ without_zero bytes
    → IsStored locn bytes (copied copy)
known_again entry locn copy bytes known size sum long text =
    let same : known.bytes ≡ bytes = same_stored known.bytes bytes (known.size_is ∙ size ∙ sym long) (sym known.stored.0.text_is ∙ text) in
    (record { agrees = ap (checksum lvm_crc_start) (sym same) ∙ known.stored.0.agrees ∙ sum; text_is = text }, known.stored.1)

pub gives_number : (copies : List GroupCopy) (i : ℕ) (copy : GroupCopy) → slice_get copies i ≡ Some copy
    → gives_of copies (Numbered i) ≡ copied copy
gives_number copies i copy at = ap (λ (o : Option GroupCopy). unwrap_or (option_map copied o) HoldsNone) at
