-- Where no disk is named unread, the set of those is empty.
use Rattle.std.proofs.Common.{◌≡◌, ◌<◌, ℕ, Bool, true, false, length, get_or, Option, Some, None, refl, sym, ap, ◌∙◌, arith}
use Rattle.std.specs.Prelude.{All}
use Rattle.std.specs.List.{range_with_len}
use Rattle.std.specs.FinSet as set
use Rattle.std.specs.Cmp.{nat_cmp_total}
use Rattle.std.specs.Ordering.{nat_cmp}
use Rattle.std.proofs.lemmas.Bool.{true≢false}
use Rattle.std.proofs.lemmas.List.FromFn.{get_or-range_with_len, length-range_with_len}
use Rattle.pv_header.proofs.Overlaps.{All-from_find}
use Rattle.vg_found.specs.declared.found.Found.{Found}
use Rattle.vg_found.specs.Shape.{HasShape}
use Rattle.vg_found.specs.Whole.{first_of}

no_number : (o : Option ℕ) → ((pv : ℕ) → ¬ (o ≡ Some pv)) → o ≡ None
no_number None other = refl
no_number (Some pv) other = absurd (other pv refl)

none_below : (pvs : set.FinSet nat_cmp) → first_of pvs ≡ None → (pv : ℕ) → pv < 64 → set.contains pvs pv ≡ false
unfolding first_of
none_below pvs none pv small =
    let all : All (λ n. set.contains pvs n ≡ false) (range_with_len 0 64) = All-from_find (set.contains pvs) (range_with_len 0 64) none in
    let at : pv ≡ get_or (range_with_len 0 64) pv 0 = sym (get_or-range_with_len 0 64 pv 0 small ∙ omega arith) in
    let count : length (range_with_len 0 64) ≡ 64 = length-range_with_len 0 64 in
    ap (λ (n : ℕ). set.contains pvs n) (at) ∙ all pv 0 (omega (arith, count, small))

pub all_read : (found : Found) (first : Option ℕ) → HasShape found → first ≡ first_of found.unread → ((pv : ℕ) → ¬ (first ≡ Some pv))
    → found.unread ≡ set.empty
all_read found first shape is other =
    let none : first_of found.unread ≡ None = sym is ∙ no_number first other in
    set.same_set nat_cmp_total set.nat_cmp-IsAntisymmetric found.unread set.empty
    (λ pv. absent pv (set.contains found.unread pv) refl ∙ sym (set.contains-empty nat_cmp pv))
  where
    absent : (pv : ℕ) (b : Bool) → set.contains found.unread pv ≡ b → b ≡ false
    absent pv true there =
        let below : pv < length found.disks = shape.unread pv there in
        absurd (true≢false (sym there ∙ none_below found.unread (sym is ∙ no_number first other) pv (omega (arith, below, shape.few))))
    absent pv false there = refl
