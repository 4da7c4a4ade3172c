-- Blocks of volumes in the order of their ids.
use Rattle.std.proofs.Common.{◌≡◌, ◌↔◌, ℕ, ◌+◌, ◌-◌, ◌<◌, ◌≤◌, IsTrue, Bool, false, List, length, get_or, Result, Ok, Err, inl, inr, sym}
use Rattle.std.proofs.Common.{ap, ◌∙◌, arith}
use Rattle.std.specs.Prelude.{AllPairs}
use Rattle.std.specs.Ordering.{nat_cmp, is_lt, ordering_reverse}
use Rattle.std.specs.declared.cmp.Ordering.{Ordering}
use Rattle.std.specs.declared.cmp.Ordering.TheVariants.{Less, Equal, Greater}
use Rattle.std.specs.Result.{is_ok}
use Rattle.std.specs.Cmp.Lexicographic.{slice_cmp}
use Rattle.std.specs.List.{AllAdjacentBelow}
use Rattle.std.specs.List.Sorted.{IsBinarySearchResult, IsSearchInRange}
use Rattle.std.proofs.lemmas.Bool.{cases_lt, false≢true}
use Rattle.std.proofs.lemmas.Cmp.{nat_list_cmp_total, tied_itself}
use Rattle.std.proofs.lemmas.Map.Lookups.{exact_bytes}
use Rattle.std.proofs.lemmas.List.Elements.{Contains-get_or}
use Rattle.std.proofs.lemmas.List.Sorted.{all_adjacent_more, ranks_by, searchable_from_sorted, sorted_far}
use Rattle.meta_model.specs.declared.group.Group.{Group}
use Rattle.meta_model.specs.declared.extent_span.ExtentSpan.{ExtentSpan}
use Rattle.vg_check.specs.declared.kind.Kind.{Kind}
use Rattle.list_laws.proofs.Fronts.{same_read}
use Rattle.vg_check.specs.Ids.{id_of, HasId, IdsDifferAt, IsSortedById}

abbrev cmp : List ℕ → List ℕ → Ordering
cmp = slice_cmp nat_cmp

abbrev key_of : Group → Kind → ExtentSpan → List ℕ
key_of group kind run = id_of group kind run.on

-- what a search in a block says
pub found_tells : (group : Group) (kind : Kind) (block : List ExtentSpan) (id plain : List ℕ) (result : Result ℕ ℕ) (answer : Bool)
    → plain ≡ id → IsSortedById group kind block
    → IsBinarySearchResult (λ (y : ExtentSpan). cmp (key_of group kind y) plain) block result → IsSearchInRange result (length block)
    → answer ≡ is_ok result → IsTrue answer ↔ HasId group kind block id
found_tells group kind block id plain (Ok i) answer same sorted found within is = (
  λ yes.
      let none : ExtentSpan = record { on = 0; first = 0; count = 0 } in (
        get_or block i none,
        Contains-get_or block i none within,
        exact_bytes (key_of group kind (get_or block i none)) plain (found none) ∙ same,
      ),
  λ has. is,
)
found_tells group kind block id plain (Err i) answer same sorted found within is =
    let parts = found (searchable_from_sorted nat_list_cmp_total (key_of group kind) block plain sorted) in (
      λ yes. absurd (false≢true (sym is ∙ yes)),
      λ has.
          let k : ℕ = has.1.0 in
          let there : get_or block k has.0 ≡ has.0 = has.1.2 in
          let tie : cmp (key_of group kind (get_or block k has.0)) plain ≡ Equal =
          ap (λ (r : ExtentSpan). cmp (key_of group kind r) plain) there ∙ ap (λ x. cmp x plain) (has.2 ∙ sym same)
          ∙ tied_itself nat_list_cmp_total plain in
          elim (cases_lt k i) [
            | inl low ↦ let less : cmp (key_of group kind (get_or block k has.0)) plain ≡ Less = parts.0 k has.0 (omega arith) low in cc
            | inr high ↦ let more : cmp (key_of group kind (get_or block k has.0)) plain ≡ Greater = parts.1 k has.0 high has.1.1 in cc
          ],
    )

-- one pair of neighbours more
pub differ_more : (group : Group) (kind : Kind) (block : List ExtentSpan) (i : ℕ) (d : ExtentSpan) (a b : List ℕ) → 1 ≤ i → i < length block
    → a ≡ id_of group kind (get_or block (i - 1) d).on → b ≡ id_of group kind (get_or block i d).on → (a ≡ b → ⊥)
    → AllAdjacentBelow (IdsDifferAt group kind) block i → AllAdjacentBelow (IdsDifferAt group kind) block (i + 1)
differ_more group kind block i d a b some lt a_is b_is differ before =
    all_adjacent_more block (IdsDifferAt group kind) i some before
    (λ e same. differ (a_is ∙ ap (key_of group kind) (same_read block (i - 1) d e (omega arith)) ∙ same
    ∙ ap (key_of group kind) (same_read block i e d lt) ∙ sym b_is))

-- where neither is less they are equal
neither : (a b : Ordering) → a ≡ ordering_reverse b → is_lt a ≡ false → is_lt b ≡ false → a ≡ Equal
neither a Less turned p q = absurd (false≢true (sym q))
neither a Equal turned p q = turned
neither a Greater turned p q = absurd (false≢true (sym p ∙ ap is_lt turned))

-- in order, all differ where neighbours do
pub differ_pairs : (group : Group) (kind : Kind) (block : List ExtentSpan) → IsSortedById group kind block
    → AllAdjacentBelow (IdsDifferAt group kind) block (length block) → AllPairs (IdsDifferAt group kind) block
differ_pairs group kind block sorted near i j d lt within same =
    let key : ℕ → List ℕ = λ k. key_of group kind (get_or block k d) in
    let up : is_lt (cmp (key (i + 1)) (key i)) ≡ false = sorted i d (omega arith) (omega arith) in
    let down : is_lt (cmp (key j) (key (i + 1))) ≡ false =
    sorted_far (λ (a b : ExtentSpan). is_lt (cmp (key_of group kind a) (key_of group kind b)))
    (ranks_by nat_list_cmp_total (key_of group kind)) block sorted (i + 1) j d (omega arith) within in
    let down' : is_lt (cmp (key i) (key (i + 1))) ≡ false = ap (λ x. is_lt (cmp x (key (i + 1)))) same ∙ down in
    let tie : cmp (key i) (key (i + 1)) ≡ Equal =
    neither (cmp (key i) (key (i + 1))) (cmp (key (i + 1)) (key i)) (nat_list_cmp_total.antisymm (key i) (key (i + 1))) down' up in
    near i d (omega arith) (exact_bytes (key i) (key (i + 1)) tie)

pub pairs_near : (group : Group) (kind : Kind) (block : List ExtentSpan) → AllPairs (IdsDifferAt group kind) block
    → AllAdjacentBelow (IdsDifferAt group kind) block (length block)
pairs_near group kind block pairs k d lt = pairs k (k + 1) d (omega arith) lt
