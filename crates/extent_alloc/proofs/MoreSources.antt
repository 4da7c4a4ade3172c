-- A set of volumes with one more, and with those of a walk.
use Rattle.std.proofs.Common.{◌≡◌, ℕ, ◌+◌, Bool, true, false, ◌&&◌, ◌||◌, List, drop, Some, refl, sym, ap, ◌∙◌, nat_eq}
use Rattle.std.specs.Cmp.{nat_cmp_total, nat_eq_equiv, unsigned_tied}
use Rattle.std.specs.FinSet as set
use Rattle.std.specs.List.{list_any}
use Rattle.std.specs.Ordering.{nat_cmp}
use Rattle.std.specs.Prelude.{slice_get}
use Rattle.meta_model.specs.declared.segment.On.{On}
use Rattle.meta_model.specs.declared.segment.On.TheVariants as on
use Rattle.extent_map.specs.Covered.{is_on}
use Rattle.extent_alloc.proofs.Walks.{any_here}

or_swapped : (a b : Bool) → (a || b) ≡ (b || a)
or_swapped true true = refl
or_swapped true false = refl
or_swapped false true = refl
or_swapped false false = refl

or_moved : (a b c : Bool) → ((a || b) || c) ≡ (a || (b || c))
or_moved true b c = refl
or_moved false b c = refl

-- one volume more
pub one_more : (s : set.FinSet nat_cmp) (n pv : ℕ) (o : On) → o ≡ on.Pv n
    → set.contains (set.insert s n) pv ≡ (set.contains s pv || is_on pv o)
one_more s n pv o is =
    set.contains-insert nat_cmp_total s n pv
    ∙ ap (λ b. b || set.contains s pv) (unsigned_tied pv n ∙ nat_eq_equiv.symm pv n)
    ∙ or_swapped (nat_eq n pv) (set.contains s pv)
    ∙ ap (λ b. set.contains s pv || b) (sym (ap (is_on pv) is))

-- what the first of those that are left gives, and then the others
pub some_more : {X : Type 0} (p : X → Bool) (xs : List X) (i : ℕ) (x : X) (has now : Bool) → slice_get xs i ≡ Some x → now ≡ (has || p x)
    → (now || list_any p (drop (i + 1) xs)) ≡ (has || list_any p (drop i xs))
some_more p xs i x has now at is =
    ap (λ b. b || list_any p (drop (i + 1) xs)) is
    ∙ or_moved has (p x) (list_any p (drop (i + 1) xs))
    ∙ ap (λ b. has || b) (sym (any_here p xs i x at))

-- where it gives none
pub none_more : (has more : Bool) → more ≡ false → has ≡ (has || more)
none_more true more none = refl
none_more false more none = sym none

-- a test that passes decides nothing of two
pub and_true : (a b : Bool) → a ≡ true → (a && b) ≡ b
and_true a b is = ap (λ c. c && b) is
