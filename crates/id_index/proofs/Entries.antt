-- A tree of entries is seen as the finite map of them.
use Rattle.std.proofs.Common.{◌≡◌, ℕ, Bool, cond, List, [], ◌∷◌, Some, refl, sym, ap, ◌∙◌}
use Rattle.std.specs.Cmp.{eq_by_cmp_equiv}
use Rattle.std.specs.Cmp.Lexicographic.{nat_list_cmp_total, slice_cmp}
use Rattle.std.specs.Ordering.{eq_by_cmp, nat_cmp}
use Rattle.std.specs.Map.{lookup}
use Rattle.std.specs.FinMap as map
use Rattle.std.specs.FinMap.{find, get-from_entries, get-insert, nat_cmp-IsAntisymmetric, same_map, slice_cmp-IsAntisymmetric}

found : (id : List ℕ) (es : List (List ℕ × ℕ)) → lookup (eq_by_cmp (slice_cmp nat_cmp) id) es ≡ find (slice_cmp nat_cmp) id es
found id [] = refl
found id (e ∷ es) = ap (cond (eq_by_cmp (slice_cmp nat_cmp) id e.0) (Some e.1)) (found id es)

-- what is looked up in the entries is what the map has
pub lookup-is : (es : List (List ℕ × ℕ)) (id : List ℕ)
    → lookup (eq_by_cmp (slice_cmp nat_cmp) id) es ≡ map.get {R = slice_cmp nat_cmp} (map.from_entries es) id
lookup-is es id = found id es ∙ sym (get-from_entries nat_list_cmp_total es id)

-- entries in which one number was put are the map with that
pub insert-is : (es fs : List (List ℕ × ℕ)) (id : List ℕ) (number : ℕ)
    → ((q : List ℕ) → lookup (eq_by_cmp (slice_cmp nat_cmp) q) fs
    ≡ cond (eq_by_cmp (slice_cmp nat_cmp) id q) (Some number) (lookup (eq_by_cmp (slice_cmp nat_cmp) q) es))
    → map.from_entries {R = slice_cmp nat_cmp} fs ≡ map.insert (map.from_entries es) id number
insert-is es fs id number updates =
    same_map nat_list_cmp_total (slice_cmp-IsAntisymmetric nat_cmp-IsAntisymmetric) _ _ (λ q.
    sym (lookup-is fs q)
    ∙ updates q
    ∙ ap (λ (b : Bool). cond b (Some number) (lookup (eq_by_cmp (slice_cmp nat_cmp) q) es)) ((eq_by_cmp_equiv nat_list_cmp_total).symm id q)
    ∙ ap (cond (eq_by_cmp (slice_cmp nat_cmp) q id) (Some number)) (lookup-is es q)
    ∙ sym (get-insert nat_list_cmp_total (map.from_entries es) id number q))
