-- At most one physical volume of a group has an id, so the first that has it decides.
use Rattle.std.proofs.Common.{◌≡◌, ◌≢◌, ℕ, suc, ◌<◌, Bool, true, false, ◌&&◌, ◌||◌, cond, List, [], ◌∷◌, ◌++◌, length, Some, refl, sym}
use Rattle.std.proofs.Common.{subst, arith}
use Rattle.std.specs.Prelude.{AllPairs, find, map, option_map, slice_index_or, unwrap_or}
use Rattle.std.specs.List.{AllByRecursion, list_any}
use Rattle.std.specs.Str.{bytes_eq}
use Rattle.meta_model.specs.declared.group.Group.{Group}
use Rattle.meta_model.specs.declared.lv.Lv.{Lv}
use Rattle.meta_model.specs.declared.pv.Pv.{Pv}
use Rattle.id_index.specs.Ids.{has_id, pv_with}
use Rattle.volume_rules.specs.Rules.{IdsDiffer}
use Rattle.scan_rules.proofs.Scanning.{same_bytes_tells}

-- none of the others has the id of one
abbrev Differ : List (List ℕ × Pv) → Type 0
Differ [] = Unit {0}
Differ (pv ∷ pvs) = AllByRecursion (λ (other : List ℕ × Pv). pv.1.id ≢ other.1.id) pvs × Differ pvs

abbrev ids : List (List ℕ × Pv) → List (List ℕ)
ids pvs = map (λ (pv : List ℕ × Pv). pv.1.id) pvs

none_again : (id : List ℕ) (pvs : List (List ℕ × Pv)) (rest : List (List ℕ))
    → ((j : ℕ) (d : List ℕ) → j < length (ids pvs ++ rest) → id ≢ slice_index_or (ids pvs ++ rest) j d)
    → AllByRecursion (λ (other : List ℕ × Pv). id ≢ other.1.id) pvs
none_again id [] rest differ = tt
none_again id (pv ∷ pvs) rest differ =
    (differ 0 [] (omega arith), none_again id pvs rest (λ j d within. differ (suc j) d (omega (arith, within))))

all_differ : (pvs : List (List ℕ × Pv)) (rest : List (List ℕ)) → AllPairs (λ (a b : List ℕ). a ≢ b) (ids pvs ++ rest) → Differ pvs
all_differ [] rest pairs = tt
all_differ (pv ∷ pvs) rest pairs = (
  none_again pv.1.id pvs rest (λ j d within. pairs 0 (suc j) d (omega arith) (omega (arith, within))),
  all_differ pvs rest (λ i j d less within. pairs (suc i) (suc j) d (omega (arith, less)) (omega (arith, within))),
)

pvs_differ : (group : Group) → IdsDiffer group → Differ group.pvs
pvs_differ group pairs =
    all_differ group.pvs (map (λ (lv : List ℕ × Lv). lv.1.id) group.lvs)
    (λ i j d less within. pairs (suc i) (suc j) d (omega (arith, less)) (omega (arith, within)))

-- the physical volumes with an id for which this holds
abbrev IsSo : List ℕ → (Pv → Bool) → List ℕ × Pv → Bool
IsSo id test pv = bytes_eq pv.1.id id && test pv.1

none_so : (id : List ℕ) (test : Pv → Bool) (pvs : List (List ℕ × Pv)) → AllByRecursion (λ (other : List ℕ × Pv). id ≢ other.1.id) pvs
    → list_any (IsSo id test) pvs ≡ false
none_so id test [] differ = refl
none_so id test (pv ∷ pvs) differ = by (bytes_eq pv.1.id id) refl (none_so id test pvs differ.1) where
  by : (b : Bool) → bytes_eq pv.1.id id ≡ b → list_any (IsSo id test) pvs ≡ false
      → ((b && test pv.1) || list_any (IsSo id test) pvs) ≡ false
  by true same none = absurd (differ.0 (sym (same_bytes_tells pv.1.id id same)))
  by false other none = none

first_so : (id : List ℕ) (test : Pv → Bool) (pvs : List (List ℕ × Pv)) → Differ pvs
    → unwrap_or (option_map test (pv_with pvs id)) false ≡ list_any (IsSo id test) pvs
first_so id test [] differ = refl
first_so id test (pv ∷ pvs) differ =
    by (bytes_eq pv.1.id id) refl (first_so id test pvs differ.1)
  where
    alone : (b later : Bool) → later ≡ false → b ≡ (b || later)
    alone true later none = refl
    alone false later none = sym none

    by : (b : Bool) → bytes_eq pv.1.id id ≡ b → unwrap_or (option_map test (pv_with pvs id)) false ≡ list_any (IsSo id test) pvs
        → unwrap_or (option_map test (option_map (λ (x : List ℕ × Pv). x.1) (cond b (Some pv) (find (has_id id) pvs)))) false
        ≡ ((b && test pv.1) || list_any (IsSo id test) pvs)
    by true same later =
        alone (test pv.1) (list_any (IsSo id test) pvs)
        (none_so id test pvs (subst (λ (x : List ℕ). AllByRecursion (λ (other : List ℕ × Pv). x ≢ other.1.id) pvs)
        (same_bytes_tells pv.1.id id same) differ.0))
    by false other later = later

pub first_decides : (group : Group) (id : List ℕ) (test : Pv → Bool) → IdsDiffer group
    → unwrap_or (option_map test (pv_with group.pvs id)) false
    ≡ list_any (λ (pv : List ℕ × Pv). bytes_eq pv.1.id id && test pv.1) group.pvs
first_decides group id test differ = first_so id test group.pvs (pvs_differ group differ)
