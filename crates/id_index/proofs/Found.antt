-- What is found by an id: the number of the first volume that has it.
use Rattle.std.proofs.Common.{◌≡◌, ℕ, ◌+◌, ◌<◌, Bool, true, false, ◌||◌, cond, List, [], ◌∷◌, length, Some, None, nat_lt, refl, sym, ap}
use Rattle.std.proofs.Common.{◌∙◌, arith}
use Rattle.std.specs.Prelude.{find, nat_eq, is_some, slice_get}
use Rattle.std.specs.Cmp.{eq_by_cmp_equiv}
use Rattle.std.specs.Cmp.Lexicographic.{nat_list_cmp_total, pointwise, slice_cmp, texts_ties}
use Rattle.std.specs.FinMap as map
use Rattle.std.specs.FinMap.{get-empty, get-insert}
use Rattle.std.specs.List.{list_any, position_from, position_or_len}
use Rattle.std.specs.Ordering.{nat_cmp}
use Rattle.std.proofs.lemmas.Bool.{ltb-false, ltb-true}
use Rattle.std.proofs.lemmas.Iterator.Adapters.{position_from-zero}
use Rattle.std.proofs.lemmas.List.Folds.{find_at}
use Rattle.std.proofs.lemmas.Option.{same_Some, slice_get_past}
use Rattle.meta_model.specs.declared.lv.Lv.{Lv}
use Rattle.meta_model.specs.declared.pv.Pv.{Pv}
use Rattle.id_index.specs.Ids.{IdNumbers, has_id, lists_id, lvs_by_id, pvs_by_id}

-- one id more
pub get_put : (ids : IdNumbers) (own : List ℕ) (number : ℕ) (id : List ℕ)
    → map.get (map.insert ids own number) id ≡ cond (pointwise nat_eq own id) (Some number) (map.get ids id)
get_put ids own number id =
    get-insert nat_list_cmp_total ids own number id
    ∙ ap (λ (b : Bool). cond b (Some number) (map.get ids id)) ((eq_by_cmp_equiv nat_list_cmp_total).symm id own ∙ sym (texts_ties own id))

-- the number at an id is that of the first that has it
pub pv_number : (id : List ℕ) (first : ℕ) (pvs : List (List ℕ × Pv))
    → map.get (pvs_by_id first pvs) id ≡ position_from (has_id id) first pvs
pv_number id first [] = get-empty (slice_cmp nat_cmp) id
pv_number id first (pv ∷ pvs) =
    get_put (pvs_by_id (first + 1) pvs) pv.1.id first id ∙ ap (cond (has_id id pv) (Some first)) (pv_number id (first + 1) pvs)

abbrev pub lv_has_id : List ℕ → List ℕ × Lv → Bool
lv_has_id id lv = pointwise nat_eq lv.1.id id

pub lv_number : (id : List ℕ) (first : ℕ) (lvs : List (List ℕ × Lv))
    → map.get (lvs_by_id first lvs) id ≡ position_from (lv_has_id id) first lvs
lv_number id first [] = get-empty (slice_cmp nat_cmp) id
lv_number id first (lv ∷ lvs) =
    get_put (lvs_by_id (first + 1) lvs) lv.1.id first id ∙ ap (cond (lv_has_id id lv) (Some first)) (lv_number id (first + 1) lvs)

-- one has a place where any passes
any_placed : {X : Type 0} (test : X → Bool) (first : ℕ) (xs : List X) → is_some (position_from test first xs) ≡ list_any test xs
any_placed test first [] = refl
any_placed {X} test first (x ∷ xs) = by (test x) (any_placed test (first + 1) xs) where
  by : (b : Bool) → is_some (position_from test (first + 1) xs) ≡ list_any test xs
      → is_some (cond b (Some first) (position_from test (first + 1) xs)) ≡ (b || list_any test xs)
  by true later = refl
  by false later = later

pub lists_pv : (id : List ℕ) (first : ℕ) (pvs : List (List ℕ × Pv)) → map.contains_key (pvs_by_id first pvs) id ≡ lists_id pvs id
lists_pv id first pvs = ap is_some (pv_number id first pvs) ∙ any_placed (has_id id) first pvs

pub lists_lv : (id : List ℕ) (first : ℕ) (lvs : List (List ℕ × Lv))
    → map.contains_key (lvs_by_id first lvs) id ≡ list_any (lv_has_id id) lvs
lists_lv id first lvs = ap is_some (lv_number id first lvs) ∙ any_placed (lv_has_id id) first lvs

-- the first that passes stands at its place
pub found_at : {X : Type 0} (test : X → Bool) (xs : List X) (number : ℕ) → position_from test 0 xs ≡ Some number
    → (number < length xs) × (find test xs ≡ slice_get xs number)
found_at test xs number is = by (nat_lt (position_or_len test xs) (length xs)) refl (position_from-zero test xs ∙ is) where
  by : (b : Bool) → nat_lt (position_or_len test xs) (length xs) ≡ b → cond b (Some (position_or_len test xs)) None ≡ Some number
      → (number < length xs) × (find test xs ≡ slice_get xs number)
  by true within at =
      let same : position_or_len test xs ≡ number = same_Some (position_or_len test xs) number at in
      let below : position_or_len test xs < length xs = ltb-true (position_or_len test xs) (length xs) within in
      (let e : number < length xs = omega (arith, below, same) in e, find_at test xs ∙ ap (slice_get xs) same)
  by false within at = cc

pub found_none : {X : Type 0} (test : X → Bool) (xs : List X) → position_from test 0 xs ≡ None → find test xs ≡ None
found_none test xs is = by (nat_lt (position_or_len test xs) (length xs)) refl (position_from-zero test xs ∙ is) where
  by : (b : Bool) → nat_lt (position_or_len test xs) (length xs) ≡ b → cond b (Some (position_or_len test xs)) None ≡ None
      → find test xs ≡ None
  by true within at = cc
  by false within at =
      find_at test xs ∙ slice_get_past xs (position_or_len test xs) (ltb-false (position_or_len test xs) (length xs) within)
