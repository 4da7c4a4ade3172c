-- The ids of a group differ where those of each kind stand apart.
use Rattle.std.proofs.Common.{◌≡◌, ◌≢◌, ◌↔◌, ℕ, zero, suc, IsTrue, Bool, false, List, [], ◌∷◌, ◌++◌, length, get_or, inl, inr, sym, ◌∙◌}
use Rattle.std.proofs.Common.{arith}
use Rattle.std.specs.Prelude.{AllPairs, Contains}
use Rattle.std.proofs.lemmas.Bool.{false≢true}
use Rattle.std.proofs.lemmas.List.Elements.{Contains-get_or, Contains-append_left, Contains-append_right, Contains-append_cases}
use Rattle.meta_model.specs.declared.group.Group.{Group}
use Rattle.volume_rules.specs.Rules.{IdsDiffer}
use Rattle.volume_rules.proofs.LegRuns.{contains_first, contains_later}
use Rattle.vg_check.specs.declared.kind.Kind.{Kind}
use Rattle.vg_check.specs.declared.kind.Kind.TheVariants as kind
use Rattle.list_laws.proofs.Fronts.{same_read}
use Rattle.vg_check.specs.Ids.{id_of, ids_before, kind_ids, IdsStandApart}

abbrev Differ : List ℕ → List ℕ → Type 0
Differ a b = a ≢ b

pairs_cons : (x : List ℕ) (xs : List (List ℕ)) → ((y : List ℕ) → Contains xs y → Differ x y) → AllPairs Differ xs → AllPairs Differ (x ∷ xs)
pairs_cons x xs first rest i zero d less lt = absurd (omega arith)
pairs_cons x xs first rest zero (suc j) d less lt = first (get_or xs j d) (Contains-get_or xs j d (omega arith))
pairs_cons x xs first rest (suc i) (suc j) d less lt = rest i j d (omega arith) (omega arith)

pairs_head : (x : List ℕ) (xs : List (List ℕ)) (y : List ℕ) → AllPairs Differ (x ∷ xs) → Contains xs y → Differ x y
pairs_head x xs y pairs at same = pairs zero (suc at.0) y (omega arith) (omega (arith, at.1)) (same ∙ sym at.2)

pairs_tail : (x : List ℕ) (xs : List (List ℕ)) → AllPairs Differ (x ∷ xs) → AllPairs Differ xs
pairs_tail x xs pairs i j d less lt = pairs (suc i) (suc j) d (omega arith) (omega arith)

pairs_append : (xs ys : List (List ℕ)) → AllPairs Differ xs → AllPairs Differ ys
    → ((x y : List ℕ) → Contains xs x → Contains ys y → Differ x y) → AllPairs Differ (xs ++ ys)
pairs_append [] ys first second cross = second
pairs_append (x ∷ xs) ys first second cross =
    pairs_cons x (xs ++ ys)
    (λ y at. elim (Contains-append_cases xs ys y at)
    [ inl here ↦ pairs_head x xs y first here | inr there ↦ cross x y (contains_first x xs) there ])
    (pairs_append xs ys (pairs_tail x xs first) second (λ z y at. cross z y (contains_later x z xs at)))

pairs_left : (xs ys : List (List ℕ)) → AllPairs Differ (xs ++ ys) → AllPairs Differ xs
pairs_left [] ys pairs = λ i j d less lt. absurd (omega arith)
pairs_left (x ∷ xs) ys pairs =
    pairs_cons x xs (λ y at. pairs_head x (xs ++ ys) y pairs (Contains-append_left xs ys y at))
    (pairs_left xs ys (pairs_tail x (xs ++ ys) pairs))

pairs_right : (xs ys : List (List ℕ)) → AllPairs Differ (xs ++ ys) → AllPairs Differ ys
pairs_right [] ys pairs = pairs
pairs_right (x ∷ xs) ys pairs = pairs_right xs ys (pairs_tail x (xs ++ ys) pairs)

pairs_cross : (xs ys : List (List ℕ)) → AllPairs Differ (xs ++ ys) → (x y : List ℕ) → Contains xs x → Contains ys y → Differ x y
pairs_cross [] ys pairs x y at there = absurd (omega (arith, at.1))
pairs_cross (z ∷ xs) ys pairs x y (zero, lt, is) there =
    λ same. pairs_head z (xs ++ ys) y pairs (Contains-append_right xs ys y there) (is ∙ same)
pairs_cross (z ∷ xs) ys pairs x y (suc k, lt, is) there = pairs_cross xs ys (pairs_tail z (xs ++ ys) pairs) x y (k, omega arith, is) there

-- of one kind
pairs_from : (group : Group) (kind : Kind) → IdsStandApart group kind 0 (length (kind_ids group kind))
    → AllPairs Differ (kind_ids group kind)
pairs_from group kind stand i j d less lt same =
    stand.apart i j (omega arith) (omega arith) less lt
    (same_read (kind_ids group kind) i group.id d (omega arith) ∙ same ∙ same_read (kind_ids group kind) j d group.id lt)

before_from : (group : Group) (kind : Kind) → IdsStandApart group kind 0 (length (kind_ids group kind)) → (x id : List ℕ)
    → Contains (kind_ids group kind) x → Contains (ids_before group kind) id → Differ x id
before_from group kind stand x id at there same =
    stand.before at.0 id (omega arith) at.1 there (same_read (kind_ids group kind) at.0 group.id x at.1 ∙ at.2 ∙ same)

stand_from : (group : Group) (kind : Kind) → AllPairs Differ (kind_ids group kind)
    → ((x id : List ℕ) → Contains (kind_ids group kind) x → Contains (ids_before group kind) id → Differ x id)
    → IdsStandApart group kind 0 (length (kind_ids group kind))
stand_from group kind pairs before = record {
  apart = λ i j low high less lt. pairs i j group.id less lt;
  before = λ i id low high at. before (id_of group kind i) id (Contains-get_or (kind_ids group kind) i group.id high) at;
}

abbrev pvs : Group → List (List ℕ)
pvs group = kind_ids group kind.Pv

abbrev lvs : Group → List (List ℕ)
lvs group = kind_ids group kind.Lv

ids_tell : (group : Group) → IdsStandApart group kind.Pv 0 (length (pvs group)) → IdsStandApart group kind.Lv 0 (length (lvs group))
    → IdsDiffer group
ids_tell group first second =
    pairs_cons group.id (pvs group ++ lvs group)
    (λ y at same. elim (Contains-append_cases (pvs group) (lvs group) y at) [
      | inl here ↦ before_from group kind.Pv first y group.id here (contains_first group.id []) (sym same)
      | inr there ↦ before_from group kind.Lv second y group.id there (contains_first group.id (pvs group)) (sym same)
    ])
    (pairs_append (pvs group) (lvs group) (pairs_from group kind.Pv first) (pairs_from group kind.Lv second)
    (λ x y at there same. before_from group kind.Lv second y x there (contains_later group.id x (pvs group) at) (sym same)))

pv_before : (group : Group) → IdsDiffer group → (x id : List ℕ) → Contains (pvs group) x → Contains (group.id ∷ []) id → Differ x id
pv_before group differ x id at (zero, lt, is) same =
    pairs_head group.id (pvs group ++ lvs group) x differ (Contains-append_left (pvs group) (lvs group) x at) (is ∙ sym same)
pv_before group differ x id at (suc k, lt, is) same = absurd (omega arith)

lv_before : (group : Group) → IdsDiffer group → (x id : List ℕ) → Contains (lvs group) x → Contains (group.id ∷ pvs group) id → Differ x id
lv_before group differ x id at (zero, lt, is) same =
    pairs_head group.id (pvs group ++ lvs group) x differ (Contains-append_right (pvs group) (lvs group) x at) (is ∙ sym same)
lv_before group differ x id at (suc k, lt, is) same =
    pairs_cross (pvs group) (lvs group) (pairs_tail group.id (pvs group ++ lvs group) differ) id x (k, omega arith, is) at (sym same)

ids_show : (group : Group) → IdsDiffer group
    → IdsStandApart group kind.Pv 0 (length (pvs group)) × IdsStandApart group kind.Lv 0 (length (lvs group))
ids_show group differ =
    let volumes : AllPairs Differ (pvs group ++ lvs group) = pairs_tail group.id (pvs group ++ lvs group) differ in (
      stand_from group kind.Pv (pairs_left (pvs group) (lvs group) volumes) (pv_before group differ),
      stand_from group kind.Lv (pairs_right (pvs group) (lvs group) volumes) (lv_before group differ),
    )

-- what the tests of both kinds say
pub first_fails : (group : Group) (answer : Bool) → answer ≡ false
    → IsTrue answer ↔ IdsStandApart group kind.Pv 0 (length (kind_ids group kind.Pv)) → IsTrue answer ↔ IdsDiffer group
first_fails group answer fails tells = (λ yes. absurd (false≢true (sym fails ∙ yes)), λ differ. tells.1 (ids_show group differ).0)

pub second_tells : (group : Group) (answer : Bool) → IdsStandApart group kind.Pv 0 (length (kind_ids group kind.Pv))
    → IsTrue answer ↔ IdsStandApart group kind.Lv 0 (length (kind_ids group kind.Lv)) → IsTrue answer ↔ IdsDiffer group
second_tells group answer first tells = (λ yes. ids_tell group first (tells.0 yes), λ differ. tells.1 (ids_show group differ).1)
