-- A block of volumes whose ids stand apart.
use Rattle.std.proofs.Common.{◌≡◌, ◌↔◌, ℕ, zero, suc, ◌+◌, ◌-◌, ◌<◌, ◌≤◌, IsTrue, Bool, List, [], ◌∷◌, length, get_or, inl, inr, sym, ap}
use Rattle.std.proofs.Common.{subst, ◌∙◌, arith}
use Rattle.std.specs.Prelude.{AllPairs, Contains}
use Rattle.std.specs.List.{AllAdjacentBelow}
use Rattle.std.specs.List.Sorted.{IsPermutation}
use Rattle.std.proofs.lemmas.Bool.{cases_lt}
use Rattle.std.proofs.lemmas.List.Elements.{Contains-get_or}
use Rattle.std.proofs.lemmas.List.Sorted.{Contains-permutation, IsPermutation-sym}
use Rattle.meta_model.specs.declared.group.Group.{Group}
use Rattle.meta_model.specs.declared.extent_span.ExtentSpan.{ExtentSpan}
use Rattle.volume_rules.proofs.LegRuns.{contains_first, contains_later}
use Rattle.volume_rules.proofs.Permuted.{pairs_permuted}
use Rattle.vg_check.specs.declared.kind.Kind.{Kind}
use Rattle.vg_check.specs.declared.kind.Kind.TheVariants as volumes
use Rattle.list_laws.proofs.Fronts.{same_read}
use Rattle.vg_check.specs.Ids.{id_of, ids_before, kind_ids, HasId, IdsDifferAt, IdsStandApart, IsNumbered, IsSortedById, NoneBeforeHas}
use Rattle.vg_check.specs.Ids.{NoneHas}
use Rattle.vg_check.proofs.SortedIds.{differ_pairs, pairs_near}

turned : (group : Group) (kind : Kind) (a b : ExtentSpan) → IdsDifferAt group kind a b → IdsDifferAt group kind b a
turned group kind a b differ same = differ (sym same)

-- the block as it was numbered, and as it is in order
record Block (from to : ℕ) (filled block : List ExtentSpan) : Type 0 where
  numbered : IsNumbered from (length filled) filled
  moved : IsPermutation filled block
  long : from + length filled ≡ to

named : (from to : ℕ) (filled block : List ExtentSpan) → Block from to filled block → (i : ℕ) → from ≤ i → i < to
    → (run : ExtentSpan) × Contains block run × (run.on ≡ i)
named from to filled block is i low high =
    let none : ExtentSpan = record { on = 0; first = 0; count = 0 } in
    let long : from + length filled ≡ to = is.long in
    let lt : i - from < length filled = omega arith in
    let on : (get_or filled (i - from) none).on ≡ from + (i - from) = is.numbered (i - from) none lt in (
      get_or filled (i - from) none,
      Contains-permutation filled block (get_or filled (i - from) none) is.moved
          (Contains-get_or filled (i - from) none lt),
      omega arith,
    )

number_of : (from to : ℕ) (filled block : List ExtentSpan) → Block from to filled block → (run : ExtentSpan) → Contains block run
    → (from ≤ run.on) × (run.on < to)
number_of from to filled block is run at =
    let there : Contains filled run = Contains-permutation block filled run (IsPermutation-sym filled block is.moved) at in
    let on : (get_or filled there.0 run).on ≡ from + there.0 = is.numbered there.0 run there.1 in
    let same : (get_or filled there.0 run).on ≡ run.on = ap (λ (r : ExtentSpan). r.on) there.2 in
    let long : from + length filled ≡ to = is.long in
    (omega arith, omega (arith, there.1))

-- from the block to the volumes
apart_from : (group : Group) (kind : Kind) (from to : ℕ) (filled block : List ExtentSpan) → Block from to filled block
    → IsSortedById group kind block → AllAdjacentBelow (IdsDifferAt group kind) block (length block) → NoneHas group kind block kind to
    → NoneBeforeHas group kind block
    → IdsStandApart group kind from to
apart_from group kind from to filled block is sorted near later before =
    let pairs : AllPairs (IdsDifferAt group kind) filled =
    pairs_permuted (IdsDifferAt group kind) (turned group kind) block filled (IsPermutation-sym filled block is.moved)
    (differ_pairs group kind block sorted near) in
    let long : from + length filled ≡ to = is.long in
    record {
      apart = λ i j low high less within same. elim (cases_lt j to) [
        | inl inside ↦
            let none : ExtentSpan = record { on = 0; first = 0; count = 0 } in
            let on_i : (get_or filled (i - from) none).on ≡ i =
            is.numbered (i - from) none (omega arith) ∙ (let e : from + (i - from) ≡ i = omega arith in e) in
            let on_j : (get_or filled (j - from) none).on ≡ j =
            is.numbered (j - from) none (omega arith) ∙ (let e : from + (j - from) ≡ j = omega arith in e) in
            pairs (i - from) (j - from) none (omega arith) (omega arith)
            (ap (id_of group kind) on_i ∙ same ∙ sym (ap (id_of group kind) on_j))
        | inr past ↦
            let run = named from to filled block is i low high in
            later j past within (run.0, run.1, ap (id_of group kind) run.2 ∙ same)
      ];
      before = λ i id low high at same.
          let run = named from to filled block is i low high in
          before id at (run.0, run.1, ap (id_of group kind) run.2 ∙ same);
    }

-- and back
apart_to : (group : Group) (kind : Kind) (from to : ℕ) (filled block : List ExtentSpan) → Block from to filled block
    → to ≤ length (kind_ids group kind) → IdsStandApart group kind from to
    → AllAdjacentBelow (IdsDifferAt group kind) block (length block) × NoneHas group kind block kind to × NoneBeforeHas group kind block
apart_to group kind from to filled block is within stand =
    let long : from + length filled ≡ to = is.long in
    let pairs : AllPairs (IdsDifferAt group kind) filled = λ i j d less lt same.
    let on_i : (get_or filled i d).on ≡ from + i = is.numbered i d (omega arith) in
    let on_j : (get_or filled j d).on ≡ from + j = is.numbered j d lt in
    stand.apart (from + i) (from + j) (omega arith) (omega arith) (omega arith) (omega arith)
    (sym (ap (id_of group kind) on_i) ∙ same ∙ ap (id_of group kind) on_j) in (
      pairs_near group kind block (pairs_permuted (IdsDifferAt group kind) (turned group kind) filled block is.moved pairs),
      λ number past lt has.
          let on = number_of from to filled block is has.0 has.1 in
          stand.apart has.0.on number on.0 on.1 (omega (arith, on.1)) lt has.2,
      λ id at has.
          let on = number_of from to filled block is has.0 has.1 in
          stand.before has.0.on id on.0 on.1 at has.2,
    )

-- what the tests of a block say
pub block_tells : (group : Group) (kind : Kind) (from to : ℕ) (filled block : List ExtentSpan) (answer : Bool)
    → IsNumbered from (length filled) filled → IsPermutation filled block → from + length filled ≡ to → to ≤ length (kind_ids group kind)
    → IsSortedById group kind block
    → IsTrue answer ↔ (AllAdjacentBelow (IdsDifferAt group kind) block (length block) × NoneHas group kind block kind to
    × NoneBeforeHas group kind block) → IsTrue answer ↔ IdsStandApart group kind from to
block_tells group kind from to filled block answer numbered moved long within sorted tells =
    let is : Block from to filled block = record { numbered = numbered; moved = moved; long = long } in (
      λ yes. let tests = tells.0 yes in apart_from group kind from to filled block is sorted tests.0 tests.1 tests.2,
      λ stand. tells.1 (apart_to group kind from to filled block is within stand),
    )

-- some of the volumes
pub stand_part : (group : Group) (kind : Kind) (many from to : ℕ) → to ≤ many → IdsStandApart group kind 0 many
    → IdsStandApart group kind from to
stand_part group kind many from to within stand = record {
  apart = λ i j low high. stand.apart i j (omega arith) (omega arith);
  before = λ i id low high. stand.before i id (omega arith) (omega arith);
}

-- the group's own id stands before those of either kind
own_before : (group : Group) (kind : Kind) → Contains (ids_before group kind) group.id
own_before group volumes.Pv = contains_first group.id []
own_before group volumes.Lv = contains_first group.id (kind_ids group volumes.Pv)

pub own_found : (group : Group) (kind : Kind) (block : List ExtentSpan) (id : List ℕ) → id ≡ group.id → HasId group kind block id
    → NoneBeforeHas group kind block → ⊥
own_found group kind block id same has none = none group.id (own_before group kind) (subst (HasId group kind block) same has)

-- before physical volumes there is nothing else
before_pvs : (group : Group) (kind : Kind) (block : List ExtentSpan) → (HasId group kind block group.id → ⊥) → (id : List ℕ)
    → Contains (group.id ∷ []) id → HasId group kind block id → ⊥
before_pvs group kind block not_own id (zero, lt, is) has = not_own (subst (HasId group kind block) (sym is) has)
before_pvs group kind block not_own id (suc k, lt, is) has = absurd (omega arith)

pub pvs_tell : (group : Group) (kind : Kind) (block : List ExtentSpan) (id : List ℕ) → kind ≡ volumes.Pv → id ≡ group.id
    → (HasId group kind block id → ⊥) → NoneBeforeHas group kind block
pvs_tell group kind block id is same not_own other at has =
    before_pvs group kind block (λ own. not_own (subst (HasId group kind block) (sym same) own)) other
    (subst (λ k. Contains (ids_before group k) other) is at) has

-- and before logical volumes, the physical ones
before_lvs : (group : Group) (kind : Kind) (block : List ExtentSpan) → (HasId group kind block group.id → ⊥)
    → NoneHas group kind block volumes.Pv 0 → (id : List ℕ) → Contains (group.id ∷ kind_ids group volumes.Pv) id → HasId group kind block id
    → ⊥
before_lvs group kind block not_own none id (zero, lt, is) has = not_own (subst (HasId group kind block) (sym is) has)
before_lvs group kind block not_own none id (suc k, lt, is) has =
    none k (omega arith) (omega arith) (subst (HasId group kind block)
    (sym is ∙ same_read (kind_ids group volumes.Pv) k id group.id (omega arith)) has)

pub lvs_tell : (group : Group) (kind : Kind) (block : List ExtentSpan) (id : List ℕ) (answer : Bool) → kind ≡ volumes.Lv → id ≡ group.id
    → (HasId group kind block id → ⊥) → IsTrue answer ↔ NoneHas group kind block volumes.Pv 0
    → IsTrue answer ↔ NoneBeforeHas group kind block
lvs_tell group kind block id answer is same not_own tells = (
  λ yes other at has. before_lvs group kind block (λ own. not_own (subst (HasId group kind block) (sym same) own)) (tells.0 yes) other
      (subst (λ k. Contains (ids_before group k) other) is at) has,
  λ none. tells.1 (λ number past lt has.
      none (id_of group volumes.Pv number) (subst (λ k. Contains (ids_before group k) (id_of group volumes.Pv number)) (sym is)
      (contains_later group.id (id_of group volumes.Pv number) (kind_ids group volumes.Pv)
      (Contains-get_or (kind_ids group volumes.Pv) number group.id lt))) has),
)

-- one volume more that isn't in the block
pub none_more : (group : Group) (kind : Kind) (block : List ExtentSpan) (other : Kind) (from n : ℕ) (id : List ℕ) → id ≡ id_of group other n
    → (HasId group kind block id → ⊥) → ((k : ℕ) → from ≤ k → k < n → HasId group kind block (id_of group other k) → ⊥)
    → (k : ℕ) → from ≤ k → k < n + 1 → HasId group kind block (id_of group other k) → ⊥
none_more group kind block other from n id is not_in before k past lt has =
    elim (cases_lt k n) [
      | inl less ↦ before k past less has
      | inr more ↦ let same : k ≡ n = omega arith in not_in (subst (HasId group kind block) (ap (id_of group other) same ∙ sym is) has)
    ]
