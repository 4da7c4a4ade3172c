-- The names of volumes, each of which stands once: where they stand, and that what legs lie on is found by them.
use Rattle.std.proofs.Common.{◌≡◌, ◌<◌, ℕ, zero, suc, ◌+◌, Bool, true, false, ◌||◌, cond, List, [], ◌∷◌, ◌++◌, length, get_or, map}
use Rattle.std.proofs.Common.{Option, Some, None, inl, inr, refl, sym, ap, subst, ◌∙◌, arith}
use Rattle.std.specs.Prelude.{nat_eq, is_none, option_map, slice_get}
use Rattle.std.specs.Option.{option_or}
use Rattle.std.specs.List.{list_any, position, position_from}
use Rattle.std.specs.Cmp.Lexicographic.{pointwise}
use Rattle.std.proofs.lemmas.Bool.{or_from}
use Rattle.std.proofs.lemmas.Iterator.Adapters.{position_from-zero}
use Rattle.std.proofs.lemmas.List.Quantifiers.{position-Some}
use Rattle.std.proofs.lemmas.Option.{get_or_from_slice_get, same_Some, slice_get-get_or}
use Rattle.lvm_name.specs.Names.{any_name_refusal, is_among}
use Rattle.meta_model.specs.Standing.{on_named}
use Rattle.meta_model.specs.declared.group.Group.{Group}
use Rattle.meta_model.specs.declared.lv.Lv.{Lv}
use Rattle.meta_model.specs.declared.pv.Pv.{Pv}
use Rattle.meta_model.specs.declared.segment.On.{On}
use Rattle.meta_model.specs.declared.segment.On.TheVariants as on
use Rattle.meta_print.specs.Layout.{name_of}
use Rattle.meta_print.proofs.NamesOfText.{pointwise_same}
use Rattle.meta_print.proofs.Printable.{AreNames, names_of}
use Rattle.list_laws.proofs.Inserted.{none_by}
use Rattle.group_edits.proofs.Selections.{AreSome}

abbrev pub pv_names : Group → List (List ℕ)
pv_names group = map (λ (pv : List ℕ × Pv). pv.0) group.pvs

abbrev pub lv_names : Group → List (List ℕ)
lv_names group = map (λ (lv : List ℕ × Lv). lv.0) group.lvs

-- ---- lists of names

-- one name more
pub names_pushed : (taken names : List (List ℕ)) (name : List ℕ) → is_none (any_name_refusal name) ≡ true → is_among taken name ≡ false
    → is_among names name ≡ false → AreNames taken names → AreNames taken (names ++ name ∷ [])
names_pushed taken [] name named other free are = (named, other, tt)
names_pushed taken (first ∷ names) name named other free are =
    let parts = none_by (pointwise nat_eq name first) (is_among names name) free in (
      are.0,
      are.1,
      names_pushed (first ∷ taken) names name named (or_from (pointwise nat_eq name first) (is_among taken name) parts.0 other)
          parts.1 are.2,
    )

-- some of them, where fewer are taken
some_names_from : (xs ys taken fewer : List (List ℕ)) → ((name : List ℕ) → is_among taken name ≡ false → is_among fewer name ≡ false)
    → AreSome xs ys → AreNames taken ys → AreNames fewer xs
some_names_from [] ys taken fewer less some are = tt
some_names_from (x ∷ xs) [] taken fewer less some are = absurd some
some_names_from (x ∷ xs) (y ∷ ys) taken fewer less (inl here) are =
    subst (λ (z : List ℕ). AreNames fewer (z ∷ xs)) (sym here.0) (
      are.0,
      less y are.1,
      some_names_from xs ys (y ∷ taken) (y ∷ fewer)
          (λ name none. let parts = none_by (pointwise nat_eq name y) (is_among taken name) none in
          or_from (pointwise nat_eq name y) (is_among fewer name) parts.0 (less name parts.1)) here.1 are.2,
    )
some_names_from (x ∷ xs) (y ∷ ys) taken fewer less (inr later) are =
    some_names_from (x ∷ xs) ys (y ∷ taken) fewer
    (λ name none. less name (none_by (pointwise nat_eq name y) (is_among taken name) none).1) later are.2

pub some_names : (xs ys : List (List ℕ)) → AreSome xs ys → AreNames [] ys → AreNames [] xs
some_names xs ys some are = some_names_from xs ys [] [] (λ name none. none) some are

-- what none of the others is, none of them is
pub none_some : (xs ys : List (List ℕ)) (name : List ℕ) → AreSome xs ys → is_among ys name ≡ false → is_among xs name ≡ false
none_some [] ys name some none = refl
none_some (x ∷ xs) [] name some none = absurd some
none_some (x ∷ xs) (y ∷ ys) name (inl here) none =
    let parts = none_by (pointwise nat_eq name y) (is_among ys name) none in
    or_from (pointwise nat_eq name x) (is_among xs name) (ap (pointwise nat_eq name) here.0 ∙ parts.0)
    (none_some xs ys name here.1 parts.1)
none_some (x ∷ xs) (y ∷ ys) name (inr later) none =
    none_some (x ∷ xs) ys name later (none_by (pointwise nat_eq name y) (is_among ys name) none).1

-- ---- places of names

-- a name of the list isn't one that stood before
apart_at : (taken names : List (List ℕ)) (k : ℕ) (name : List ℕ) → AreNames taken names → slice_get names k ≡ Some name
    → is_among taken name ≡ false
apart_at taken [] k name are at = absurd cc
apart_at taken (x ∷ names) zero name are at = ap (is_among taken) (sym (same_Some x name at)) ∙ are.1
apart_at taken (x ∷ names) (suc k) name are at =
    (none_by (pointwise nat_eq name x) (is_among taken name) (apart_at (x ∷ taken) names k name are.2 at)).1

place_from : (i : ℕ) (taken names : List (List ℕ)) (k : ℕ) (name : List ℕ) → AreNames taken names → slice_get names k ≡ Some name
    → position_from (pointwise nat_eq name) i names ≡ Some (i + k)
place_from i taken [] k name are at = absurd cc
place_from i taken (x ∷ names) zero name are at =
    ap (λ (b : Bool). cond b (Some i) (position_from (pointwise nat_eq name) (i + 1) names))
    (ap (pointwise nat_eq name) (same_Some x name at) ∙ pointwise_same name)
    ∙ ap (λ (n : ℕ). Some n) (let e : i ≡ i + 0 = omega arith in e)
place_from i taken (x ∷ names) (suc k) name are at =
    ap (λ (b : Bool). cond b (Some i) (position_from (pointwise nat_eq name) (i + 1) names))
    (none_by (pointwise nat_eq name x) (is_among taken name) (apart_at (x ∷ taken) names k name are.2 at)).0
    ∙ place_from (i + 1) (x ∷ taken) names k name are.2 at
    ∙ ap (λ (n : ℕ). Some n) (let e : i + 1 + k ≡ i + suc k = omega arith in e)

place_at : (names : List (List ℕ)) (k : ℕ) (name : List ℕ) → AreNames [] names → slice_get names k ≡ Some name
    → position (pointwise nat_eq name) names ≡ Some k
place_at names k name are at =
    position_from-zero (pointwise nat_eq name) names ∙ place_from 0 [] names k name are at
    ∙ ap (λ (n : ℕ). Some n) (let e : 0 + k ≡ k = omega arith in e)

pub valid_at : (taken names : List (List ℕ)) (k : ℕ) (name : List ℕ) → AreNames taken names → slice_get names k ≡ Some name
    → is_none (any_name_refusal name) ≡ true
valid_at taken [] k name are at = absurd cc
valid_at taken (x ∷ names) zero name are at =
    ap (λ (n : List ℕ). is_none (any_name_refusal n)) (sym (same_Some x name at)) ∙ are.0
valid_at taken (x ∷ names) (suc k) name are at = valid_at (x ∷ taken) names k name are.2 at

-- a name without a place isn't among them
none_from : (p : List ℕ → Bool) (i : ℕ) (xs : List (List ℕ)) → position_from p i xs ≡ None → list_any p xs ≡ false
none_from p i [] none = refl
none_from p i (x ∷ xs) none = by (p x) none (none_from p (i + 1) xs) where
  by : (b : Bool) → cond b (Some i) (position_from p (i + 1) xs) ≡ None → (position_from p (i + 1) xs ≡ None → list_any p xs ≡ false)
      → (b || list_any p xs) ≡ false
  by true made later = absurd cc
  by false made later = later made

none_to : (p : List ℕ → Bool) (i : ℕ) (xs : List (List ℕ)) → list_any p xs ≡ false → position_from p i xs ≡ None
none_to p i [] none = refl
none_to p i (x ∷ xs) none =
    let parts = none_by (p x) (list_any p xs) none in
    ap (λ (b : Bool). cond b (Some i) (position_from p (i + 1) xs)) parts.0 ∙ none_to p (i + 1) xs parts.1

-- ---- what legs lie on

abbrev on_pv : Option ℕ → Option On
on_pv o = option_map (λ number. on.Pv number) o

abbrev on_lv : Option ℕ → Option On
on_lv o = option_map (λ number. on.Lv number) o

first_of : (a b : Option ℕ) (n : ℕ) → option_or (on_pv a) (on_lv b) ≡ Some (on.Pv n) → a ≡ Some n
first_of (Some k) b n is = cc
first_of None (Some k) n is = absurd cc
first_of None None n is = absurd cc

second_of : (a b : Option ℕ) (n : ℕ) → option_or (on_pv a) (on_lv b) ≡ Some (on.Lv n) → (a ≡ None) × (b ≡ Some n)
second_of (Some k) b n is = absurd cc
second_of None (Some k) n is = (refl, cc)
second_of None None n is = absurd cc

-- the first is found in its group by its name
abbrev pub IsFound : Group → On → Type 0
IsFound group is = on_named (names_of group) (name_of group is) ≡ Some is

-- the second is found in the other group by the same name
abbrev pub IsFoundBy : Group → Group → On → On → Type 0
IsFoundBy group other is now = IsFound other now × (name_of other now ≡ name_of group is)

-- a physical volume of this name is found
pub pv_named : (group : Group) (n : ℕ) (name : List ℕ) → AreNames [] (pv_names group) → slice_get (pv_names group) n ≡ Some name
    → IsFound group (on.Pv n) × (name_of group (on.Pv n) ≡ name)
pv_named group n name are at =
    let p : List ℕ → Bool = pointwise nat_eq name in
    let same : get_or (pv_names group) n [] ≡ name = get_or_from_slice_get (pv_names group) n name [] at in (
      ap (on_named (names_of group)) same
          ∙ ap (λ (o : Option ℕ). option_or (on_pv o) (on_lv (position p (lv_names group)))) (place_at (pv_names group) n name are at),
      same,
    )

module _ (group other : Group) (n m : ℕ) where
  -- a physical volume that keeps its name
  pub pv_found : AreNames [] (pv_names other)
      → ((name : List ℕ) → slice_get (pv_names group) n ≡ Some name → slice_get (pv_names other) m ≡ Some name)
      → IsFound group (on.Pv n) → IsFoundBy group other (on.Pv n) (on.Pv m)
  pv_found are keeps found =
      let name : List ℕ = get_or (pv_names group) n [] in
      let p : List ℕ → Bool = pointwise nat_eq name in
      let place : position p (pv_names group) ≡ Some n = first_of (position p (pv_names group)) (position p (lv_names group)) n found in
      let within : n < length (pv_names group) = (position-Some p (pv_names group) n [] place).0 in
      pv_named other m name are (keeps name (slice_get-get_or (pv_names group) n [] within))

  -- a logical volume that keeps its name, where no physical volume has that
  pub lv_found : AreNames [] (lv_names other)
      → ((name : List ℕ) → slice_get (lv_names group) n ≡ Some name → slice_get (lv_names other) m ≡ Some name)
      → ((name : List ℕ) → slice_get (lv_names group) n ≡ Some name → is_among (pv_names group) name ≡ false
      → is_among (pv_names other) name ≡ false)
      → IsFound group (on.Lv n) → IsFoundBy group other (on.Lv n) (on.Lv m)
  lv_found are keeps apart found =
      let name : List ℕ = get_or (lv_names group) n [] in
      let p : List ℕ → Bool = pointwise nat_eq name in
      let places : (position p (pv_names group) ≡ None) × (position p (lv_names group) ≡ Some n) =
      second_of (position p (pv_names group)) (position p (lv_names group)) n found in
      let within : n < length (lv_names group) = (position-Some p (lv_names group) n [] places.1).0 in
      let at : slice_get (lv_names group) n ≡ Some name = slice_get-get_or (lv_names group) n [] within in
      let now : slice_get (lv_names other) m ≡ Some name = keeps name at in
      let same : get_or (lv_names other) m [] ≡ name = get_or_from_slice_get (lv_names other) m name [] now in
      let none : is_among (pv_names other) name ≡ false =
      apart name at (none_from p 0 (pv_names group) (sym (position_from-zero p (pv_names group)) ∙ places.0)) in (
        ap (on_named (names_of other)) same
            ∙ ap (λ (o : Option ℕ). option_or (on_pv o) (on_lv (position p (lv_names other))))
            (position_from-zero p (pv_names other) ∙ none_to p 0 (pv_names other) none)
            ∙ ap (λ (o : Option ℕ). on_lv o) (place_at (lv_names other) m name are now),
        same,
      )
