-- The data of a physical volume share no sector with its metadata areas.
use Rattle.std.proofs.Common.{◌≡◌, ◌≤◌, ◌<◌, ◌⊎◌, ℕ, suc, ◌+◌, ◌*◌, ◌/◌, ◌%◌, Bool, true, false, not, ◌==◌, cond, eqb, ltb, min, max, List}
use Rattle.std.proofs.Common.{[], ◌∷◌, ◌++◌, length, get_or, map, Option, Some, None, inl, inr, ⊎_elim, ◌&&◌, refl, sym, ap, subst, ◌∙◌}
use Rattle.std.proofs.Common.{get_or-append-add, length-append, arith}
use Rattle.std.specs.Prelude.{All, AllPairs, filter, find, unwrap_or}
use Rattle.std.specs.List.{AllByRecursion as Each, fold, reduce}
use Rattle.std.specs.Option.{option_or}
use Rattle.std.proofs.lemmas.Bool.{and_parts, cases_lt, cases_order, eqb-true, ltb-false, ltb-true, not-true, or_cases}
use Rattle.std.proofs.lemmas.Bool.Decides.{nat_tests}
use Rattle.std.proofs.lemmas.List.{get_or_default}
use Rattle.std.proofs.lemmas.List.Elements.{All-cons, All-from_recursion, All-nil, recursion_from_All}
use Rattle.std.proofs.lemmas.List.Folds.{find-append}
use Rattle.std.proofs.lemmas.List.Kept.{AllPairs-cons}
use Rattle.pv_header.proofs.Overlaps.{All-from_find}
use Rattle.pv_header.specs.Areas.{CanLie, comes_next, end_of, first_overlap, is_misshapen, is_outside, next_start, pairs_of, shares_byte}
use Rattle.pv_header.specs.DataSectors.{data_end_of, data_start_of}
use Rattle.pv_header.specs.declared.extent_list.Extent.{Extent}

-- ---- pairs

none_of_two : {X : Type 0} (a b : Option X) → option_or a b ≡ None → (a ≡ None) × (b ≡ None)
none_of_two None b none = (refl, none)
none_of_two (Some x) b none = absurd cc

none_here : {X : Type 0} (b : Bool) (x : X) (rest : Option X) → cond b (Some x) rest ≡ None → (b ≡ false) × (rest ≡ None)
none_here true x rest none = absurd cc
none_here false x rest none = (refl, none)

module _ (p : Extent × Extent → Bool) where
  none_with : (x : Extent) (xs : List Extent) → find p (map (λ other. (x, other)) xs) ≡ None → All (λ other. p (x, other) ≡ false) xs
  none_with x [] none = All-nil (λ other. p (x, other) ≡ false)
  none_with x (y ∷ ys) none =
      let parts = none_here (p (x, y)) (x, y) (find p (map (λ other. (x, other)) ys)) none in
      All-cons (λ other. p (x, other) ≡ false) y ys parts.0 (none_with x ys parts.1)

  -- where no pair passes, no two do
  none_pairs : (xs : List Extent) → find p (pairs_of xs) ≡ None → AllPairs (λ x y. p (x, y) ≡ false) xs
  none_pairs [] none = λ i j d before within. absurd (omega (arith, within))
  none_pairs (x ∷ xs) none =
      let parts =
      none_of_two (find p (map (λ other. (x, other)) xs)) (find p (pairs_of xs))
      (sym (find-append p (map (λ other. (x, other)) xs) (pairs_of xs)) ∙ none) in
      AllPairs-cons (λ a b. p (a, b) ≡ false) x xs (none_with x xs parts.0) (none_pairs xs parts.1)

-- ---- areas that share no byte

abbrev LieBeside : Extent → Extent → Type 0
LieBeside a b = (a.offset + a.size ≤ b.offset) ⊎ (b.offset + b.size ≤ a.offset)

sized : (all : List Extent) (bytes : ℕ) (a : Extent) → 0 < a.size → end_of all bytes a ≡ a.offset + a.size
sized all bytes a some =
    let other : eqb a.size 0 ≡ false = grind (arith, nat_tests) in
    ap (λ (b : Bool). cond b (next_start all a.offset bytes) (a.offset + a.size)) other

empty_end : (all : List Extent) (bytes : ℕ) (a : Extent) → a.size ≡ 0 → end_of all bytes a ≡ next_start all a.offset bytes
empty_end all bytes a none = ap (λ (n : ℕ). cond (eqb n 0) (next_start all a.offset bytes) (a.offset + n)) none

apart_ends : (all : List Extent) (bytes : ℕ) (a b : Extent) → shares_byte all bytes a b ≡ false
    → min (end_of all bytes a) (end_of all bytes b) ≤ max a.offset b.offset
unfolding shares_byte
apart_ends all bytes a b none =
    let below : ltb (max a.offset b.offset) (min (end_of all bytes a) (end_of all bytes b)) ≡ false = none in
    grind (arith, nat_tests)

beside : (all : List Extent) (bytes : ℕ) (a b : Extent) → 0 < a.size → 0 < b.size → shares_byte all bytes a b ≡ false → LieBeside a b
beside all bytes a b some some' none =
    let upto : min (end_of all bytes a) (end_of all bytes b) ≤ max a.offset b.offset = apart_ends all bytes a b none in
    let end_a : end_of all bytes a ≡ a.offset + a.size = sized all bytes a some in
    let end_b : end_of all bytes b ≡ b.offset + b.size = sized all bytes b some' in
    elim (cases_lt b.offset (a.offset + a.size)) [
      | inl before ↦ inr (omega (arith, upto, end_a, end_b, before, some, some'))
      | inr from ↦ inl from
    ]

-- ---- where an area of size 0 ends

-- an area of the list that comes next begins behind the place
abbrev ComesLater : ℕ → Extent → Type 0
ComesLater place area = comes_next place area ≡ true → place < area.offset

fold_above : (place x : ℕ) (xs : List ℕ) → place < x → Each (λ n. place < n) xs → place < fold min x xs
fold_above place x [] first all = first
fold_above place x (y ∷ ys) first all = fold_above place (min x y) ys (omega (arith, first, all.0)) all.1

kept_above : (place : ℕ) (area : Extent) (areas : List Extent) (b : Bool) → comes_next place area ≡ b → ComesLater place area
    → Each (λ n. place < n) (map (λ (a : Extent). a.offset) (filter (comes_next place) areas))
    → Each (λ n. place < n) (map (λ (a : Extent). a.offset)
    (cond b (area ∷ filter (comes_next place) areas) (filter (comes_next place) areas)))
kept_above place area areas true is later all = (later is, all)
kept_above place area areas false is later all = all

all_above : (place : ℕ) (areas : List Extent) → Each (ComesLater place) areas
    → Each (λ n. place < n) (map (λ (a : Extent). a.offset) (filter (comes_next place) areas))
all_above place [] later = tt
all_above place (area ∷ areas) later = kept_above place area areas (comes_next place area) refl later.0 (all_above place areas later.1)

least_above : (place stop : ℕ) (xs : List ℕ) → place < stop → Each (λ n. place < n) xs → place < unwrap_or (reduce min xs) stop
least_above place stop [] before all = before
least_above place stop (x ∷ xs) before all = fold_above place x xs all.0 all.1

starts_later : (place stop : ℕ) (areas : List Extent) → place < stop → Each (ComesLater place) areas → place < next_start areas place stop
unfolding next_start
starts_later place stop areas before later =
    least_above place stop (map (λ (a : Extent). a.offset) (filter (comes_next place) areas)) before (all_above place areas later)

-- the next start isn't behind that of an area which comes next
fold_upto : (x : ℕ) (xs : List ℕ) → (fold min x xs ≤ x) × Each (λ n. fold min x xs ≤ n) xs
fold_upto x [] = (omega arith, tt)
fold_upto x (y ∷ ys) =
    let more = fold_upto (min x y) ys in
    (omega (arith, more.0), (omega (arith, more.0), more.1))

least_upto : (stop : ℕ) (xs : List ℕ) → Each (λ n. unwrap_or (reduce min xs) stop ≤ n) xs
least_upto stop [] = tt
least_upto stop (x ∷ xs) = fold_upto x xs

abbrev StartsUpto : ℕ → ℕ → Extent → Type 0
StartsUpto place start area = comes_next place area ≡ true → start ≤ area.offset

kept_upto : (place start : ℕ) (area : Extent) (areas : List Extent) (b : Bool) → comes_next place area ≡ b
    → Each (λ n. start ≤ n) (map (λ (a : Extent). a.offset)
    (cond b (area ∷ filter (comes_next place) areas) (filter (comes_next place) areas)))
    → StartsUpto place start area × Each (λ n. start ≤ n) (map (λ (a : Extent). a.offset) (filter (comes_next place) areas))
kept_upto place start area areas true is all = ((λ next. all.0), all.1)
kept_upto place start area areas false is all = ((λ next. absurd (false_true (sym is ∙ next))), all)
  where
    false_true : false ≡ true → ⊥
    false_true same = cc

each_upto : (place start : ℕ) (areas : List Extent)
    → Each (λ n. start ≤ n) (map (λ (a : Extent). a.offset) (filter (comes_next place) areas)) → Each (StartsUpto place start) areas
each_upto place start [] all = tt
each_upto place start (area ∷ areas) all =
    let parts = kept_upto place start area areas (comes_next place area) refl all in
    (parts.0, each_upto place start areas parts.1)

starts_upto : (place stop : ℕ) (areas : List Extent) → Each (StartsUpto place (next_start areas place stop)) areas
unfolding next_start
starts_upto place stop areas =
    each_upto place (unwrap_or (reduce min (map (λ (a : Extent). a.offset) (filter (comes_next place) areas))) stop) areas
    (least_upto stop (map (λ (a : Extent). a.offset) (filter (comes_next place) areas)))

-- ---- an area of size 0 isn't met by one before it

comes_when : (place : ℕ) (c : Extent) → comes_next place c ≡ true → (place < c.offset) ⊎ ((c.offset ≡ place) × (0 < c.size))
comes_when place c next =
    ⊎_elim
    (λ above. inl (ltb-true place c.offset above))
    (λ here.
    let parts = and_parts (c.offset == place) (not (c.size == 0)) here in
    let other : (c.size == 0) ≡ false = not-true (c.size == 0) parts.1 in
    inr (eqb-true c.offset place parts.0, grind (arith, nat_tests)))
    (or_cases (ltb place c.offset) (c.offset == place && not (c.size == 0)) next)

next_comes : (place : ℕ) (c : Extent) → place ≤ c.offset → 0 < c.size → comes_next place c ≡ true
next_comes place c from some = grind (arith, nat_tests)

module _ (all : List Extent) (bytes : ℕ) (d : Extent) (apart : AllPairs (λ x y. shares_byte all bytes x y ≡ false) all) where
  abbrev at : ℕ → Extent
  at i = get_or all i d

  ordered : (i j : ℕ) → i < length all → j < length all → 0 < (at i).size → 0 < (at j).size → (at i).offset < (at j).offset
      → (at i).offset + (at i).size ≤ (at j).offset
  ordered i j within within' some some' before =
      elim (cases_order i j) [
        | inl same ↦ let equal : (at i).offset ≡ (at j).offset = ap (λ (n : ℕ). (at n).offset) same in absurd (omega (arith, equal, before))
        | inr rest ↦ elim rest [
          | inl less ↦ elim (beside all bytes (at i) (at j) some some' (apart i j d less within'))
              [ inl first ↦ first | inr other ↦ absurd (omega (arith, other, before)) ]
          | inr more ↦ elim (beside all bytes (at j) (at i) some' some (apart j i d more within))
              [ inl other ↦ absurd (omega (arith, other, before)) | inr first ↦ first ]
        ]
      ]

  comes_later : (j : ℕ) (place : ℕ) → j < length all → 0 < (at j).size → (at j).offset < place → place < (at j).offset + (at j).size
      → (i : ℕ) → i < length all → ComesLater place (at i)
  comes_later j place within some before over i within' next =
      elim (comes_when place (at i) next) [
        | inl above ↦ above
        | inr here ↦ let ends : (at j).offset + (at j).size ≤ (at i).offset =
            ordered j i within within' some here.1 (omega (arith, before, here.0)) in absurd (omega (arith, ends, over, here.0))
      ]

  -- one that begins before the first area, which has size 0, ends before it
  ends_before : (j : ℕ) → 0 < j → j < length all → (at 0).size ≡ 0 → 0 < (at j).size → (at j).offset < (at 0).offset
      → (at j).offset + (at j).size ≤ bytes → (at j).offset + (at j).size ≤ (at 0).offset
  ends_before j later within none some before inside =
      elim (cases_lt (at 0).offset ((at j).offset + (at j).size)) [
        | inl over ↦
            let each : Each (ComesLater (at 0).offset) all =
            recursion_from_All (ComesLater (at 0).offset) all
            (λ i e within'. same_default i e within' (comes_later j (at 0).offset within some before over i within')) in
            let end : (at 0).offset < next_start all (at 0).offset bytes =
            starts_later (at 0).offset bytes all (omega (arith, over, inside)) each in
            let end_first : end_of all bytes (at 0) ≡ next_start all (at 0).offset bytes = empty_end all bytes (at 0) none in
            let end_other : end_of all bytes (at j) ≡ (at j).offset + (at j).size = sized all bytes (at j) some in
            let upto : min (end_of all bytes (at 0)) (end_of all bytes (at j)) ≤ max (at 0).offset (at j).offset =
            apart_ends all bytes (at 0) (at j) (apart 0 j d later within) in
            absurd (omega (arith, end, end_first, end_other, upto, over, before))
        | inr ends ↦ ends
      ]
    where
      same_default : (i : ℕ) (e : Extent) → i < length all → ComesLater (at 0).offset (at i) → ComesLater (at 0).offset (get_or all i e)
      same_default i e within is = subst (ComesLater (at 0).offset) (get_or_default all i d e within) is

-- ---- in sectors

-- the area ends before the first of these sectors, or begins behind the last
abbrev pub IsBesideData : ℕ → ℕ → Extent → Type 0
IsBesideData start end area = (area.offset / 512 + area.size / 512 ≤ start) ⊎ (end ≤ area.offset / 512)

-- whole sectors
record IsWhole (area : Extent) : Type 0 where
  offset : area.offset % 512 ≡ 0
  size : area.size % 512 ≡ 0
  some : 0 < area.size

whole : (area : Extent) → is_misshapen area ≡ false → IsWhole area
whole area shaped =
    let least : 1536 ≤ area.size = grind (arith, nat_tests) in
    record { offset = grind (arith, nat_tests); size = grind (arith, nat_tests); some = omega (arith, least) }

inside_of : (bytes : ℕ) (area : Extent) → is_outside bytes area ≡ false → area.offset + area.size ≤ bytes
inside_of bytes area is = ltb-false bytes (area.offset + area.size) is

by_size : (first area : Extent) (bytes e : ℕ) → IsWhole area → LieBeside first area → e ≡ first.offset + first.size
    → IsBesideData (max 8 ((first.offset + 511) / 512)) (e / 512) area
by_size first area bytes e is (inl before) same = inr (omega (arith, is.offset, before, same))
by_size first area bytes e is (inr behind) same = inl (omega (arith, is.offset, is.size, behind))

pub data_beside : (held areas : List Extent) (disk : ℕ) → CanLie held areas (disk * 512)
    → data_start_of held disk < data_end_of held areas disk
    → All (IsBesideData (data_start_of held disk) (data_end_of held areas disk)) areas
unfolding first_overlap
data_beside [] areas disk lie some k d within = absurd (omega (arith, some))
data_beside (first ∷ more) areas disk lie some k d within =
    let bytes : ℕ = disk * 512 in
    let all : List Extent = first ∷ (more ++ areas) in
    let place : ℕ = suc (length more + k) in
    let here : get_or all place d ≡ get_or areas k d = get_or-append-add more areas k d in
    let within_all : place < length all = omega (arith, within, length-append more areas) in
    let apart : AllPairs (λ x y. shares_byte all bytes x y ≡ false) all =
    none_pairs (λ (pair : Extent × Extent). shares_byte all bytes pair.0 pair.1) all lie.apart in
    let is : IsWhole (get_or areas k d) = whole (get_or areas k d) (All-from_find is_misshapen areas lie.well_shaped k d within) in
    let inside : (get_or areas k d).offset + (get_or areas k d).size ≤ bytes =
    inside_of bytes (get_or areas k d) (subst (λ (m : Extent). is_outside bytes m ≡ false) here
    (All-from_find (is_outside bytes) all lie.inside place d within_all)) in
    let shares : shares_byte all bytes first (get_or areas k d) ≡ false =
    subst (λ (m : Extent). shares_byte all bytes first m ≡ false) here (apart 0 place d (omega arith) within_all) in
    elim (cases_lt 0 first.size) [
      | inl sized_first ↦ by_size first (get_or areas k d) bytes (end_of areas bytes first) is
          (beside all bytes first (get_or areas k d) sized_first is.some shares) (sized areas bytes first sized_first)
      | inr none ↦
          let empty : first.size ≡ 0 = omega (arith, none) in
          let end : end_of areas bytes first ≡ next_start areas first.offset bytes = empty_end areas bytes first empty in
          elim (cases_lt (get_or areas k d).offset first.offset) [
            | inl before ↦
                let ends : (get_or areas k d).offset + (get_or areas k d).size ≤ first.offset =
                subst (λ (m : Extent). 0 < m.size → m.offset < first.offset → m.offset + m.size ≤ bytes → m.offset + m.size ≤ first.offset)
                here
                (λ size before' inside'. ends_before all bytes d apart place (omega arith) within_all empty size before' inside') is.some
                before inside
                in
                inl (omega (arith, is.offset, is.size, ends))
            | inr from ↦
                let upto : next_start areas first.offset bytes ≤ (get_or areas k d).offset =
                All-from_recursion (StartsUpto first.offset (next_start areas first.offset bytes)) areas
                (starts_upto first.offset bytes areas) k d within (next_comes first.offset (get_or areas k d) from is.some)
                in
                inr (omega (arith, is.offset, end, upto))
          ]
    ]
