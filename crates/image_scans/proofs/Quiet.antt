-- One disk that reads otherwise, where the group doesn't list it and its areas give nothing, before and after.
use Rattle.std.proofs.Common.{◌≡◌, ◌⊎◌, ℕ, zero, suc, ◌+◌, ◌*◌, Bool, true, false, not, ◌&&◌, ◌||◌, cond, List, [], ◌∷◌, ◌++◌, Option, Some}
use Rattle.std.proofs.Common.{None, inl, inr, ⊎_elim, refl, sym, ap, subst, ◌∙◌}
use Rattle.std.specs.Prelude.{find, option_map, unwrap_or}
use Rattle.std.specs.List.{AllByRecursion as Each, enumerate_from, list_any}
use Rattle.std.proofs.lemmas.Bool.{and_parts, false≢true, or_cases, or_left, or_right, true≢false}
use Rattle.std.specs.Str.{bytes_eq}
use Rattle.meta_model.specs.declared.group.Group.{Group}
use Rattle.meta_model.specs.declared.pv.Pv.{Pv}
use Rattle.scan_rules.specs.Decision.{AreaReading, Found, Reading, first_duplicate, first_misplaced, has_id, has_misplaced, holds, ids_from}
use Rattle.scan_rules.specs.Decision.{is_held, is_listed, is_misplaced, lists}
use Rattle.scan_rules.specs.Found.{is_missing, is_this_misplaced, misplaced_from, missing_of}
use Rattle.scan_rules.proofs.Scanning.{same_bytes_tells, same_bytes_to}
use Rattle.image_scans.proofs.Again.{all_there, none_missing}
use Rattle.image_scans.proofs.AreaReadings.{DisksGive, IsNone, PvGives, pv_weaker}

-- nothing is held there, and the group that was found doesn't list it
abbrev pub IsQuiet : Option Group → Reading → Type 0
IsQuiet None disk = PvGives IsNone disk.pv
IsQuiet (Some group) disk = PvGives IsNone disk.pv × (is_listed group disk ≡ false)

-- the disk with this number may read otherwise
abbrev pub AtOne : ℕ → (Reading → Reading → Type 0) → List Reading → List Reading → Type 0
AtOne k R [] [] = Unit {0}
AtOne k R [] (b ∷ bs) = ⊥
AtOne k R (a ∷ as') [] = ⊥
AtOne zero R (a ∷ as') (b ∷ bs) = R a b × (bs ≡ as')
AtOne (suc k) R (a ∷ as') (b ∷ bs) = (b ≡ a) × AtOne k R as' bs

-- each disk reads as it did, or is quiet before and after
abbrev pub ButQuiet : Option Group → List Reading → List Reading → Type 0
ButQuiet o [] [] = Unit {0}
ButQuiet o [] (b ∷ bs) = ⊥
ButQuiet o (a ∷ as') [] = ⊥
ButQuiet o (a ∷ as') (b ∷ bs) = ((b ≡ a) ⊎ (IsQuiet o a × IsQuiet o b)) × ButQuiet o as' bs

same_quiet : (o : Option Group) (as' : List Reading) → ButQuiet o as' as'
same_quiet o [] = tt
same_quiet o (a ∷ as') = (inl refl, same_quiet o as')

pub one_quiet : (o : Option Group) (k : ℕ) (R : Reading → Reading → Type 0) → ((a b : Reading) → R a b → IsQuiet o a × IsQuiet o b)
    → (as' bs : List Reading) → AtOne k R as' bs → ButQuiet o as' bs
one_quiet o k R quiet [] [] at = tt
one_quiet o k R quiet [] (b ∷ bs) at = absurd at
one_quiet o k R quiet (a ∷ as') [] at = absurd at
one_quiet o zero R quiet (a ∷ as') (b ∷ bs) at = (inr (quiet a b at.0), subst (ButQuiet o as') (sym at.1) (same_quiet o as'))
one_quiet o (suc k) R quiet (a ∷ as') (b ∷ bs) at = (inl at.0, one_quiet o k R quiet as' bs at.1)

-- ---- what they give

quiet_gives : (o : Option Group) (disk : Reading) → IsQuiet o disk → PvGives IsNone disk.pv
quiet_gives None disk quiet = quiet
quiet_gives (Some group) disk quiet = quiet.0

pub quiet_give : (P : AreaReading → Type 0) → ((r : AreaReading) → IsNone r → P r) → (o : Option Group) (as' bs : List Reading)
    → ButQuiet o as' bs → DisksGive (λ disk. P) as' → DisksGive (λ disk. P) bs
quiet_give P none o [] [] but all = tt
quiet_give P none o [] (b ∷ bs) but all = absurd but
quiet_give P none o (a ∷ as') [] but all = absurd but
quiet_give P none o (a ∷ as') (b ∷ bs) but all = (
  ⊎_elim
      (λ same. subst (λ (d : Reading). PvGives P d.pv) (sym same) all.0)
      (λ quiet. pv_weaker IsNone P none b.pv (quiet_gives o b quiet.1))
      but.0,
  quiet_give P none o as' bs but.1 all.1,
)

-- ---- the group's disks

module _ (group : Group) where
  pub quiet_held : (text : List ℕ) (as' bs : List Reading) → ButQuiet (Some group) as' bs → is_held group text as' ≡ true
      → is_held group text bs ≡ true
  quiet_held text [] [] but held = held
  quiet_held text [] (b ∷ bs) but held = absurd but
  quiet_held text (a ∷ as') [] but held = absurd but
  quiet_held text (a ∷ as') (b ∷ bs) but held =
      ⊎_elim
      (λ here.
      ⊎_elim
      (λ same. or_left (is_listed group b && holds text b) (is_held group text bs)
      (ap (λ (d : Reading). is_listed group d && holds text d) same ∙ here))
      (λ quiet. absurd (true≢false (sym (and_parts (is_listed group a) (holds text a) here).0 ∙ quiet.0.1)))
      but.0)
      (λ later. or_right (is_listed group b && holds text b) (is_held group text bs) (quiet_held text as' bs but.1 later))
      (or_cases (is_listed group a && holds text a) (is_held group text as') held)

  -- an id that isn't listed is that of no physical volume
  no_pv : (id : List ℕ) (pvs : List (List ℕ × Pv)) → list_any (λ (pv : List ℕ × Pv). bytes_eq pv.1.id id) pvs ≡ false
      → Each (λ (pv : List ℕ × Pv). bytes_eq pv.1.id id ≡ false) pvs
  no_pv id [] none = tt
  no_pv id (pv ∷ pvs) none =
      let parts = split (bytes_eq pv.1.id id) (list_any (λ (p : List ℕ × Pv). bytes_eq p.1.id id) pvs)
      none in (parts.0, no_pv id pvs parts.1)
    where
      split : (x y : Bool) → (x || y) ≡ false → (x ≡ false) × (y ≡ false)
      split true y is = absurd (true≢false is)
      split false y is = (refl, is)

  misplaced_none : (sectors : ℕ) (disk : Reading) (found : Found) (pvs : List (List ℕ × Pv))
      → Each (λ (pv : List ℕ × Pv). bytes_eq pv.1.id found.id ≡ false) pvs
      → list_any (is_this_misplaced group.extent_size disk found) pvs ≡ false
  misplaced_none sectors disk found [] all = refl
  misplaced_none sectors disk found (pv ∷ pvs) all =
      ap (λ (b : Bool). (b && is_misplaced pv.1.pe_start (pv.1.pe_start + pv.1.pe_count * group.extent_size) disk found)
      || list_any (is_this_misplaced group.extent_size disk found) pvs) all.0
      ∙ misplaced_none sectors disk found pvs all.1

  well_placed : (sectors : ℕ) (o : Option Found) → unwrap_or (option_map (λ (pv : Found). lists group pv.id) o) false ≡ false
      → unwrap_or (option_map (λ (found : Found). list_any
      (is_this_misplaced group.extent_size (record { sectors = sectors; pv = o }) found) group.pvs) o) false ≡ false
  well_placed sectors None none = refl
  well_placed sectors (Some found) none =
      misplaced_none sectors (record { sectors = sectors; pv = Some found }) found group.pvs (no_pv found.id group.pvs none)

  placed_here : (d : ℕ × Reading) (b : Bool) (rest : Option (ℕ × Reading)) → has_misplaced group d.1 ≡ b
      → option_map (λ (x : ℕ × Reading). x.0) (cond b (Some d) rest) ≡ None
      → (has_misplaced group d.1 ≡ false) × (option_map (λ (x : ℕ × Reading). x.0) rest ≡ None)
  placed_here d true rest is none = absurd cc
  placed_here d false rest is none = (is, none)

  placed_from : (n : ℕ) (as' bs : List Reading) → ButQuiet (Some group) as' bs → misplaced_from group n as' ≡ None
      → misplaced_from group n bs ≡ None
  placed_from n [] [] but none = none
  placed_from n [] (b ∷ bs) but none = absurd but
  placed_from n (a ∷ as') [] but none = absurd but
  placed_from n (a ∷ as') (b ∷ bs) but none =
      let parts =
      placed_here (n, a) (has_misplaced group a) (find (λ (d : ℕ × Reading). has_misplaced group d.1) (enumerate_from (n + 1) as')) refl
      none in
      let here : has_misplaced group b ≡ false =
      ⊎_elim (λ same. ap (has_misplaced group) same ∙ parts.0) (λ quiet. well_placed b.sectors b.pv quiet.1.1) but.0 in
      ap (λ (t : Bool). option_map (λ (x : ℕ × Reading). x.0)
      (cond t (Some (n, b)) (find (λ (d : ℕ × Reading). has_misplaced group d.1) (enumerate_from (n + 1) bs)))) here
      ∙ placed_from (n + 1) as' bs but.1 parts.1

  pub quiet_placed : (as' bs : List Reading) → ButQuiet (Some group) as' bs → first_misplaced group as' ≡ None
      → first_misplaced group bs ≡ None
  quiet_placed as' bs but none = placed_from 0 as' bs but none

  -- an id of the group is on none of the disks that aren't listed
  on_listed : (pv : List ℕ × Pv) → list_any (λ (p : List ℕ × Pv). bytes_eq p.1.id pv.1.id) group.pvs ≡ true → (o : Option Found)
      → unwrap_or (option_map (λ (x : Found). bytes_eq x.id pv.1.id) o) false ≡ true
      → unwrap_or (option_map (λ (x : Found). lists group x.id) o) false ≡ true
  on_listed pv among None is = absurd (false≢true is)
  on_listed pv among (Some found) is = ap (lists group) (same_bytes_tells found.id pv.1.id is) ∙ among

  quiet_ids : (pv : List ℕ × Pv) → list_any (λ (p : List ℕ × Pv). bytes_eq p.1.id pv.1.id) group.pvs ≡ true → (as' bs : List Reading)
      → ButQuiet (Some group) as' bs → list_any (has_id pv.1.id) as' ≡ true → list_any (has_id pv.1.id) bs ≡ true
  quiet_ids pv among [] [] but any = any
  quiet_ids pv among [] (b ∷ bs) but any = absurd but
  quiet_ids pv among (a ∷ as') [] but any = absurd but
  quiet_ids pv among (a ∷ as') (b ∷ bs) but any =
      ⊎_elim
      (λ here.
      ⊎_elim
      (λ same. or_left (has_id pv.1.id b) (list_any (has_id pv.1.id) bs) (ap (has_id pv.1.id) same ∙ here))
      (λ quiet. absurd (true≢false (sym (on_listed pv among a.pv here) ∙ quiet.0.1)))
      but.0)
      (λ later. or_right (has_id pv.1.id b) (list_any (has_id pv.1.id) bs) (quiet_ids pv among as' bs but.1 later))
      (or_cases (has_id pv.1.id a) (list_any (has_id pv.1.id) as') any)

  missing_parts : (x y : Bool) → (x || not y) ≡ false → (x ≡ false) × (y ≡ true)
  missing_parts true y is = absurd (true≢false is)
  missing_parts false true is = (refl, refl)
  missing_parts false false is = absurd (true≢false is)

  still_there : (as' bs : List Reading) → ButQuiet (Some group) as' bs → (pv : List ℕ × Pv)
      → list_any (λ (p : List ℕ × Pv). bytes_eq p.1.id pv.1.id) group.pvs ≡ true → is_missing as' pv ≡ false → is_missing bs pv ≡ false
  still_there as' bs but pv among is =
      let parts = missing_parts pv.1.missing (list_any (has_id pv.1.id) as') is in
      ap (λ (b : Bool). b || not (list_any (has_id pv.1.id) bs)) parts.0 ∙ ap not (quiet_ids pv among as' bs but parts.1)

  any_back : {X : Type 0} (p : X → Bool) (front : List X) (x : X) (back : List X) → p x ≡ true → list_any p (front ++ x ∷ back) ≡ true
  any_back p [] x back is = or_left (p x) (list_any p back) is
  any_back p (y ∷ front) x back is = or_right (p y) (list_any p (front ++ x ∷ back)) (any_back p front x back is)

  each_still : (as' bs : List Reading) → ButQuiet (Some group) as' bs → (pvs : List (List ℕ × Pv))
      → Each (λ (pv : List ℕ × Pv). list_any (λ (p : List ℕ × Pv). bytes_eq p.1.id pv.1.id) group.pvs ≡ true) pvs
      → Each (λ (pv : List ℕ × Pv). is_missing as' pv ≡ false) pvs → Each (λ (pv : List ℕ × Pv). is_missing bs pv ≡ false) pvs
  each_still as' bs but [] among all = tt
  each_still as' bs but (pv ∷ pvs) among all = (still_there as' bs but pv among.0 all.0, each_still as' bs but pvs among.1 all.1)

  pub own_ids : (pvs : List (List ℕ × Pv))
      → Each (λ (pv : List ℕ × Pv). list_any (λ (p : List ℕ × Pv). bytes_eq p.1.id pv.1.id) pvs ≡ true) pvs
  own_ids pvs = all_in pvs pvs (λ p any. any)
    where
      all_in : (rest all : List (List ℕ × Pv)) → ((p : List ℕ × Pv → Bool) → list_any p rest ≡ true → list_any p all ≡ true)
          → Each (λ (pv : List ℕ × Pv). list_any (λ (p : List ℕ × Pv). bytes_eq p.1.id pv.1.id) all ≡ true) rest
      all_in [] all up = tt
      all_in (pv ∷ rest) all up = (
        up (λ (p : List ℕ × Pv). bytes_eq p.1.id pv.1.id)
            (or_left (bytes_eq pv.1.id pv.1.id) (list_any (λ (p : List ℕ × Pv). bytes_eq p.1.id pv.1.id) rest)
            (same_bytes_to pv.1.id pv.1.id refl)),
        all_in rest all (λ p any. up p (or_right (p pv) (list_any p rest) any)),
      )

  pub quiet_missing : (as' bs : List Reading) → ButQuiet (Some group) as' bs → missing_of as' group.pvs ≡ [] → missing_of bs group.pvs ≡ []
  quiet_missing as' bs but none =
      none_missing bs group.pvs (each_still as' bs but group.pvs (own_ids group.pvs) (all_there as' group.pvs none))

-- ---- ids

-- the ids of disks, where this physical volume is on the first one
abbrev ids_with : ℕ → Option Found → List (ℕ × List ℕ) → List (ℕ × List ℕ)
ids_with n o rest = unwrap_or (option_map (λ (pv : Found). (n, pv.id) ∷ rest) o) rest

-- none, or one with an id that is on none of the disks
abbrev pub IsNewId : List Reading → Option Found → Type 0
IsNewId disks None = Unit {0}
IsNewId disks (Some pv) = list_any (has_id pv.id) disks ≡ false

or_false : (x y : Bool) → (x || y) ≡ false → (x ≡ false) × (y ≡ false)
or_false true y is = absurd (true≢false is)
or_false false y is = (refl, is)

find_parts : (p : ℕ × List ℕ → Bool) (one : ℕ × List ℕ) (b : Bool) (more : List (ℕ × List ℕ)) → p one ≡ b
    → cond b (Some one) (find p more) ≡ None → (p one ≡ false) × (find p more ≡ None)
find_parts p one true more is none = absurd cc
find_parts p one false more is none = (is, none)

find_with : (p : ℕ × List ℕ → Bool) (one : ℕ × List ℕ) (more : List (ℕ × List ℕ)) → p one ≡ false → find p more ≡ None
    → find p (one ∷ more) ≡ None
find_with p one more is none = ap (λ (b : Bool). cond b (Some one) (find p more)) is ∙ none

-- an id that is on none of the disks isn't found
find_new : (id : List ℕ) (n : ℕ) (disks : List Reading) → list_any (has_id id) disks ≡ false
    → find (λ (other : ℕ × List ℕ). bytes_eq id other.1) (ids_from n disks) ≡ None
find_new id n [] none = refl
find_new id n (disk ∷ disks) none =
    let parts = or_false (has_id id disk) (list_any (has_id id) disks) none in by disk.pv parts.0 (find_new id (n + 1) disks parts.1)
  where
    by : (o : Option Found) → unwrap_or (option_map (λ (pv : Found). bytes_eq pv.id id) o) false ≡ false
        → find (λ (other : ℕ × List ℕ). bytes_eq id other.1) (ids_from (n + 1) disks) ≡ None
        → find (λ (other : ℕ × List ℕ). bytes_eq id other.1) (ids_with n o (ids_from (n + 1) disks)) ≡ None
    by None is rest = rest
    by (Some pv) is rest =
        find_with (λ (other : ℕ × List ℕ). bytes_eq id other.1) (n, pv.id) (ids_from (n + 1) disks) (other_side id pv.id is) rest
      where
        other_side : (a b : List ℕ) → bytes_eq b a ≡ false → bytes_eq a b ≡ false
        other_side a b other = step (bytes_eq a b) refl
          where
            step : (t : Bool) → bytes_eq a b ≡ t → bytes_eq a b ≡ false
            step true is' = absurd (true≢false (sym (same_bytes_to b a (sym (same_bytes_tells a b is'))) ∙ other))
            step false is' = is'

-- what isn't found among the ids isn't with another one
find_one : (p : List ℕ → Bool) (k n : ℕ) (R : Reading → Reading → Type 0)
    → ((a b : Reading) → R a b → (pv : Found) → b.pv ≡ Some pv → p pv.id ≡ false) → (as' bs : List Reading) → AtOne k R as' bs
    → find (λ (other : ℕ × List ℕ). p other.1) (ids_from n as') ≡ None → find (λ (other : ℕ × List ℕ). p other.1) (ids_from n bs) ≡ None
find_one p k n R new [] [] at none = none
find_one p k n R new [] (b ∷ bs) at none = absurd at
find_one p k n R new (a ∷ as') [] at none = absurd at
find_one p zero n R new (a ∷ as') (b ∷ bs) at none =
    put b.pv (new a b at.0) (subst (λ (l : List Reading). find (λ (other : ℕ × List ℕ). p other.1) (ids_from (n + 1) l) ≡ None) (sym at.1)
    (rest a.pv none))
  where
    rest : (o : Option Found) → find (λ (other : ℕ × List ℕ). p other.1) (ids_with n o (ids_from (n + 1) as')) ≡ None
        → find (λ (other : ℕ × List ℕ). p other.1) (ids_from (n + 1) as') ≡ None
    rest None is = is
    rest (Some pv) is = (find_parts (λ (other : ℕ × List ℕ). p other.1) (n, pv.id) (p pv.id) (ids_from (n + 1) as') refl is).1

    put : (o : Option Found) → ((pv : Found) → o ≡ Some pv → p pv.id ≡ false)
        → find (λ (other : ℕ × List ℕ). p other.1) (ids_from (n + 1) bs) ≡ None
        → find (λ (other : ℕ × List ℕ). p other.1) (ids_with n o (ids_from (n + 1) bs)) ≡ None
    put None has is = is
    put (Some pv) has is = find_with (λ (other : ℕ × List ℕ). p other.1) (n, pv.id) (ids_from (n + 1) bs) (has pv refl) is
find_one p (suc k) n R new (a ∷ as') (b ∷ bs) at none =
    subst (λ (d : Reading). find (λ (other : ℕ × List ℕ). p other.1) (ids_with n d.pv (ids_from (n + 1) bs)) ≡ None) (sym at.0)
    (by a.pv none (λ later. find_one p k (n + 1) R new as' bs at.1 later))
  where
    by : (o : Option Found) → find (λ (other : ℕ × List ℕ). p other.1) (ids_with n o (ids_from (n + 1) as')) ≡ None
        → (find (λ (other : ℕ × List ℕ). p other.1) (ids_from (n + 1) as') ≡ None
        → find (λ (other : ℕ × List ℕ). p other.1) (ids_from (n + 1) bs) ≡ None)
        → find (λ (other : ℕ × List ℕ). p other.1) (ids_with n o (ids_from (n + 1) bs)) ≡ None
    by None is later = later is
    by (Some pv) is later =
        let parts = find_parts (λ (other : ℕ × List ℕ). p other.1) (n, pv.id) (p pv.id) (ids_from (n + 1) as') refl is in
        find_with (λ (other : ℕ × List ℕ). p other.1) (n, pv.id) (ids_from (n + 1) bs) parts.0 (later parts.1)

duplicate_parts : (number : ℕ) (o : Option (ℕ × List ℕ)) (rest : Option (ℕ × ℕ))
    → unwrap_or (option_map (λ (other : ℕ × List ℕ). Some (number, other.0)) o) rest ≡ None → (o ≡ None) × (rest ≡ None)
duplicate_parts number None rest none = (refl, none)
duplicate_parts number (Some other) rest none = absurd cc

duplicate_with : (one : ℕ × List ℕ) (more : List (ℕ × List ℕ)) → find (λ (other : ℕ × List ℕ). bytes_eq one.1 other.1) more ≡ None
    → first_duplicate more ≡ None → first_duplicate (one ∷ more) ≡ None
duplicate_with one more none rest =
    ap (λ (o : Option (ℕ × List ℕ)). unwrap_or (option_map (λ (other : ℕ × List ℕ). Some (one.0, other.0)) o) (first_duplicate more)) none
    ∙ rest

-- a disk that is left out, or has an id of its own, is no duplicate
pub one_apart : (k n : ℕ) (R : Reading → Reading → Type 0) (all : List Reading) → ((a b : Reading) → R a b → IsNewId all b.pv)
    → (as' bs : List Reading)
    → ((id : List ℕ) → list_any (has_id id) all ≡ false → list_any (has_id id) as' ≡ false) → AtOne k R as' bs
    → first_duplicate (ids_from n as') ≡ None → first_duplicate (ids_from n bs) ≡ None
one_apart k n R all new [] [] among at none = none
one_apart k n R all new [] (b ∷ bs) among at none = absurd at
one_apart k n R all new (a ∷ as') [] among at none = absurd at
one_apart zero n R all new (a ∷ as') (b ∷ bs) among at none =
    subst (λ (l : List Reading). first_duplicate (ids_with n b.pv (ids_from (n + 1) l)) ≡ None) (sym at.1)
    (put b.pv (new a b at.0) (rest a.pv none))
  where
    rest : (o : Option Found) → first_duplicate (ids_with n o (ids_from (n + 1) as')) ≡ None → first_duplicate (ids_from (n + 1) as') ≡ None
    rest None is = is
    rest (Some pv) is =
        (duplicate_parts n (find (λ (other : ℕ × List ℕ). bytes_eq pv.id other.1) (ids_from (n + 1) as'))
        (first_duplicate (ids_from (n + 1) as')) is).1

    put : (o : Option Found) → IsNewId all o → first_duplicate (ids_from (n + 1) as') ≡ None
        → first_duplicate (ids_with n o (ids_from (n + 1) as')) ≡ None
    put None fresh is = is
    put (Some pv) fresh is =
        duplicate_with (n, pv.id) (ids_from (n + 1) as')
        (find_new pv.id (n + 1) as' (or_false (has_id pv.id a) (list_any (has_id pv.id) as') (among pv.id fresh)).1) is
one_apart (suc k) n R all new (a ∷ as') (b ∷ bs) among at none =
    subst (λ (d : Reading). first_duplicate (ids_with n d.pv (ids_from (n + 1) bs)) ≡ None) (sym at.0)
    (by a.pv none (λ id out. (or_false (has_id id a) (list_any (has_id id) as') (among id out)).0)
    (λ later. one_apart k (n + 1) R all new as' bs (λ id out. (or_false (has_id id a) (list_any (has_id id) as') (among id out)).1) at.1
    later))
  where
    by : (o : Option Found) → first_duplicate (ids_with n o (ids_from (n + 1) as')) ≡ None
        → ((id : List ℕ) → list_any (has_id id) all ≡ false → unwrap_or (option_map (λ (pv : Found). bytes_eq pv.id id) o) false ≡ false)
        → (first_duplicate (ids_from (n + 1) as') ≡ None → first_duplicate (ids_from (n + 1) bs) ≡ None)
        → first_duplicate (ids_with n o (ids_from (n + 1) bs)) ≡ None
    by None is out later = later is
    by (Some pv) is out later =
        let parts =
        duplicate_parts n (find (λ (other : ℕ × List ℕ). bytes_eq pv.id other.1) (ids_from (n + 1) as'))
        (first_duplicate (ids_from (n + 1) as')) is in
        duplicate_with (n, pv.id) (ids_from (n + 1) bs)
        (find_one (bytes_eq pv.id) k (n + 1) R (λ x y r q has. out q.id (subst (IsNewId all) has (new x y r))) as' bs at.1 parts.0)
        (later parts.1)
