-- Whether volumes lie on their disks is decided by the headers.
use Rattle.std.proofs.Common.{◌≡◌, ℕ, ◌+◌, ◌*◌, Bool, true, false, ◌&&◌, ◌||◌, nat_lt, cond, List, [], ◌∷◌, Option, Some, None, refl, sym}
use Rattle.std.proofs.Common.{ap, ◌∙◌}
use Rattle.std.specs.Prelude.{option_map, unwrap_or, find}
use Rattle.std.specs.List.{list_any, enumerate_from}
use Rattle.std.proofs.lemmas.Bool.{false≢true}
use Rattle.std.specs.Str.{bytes_eq}
use Rattle.meta_model.specs.declared.group.Group.{Group}
use Rattle.meta_model.specs.declared.pv.Pv.{Pv}
use Rattle.scan_rules.specs.Decision.{Area, Found, Reading, ids_from, first_duplicate, meets_area, has_misplaced, HasShape}
use Rattle.scan_rules.specs.Decision.{SameAreas, SamePv, SameHeaders}

any_same : {X : Type 0} (f g : X → Bool) (xs : List X) → ((x : X) → f x ≡ g x) → list_any f xs ≡ list_any g xs
any_same f g [] same = refl
any_same f g (x ∷ xs) same = ap (λ (b : Bool). b || list_any f xs) (same x) ∙ ap (λ (b : Bool). g x || b) (any_same f g xs same)

meets_same : (start end : ℕ) (as' bs : List Area) → SameAreas as' bs
    → list_any (meets_area start end) as' ≡ list_any (meets_area start end) bs
meets_same start end [] [] same = refl
meets_same start end [] (b ∷ bs) same = absurd same
meets_same start end (a ∷ as') [] same = absurd same
meets_same start end (a ∷ as') (b ∷ bs) same =
    let one : meets_area start end a ≡ meets_area start end b =
    ap (λ (s : ℕ). nat_lt start (s + a.sectors) && nat_lt s end) same.0
    ∙ ap (λ (c : ℕ). nat_lt start (b.start + c) && nat_lt b.start end) same.1 in
    ap (λ (t : Bool). t || list_any (meets_area start end) as') one
    ∙ ap (λ (t : Bool). meets_area start end b || t) (meets_same start end as' bs same.2)

-- one physical volume of the group on a disk
abbrev bad : Group → ℕ → List ℕ → List Area → List ℕ × Pv → Bool
bad group sectors id areas pv =
    bytes_eq pv.1.id id
    && (nat_lt pv.1.pe_start (pv.1.pe_start + pv.1.pe_count * group.extent_size)
    && (nat_lt sectors (pv.1.pe_start + pv.1.pe_count * group.extent_size)
    || (nat_lt pv.1.pe_start 8 || list_any (meets_area pv.1.pe_start (pv.1.pe_start + pv.1.pe_count * group.extent_size)) areas)))

bad_same : (group : Group) (s t : ℕ) (a b : Found) → s ≡ t → a.id ≡ b.id → SameAreas a.areas b.areas → (pv : List ℕ × Pv)
    → bad group s a.id a.areas pv ≡ bad group t b.id b.areas pv
bad_same group s t a b sectors id areas pv =
    ap (λ (n : ℕ). bad group n a.id a.areas pv) sectors
    ∙ ap (λ (i : List ℕ). bad group t i a.areas pv) id
    ∙ ap
    (λ (m : Bool).
    bytes_eq pv.1.id b.id
    && (nat_lt pv.1.pe_start (pv.1.pe_start + pv.1.pe_count * group.extent_size)
    && (nat_lt t (pv.1.pe_start + pv.1.pe_count * group.extent_size) || (nat_lt pv.1.pe_start 8 || m))))
    (meets_same pv.1.pe_start (pv.1.pe_start + pv.1.pe_count * group.extent_size) a.areas b.areas areas)

of_pv : (group : Group) (s t : ℕ) (a b : Option Found) → s ≡ t → SamePv a b
    → unwrap_or (option_map (λ (found : Found). list_any (bad group s found.id found.areas) group.pvs) a) false
    ≡ unwrap_or (option_map (λ (found : Found). list_any (bad group t found.id found.areas) group.pvs) b) false
of_pv group s t None None sectors same = refl
of_pv group s t None (Some b) sectors same = absurd same
of_pv group s t (Some a) None sectors same = absurd same
of_pv group s t (Some a) (Some b) sectors same =
    any_same (bad group s a.id a.areas) (bad group t b.id b.areas) group.pvs (bad_same group s t a b sectors same.0 same.1)

number_if : ℕ → Bool → Option ℕ → Option ℕ
number_if n b later = cond b (Some n) later

pub find_same : (group : Group) (n : ℕ) (as' bs : List Reading) → SameHeaders as' bs
    → option_map (λ (d : ℕ × Reading). d.0) (find (λ (d : ℕ × Reading). has_misplaced group d.1) (enumerate_from n as'))
    ≡ option_map (λ (d : ℕ × Reading). d.0) (find (λ (d : ℕ × Reading). has_misplaced group d.1) (enumerate_from n bs))
find_same group n [] [] same = refl
find_same group n [] (b ∷ bs) same = absurd same
find_same group n (a ∷ as') [] same = absurd same
find_same group n (a ∷ as') (b ∷ bs) same =
    step (has_misplaced group a) (has_misplaced group b) (of_pv group a.sectors b.sectors a.pv b.pv same.0 same.1)
    (find_same group (n + 1) as' bs same.2)
  where
    later : List Reading → Option (ℕ × Reading)
    later l = find (λ (d : ℕ × Reading). has_misplaced group d.1) (enumerate_from (n + 1) l)

    step : (x y : Bool) → x ≡ y → option_map (λ (d : ℕ × Reading). d.0)
        (find (λ (d : ℕ × Reading). has_misplaced group d.1) (enumerate_from (n + 1) as'))
        ≡ option_map (λ (d : ℕ × Reading). d.0) (find (λ (d : ℕ × Reading). has_misplaced group d.1) (enumerate_from (n + 1) bs))
        → option_map (λ (d : ℕ × Reading). d.0) (cond x (Some (n, a))
        (find (λ (d : ℕ × Reading). has_misplaced group d.1) (enumerate_from (n + 1) as')))
        ≡ option_map (λ (d : ℕ × Reading). d.0) (cond y (Some (n, b))
        (find (λ (d : ℕ × Reading). has_misplaced group d.1) (enumerate_from (n + 1) bs)))
    step true true is rest = refl
    step false false is rest = rest
    step true false is rest = absurd (false≢true (sym is))
    step false true is rest = absurd (false≢true is)

pub ids_same : (n : ℕ) (as' bs : List Reading) → SameHeaders as' bs → ids_from n as' ≡ ids_from n bs
ids_same n [] [] same = refl
ids_same n [] (b ∷ bs) same = absurd same
ids_same n (a ∷ as') [] same = absurd same
ids_same n (a ∷ as') (b ∷ bs) same = of (a.pv) (b.pv) same.1 (ids_same (n + 1) as' bs same.2) where
  of : (x y : Option Found) → SamePv x y → ids_from (n + 1) as' ≡ ids_from (n + 1) bs
      → unwrap_or (option_map (λ (pv : Found). (n, pv.id) ∷ ids_from (n + 1) as') x) (ids_from (n + 1) as')
      ≡ unwrap_or (option_map (λ (pv : Found). (n, pv.id) ∷ ids_from (n + 1) bs) y) (ids_from (n + 1) bs)
  of None None is rest = rest
  of None (Some y) is rest = absurd is
  of (Some x) None is rest = absurd is
  of (Some x) (Some y) is rest =
      ap (λ (id : List ℕ). (n, id) ∷ ids_from (n + 1) as') is.0 ∙ ap (λ (l : List (ℕ × List ℕ)). (n, y.id) ∷ l) rest

pub same_shape : (group : Group) (as' bs : List Reading) → SameHeaders as' bs → HasShape group as' → HasShape group bs
same_shape group as' bs same shape =
    record {
      apart = ap first_duplicate (sym (ids_same 0 as' bs same)) ∙ shape.apart;
      placed = sym (find_same group 0 as' bs same) ∙ shape.placed;
    }
