-- Disks that read again as they did, but for areas that give a new copy of a group.
use Rattle.std.proofs.Common.{◌≡◌, ◌⊎◌, ℕ, Bool, true, false, ◌&&◌, ◌||◌, cond, List, [], ◌∷◌, map, Option, Some, None, inl, inr, ⊎_elim}
use Rattle.std.proofs.Common.{refl, sym, ap, subst, ◌∙◌, not}
use Rattle.std.specs.Prelude.{filter, filter_map, option_map, unwrap_or}
use Rattle.std.specs.List.{AllByRecursion, cons_option, list_any}
use Rattle.std.proofs.lemmas.Bool.{or_left, or_right, false≢true}
use Rattle.std.proofs.lemmas.Option.{same_Some}
use Rattle.std.specs.Str.{bytes_eq}
use Rattle.meta_model.specs.declared.group.Group.{Group}
use Rattle.meta_model.specs.declared.pv.Pv.{Pv}
use Rattle.scan_rules.specs.Decision.{Area, AreaReading, Conflict, Copy, DuplicatePv, Found, FoundGroup, GivesNoLater, HasShape, Held}
use Rattle.scan_rules.specs.Decision.{HoldsNone, NoCopy, NoGroup, PvShape, Reading, SameAreas, SameHeaders, SamePv, ScanAnswer, TwoGroups}
use Rattle.scan_rules.specs.Decision.{Unsupported, decide_scan, gives, group_found, has_id, holds, is_held, is_listed, lists}
use Rattle.scan_rules.specs.Found.{is_missing, missing_of}
use Rattle.scan_rules.proofs.Scanning.{same_bytes_to, scan_finds}
use Rattle.image_scans.proofs.AreaReadings.{AreasGive, DisksGive, GivenHas, PvGives, each_given}

-- an area that isn't ignored gives what it gave, or this or nothing, where that is allowed
abbrev pub GivesAgain : AreaReading → Bool → (AreaReading → Bool) → Option AreaReading → Option AreaReading → Type 0
GivesAgain new may bare None after = after ≡ None
GivesAgain new may bare (Some r) after =
    (after ≡ Some r) ⊎ (((after ≡ Some new) × (may ≡ true)) ⊎ ((after ≡ Some HoldsNone) × (bare r ≡ true)))

-- areas in their order
abbrev pub AreasAgain : AreaReading → Bool → (AreaReading → Bool) → List Area → List Area → Type 0
AreasAgain new may bare [] [] = Unit {0}
AreasAgain new may bare [] (b ∷ bs) = ⊥
AreasAgain new may bare (a ∷ as') [] = ⊥
AreasAgain new may bare (a ∷ as') (b ∷ bs) =
    (a.start ≡ b.start) × (a.sectors ≡ b.sectors) × GivesAgain new may bare a.reading b.reading × AreasAgain new may bare as' bs

-- which physical volumes may give the new copy is told by their ids
abbrev pub PvAgain : (List ℕ → Bool) → (List ℕ → AreaReading → Bool) → AreaReading → Option Found → Option Found → Type 0
PvAgain may bare new None None = Unit {0}
PvAgain may bare new None (Some b) = ⊥
PvAgain may bare new (Some a) None = ⊥
PvAgain may bare new (Some a) (Some b) = (a.id ≡ b.id) × AreasAgain new (may a.id) (bare a.id) a.areas b.areas

abbrev pub DisksAgain : (List ℕ → Bool) → (List ℕ → AreaReading → Bool) → AreaReading → List Reading → List Reading → Type 0
DisksAgain may bare new [] [] = Unit {0}
DisksAgain may bare new [] (b ∷ bs) = ⊥
DisksAgain may bare new (a ∷ as') [] = ⊥
DisksAgain may bare new (a ∷ as') (b ∷ bs) = (a.sectors ≡ b.sectors) × PvAgain may bare new a.pv b.pv × DisksAgain may bare new as' bs

-- ---- their headers are the same

areas_places : (new : AreaReading) (may : Bool) (bare : AreaReading → Bool) (as' bs : List Area) → AreasAgain new may bare as' bs
    → SameAreas as' bs
areas_places new may bare [] [] again = tt
areas_places new may bare [] (b ∷ bs) again = absurd again
areas_places new may bare (a ∷ as') [] again = absurd again
areas_places new may bare (a ∷ as') (b ∷ bs) again = (again.0, again.1, areas_places new may bare as' bs again.3)

pv_places : (may : List ℕ → Bool) (bare : List ℕ → AreaReading → Bool) (new : AreaReading) (a b : Option Found) → PvAgain may bare new a b
    → SamePv a b
pv_places may bare new None None again = tt
pv_places may bare new None (Some b) again = absurd again
pv_places may bare new (Some a) None again = absurd again
pv_places may bare new (Some a) (Some b) again = (again.0, areas_places new (may a.id) (bare a.id) a.areas b.areas again.1)

pub again_headers : (may : List ℕ → Bool) (bare : List ℕ → AreaReading → Bool) (new : AreaReading) (as' bs : List Reading)
    → DisksAgain may bare new as' bs → SameHeaders as' bs
again_headers may bare new [] [] again = tt
again_headers may bare new [] (b ∷ bs) again = absurd again
again_headers may bare new (a ∷ as') [] again = absurd again
again_headers may bare new (a ∷ as') (b ∷ bs) again =
    (again.0, pv_places may bare new a.pv b.pv again.1, again_headers may bare new as' bs again.2)

-- ---- what they give

module _ (P : AreaReading → Type 0) (new : AreaReading) (is_new : P new) (is_none : P HoldsNone) where
  given_again : (may : Bool) (bare : AreaReading → Bool) (a b : Option AreaReading) → GivesAgain new may bare a b → GivenHas P a
      → GivenHas P b
  given_again may bare None b again has = subst (GivenHas P) (sym again) tt
  given_again may bare (Some r) b (inl same) has = subst (GivenHas P) (sym same) has
  given_again may bare (Some r) b (inr (inl made)) has = subst (GivenHas P) (sym made.0) is_new
  given_again may bare (Some r) b (inr (inr none)) has = subst (GivenHas P) (sym none.0) is_none

  areas_again : (may : Bool) (bare : AreaReading → Bool) (as' bs : List Area) → AreasAgain new may bare as' bs → AreasGive P as'
      → AreasGive P bs
  areas_again may bare [] [] again all = tt
  areas_again may bare [] (b ∷ bs) again all = absurd again
  areas_again may bare (a ∷ as') [] again all = absurd again
  areas_again may bare (a ∷ as') (b ∷ bs) again all =
      (given_again may bare a.reading b.reading again.2 all.0, areas_again may bare as' bs again.3 all.1)

  pv_again : (may : List ℕ → Bool) (bare : List ℕ → AreaReading → Bool) (a b : Option Found) → PvAgain may bare new a b → PvGives P a
      → PvGives P b
  pv_again may bare None None again all = tt
  pv_again may bare None (Some b) again all = absurd again
  pv_again may bare (Some a) None again all = absurd again
  pv_again may bare (Some a) (Some b) again all = areas_again (may a.id) (bare a.id) a.areas b.areas again.1 all

  pub again_give : (may : List ℕ → Bool) (bare : List ℕ → AreaReading → Bool) (as' bs : List Reading) → DisksAgain may bare new as' bs
      → DisksGive (λ disk. P) as' → DisksGive (λ disk. P) bs
  again_give may bare [] [] again all = tt
  again_give may bare [] (b ∷ bs) again all = absurd again
  again_give may bare (a ∷ as') [] again all = absurd again
  again_give may bare (a ∷ as') (b ∷ bs) again all = (pv_again may bare a.pv b.pv again.1 all.0, again_give may bare as' bs again.2 all.1)

-- ---- a listed disk gives the new copy, or they read as they did

module _ (group : Group) (text : List ℕ) (passed : List (List ℕ)) where
  abbrev new : AreaReading
  new = Copy group text passed

  gives_new : gives text new ≡ true
  gives_new = same_bytes_to text text refl

  abbrev HasIt : Bool → List Area → Type 0
  HasIt may areas = (may ≡ true) × (list_any (gives text) (filter_map (λ (area : Area). area.reading) areas) ≡ true)

  any_later : (o : Option AreaReading) (rest : List AreaReading) → list_any (gives text) rest ≡ true
      → list_any (gives text) (cons_option o rest) ≡ true
  any_later None rest any = any
  any_later (Some r) rest any = or_right (gives text r) (list_any (gives text) rest) any

  any_first : (o : Option AreaReading) (rest : List AreaReading) → o ≡ Some new → list_any (gives text) (cons_option o rest) ≡ true
  any_first o rest is =
      ap (λ x. list_any (gives text) (cons_option x rest)) is ∙ or_left (gives text new) (list_any (gives text) rest) gives_new

  one_new : (may : Bool) (a b : Option AreaReading) → GivesAgain new may (λ r. false) a b → ((may ≡ true) × (b ≡ Some new)) ⊎ (b ≡ a)
  one_new may None b again = inr again
  one_new may (Some r) b (inl same) = inr same
  one_new may (Some r) b (inr (inl made)) = inl (made.1, made.0)
  one_new may (Some r) b (inr (inr none)) = absurd (false≢true none.1)

  areas_new : (may : Bool) (as' bs : List Area) → AreasAgain new may (λ r. false) as' bs → HasIt may bs ⊎ (bs ≡ as')
  areas_new may [] [] again = inr refl
  areas_new may [] (b ∷ bs) again = absurd again
  areas_new may (a ∷ as') [] again = absurd again
  areas_new may (a ∷ as') (b ∷ bs) again =
      let rest : List AreaReading = filter_map (λ (area : Area). area.reading) bs in
      ⊎_elim
      (λ made. inl (made.0, any_first b.reading rest made.1))
      (λ same.
      ⊎_elim
      (λ later. inl (later.0, any_later b.reading rest later.1))
      (λ others. inr (λ i. record { start = sym again.0 i; sectors = sym again.1 i; reading = same i } ∷ others i))
      (areas_new may as' bs again.3))
      (one_new may a.reading b.reading again.2)

  pv_new : (a b : Option Found) → PvAgain (lists group) (λ id r. false) new a b → (s : ℕ)
      → ((is_listed group (record { sectors = s; pv = b }) && holds text (record { sectors = s; pv = b })) ≡ true) ⊎ (b ≡ a)
  pv_new None None again s = inr refl
  pv_new None (Some b) again s = absurd again
  pv_new (Some a) None again s = absurd again
  pv_new (Some a) (Some b) again s =
      ⊎_elim
      (λ it. inl (ap (λ (x : Bool). x && list_any (gives text) (filter_map (λ (area : Area). area.reading) b.areas))
      (ap (lists group) (sym again.0) ∙ it.0) ∙ it.1))
      (λ same. inr (λ i. Some (record { id = sym again.0 i; areas = same i })))
      (areas_new (lists group a.id) a.areas b.areas again.1)

  pub held_or_same : (as' bs : List Reading) → DisksAgain (lists group) (λ id r. false) new as' bs
      → (is_held group text bs ≡ true) ⊎ (bs ≡ as')
  held_or_same [] [] again = inr refl
  held_or_same [] (b ∷ bs) again = absurd again
  held_or_same (a ∷ as') [] again = absurd again
  held_or_same (a ∷ as') (b ∷ bs) again =
      ⊎_elim
      (λ here. inl (or_left (is_listed group b && holds text b) (is_held group text bs) here))
      (λ same.
      ⊎_elim
      (λ later. inl (or_right (is_listed group b && holds text b) (is_held group text bs) later))
      (λ others. inr (λ i. record { sectors = sym again.0 i; pv = same i } ∷ others i))
      (held_or_same as' bs again.2))
      (pv_new a.pv b.pv again.1 b.sectors)

-- ---- where none may give a new copy they read as they did

none_new : (new : AreaReading) (a b : Option AreaReading) → GivesAgain new false (λ r. false) a b → b ≡ a
none_new new None b again = again
none_new new (Some r) b (inl same) = same
none_new new (Some r) b (inr (inl made)) = absurd (false≢true made.1)
none_new new (Some r) b (inr (inr none)) = absurd (false≢true none.1)

areas_as_before : (new : AreaReading) (as' bs : List Area) → AreasAgain new false (λ r. false) as' bs → bs ≡ as'
areas_as_before new [] [] again = refl
areas_as_before new [] (b ∷ bs) again = absurd again
areas_as_before new (a ∷ as') [] again = absurd again
areas_as_before new (a ∷ as') (b ∷ bs) again =
    λ i. record { start = sym again.0 i; sectors = sym again.1 i; reading = none_new new a.reading b.reading again.2 i }
    ∷ areas_as_before new as' bs again.3 i

pv_as_before : (new : AreaReading) (a b : Option Found) → PvAgain (λ id. false) (λ id r. false) new a b → b ≡ a
pv_as_before new None None again = refl
pv_as_before new None (Some b) again = absurd again
pv_as_before new (Some a) None again = absurd again
pv_as_before new (Some a) (Some b) again = λ i. Some (record { id = sym again.0 i; areas = areas_as_before new a.areas b.areas again.1 i })

pub as_before : (new : AreaReading) (as' bs : List Reading) → DisksAgain (λ id. false) (λ id r. false) new as' bs → bs ≡ as'
as_before new [] [] again = refl
as_before new [] (b ∷ bs) again = absurd again
as_before new (a ∷ as') [] again = absurd again
as_before new (a ∷ as') (b ∷ bs) again =
    λ i. record { sectors = sym again.0 i; pv = pv_as_before new a.pv b.pv again.1 i } ∷ as_before new as' bs again.2 i

-- ---- an answer with a group and text

pub record Finds (disks : List Reading) (group : Group) (text : List ℕ) : Type 0 where
  pub held : Held
  pub stale : List (ℕ × ℕ)
  pub strays : List ℕ
  pub missing : List (List ℕ)
  pub is : decide_scan disks ≡ FoundGroup held stale strays missing
  pub group_is : held.group ≡ group
  pub text_is : held.text ≡ text

finds_by : (disks : List Reading) (group : Group) (text : List ℕ) (answer : ScanAnswer) → decide_scan disks ≡ answer
    → group_found answer ≡ Some (group, text) → Finds disks group text
finds_by disks group text (FoundGroup held stale strays missing) is has =
    let both : (held.group, held.text) ≡ (group, text) = same_Some (held.group, held.text) (group, text) has in
    record {
      held = held;
      stale = stale;
      strays = strays;
      missing = missing;
      is = is;
      group_is = ap (λ (p : Group × List ℕ). p.0) both;
      text_is = ap (λ (p : Group × List ℕ). p.1) both;
    }
finds_by disks group text NoGroup is has = absurd cc
finds_by disks group text (DuplicatePv a b) is has = absurd cc
finds_by disks group text (NoCopy rs) is has = absurd cc
finds_by disks group text (Unsupported pv) is has = absurd cc
finds_by disks group text (TwoGroups a b) is has = absurd cc
finds_by disks group text (Conflict a b seqno) is has = absurd cc
finds_by disks group text (PvShape pv) is has = absurd cc

pub finds_newest : (group : Group) (text : List ℕ) (disks : List Reading) → HasShape group disks
    → DisksGive (λ disk. GivesNoLater group text) disks → is_held group text disks ≡ true → Finds disks group text
finds_newest group text disks shape all held =
    finds_by disks group text (decide_scan disks) refl
    (scan_finds group text disks shape (each_given (GivesNoLater group text) disks all) held)

-- ---- what is missing

id_on : (id : List ℕ) (a b : Option Found) → SamePv a b
    → unwrap_or (option_map (λ (pv : Found). bytes_eq pv.id id) a) false
    ≡ unwrap_or (option_map (λ (pv : Found). bytes_eq pv.id id) b) false
id_on id None None same = refl
id_on id None (Some b) same = absurd same
id_on id (Some a) None same = absurd same
id_on id (Some a) (Some b) same = ap (λ (own : List ℕ). bytes_eq own id) same.0

pub same_ids : (id : List ℕ) (as' bs : List Reading) → SameHeaders as' bs → list_any (has_id id) as' ≡ list_any (has_id id) bs
same_ids id [] [] same = refl
same_ids id [] (b ∷ bs) same = absurd same
same_ids id (a ∷ as') [] same = absurd same
same_ids id (a ∷ as') (b ∷ bs) same =
    ap (λ (x : Bool). x || list_any (has_id id) as') (id_on id a.pv b.pv same.1)
    ∙ ap (λ (x : Bool). has_id id b || x) (same_ids id as' bs same.2)

pub none_missing : (disks : List Reading) (pvs : List (List ℕ × Pv)) → AllByRecursion (λ pv. is_missing disks pv ≡ false) pvs
    → missing_of disks pvs ≡ []
none_missing disks [] all = refl
none_missing disks (pv ∷ pvs) all =
    ap (λ (b : Bool). map (λ (p : List ℕ × Pv). p.1.id) (cond b (pv ∷ filter (is_missing disks) pvs) (filter (is_missing disks) pvs))) all.0
    ∙ none_missing disks pvs all.1

-- which physical volumes are missing is told by ids
kept_same : (pv : List ℕ × Pv) (b : Bool) (xs ys : List (List ℕ × Pv))
    → map (λ (x : List ℕ × Pv). x.1.id) xs ≡ map (λ (x : List ℕ × Pv). x.1.id) ys
    → map (λ (x : List ℕ × Pv). x.1.id) (cond b (pv ∷ xs) xs) ≡ map (λ (x : List ℕ × Pv). x.1.id) (cond b (pv ∷ ys) ys)
kept_same pv true xs ys same = ap (λ (l : List (List ℕ)). pv.1.id ∷ l) same
kept_same pv false xs ys same = same

pub missing_same : (as' bs : List Reading) (pvs : List (List ℕ × Pv)) → SameHeaders as' bs → missing_of as' pvs ≡ missing_of bs pvs
missing_same as' bs [] same = refl
missing_same as' bs (pv ∷ pvs) same =
    kept_same pv (is_missing as' pv) (filter (is_missing as') pvs) (filter (is_missing bs) pvs) (missing_same as' bs pvs same)
    ∙ ap (λ (b : Bool). map (λ (x : List ℕ × Pv). x.1.id) (cond b (pv ∷ filter (is_missing bs) pvs) (filter (is_missing bs) pvs)))
    (ap (λ (b : Bool). pv.1.missing || not b) (same_ids pv.1.id as' bs same))

not_missing : (disks : List Reading) (pv : List ℕ × Pv) (pvs : List (List ℕ × Pv)) (b : Bool) → is_missing disks pv ≡ b
    → map (λ (p : List ℕ × Pv). p.1.id) (cond b (pv ∷ filter (is_missing disks) pvs) (filter (is_missing disks) pvs)) ≡ []
    → (is_missing disks pv ≡ false) × (missing_of disks pvs ≡ [])
not_missing disks pv pvs true is none = absurd cc
not_missing disks pv pvs false is none = (is, none)

pub all_there : (disks : List Reading) (pvs : List (List ℕ × Pv)) → missing_of disks pvs ≡ []
    → AllByRecursion (λ pv. is_missing disks pv ≡ false) pvs
all_there disks [] none = tt
all_there disks (pv ∷ pvs) none =
    let parts = not_missing disks pv pvs (is_missing disks pv) refl none in (parts.0, all_there disks pvs parts.1)
