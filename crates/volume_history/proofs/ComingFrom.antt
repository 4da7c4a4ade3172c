-- Volumes that a command leaves as they are, or of which it changes one, come from those before.
use Rattle.std.proofs.Common.{◌≡◌, ◌≤◌, ◌<◌, ℕ, ◌+◌, ◌==◌, Bool, true, false, ◌||◌, if◌then◌else◌, List, [], ◌∷◌, ◌++◌, filter, not, length}
use Rattle.std.proofs.Common.{Some, inl, inr, ⊎_elim, refl, sym, ap, subst, ◌∙◌, arith}
use Rattle.std.specs.Str.{bytes_eq}
use Rattle.std.proofs.lemmas.Bool.Decides.{nat_tests}
use Rattle.std.proofs.lemmas.Option.{same_Some}
use Rattle.disk_model.specs.Steps.{Image}
use Rattle.line_table.specs.Machine.{PlainState, PlainStep, PlainVolume, key_of, with_key}
use Rattle.list_laws.proofs.Bools.{eq_to}
use Rattle.volume_history.proofs.Quiet.{values_length}
use Rattle.volume_history.specs.Candidates.{is_born, place_at}
use Rattle.volume_history.specs.Changing.{changed_named, has_named, without_named}
use Rattle.volume_history.specs.Placed.{Place, PlacedVolume, values_on}
use Rattle.volume_history.specs.Replay.{key_or, opening_volumes, places_named}
use Rattle.volume_history.specs.Reshaping.{AllCome, ComesFrom, StoodAt}

-- the machine's volume of this key
abbrev pub plain_at : Image → ℕ → PlacedVolume → PlainVolume
plain_at opening k v = record { key = k; name = v.name; sectors = values_on opening v.places }

-- these volumes, with keys from here on, are among all
abbrev pub AreAmong : List PlacedVolume → ℕ → List PlacedVolume → Type 0
AreAmong whole k vs = (key x : ℕ) (place : Place) → StoodAt vs k key x place → StoodAt whole 0 key x place

pub none_equal : (a b : ℕ) → a + 1 ≤ b → (a == b) ≡ false
none_equal a b le = grind (arith, nat_tests)

pub other_equal : (a b : ℕ) → b + 1 ≤ a → (a == b) ≡ false
other_equal a b le = grind (arith, nat_tests)

module _ (whole : List PlacedVolume) (state : PlainState) (step : PlainStep) (image opening : Image) where
  -- a sector that stood
  pub stood_comes : (k x : ℕ) (v : PlacedVolume) (vs : List PlacedVolume) → is_born step state k x ≡ false → x < length v.places
      → AreAmong whole k (v ∷ vs) → ComesFrom whole state step image k x (place_at v.places x)
  stood_comes k x v vs unborn lt among = inr (unborn, among k x (place_at v.places x) (inl (refl, lt, refl)))

  -- volumes that stay, of which none is born
  pub come_kept : (k : ℕ) (vs : List PlacedVolume) → ((key x : ℕ) → k ≤ key → key < k + length vs → is_born step state key x ≡ false)
      → AreAmong whole k vs → AllCome whole state step image vs (opening_volumes opening k vs)
  come_kept k [] unborn among = tt
  come_kept k (v ∷ vs) unborn among = (
    refl,
    values_length opening v.places,
    λ x lt. stood_comes k x v vs (unborn k x (omega arith) (omega arith)) lt among,
    come_kept (k + 1) vs (λ key x le lt. unborn key x (omega (arith, le)) (omega (arith, lt)))
        (λ key x place stood. among key x place (inr stood)),
  )

  -- two lists, one behind the other
  pub come_both : (vs us : List PlacedVolume) (ps qs : List PlainVolume) → AllCome whole state step image vs ps
      → AllCome whole state step image us qs → AllCome whole state step image (vs ++ us) (ps ++ qs)
  come_both [] us [] qs a b = b
  come_both [] us (p ∷ ps) qs a b = absurd a
  come_both (v ∷ vs) us [] qs a b = absurd a
  come_both (v ∷ vs) us (p ∷ ps) qs a b = (a.0, a.1, a.2, come_both vs us ps qs a.3 b)

  -- ---- one volume is changed

  module _ (name : List ℕ) (change : PlacedVolume → PlacedVolume) (f : PlainVolume → PlainVolume) where
    -- keys from here on leave an earlier one alone
    pub rest_stays : (key k : ℕ) (vs : List PlacedVolume) → key + 1 ≤ k
        → with_key key f (opening_volumes opening k vs) ≡ opening_volumes opening k vs
    rest_stays key k [] le = refl
    rest_stays key k (v ∷ vs) le =
        ap (λ (b : Bool). (if b then f (plain_at opening k v) else plain_at opening k v)
        ∷ with_key key f (opening_volumes opening (k + 1) vs)) (other_equal k key le)
        ∙ ap (λ (l : List PlainVolume). plain_at opening k v ∷ l) (rest_stays key (k + 1) vs (omega (arith, le)))

  -- the key of the first volume of a name
  pub key_from : (name : List ℕ) (k : ℕ) (vs : List PlacedVolume) (key : ℕ) → key_of (opening_volumes opening k vs) name ≡ Some key
      → k ≤ key
  key_from name k [] key found = absurd cc
  key_from name k (v ∷ vs) key found = by (λ is. key_from name (k + 1) vs key is) (bytes_eq v.name name) found
    where
      by : (key_of (opening_volumes opening (k + 1) vs) name ≡ Some key → k + 1 ≤ key) → (b : Bool)
          → (if b then Some k else key_of (opening_volumes opening (k + 1) vs) name) ≡ Some key → k ≤ key
      by rest true is = let e : k ≡ key = same_Some k key is in omega (arith, e)
      by rest false is = let le : k + 1 ≤ key = rest is in omega (arith, le)

  -- what is asked of the volume that is changed, whose key is this
  abbrev pub Comes : PlacedVolume → PlainVolume → Type 0
  Comes v p =
      (v.name ≡ p.name) × (length v.places ≡ length p.sectors)
      × ((x : ℕ) → x < length v.places → ComesFrom whole state step image p.key x (place_at v.places x))

  module _ (name : List ℕ) (change : PlacedVolume → PlacedVolume) (f : PlainVolume → PlainVolume) (key : ℕ)
      (unborn : (other x : ℕ) → (key == other) ≡ false → is_born step state other x ≡ false) where
    pub come_changed : (k : ℕ) (vs : List PlacedVolume) → key_of (opening_volumes opening k vs) name ≡ Some key → AreAmong whole k vs
        → ((v : PlacedVolume) → places_named vs name ≡ v.places
        → ((x : ℕ) (place : Place) → StoodAt (v ∷ []) key key x place → StoodAt whole 0 key x place)
        → Comes (change v) (f (plain_at opening key v)))
        → AllCome whole state step image (changed_named name change vs) (with_key key f (opening_volumes opening k vs))
    come_changed k [] found among own = absurd cc
    come_changed k (v ∷ vs) found among own =
        by (λ no is. come_changed (k + 1) vs is (λ a x place stood. among a x place (inr stood))
        (λ u e. own u (ap (λ (b : Bool). if b then v.places else places_named vs name) no ∙ e))) (bytes_eq v.name name) refl found
      where
        by : (bytes_eq v.name name ≡ false → key_of (opening_volumes opening (k + 1) vs) name ≡ Some key
            → AllCome whole state step image (changed_named name change vs) (with_key key f (opening_volumes opening (k + 1) vs)))
            → (b : Bool) → bytes_eq v.name name ≡ b → (if b then Some k else key_of (opening_volumes opening (k + 1) vs) name) ≡ Some key
            → AllCome whole state step image (if b then change v ∷ vs else v ∷ changed_named name change vs)
            (with_key key f (opening_volumes opening k (v ∷ vs)))
        by rest true named is =
            let e : k ≡ key = same_Some k key is in
            let here : (x : ℕ) (place : Place) → StoodAt (v ∷ []) key key x place → StoodAt whole 0 key x place =
            λ x place. ⊎_elim (λ at. among key x place (inl (e, at.1, at.2))) (λ none. absurd none) in
            let made : Comes (change v) (f (plain_at opening key v)) =
            own v (ap (λ (b : Bool). if b then v.places else places_named vs name) named) here in
            subst (λ (b : Bool). AllCome whole state step image (change v ∷ vs)
            ((if b then f (plain_at opening k v) else plain_at opening k v) ∷ with_key key f (opening_volumes opening (k + 1) vs)))
            (sym (eq_to k key e))
            (subst (λ (l : List PlainVolume). AllCome whole state step image (change v ∷ vs) (f (plain_at opening k v) ∷ l))
            (sym (rest_stays name change f key (k + 1) vs (omega (arith, e))))
            (subst (λ (n : ℕ). AllCome whole state step image (change v ∷ vs)
            (f (plain_at opening n v) ∷ opening_volumes opening (k + 1) vs)) (sym e) (
              made.0,
              made.1,
              made.2,
              come_kept (k + 1) vs (λ other x le lt. unborn other x (none_equal key other (omega (arith, e, le))))
                  (λ a x place stood. among a x place (inr stood)),
            )))
        by rest false named is =
            let later : k + 1 ≤ key = key_from name (k + 1) vs key is in
            subst (λ (b : Bool). AllCome whole state step image (v ∷ changed_named name change vs)
            ((if b then f (plain_at opening k v) else plain_at opening k v) ∷ with_key key f (opening_volumes opening (k + 1) vs)))
            (sym (none_equal k key later)) (
              refl,
              values_length opening v.places,
              (λ x lt. stood_comes k x v vs (unborn k x (other_equal key k later)) lt among),
              rest named is,
            )

    -- ---- one volume is gone

    rest_left : (k : ℕ) (vs : List PlacedVolume) → key + 1 ≤ k
        → filter (λ (p : PlainVolume). not (p.key == key)) (opening_volumes opening k vs) ≡ opening_volumes opening k vs
    rest_left k [] le = refl
    rest_left k (v ∷ vs) le =
        ap (λ (b : Bool). if not b then plain_at opening k v
        ∷ filter (λ (p : PlainVolume). not (p.key == key)) (opening_volumes opening (k + 1) vs) else filter
        (λ (p : PlainVolume). not (p.key == key)) (opening_volumes opening (k + 1) vs)) (other_equal k key le)
        ∙ ap (λ (l : List PlainVolume). plain_at opening k v ∷ l) (rest_left (k + 1) vs (omega (arith, le)))

    pub come_without : (k : ℕ) (vs : List PlacedVolume) → key_of (opening_volumes opening k vs) name ≡ Some key → AreAmong whole k vs
        → AllCome whole state step image (without_named name vs)
        (filter (λ (p : PlainVolume). not (p.key == key)) (opening_volumes opening k vs))
    come_without k [] found among = absurd cc
    come_without k (v ∷ vs) found among =
        by (λ is. come_without (k + 1) vs is (λ a x place stood. among a x place (inr stood))) (bytes_eq v.name name) found
      where
        by : (key_of (opening_volumes opening (k + 1) vs) name ≡ Some key
            → AllCome whole state step image (without_named name vs)
            (filter (λ (p : PlainVolume). not (p.key == key)) (opening_volumes opening (k + 1) vs)))
            → (b : Bool) → (if b then Some k else key_of (opening_volumes opening (k + 1) vs) name) ≡ Some key
            → AllCome whole state step image (if b then vs else v ∷ without_named name vs)
            (filter (λ (p : PlainVolume). not (p.key == key)) (opening_volumes opening k (v ∷ vs)))
        by rest true is =
            let e : k ≡ key = same_Some k key is in
            subst (λ (b : Bool). AllCome whole state step image vs
            (if not b then plain_at opening k v ∷ filter (λ (p : PlainVolume). not (p.key == key)) (opening_volumes opening (k + 1) vs)
            else filter (λ (p : PlainVolume). not (p.key == key)) (opening_volumes opening (k + 1) vs)))
            (sym (eq_to k key e))
            (subst (λ (l : List PlainVolume). AllCome whole state step image vs l) (sym (rest_left (k + 1) vs (omega (arith, e))))
            (come_kept (k + 1) vs (λ other x le lt. unborn other x (none_equal key other (omega (arith, e, le))))
            (λ a x place stood. among a x place (inr stood))))
        by rest false is =
            let later : k + 1 ≤ key = key_from name (k + 1) vs key is in
            subst (λ (b : Bool). AllCome whole state step image (v ∷ without_named name vs)
            (if not b then plain_at opening k v ∷ filter (λ (p : PlainVolume). not (p.key == key)) (opening_volumes opening (k + 1) vs)
            else filter (λ (p : PlainVolume). not (p.key == key)) (opening_volumes opening (k + 1) vs)))
            (sym (none_equal k key later))
            (refl, values_length opening v.places, (λ x lt. stood_comes k x v vs (unborn k x (other_equal key k later)) lt among), rest is)

-- a volume that is named has a key
pub named_key : (opening : Image) (name : List ℕ) (k : ℕ) (vs : List PlacedVolume) → has_named name vs ≡ true
    → (key : ℕ) × (key_of (opening_volumes opening k vs) name ≡ Some key)
named_key opening name k [] has = absurd cc
named_key opening name k (v ∷ vs) has = by (λ is. named_key opening name (k + 1) vs is) (bytes_eq v.name name) has
  where
    by : (has_named name vs ≡ true → (key : ℕ) × (key_of (opening_volumes opening (k + 1) vs) name ≡ Some key)) → (b : Bool)
        → (b || has_named name vs) ≡ true → (key : ℕ)
        × ((if b then Some k else key_of (opening_volumes opening (k + 1) vs) name) ≡ Some key)
    by rest true is = (k, refl)
    by rest false is = rest is

-- it is found by it
pub found_key : (opening : Image) (name : List ℕ) (vs : List PlacedVolume) → has_named name vs ≡ true
    → key_of (opening_volumes opening 0 vs) name ≡ Some (key_or (key_of (opening_volumes opening 0 vs) name))
found_key opening name vs has = let k = named_key opening name 0 vs has in k.1 ∙ ap (λ (n : ℕ). Some n) (sym (ap key_or k.1))

-- its places, once it is changed
pub places_changed : (name : List ℕ) (change : PlacedVolume → PlacedVolume) (g : List Place → List Place)
    → ((v : PlacedVolume) → (change v).name ≡ v.name) → ((v : PlacedVolume) → (change v).places ≡ g v.places)
    → (vs : List PlacedVolume) → has_named name vs ≡ true → places_named (changed_named name change vs) name ≡ g (places_named vs name)
places_changed name change g same_name is [] has = absurd cc
places_changed name change g same_name is (v ∷ vs) has =
    by (λ no more. places_changed name change g same_name is vs more) (bytes_eq v.name name) refl has
  where
    by : (bytes_eq v.name name ≡ false → has_named name vs ≡ true
        → places_named (changed_named name change vs) name ≡ g (places_named vs name)) → (b : Bool) → bytes_eq v.name name ≡ b
        → (b || has_named name vs) ≡ true
        → places_named (if b then change v ∷ vs else v ∷ changed_named name change vs) name
        ≡ g (if b then v.places else places_named vs name)
    by rest true named has' =
        ap (λ (n : List ℕ). if bytes_eq n name then (change v).places else places_named vs name) (same_name v)
        ∙ ap (λ (b : Bool). if b then (change v).places else places_named vs name) named ∙ is v
    by rest false named has' =
        ap (λ (b : Bool). if b then v.places else places_named (changed_named name change vs) name) named ∙ rest named has'
