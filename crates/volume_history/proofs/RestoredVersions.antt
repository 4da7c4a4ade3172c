-- The version that a vgcfgrestore makes: volumes that stood keep their keys, whatever their order, and each sector stays at its
-- place or has what stands at its new one.
use Rattle.std.proofs.Common.{◌≡◌, ◌≤◌, ◌<◌, ℕ, zero, suc, ◌+◌, ◌==◌, ◌&&◌, ◌||◌, Bool, true, false, if◌then◌else◌, slice_index_or, List}
use Rattle.std.proofs.Common.{[], ◌∷◌, drop, length, map, Option, Some, None, inl, inr, ⊎_elim, refl, sym, ap, subst, ◌∙◌, arith}
use Rattle.std.specs.Prelude.{◌⊎◌}
use Rattle.std.specs.Str.{bytes_eq}
use Rattle.std.proofs.lemmas.Option.{same_Some}
use Rattle.command_table.specs.Commands.{Restore}
use Rattle.disk_model.specs.Steps.{Image}
use Rattle.line_table.specs.Machine.{PlainState, PlainStep, PlainVolume, Restored, RestoredVolume, key_of, restored_sectors}
use Rattle.line_table.specs.Machine.{restored_volume, sectors_of}
use Rattle.vg_scan.specs.Versions.{Version}
use Rattle.list_laws.proofs.Bools.{and_cases, either, eq_of, eq_to, itself, same_text}
use Rattle.volume_history.proofs.ComingFrom.{none_equal, other_equal}
use Rattle.volume_history.specs.Candidates.{is_given, is_replaced, no_image, place_at}
use Rattle.volume_history.specs.Changing.{HaveOwnIds, HaveOwnNames, has_named}
use Rattle.volume_history.specs.Placed.{Place, PlacedVolume, group_name, volumes_of}
use Rattle.volume_history.specs.Replay.{key_or, moved, next_after, next_restored, opening_volumes, restored, restored_as, volume_of_id}
use Rattle.volume_history.specs.Reshaping.{AllCome, ComesFrom, KindMakes, StoodAt, state_before}

-- ---- the sectors of one volume

moved_length : (image : Image) (olds places : List Place) → length (moved image olds places) ≡ length places
moved_length image olds [] = refl
moved_length image [] (p ∷ places) = ap suc (moved_length image [] places)
moved_length image (o ∷ olds) (p ∷ places) = ap suc (moved_length image olds places)

filled_length : (old : List (List ℕ)) (values : List (Option (List ℕ))) → length (restored_sectors old values) ≡ length values
filled_length old [] = refl
filled_length old (Some value ∷ rest) = ap suc (filled_length (drop 1 old) rest)
filled_length old (None ∷ rest) = ap suc (filled_length (drop 1 old) rest)

-- what is given, whatever the image shows
given_alike : (a b : Image) (olds places : List Place) (x : ℕ) → is_given (moved a olds places) x ≡ is_given (moved b olds places) x
given_alike a b olds [] x = refl
given_alike a b [] (p ∷ places) zero = refl
given_alike a b [] (p ∷ places) (suc x) = given_alike a b [] places x
given_alike a b (o ∷ olds) (p ∷ places) x = by (given_alike a b olds places) ((o.disk == p.disk) && (o.sector == p.sector)) x
  where
    by : ((y : ℕ) → is_given (moved a olds places) y ≡ is_given (moved b olds places) y) → (same : Bool) (y : ℕ)
        → is_given ((if same then None else Some (a p.disk p.sector)) ∷ moved a olds places) y
        ≡ is_given ((if same then None else Some (b p.disk p.sector)) ∷ moved b olds places) y
    by rest true zero = refl
    by rest false zero = refl
    by rest true (suc y) = rest y
    by rest false (suc y) = rest y

-- a sector that is given has what stands at its place
given_value : (image : Image) (old : List (List ℕ)) (olds places : List Place) (x : ℕ) → is_given (moved image olds places) x ≡ true
    → slice_index_or (restored_sectors old (moved image olds places)) x [] ≡ image (place_at places x).disk (place_at places x).sector
given_value image old olds [] x given = cc
given_value image old [] (p ∷ places) zero given = refl
given_value image old [] (p ∷ places) (suc x) given = given_value image (drop 1 old) [] places x given
given_value image old (o ∷ olds) (p ∷ places) x given =
    by (given_value image (drop 1 old) olds places) ((o.disk == p.disk) && (o.sector == p.sector)) x given
  where
    by : ((y : ℕ) → is_given (moved image olds places) y ≡ true
        → slice_index_or (restored_sectors (drop 1 old) (moved image olds places)) y []
        ≡ image (place_at places y).disk (place_at places y).sector)
        → (same : Bool) (y : ℕ) → is_given ((if same then None else Some (image p.disk p.sector)) ∷ moved image olds places) y ≡ true
        → slice_index_or (restored_sectors old ((if same then None else Some (image p.disk p.sector)) ∷ moved image olds places)) y []
        ≡ image (place_at (p ∷ places) y).disk (place_at (p ∷ places) y).sector
    by rest true zero is = cc
    by rest false zero is = refl
    by rest true (suc y) is = rest y is
    by rest false (suc y) is = rest y is

-- another one stands where it stood
same_place : (o p : Place) → ((o.disk == p.disk) && (o.sector == p.sector)) ≡ true → o ≡ p
same_place o p same =
    let parts = and_cases (o.disk == p.disk) (o.sector == p.sector) same in
    ap (λ (d : ℕ). record { disk = d; sector = o.sector }) (eq_of o.disk p.disk parts.0)
    ∙ ap (λ (s : ℕ). record { disk = p.disk; sector = s }) (eq_of o.sector p.sector parts.1)

stays_there : (image : Image) (olds places : List Place) (x : ℕ) → x < length places → is_given (moved image olds places) x ≡ false
    → (x < length olds) × (place_at olds x ≡ place_at places x)
stays_there image olds [] x lt stays = absurd (omega (arith, lt))
stays_there image [] (p ∷ places) zero lt stays = cc
stays_there image [] (p ∷ places) (suc x) lt stays =
    let rest = stays_there image [] places x (omega (arith, lt)) stays in absurd (let none = rest.0 in omega (arith, none))
stays_there image (o ∷ olds) (p ∷ places) x lt stays =
    by (stays_there image olds places) ((o.disk == p.disk) && (o.sector == p.sector)) refl x lt stays
  where
    by : ((y : ℕ) → y < length places → is_given (moved image olds places) y ≡ false
        → (y < length olds) × (place_at olds y ≡ place_at places y))
        → (same : Bool) → ((o.disk == p.disk) && (o.sector == p.sector)) ≡ same → (y : ℕ) → y < length (p ∷ places)
        → is_given ((if same then None else Some (image p.disk p.sector)) ∷ moved image olds places) y ≡ false
        → (y < length (o ∷ olds)) × (place_at (o ∷ olds) y ≡ place_at (p ∷ places) y)
    by rest true same zero less is = (omega arith, same_place o p same)
    by rest false same zero less is = cc
    by rest true same (suc y) less is = let there = rest y (omega (arith, less)) is in (let low = there.0 in omega (arith, low), there.1)
    by rest false same (suc y) less is = let there = rest y (omega (arith, less)) is in (let low = there.0 in omega (arith, low), there.1)

-- ---- the volumes that stood

-- of these volumes, with keys from here on, this one has this key
abbrev HasKey : List PlacedVolume → ℕ → ℕ → PlacedVolume → Type 0
HasKey [] first key v = ⊥
HasKey (u ∷ us) first key v = ((first ≡ key) × (u ≡ v)) ⊎ HasKey us (first + 1) key v

key_low : (us : List PlacedVolume) (first key : ℕ) (v : PlacedVolume) → HasKey us first key v → first ≤ key
key_low [] first key v has = absurd has
key_low (u ∷ us) first key v (inl here) = let e = here.0 in omega (arith, e)
key_low (u ∷ us) first key v (inr later) = let le = key_low us (first + 1) key v later in omega (arith, le)

key_high : (us : List PlacedVolume) (first key : ℕ) (v : PlacedVolume) → HasKey us first key v → key < first + length us
key_high [] first key v has = absurd has
key_high (u ∷ us) first key v (inl here) = let e = here.0 in omega (arith, e)
key_high (u ∷ us) first key v (inr later) = let lt = key_high us (first + 1) key v later in omega (arith, lt)

-- one key has one volume
one_volume : (us : List PlacedVolume) (first key : ℕ) (v w : PlacedVolume) → HasKey us first key v → HasKey us first key w → v ≡ w
one_volume [] first key v w a b = absurd a
one_volume (u ∷ us) first key v w (inl a) (inl b) = sym a.1 ∙ b.1
one_volume (u ∷ us) first key v w (inl a) (inr b) = let e = a.0 in let le = key_low us (first + 1) key w b in absurd (omega (arith, e, le))
one_volume (u ∷ us) first key v w (inr a) (inl b) = let e = b.0 in let le = key_low us (first + 1) key v a in absurd (omega (arith, e, le))
one_volume (u ∷ us) first key v w (inr a) (inr b) = one_volume us (first + 1) key v w a b

-- its sectors stood
stood_at : (us : List PlacedVolume) (first key : ℕ) (v : PlacedVolume) (x : ℕ) (place : Place) → HasKey us first key v → x < length v.places
    → place_at v.places x ≡ place → StoodAt us first key x place
stood_at [] first key v x place has lt at = absurd has
stood_at (u ∷ us) first key v x place (inl here) lt at =
    inl (
      here.0,
      subst (λ (w : PlacedVolume). x < length w.places) (sym here.1) lt,
      ap (λ (w : PlacedVolume). place_at w.places x) here.1 ∙ at,
    )
stood_at (u ∷ us) first key v x place (inr later) lt at = inr (stood_at us (first + 1) key v x place later lt at)

-- an earlier volume has another name
other_name : (name : List ℕ) (us : List PlacedVolume) (first key : ℕ) (v : PlacedVolume) → has_named name us ≡ false → HasKey us first key v
    → bytes_eq name v.name ≡ false
other_name name [] first key v none has = absurd has
other_name name (u ∷ us) first key v none (inl here) =
    ⊎_elim (λ same. by same (bytes_eq u.name name) refl none) (λ differ. differ) (either (bytes_eq name v.name))
  where
    by : bytes_eq name v.name ≡ true → (b : Bool) → bytes_eq u.name name ≡ b → (b || has_named name us) ≡ false
        → bytes_eq name v.name ≡ false
    by same true named is = cc
    by same false named is =
        let e : bytes_eq u.name name ≡ true =
        ap (λ (w : PlacedVolume). bytes_eq w.name name) here.1 ∙ ap (λ (n : List ℕ). bytes_eq n name) (sym (same_text name v.name same))
        ∙ itself name in
        cc
other_name name (u ∷ us) first key v none (inr later) = other_name name us (first + 1) key v (rest (bytes_eq u.name name) none) later
  where
    rest : (b : Bool) → (b || has_named name us) ≡ false → has_named name us ≡ false
    rest true is = cc
    rest false is = is

-- the volume of an id: it has the key that is found by its name
record Stood (opening : Image) (us : List PlacedVolume) (first : ℕ) (id : List ℕ) (old : PlacedVolume) : Type 0 where
  key : ℕ
  found : key_of (opening_volumes opening first us) old.name ≡ Some key
  has : HasKey us first key old
  own : bytes_eq old.id id ≡ true

stood : (opening : Image) (us : List PlacedVolume) (first : ℕ) (id : List ℕ) (old : PlacedVolume) → HaveOwnNames us
    → volume_of_id us id ≡ Some old → Stood opening us first id old
stood opening [] first id old names is = cc
stood opening (u ∷ us) first id old names is = by (stood opening us (first + 1) id old names.1) (bytes_eq u.id id) refl is
  where
    by : (volume_of_id us id ≡ Some old → Stood opening us (first + 1) id old) → (b : Bool) → bytes_eq u.id id ≡ b
        → (if b then Some u else volume_of_id us id) ≡ Some old → Stood opening (u ∷ us) first id old
    by more true same here =
        let e : u ≡ old = same_Some u old here in
        record {
          key = first;
          found =
              ap (λ (w : PlacedVolume). if bytes_eq u.name w.name then Some first else key_of (opening_volumes opening (first + 1) us)
              w.name) (sym e)
              ∙ ap (λ (b : Bool). if b then Some first else key_of (opening_volumes opening (first + 1) us) u.name) (itself u.name);
          has = inl (refl, e);
          own = ap (λ (w : PlacedVolume). bytes_eq w.id id) (sym e) ∙ same;
        }
    by more false same later =
        let rest : Stood opening us (first + 1) id old = more later in
        record {
          key = rest.key;
          found =
              ap (λ (b : Bool). if b then Some first else key_of (opening_volumes opening (first + 1) us) old.name)
              (other_name u.name us (first + 1) rest.key old names.0 rest.has) ∙ rest.found;
          has = inr rest.has;
          own = rest.own;
        }

-- ---- the keys of the volumes of the text

-- none of them has this key
abbrev AreOthers : ℕ → List RestoredVolume → Type 0
AreOthers key [] = Unit {0}
AreOthers key (r ∷ rs) = ((key == r.key) ≡ false) × AreOthers key rs

-- each of them is found by its key
abbrev AreFound : List PlainVolume → List RestoredVolume → List RestoredVolume → Type 0
AreFound volumes whole [] = Unit {0}
AreFound volumes whole (r ∷ rs) =
    ((x : ℕ) → is_replaced whole r.key x ≡ is_given r.sectors x)
    × (sectors_of (map (restored_volume volumes) whole) r.key ≡ (restored_volume volumes r).sectors)
    × AreFound volumes whole rs

found_more : (volumes : List PlainVolume) (q : RestoredVolume) (whole rs : List RestoredVolume) → AreOthers q.key rs
    → AreFound volumes whole rs → AreFound volumes (q ∷ whole) rs
found_more volumes q whole [] others are = tt
found_more volumes q whole (r ∷ rs) others are = (
  λ x. ap (λ (b : Bool). if b then is_given q.sectors x else is_replaced whole r.key x) others.0 ∙ are.0 x,
  ap (λ (b : Bool). if b then (restored_volume volumes q).sectors else sectors_of (map (restored_volume volumes) whole) r.key) others.0
      ∙ are.1,
  found_more volumes q whole rs others.1 are.2,
)

found_first : (volumes : List PlainVolume) (q : RestoredVolume) (rs : List RestoredVolume) → AreOthers q.key rs → AreFound volumes rs rs
    → AreFound volumes (q ∷ rs) (q ∷ rs)
found_first volumes q rs others are = (
  λ x. ap (λ (b : Bool). if b then is_given q.sectors x else is_replaced rs q.key x) (eq_to q.key q.key refl),
  ap (λ (b : Bool). if b then (restored_volume volumes q).sectors else sectors_of (map (restored_volume volumes) rs) q.key)
      (eq_to q.key q.key refl),
  found_more volumes q rs rs others are,
)

module _ (before : List PlacedVolume) (opening image : Image) (names : HaveOwnNames before) where
  abbrev volumes : List PlainVolume
  volumes = opening_volumes opening 0 before

  abbrev given : ℕ → List PlacedVolume → List RestoredVolume
  given next vs = restored before volumes image next vs

  -- the key that a volume gets
  key_is : (v : PlacedVolume) (next : ℕ) (old : PlacedVolume) (s : Stood opening before 0 v.id old)
      → (restored_as volumes image v next (Some old)).key ≡ s.key
  key_is v next old s = ap key_or s.found

  next_more : (next : ℕ) (o : Option PlacedVolume) → next ≤ next_after next o
  next_more next (Some old) = omega arith
  next_more next None = omega arith

  -- a new volume's key is another than those of the volumes behind it
  new_others : (key next : ℕ) (vs : List PlacedVolume) → length before ≤ key → key + 1 ≤ next → AreOthers key (given next vs)
  new_others key next [] from less = tt
  new_others key next (v ∷ vs) from less = (
    by (volume_of_id before v.id) refl,
    let more = next_more next (volume_of_id before v.id) in new_others key
        (next_after next (volume_of_id before v.id)) vs from (omega (arith, less, more)),
  )
    where
      by : (o : Option PlacedVolume) → volume_of_id before v.id ≡ o → (key == (restored_as volumes image v next o).key) ≡ false
      by None is = none_equal key next less
      by (Some old) is =
          let s : Stood opening before 0 v.id old = stood opening before 0 v.id old names is in
          let lt = key_high before 0 s.key old s.has in
          ap (λ (n : ℕ). key == n) (key_is v next old s) ∙ other_equal key s.key (omega (arith, lt, from))

  -- so is the key of one that stood
  old_others : (id : List ℕ) (old : PlacedVolume) (s : Stood opening before 0 id old) (next : ℕ) (vs : List PlacedVolume)
      → length before ≤ next → volume_of_id vs id ≡ None → AreOthers s.key (given next vs)
  old_others id old s next [] from none = tt
  old_others id old s next (v ∷ vs) from none =
      let parts = other_id (bytes_eq v.id id) refl none in (
        by parts.0 (volume_of_id before v.id) refl,
        let more = next_more next (volume_of_id before v.id) in
            old_others id old s (next_after next (volume_of_id before v.id)) vs (omega (arith, from, more)) parts.1,
      )
    where
      other_id : (b : Bool) → bytes_eq v.id id ≡ b → (if b then Some v else volume_of_id vs id) ≡ None
          → (bytes_eq v.id id ≡ false) × (volume_of_id vs id ≡ None)
      other_id true same is = cc
      other_id false differ is = (differ, is)

      by : bytes_eq v.id id ≡ false → (o : Option PlacedVolume) → volume_of_id before v.id ≡ o
          → (s.key == (restored_as volumes image v next o).key) ≡ false
      by differ None is = let lt = key_high before 0 s.key old s.has in none_equal s.key next (omega (arith, lt, from))
      by differ (Some other) is =
          let t : Stood opening before 0 v.id other = stood opening before 0 v.id other names is in
          ap (λ (n : ℕ). s.key == n) (key_is v next other t)
          ∙ ⊎_elim (λ same. one t (eq_of s.key t.key same)) (λ no. no) (either (s.key == t.key))
        where
          one : (t : Stood opening before 0 v.id other) → s.key ≡ t.key → (s.key == t.key) ≡ false
          one t same =
              let e : old ≡ other = one_volume before 0 t.key old other (subst (λ (k : ℕ). HasKey before 0 k old) same s.has) t.has in
              let own : bytes_eq other.id v.id ≡ true = t.own in
              let ids : bytes_eq v.id id ≡ true =
              ap (λ (i : List ℕ). bytes_eq i id) (sym (same_text other.id v.id own)) ∙ ap (λ (w : PlacedVolume). bytes_eq w.id id) (sym e)
              ∙ s.own in
              cc

  -- each volume of the text is found by its key
  are_found : (next : ℕ) (vs : List PlacedVolume) → length before ≤ next → HaveOwnIds vs → AreFound volumes (given next vs) (given next vs)
  are_found next [] from ids = tt
  are_found next (v ∷ vs) from ids = by (λ more le. are_found more vs le ids.1) (volume_of_id before v.id) refl
    where
      by : ((more : ℕ) → length before ≤ more → AreFound volumes (given more vs) (given more vs)) → (o : Option PlacedVolume)
          → volume_of_id before v.id ≡ o
          → AreFound volumes (restored_as volumes image v next o ∷ given (next_after next o) vs)
          (restored_as volumes image v next o ∷ given (next_after next o) vs)
      by rest None is =
          found_first volumes (restored_as volumes image v next None) (given (next + 1) vs)
          (new_others next (next + 1) vs from (omega arith)) (rest (next + 1) (omega (arith, from)))
      by rest (Some old) is =
          let s : Stood opening before 0 v.id old = stood opening before 0 v.id old names is in
          found_first volumes (restored_as volumes image v next (Some old)) (given next vs)
          (subst (λ (k : ℕ). AreOthers k (given next vs)) (sym (key_is v next old s)) (old_others v.id old s next vs from ids.0))
          (rest next from)

  -- ---- where they come from

  module _ (state : PlainState) (same : state.volumes ≡ volumes) (whole : List RestoredVolume) (last : ℕ) where
    abbrev step : PlainStep
    step = Restored whole last

    -- each sector of a volume that is given these, where those that stay stood
    sectors_come : (key : ℕ) (olds places : List Place) → ((x : ℕ) → is_replaced whole key x ≡ is_given (moved image olds places) x)
        → sectors_of (map (restored_volume volumes) whole) key ≡ restored_sectors (sectors_of volumes key) (moved image olds places)
        → ((x : ℕ) → x < length olds → StoodAt before 0 key x (place_at olds x)) → (x : ℕ) → x < length places
        → ComesFrom before state step image key x (place_at places x)
    sectors_come key olds places replaced sectors stand x lt =
        ⊎_elim
        (λ given. inl (
          replaced x ∙ given,
          ap (λ (ps : List PlainVolume). slice_index_or (sectors_of (map (restored_volume ps) whole) key) x []) same
              ∙ ap (λ (l : List (List ℕ)). slice_index_or l x []) sectors
              ∙ given_value image (sectors_of volumes key) olds places x given,
        ))
        (λ stays.
        let there = stays_there image olds places x lt stays in
        inr (replaced x ∙ stays, subst (λ (p : Place). StoodAt before 0 key x p) there.1 (stand x there.0)))
        (either (is_given (moved image olds places) x))

    sectors_count : (key : ℕ) (olds places : List Place)
        → length places ≡ length (restored_sectors (sectors_of volumes key) (moved image olds places))
    sectors_count key olds places = sym (filled_length (sectors_of volumes key) (moved image olds places) ∙ moved_length image olds places)

    come_restored : (next : ℕ) (vs : List PlacedVolume) → AreFound volumes whole (given next vs)
        → AllCome before state step image vs (map (restored_volume volumes) (given next vs))
    come_restored next [] found = tt
    come_restored next (v ∷ vs) found = by (λ more. come_restored more vs) (volume_of_id before v.id) refl found
      where
        by : ((more : ℕ) → AreFound volumes whole (given more vs)
            → AllCome before state step image vs (map (restored_volume volumes) (given more vs)))
            → (o : Option PlacedVolume) → volume_of_id before v.id ≡ o
            → AreFound volumes whole (restored_as volumes image v next o ∷ given (next_after next o) vs)
            → AllCome before state step image (v ∷ vs)
            (map (restored_volume volumes) (restored_as volumes image v next o ∷ given (next_after next o) vs))
        by rest None is found' = (
          refl,
          sectors_count next [] v.places,
          sectors_come next [] v.places found'.0 found'.1 (λ x lt. absurd (omega (arith, lt))),
          rest (next + 1) found'.2,
        )
        by rest (Some old) is found' =
            let s : Stood opening before 0 v.id old = stood opening before 0 v.id old names is in
            let key : ℕ = key_or (key_of volumes old.name) in (
              refl,
              sectors_count key old.places v.places,
              sectors_come key old.places v.places found'.0 found'.1
                  (λ x lt. subst (λ (k : ℕ). StoodAt before 0 k x (place_at old.places x)) (sym (key_is v next old s))
                  (stood_at before 0 s.key old x (place_at old.places x) s.has lt refl)),
              rest next found'.2,
            )

-- which sectors are given doesn't depend on what the image shows
replaced_alike : (before : List PlacedVolume) (plain : List PlainVolume) (a b : Image) (next : ℕ) (vs : List PlacedVolume) (key x : ℕ)
    → is_replaced (restored before plain a next vs) key x ≡ is_replaced (restored before plain b next vs) key x
replaced_alike before plain a b next [] key x = refl
replaced_alike before plain a b next (v ∷ vs) key x = by (λ more. replaced_alike before plain a b more vs key x) (volume_of_id before v.id)
  where
    rest : Image → Option PlacedVolume → Bool
    rest image o = is_replaced (restored before plain image (next_after next o) vs) key x

    by : ((more : ℕ) → is_replaced (restored before plain a more vs) key x ≡ is_replaced (restored before plain b more vs) key x)
        → (o : Option PlacedVolume) → (if (restored_as plain a v next o).key
        == key then is_given (restored_as plain a v next o).sectors x else rest a o)
        ≡ (if (restored_as plain b v next o).key == key then is_given (restored_as plain b v next o).sectors x else rest b o)
    by same None =
        ap (λ (g : Bool). if next == key then g else rest a None) (given_alike a b [] v.places x)
        ∙ ap (λ (r : Bool). if next == key then is_given (moved b [] v.places) x else r) (same (next + 1))
    by same (Some old) =
        ap (λ (g : Bool). if key_or (key_of plain old.name) == key then g else rest a (Some old)) (given_alike a b old.places v.places x)
        ∙ ap (λ (r : Bool). if key_or (key_of plain old.name) == key then is_given (moved b old.places v.places) x else r) (same next)

pub restored_version : (before after : Option Version) → HaveOwnNames (volumes_of before) → HaveOwnIds (volumes_of after)
    → group_name after ≡ group_name before → KindMakes Restore before after
restored_version before after names ids named = record {
  named = λ opening image. named;
  volumes = λ opening image.
      let vs : List PlacedVolume = volumes_of before in
      let ws : List PlacedVolume = volumes_of after in
      let whole : List RestoredVolume = restored vs (opening_volumes opening 0 vs) image (length vs) ws in
      come_restored vs opening image names (state_before before opening) refl whole (next_restored vs (length vs) ws) (length vs) ws
      (are_found vs opening image names (length vs) ws (omega arith) ids);
  births =
      λ opening image key x. replaced_alike (volumes_of before) (opening_volumes opening 0 (volumes_of before)) image no_image
      (length (volumes_of before)) (volumes_of after) key x;
}
