-- The version that a command makes, by its kind.
use Rattle.std.proofs.Common.{◌≡◌, ◌≤◌, ◌<◌, ℕ, zero, suc, ◌+◌, ◌==◌, ◌&&◌, ◌||◌, nat_le, nat_lt, Bool, true, false, if◌then◌else◌}
use Rattle.std.proofs.Common.{slice_index_or, List, [], ◌∷◌, ◌++◌, drop, take, length, Option, Some, None, inl, inr, ⊎_elim, refl, sym, ap}
use Rattle.std.proofs.Common.{subst, ◌∙◌, arith, length-append}
use Rattle.std.specs.Str.{bytes_eq}
use Rattle.std.proofs.lemmas.Bool.{cases_lt}
use Rattle.std.proofs.lemmas.Bool.Decides.{nat_tests}
use Rattle.std.proofs.lemmas.Option.{same_Some}
use Rattle.command_table.specs.declared.command.Command.{Command}
use Rattle.command_table.specs.Commands.{CommandKind, GroupNamed, Joining, Leaving, NewGroup, NewPv, NextVersion, Removal, Report, Restore}
use Rattle.command_table.specs.Commands.{Scripted, VolumeAdded, VolumeGone, VolumeLonger, VolumeNamed, VolumeShorter, kind_of}
use Rattle.disk_model.specs.Steps.{Image}
use Rattle.line_table.specs.Machine.{Created, Extended, Nothing, PlainState, PlainStep, PlainVolume, key_of, plain_after, sectors_of}
use Rattle.line_table.specs.Machine.{with_key}
use Rattle.vg_scan.specs.Versions.{Version}
use Rattle.volume_history.proofs.ComingFrom.{come_both, come_changed, come_kept, come_without, found_key, key_from, none_equal, other_equal}
use Rattle.volume_history.proofs.ComingFrom.{places_changed, plain_at}
use Rattle.list_laws.proofs.Bools.{and_both, eq_to, itself, lt_false, lt_true}
use Rattle.data_lines.specs.DataLines.{zero_sector}
use Rattle.volume_history.proofs.Quiet.{value_on, values_length}
use Rattle.volume_history.proofs.RestoredVersions.{restored_version}
use Rattle.volume_history.specs.Candidates.{is_born, no_image, place_at}
use Rattle.volume_history.specs.Commands.{commits, kind_commits}
use Rattle.volume_history.specs.Changing.{ChangesVolumes, KindChanges, cut_to, grown_by, has_named, named_so}
use Rattle.volume_history.specs.Placed.{Place, PlacedVolume, group_name, values_on, volumes_of}
use Rattle.volume_history.specs.Replay.{key_or, kind_step, opening_volumes, places_named, zeroed}
use Rattle.volume_history.specs.Reshaping.{AllCome, KindMakes, MakesVersion, state_before}

-- a kind of command that leaves all volumes as they are
kept : (kind : CommandKind) (before after : Option Version) → volumes_of after ≡ volumes_of before
    → ((opening image : Image) → (plain_after (state_before before opening)
    (kind_step kind before after (state_before before opening) image)).volumes ≡ opening_volumes opening 0 (volumes_of before))
    → ((opening image : Image) (key x : ℕ) → is_born (kind_step kind before after (state_before before opening) image)
    (state_before before opening) key x ≡ false)
    → ((opening image : Image) → group_name after
    ≡ (plain_after (state_before before opening) (kind_step kind before after (state_before before opening) image)).group)
    → KindMakes kind before after
kept kind before after same machine unborn named = record {
  named = named;
  volumes = λ opening image.
      let state : PlainState = state_before before opening in
      let step : PlainStep = kind_step kind before after state image in
      subst (λ (vs : List PlacedVolume). AllCome (volumes_of before) state step image vs (plain_after state step).volumes) (sym same)
      (subst (λ (ps : List PlainVolume). AllCome (volumes_of before) state step image (volumes_of before) ps) (sym (machine opening image))
      (come_kept (volumes_of before) state step image opening 0 (volumes_of before) (λ key x le lt. unborn opening image key x)
      (λ key x place stood. stood)));
  births = λ opening image key x. unborn opening image key x ∙ sym (unborn opening no_image key x);
}

-- a machine without volumes
abbrev empty_state : PlainState
empty_state = record { group = None; volumes = []; next_key = 0 }

-- what is cut off
cut_length : (left : ℕ) (places : List Place) (image : Image)
    → length (take left places) ≡ length (take (length (take left places)) (values_on image places))
cut_length zero places image = refl
cut_length (suc left) [] image = refl
cut_length (suc left) (p ∷ places) image = ap suc (cut_length left places image)

cut_place : (left : ℕ) (places : List Place) (x : ℕ) → x < length (take left places)
    → (x < length places) × (place_at places x ≡ place_at (take left places) x)
cut_place zero places x lt = absurd (omega (arith, lt))
cut_place (suc left) [] x lt = absurd (omega (arith, lt))
cut_place (suc left) (p ∷ places) zero lt = (omega arith, refl)
cut_place (suc left) (p ∷ places) (suc x) lt = let rest = cut_place left places x (omega (arith, lt)) in (omega (arith, rest.0), rest.1)

-- ---- what grows

drop_values : (image : Image) (places more : List Place) → drop (length places) (values_on image (places ++ more)) ≡ values_on image more
drop_values image [] more = refl
drop_values image (p ∷ places) more = drop_values image places more

front_place : (places more : List Place) (x : ℕ) → x < length places → place_at places x ≡ place_at (places ++ more) x
front_place [] more x lt = absurd (omega (arith, lt))
front_place (p ∷ places) more zero lt = refl
front_place (p ∷ places) more (suc x) lt = front_place places more x (omega (arith, lt))

grown_value : (opening image : Image) (places more : List Place) (x : ℕ) → length places ≤ x → x < length (places ++ more)
    → slice_index_or (values_on opening places ++ values_on image more) x []
    ≡ image (place_at (places ++ more) x).disk (place_at (places ++ more) x).sector
grown_value opening image [] more x le lt = value_on image more x lt
grown_value opening image (p ∷ places) more zero le lt = absurd (omega (arith, le))
grown_value opening image (p ∷ places) more (suc x) le lt = grown_value opening image places more x (omega (arith, le)) (omega (arith, lt))

-- the machine's sectors of the volume of a name
sectors_named : (opening : Image) (name : List ℕ) (k : ℕ) (vs : List PlacedVolume) (key : ℕ)
    → key_of (opening_volumes opening k vs) name ≡ Some key
    → sectors_of (opening_volumes opening k vs) key ≡ values_on opening (places_named vs name)
sectors_named opening name k [] key found = absurd cc
sectors_named opening name k (v ∷ vs) key found = by (λ is. sectors_named opening name (k + 1) vs key is) (bytes_eq v.name name) refl found
  where
    by : (key_of (opening_volumes opening (k + 1) vs) name ≡ Some key
        → sectors_of (opening_volumes opening (k + 1) vs) key ≡ values_on opening (places_named vs name)) → (b : Bool)
        → bytes_eq v.name name ≡ b
        → (if b then Some k else key_of (opening_volumes opening (k + 1) vs) name) ≡ Some key
        → (if k == key then values_on opening v.places else sectors_of (opening_volumes opening (k + 1) vs) key)
        ≡ values_on opening (if bytes_eq v.name name then v.places else places_named vs name)
    by rest true named is =
        ap (λ (b : Bool). if b then values_on opening v.places else sectors_of (opening_volumes opening (k + 1) vs) key)
        (eq_to k key (same_Some k key is))
        ∙ sym (ap (λ (b : Bool). values_on opening (if b then v.places else places_named vs name)) named)
    by rest false named is =
        ap (λ (b : Bool). if b then values_on opening v.places else sectors_of (opening_volumes opening (k + 1) vs) key)
        (none_equal k key (key_from [] empty_state Nothing opening opening name (k + 1) vs key is))
        ∙ rest is ∙ sym (ap (λ (b : Bool). values_on opening (if b then v.places else places_named vs name)) named)

grown_sectors : (opening : Image) (more : List (List ℕ)) (name : List ℕ) (k : ℕ) (vs : List PlacedVolume) (key : ℕ)
    → key_of (opening_volumes opening k vs) name ≡ Some key
    → sectors_of (with_key key (λ (v : PlainVolume). record v { sectors = v.sectors ++ more }) (opening_volumes opening k vs)) key
    ≡ values_on opening (places_named vs name) ++ more
grown_sectors opening more name k [] key found = absurd cc
grown_sectors opening more name k (v ∷ vs) key found =
    by (λ is. grown_sectors opening more name (k + 1) vs key is) (bytes_eq v.name name) refl found
  where
    grow : PlainVolume → PlainVolume
    grow p = record p { sectors = p.sectors ++ more }

    here : Bool → List (List ℕ)
    here b =
        sectors_of ((if b then record (plain_at opening k v) { sectors = values_on opening v.places ++ more } else plain_at opening k v)
        ∷ with_key key (λ (p : PlainVolume). record p { sectors = p.sectors ++ more }) (opening_volumes opening (k + 1) vs)) key

    by : (key_of (opening_volumes opening (k + 1) vs) name ≡ Some key
        → sectors_of (with_key key (λ (p : PlainVolume). record p { sectors = p.sectors ++ more }) (opening_volumes opening (k + 1) vs)) key
        ≡ values_on opening (places_named vs name) ++ more)
        → (b : Bool) → bytes_eq v.name name ≡ b → (if b then Some k else key_of (opening_volumes opening (k + 1) vs) name) ≡ Some key
        → sectors_of ((if k == key then record (plain_at opening k v) { sectors = values_on opening v.places ++ more } else plain_at opening
        k v) ∷ with_key key (λ (p : PlainVolume). record p { sectors = p.sectors ++ more }) (opening_volumes opening (k + 1) vs)) key
        ≡ values_on opening (if bytes_eq v.name name then v.places else places_named vs name) ++ more
    by rest true named is =
        let same : (k == key) ≡ true = eq_to k key (same_Some k key is) in
        ap (λ (b : Bool). sectors_of ((if b then record (plain_at opening k v) { sectors = values_on opening v.places ++ more }
        else plain_at opening k v) ∷ with_key key (λ (p : PlainVolume). record p { sectors = p.sectors ++ more })
        (opening_volumes opening (k + 1) vs)) key) same
        ∙ ap (λ (b : Bool). if b then values_on opening v.places
        ++ more else sectors_of (with_key key (λ (p : PlainVolume). record p { sectors = p.sectors ++ more })
        (opening_volumes opening (k + 1) vs)) key) same
        ∙ sym (ap (λ (b : Bool). values_on opening (if b then v.places else places_named vs name) ++ more) named)
    by rest false named is =
        let differ : (k == key) ≡ false = none_equal k key (key_from [] empty_state Nothing opening opening name (k + 1) vs key is) in
        ap (λ (b : Bool). sectors_of ((if b then record (plain_at opening k v) { sectors = values_on opening v.places ++ more }
        else plain_at opening k v) ∷ with_key key (λ (p : PlainVolume). record p { sectors = p.sectors ++ more })
        (opening_volumes opening (k + 1) vs)) key) differ
        ∙ ap (λ (b : Bool). if b then values_on opening v.places else sectors_of
        (with_key key (λ (p : PlainVolume). record p { sectors = p.sectors ++ more }) (opening_volumes opening (k + 1) vs)) key) differ
        ∙ rest is ∙ sym (ap (λ (b : Bool). values_on opening (if b then v.places else places_named vs name) ++ more) named)

no_middle : (a b c : Bool) → b ≡ false → (a && (b && c)) ≡ false
no_middle true true c e = cc
no_middle true false c e = refl
no_middle false b c e = refl

not_le : (a x : ℕ) → x < a → nat_le a x ≡ false
not_le a x lt = grind (arith, nat_tests)

le_true : (a x : ℕ) → a ≤ x → nat_le a x ≡ true
le_true a x le = grind (arith, nat_tests)

-- ---- what is created

places_last : (name : List ℕ) (vs : List PlacedVolume) (v : PlacedVolume) → has_named name vs ≡ false → bytes_eq v.name name ≡ true
    → places_named (vs ++ v ∷ []) name ≡ v.places
places_last name [] v none named = ap (λ (b : Bool). if b then v.places else []) named
places_last name (u ∷ vs) v none named =
    let parts = or_none (bytes_eq u.name name) (has_named name vs) none in
    ap (λ (b : Bool). if b then u.places else places_named (vs ++ v ∷ []) name) parts.0 ∙ places_last name vs v parts.1 named
  where
    or_none : (a b : Bool) → (a || b) ≡ false → (a ≡ false) × (b ≡ false)
    or_none true b e = cc
    or_none false b e = (refl, e)

zeroed_length : (n : ℕ) (values : List (List ℕ)) → length (zeroed n values) ≡ length values
zeroed_length n [] = refl
zeroed_length zero (v ∷ values) = refl
zeroed_length (suc n) (v ∷ values) = ap suc (zeroed_length n values)

zeroed_low : (n : ℕ) (values : List (List ℕ)) (x : ℕ) → x < n → x < length values → slice_index_or (zeroed n values) x [] ≡ zero_sector
zeroed_low n [] x low lt = absurd (omega (arith, lt))
zeroed_low zero (v ∷ values) x low lt = absurd (omega (arith, low))
zeroed_low (suc n) (v ∷ values) zero low lt = refl
zeroed_low (suc n) (v ∷ values) (suc x) low lt = zeroed_low n values x (omega (arith, low)) (omega (arith, lt))

zeroed_high : (n : ℕ) (values : List (List ℕ)) (x : ℕ) → n ≤ x → slice_index_or (zeroed n values) x [] ≡ slice_index_or values x []
zeroed_high n [] x high = refl
zeroed_high zero (v ∷ values) x high = refl
zeroed_high (suc n) (v ∷ values) zero high = absurd (omega (arith, high))
zeroed_high (suc n) (v ∷ values) (suc x) high = zeroed_high n values x (omega (arith, high))

sectors_last : (opening : Image) (k : ℕ) (vs : List PlacedVolume) (p : PlainVolume) → p.key ≡ k + length vs
    → sectors_of (opening_volumes opening k vs ++ p ∷ []) (k + length vs) ≡ p.sectors
sectors_last opening k [] p own = ap (λ (b : Bool). if b then p.sectors else []) (eq_to p.key (k + 0) own)
sectors_last opening k (v ∷ vs) p own =
    let e : k + length (v ∷ vs) ≡ (k + 1) + length vs = omega arith in
    ap (λ (b : Bool). if b then values_on opening v.places else sectors_of (opening_volumes opening (k + 1) vs ++ p ∷ [])
    (k + length (v ∷ vs))) (none_equal k (k + length (v ∷ vs)) (omega arith))
    ∙ ap (λ (n : ℕ). sectors_of (opening_volumes opening (k + 1) vs ++ p ∷ []) n) e ∙ sectors_last opening (k + 1) vs p (own ∙ e)

module _ (before after : Option Version) where
  abbrev vs : List PlacedVolume
  vs = volumes_of before

  -- the key of the volume of a name
  abbrev key_at : Image → List ℕ → ℕ
  key_at opening name = key_or (key_of (opening_volumes opening 0 vs) name)

  renamed : (old new : List ℕ) → KindChanges (NextVersion (VolumeNamed old new)) before after
      → KindMakes (NextVersion (VolumeNamed old new)) before after
  renamed old new is = record {
    named = λ opening image. is.2;
    volumes = λ opening image.
        let state : PlainState = state_before before opening in
        let step : PlainStep = kind_step (NextVersion (VolumeNamed old new)) before after state image in
        subst (λ (l : List PlacedVolume). AllCome vs state step image l (plain_after state step).volumes) (sym is.0)
        (come_changed vs state step image opening old (named_so new) (λ (v : PlainVolume). record v { name = new }) (key_at opening old)
        (λ other x no. refl) 0 vs (found_key opening old vs is.1) (λ key x place stood. stood)
        (λ v e here. (refl, values_length opening v.places, λ x lt. inr (refl, here x (place_at v.places x) (inl (refl, lt, refl))))));
    births = λ opening image key x. refl;
  }

  removed : (lv : List ℕ) → KindChanges (NextVersion (VolumeGone lv)) before after → KindMakes (NextVersion (VolumeGone lv)) before after
  removed lv is = record {
    named = λ opening image. is.2;
    volumes = λ opening image.
        let state : PlainState = state_before before opening in
        let step : PlainStep = kind_step (NextVersion (VolumeGone lv)) before after state image in
        subst (λ (l : List PlacedVolume). AllCome vs state step image l (plain_after state step).volumes) (sym is.0)
        (come_without vs state step image opening lv (λ v. v) (λ (v : PlainVolume). v) (key_at opening lv) (λ other x no. refl) 0
        vs (found_key opening lv vs is.1) (λ key x place stood. stood));
    births = λ opening image key x. refl;
  }

  reduced : (lv : List ℕ) → KindChanges (NextVersion (VolumeShorter lv)) before after
      → KindMakes (NextVersion (VolumeShorter lv)) before after
  reduced lv is = record {
    named = λ opening image. is.3;
    volumes = λ opening image.
        let state : PlainState = state_before before opening in
        let step : PlainStep = kind_step (NextVersion (VolumeShorter lv)) before after state image in
        let left : ℕ = length (places_named (volumes_of after) lv) in
        let places : places_named (volumes_of after) lv ≡ take is.0 (places_named vs lv) =
        ap (λ (l : List PlacedVolume). places_named l lv) is.1
        ∙ places_changed lv (cut_to is.0) (take is.0) (λ v. refl) (λ v. refl) vs is.2 in
        subst (λ (l : List PlacedVolume). AllCome vs state step image l (plain_after state step).volumes) (sym is.1)
        (come_changed vs state step image opening lv (cut_to is.0) (λ (v : PlainVolume). record v { sectors = take left v.sectors })
        (key_at opening lv) (λ other x no. refl) 0 vs (found_key opening lv vs is.2) (λ key x place stood. stood)
        (λ v e here.
        let cut : left ≡ length (take is.0 v.places) = ap length places ∙ ap (λ (l : List Place). length (take is.0 l)) e in (
          refl,
          cut_length is.0 v.places opening ∙ ap (λ (n : ℕ). length (take n (values_on opening v.places))) (sym cut),
          λ x lt. let p = cut_place is.0 v.places x lt in inr (refl, here x (place_at (take is.0 v.places) x) (inl (refl, p.0, p.1))),
        )));
    births = λ opening image key x. refl;
  }

  extended : (lv : List ℕ) → KindChanges (NextVersion (VolumeLonger lv)) before after
      → KindMakes (NextVersion (VolumeLonger lv)) before after
  extended lv is = record {
    named = λ opening image. is.3;
    volumes = λ opening image.
        let state : PlainState = state_before before opening in
        let key : ℕ = key_at opening lv in
        let more : List (List ℕ) = values_on image is.0 in
        let step : PlainStep = Extended key more in
        let found = found_key opening lv vs is.2 in
        let old : sectors_of (opening_volumes opening 0 vs) key ≡ values_on opening (places_named vs lv) =
        sectors_named opening lv 0 vs key found in
        subst (λ (st : PlainStep). AllCome vs state st image (volumes_of after) (plain_after state st).volumes)
        (sym (step_is opening image))
        (subst (λ (l : List PlacedVolume). AllCome vs state step image l (plain_after state step).volumes) (sym is.1)
        (come_changed vs state step image opening lv (grown_by is.0) (λ (v : PlainVolume). record v { sectors = v.sectors ++ more })
        key
        (λ other x no. ap (λ (b : Bool). b && (nat_le (length (sectors_of (opening_volumes opening 0 vs) other)) x
        && nat_lt x (length (sectors_of (opening_volumes opening 0 vs) other) + length more))) no) 0 vs found (λ k x place stood. stood)
        (λ v e here.
        let count : length (sectors_of (opening_volumes opening 0 vs) key) ≡ length v.places =
        ap length old ∙ ap (λ (l : List Place). length (values_on opening l)) e ∙ sym (values_length opening v.places) in (
          refl,
          length-append v.places is.0 ∙ ap (λ (n : ℕ). n + length is.0) (values_length opening v.places)
              ∙ ap (λ (n : ℕ). length (values_on opening v.places) + n) (values_length image is.0)
              ∙ sym (length-append (values_on opening v.places) more),
          λ x lt.
              ⊎_elim
              (λ (low : x < length v.places). inr (
                no_middle (key == key) (nat_le (length (sectors_of (opening_volumes opening 0 vs) key)) x)
                    (nat_lt x (length (sectors_of (opening_volumes opening 0 vs) key) + length more))
                    (not_le (length (sectors_of (opening_volumes opening 0 vs) key)) x (omega (arith, low, count))),
                here x (place_at (v.places ++ is.0) x) (inl (refl, low, front_place v.places is.0 x low)),
              ))
              (λ (high : length v.places ≤ x).
              let long = length-append v.places is.0 in
              let new = values_length image is.0 in
              inl (
                and_both (key == key) (nat_le (length (sectors_of (opening_volumes opening 0 vs) key)) x
                    && nat_lt x (length (sectors_of (opening_volumes opening 0 vs) key) + length more)) (eq_to key key refl)
                    (and_both (nat_le (length (sectors_of (opening_volumes opening 0 vs) key)) x)
                    (nat_lt x (length (sectors_of (opening_volumes opening 0 vs) key) + length more))
                    (le_true (length (sectors_of (opening_volumes opening 0 vs) key)) x (omega (arith, high, count)))
                    (lt_true x (length (sectors_of (opening_volumes opening 0 vs) key) + length more)
                    (omega (arith, lt, long, new, count)))),
                ap (λ (l : List (List ℕ)). slice_index_or l x [])
                    (grown_sectors opening more lv 0 vs key found ∙ ap (λ (l : List Place). values_on opening l ++ more) e)
                    ∙ grown_value opening image v.places is.0 x high lt,
              ))
              (cases_lt x (length v.places)),
        ))));
    births = λ opening image key x.
        let a = step_is opening image in
        let b = step_is opening no_image in
        ap (λ (st : PlainStep). is_born st (state_before before opening) key x) a
        ∙ ap (λ (n : ℕ). (key_at opening lv == key)
        && (nat_le (length (sectors_of (opening_volumes opening 0 vs) key)) x
        && nat_lt x (length (sectors_of (opening_volumes opening 0 vs) key) + n)))
        (sym (values_length image is.0) ∙ values_length no_image is.0)
        ∙ sym (ap (λ (st : PlainStep). is_born st (state_before before opening) key x) b);
  }
    where
      step_is : (opening image : Image) → kind_step (NextVersion (VolumeLonger lv)) before after (state_before before opening) image
          ≡ Extended (key_at opening lv) (values_on image is.0)
      step_is opening image =
          let places : places_named (volumes_of after) lv ≡ places_named vs lv ++ is.0 =
          ap (λ (l : List PlacedVolume). places_named l lv) is.1
          ∙ places_changed lv (grown_by is.0) (λ l. l ++ is.0) (λ v. refl) (λ v. refl) vs is.2 in
          let count : length (sectors_of (opening_volumes opening 0 vs) (key_at opening lv)) ≡ length (places_named vs lv) =
          ap length (sectors_named opening lv 0 vs (key_at opening lv) (found_key opening lv vs is.2))
          ∙ sym (values_length opening (places_named vs lv)) in
          ap (λ (l : List (List ℕ)). Extended (key_at opening lv) l)
          (ap (λ (n : ℕ). drop n (values_on image (places_named (volumes_of after) lv))) count
          ∙ ap (λ (l : List Place). drop (length (places_named vs lv)) (values_on image l)) places
          ∙ drop_values image (places_named vs lv) is.0)

  created : (lv : List ℕ) → KindChanges (VolumeAdded lv) before after → KindMakes (VolumeAdded lv) before after
  created lv is = record {
    named = λ opening image. is.4;
    volumes = λ opening image.
        let state : PlainState = state_before before opening in
        let sectors : List (List ℕ) = zeroed 8 (values_on image is.0.places) in
        let step : PlainStep = Created lv sectors in
        let own : PlainVolume = record { key = length vs; name = lv; sectors = sectors } in
        let zero_less : 0 + length vs ≡ length vs = omega arith in
        let count : length is.0.places ≡ length sectors =
        values_length image is.0.places ∙ sym (zeroed_length 8 (values_on image is.0.places)) in
        subst (λ (st : PlainStep). AllCome vs state st image (volumes_of after) (plain_after state st).volumes)
        (sym (step_is opening image))
        (subst (λ (l : List PlacedVolume). AllCome vs state step image l (plain_after state step).volumes) (sym is.2)
        (come_both vs state step image opening vs (is.0 ∷ []) (opening_volumes opening 0 vs) (own ∷ [])
        (come_kept vs state step image opening 0 vs
        (λ key x le lt. ap (λ (b : Bool). b && nat_lt x (length sectors)) (other_equal (length vs) key (omega (arith, lt))))
        (λ key x place stood. stood)) (
          is.1,
          count,
          λ x lt. inl (
            and_both (length vs == length vs) (nat_lt x (length sectors)) (eq_to (length vs) (length vs) refl)
                (lt_true x (length sectors) (omega (arith, lt, count))),
            ap (λ (l : List (List ℕ)). slice_index_or l x [])
                (subst (λ (n : ℕ). sectors_of (opening_volumes opening 0 vs ++ own ∷ []) n ≡ sectors) zero_less
                (sectors_last opening 0 vs own (sym zero_less)))
                ∙ ⊎_elim
                (λ (low : x < 8).
                zeroed_low 8 (values_on image is.0.places) x low (let c = values_length image is.0.places in omega (arith, lt, c))
                ∙ sym (ap (λ (b : Bool). if b then zero_sector else image (place_at is.0.places x).disk (place_at is.0.places x).sector)
                (lt_true x 8 low)))
                (λ (high : 8 ≤ x).
                zeroed_high 8 (values_on image is.0.places) x high ∙ value_on image is.0.places x lt
                ∙ sym (ap (λ (b : Bool). if b then zero_sector else image (place_at is.0.places x).disk (place_at is.0.places x).sector)
                (lt_false x 8 high)))
                (cases_lt x 8),
          ),
          tt,
        )));
    births = λ opening image key x.
        ap (λ (st : PlainStep). is_born st (state_before before opening) key x) (step_is opening image)
        ∙ ap (λ (n : ℕ). (length vs == key) && nat_lt x n)
        (zeroed_length 8 (values_on image is.0.places) ∙ sym (values_length image is.0.places) ∙ values_length no_image is.0.places
        ∙ sym (zeroed_length 8 (values_on no_image is.0.places)))
        ∙ sym (ap (λ (st : PlainStep). is_born st (state_before before opening) key x) (step_is opening no_image));
  }
    where
      step_is : (opening image : Image) → kind_step (VolumeAdded lv) before after (state_before before opening) image
          ≡ Created lv (zeroed 8 (values_on image is.0.places))
      step_is opening image =
          ap (λ (l : List Place). Created lv (zeroed 8 (values_on image l)))
          (ap (λ (l : List PlacedVolume). places_named l lv) is.2
          ∙ places_last lv vs is.0 is.3 (ap (λ (n : List ℕ). bytes_eq n lv) is.1 ∙ itself lv))

-- where there is no group there is no volume
no_volumes : volumes_of None ≡ []
unfolding volumes_of
no_volumes = refl

-- what a kind of command makes of the volumes by its own rule is the version that the machine makes
kind_makes : (kind : CommandKind) (before after : Option Version) → KindChanges kind before after → KindMakes kind before after
kind_makes (NewGroup vg) before after is = kept (NewGroup vg) before after is.0 (λ o i. refl) (λ o i k x. refl) (λ o i. is.1)
kind_makes Joining before after is = kept Joining before after is.0 (λ o i. refl) (λ o i k x. refl) (λ o i. is.1)
kind_makes Leaving before after is = kept Leaving before after is.0 (λ o i. refl) (λ o i k x. refl) (λ o i. is.1)
kind_makes Removal before after is =
    kept Removal before after (ap (λ (v : Option Version). volumes_of v) is.1 ∙ no_volumes ∙ sym is.0) (λ o i. refl)
    (λ o i k x. refl) (λ o i. ap (λ (v : Option Version). group_name v) is.1)
kind_makes Restore before after is = restored_version before after is.0 is.1 is.2
kind_makes (NextVersion (GroupNamed new)) before after is =
    kept (NextVersion (GroupNamed new)) before after is.0 (λ o i. refl) (λ o i k x. refl) (λ o i. is.1)
kind_makes (NextVersion (VolumeNamed old new)) before after is = renamed before after old new is
kind_makes (NextVersion (VolumeGone lv)) before after is = removed before after lv is
kind_makes (NextVersion (VolumeShorter lv)) before after is = reduced before after lv is
kind_makes (NextVersion (VolumeLonger lv)) before after is = extended before after lv is
kind_makes (VolumeAdded lv) before after is = created before after lv is
kind_makes _ before after is = absurd is

-- so of a command
pub changes_make : (c : Command) (before after : Option Version) → ChangesVolumes c before after → MakesVersion c before after
changes_make c before after is = kind_makes (kind_of c) before after is

kind_commits_it : (kind : CommandKind) (before after : Option Version) → KindChanges kind before after → kind_commits kind ≡ true
kind_commits_it NewPv before after is = absurd is
kind_commits_it Report before after is = absurd is
kind_commits_it Scripted before after is = absurd is
kind_commits_it _ before after is = refl

-- it commits a version
pub changes_commit : (c : Command) (before after : Option Version) → ChangesVolumes c before after → commits c ≡ true
changes_commit c before after is = kind_commits_it (kind_of c) before after is
