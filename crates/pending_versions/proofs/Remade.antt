-- The version that a command makes, by its kind, whatever machine of the one before it there is.
use Rattle.std.proofs.Common.{◌≡◌, ◌≤◌, ◌<◌, ℕ, zero, suc, ◌+◌, ◌-◌, ◌==◌, ◌&&◌, nat_le, nat_lt, Bool, true, false}
use Rattle.std.proofs.Common.{if◌then◌else◌, slice_index_or, Contains, List, [], ◌∷◌, ◌++◌, drop, take, length, Option, None, inl, inr}
use Rattle.std.proofs.Common.{⊎_elim, refl, sym, ap, subst, ◌∙◌, arith}
use Rattle.std.proofs.lemmas.Bool.{cases_lt, ltb-true, true≢false}
use Rattle.std.proofs.lemmas.Bool.Decides.{nat_tests}
use Rattle.std.proofs.lemmas.List.{drop-map, drop_at, get_or-append_right, get_or-map, get_or-take, get_or_append_left, length-append}
use Rattle.std.proofs.lemmas.List.{length-map, length-take}
use Rattle.std.proofs.lemmas.List.Elements.{Contains-get_or}
use Rattle.list_laws.proofs.Bools.{and_both, eq_to, lt_false, lt_true}
use Rattle.command_table.specs.Commands.{CommandKind, GroupNamed, Joining, Leaving, NewGroup, NextVersion, Removal, Restore}
use Rattle.command_table.specs.Commands.{VolumeAdded, VolumeGone, VolumeLonger, VolumeNamed, VolumeShorter}
use Rattle.data_lines.specs.DataLines.{zero_sector}
use Rattle.disk_model.specs.Steps.{Image}
use Rattle.line_table.specs.Machine.{PlainState, PlainVolume, key_of, sectors_of}
use Rattle.vg_scan.specs.Versions.{Version}
use Rattle.volume_history.specs.Candidates.{is_born, no_image, place_at}
use Rattle.volume_history.specs.Changing.{KindChanges, cut_to, grown_by, has_named, named_so}
use Rattle.volume_history.specs.Placed.{Place, PlacedVolume, group_name, no_place, values_on, volumes_of}
use Rattle.volume_history.specs.Replay.{key_or, places_named, zeroed}
use Rattle.pending_versions.proofs.BornPlaces.{added_places, longer_born, longer_places, places_changed}
use Rattle.pending_versions.proofs.Comings.{come_both, come_changed, come_kept, come_without, keys_changed, keys_without, own_among}
use Rattle.pending_versions.proofs.Comings.{remade, stays}
use Rattle.pending_versions.proofs.Keys.{above, keys_both}
use Rattle.pending_versions.proofs.Named.{IsNamed, found_key, is_named}
use Rattle.pending_versions.specs.Births.{born_places, restores}
use Rattle.pending_versions.specs.Coming.{IsBornAt, Remakes, StaysAt, made_of, open_step}
use Rattle.pending_versions.specs.Machines.{AreKeyed, IsMachineOf}

-- ---- places and what stands there

-- what stands at the place of a sector
pub value_on : (image : Image) (places : List Place) (x : ℕ) → x < length places
    → slice_index_or (values_on image places) x [] ≡ image (place_at places x).disk (place_at places x).sector
value_on image places x lt = get_or-map (λ (p : Place). image p.disk p.sector) places x no_place [] lt

pub values_length : (image : Image) (places : List Place) → length (values_on image places) ≡ length places
values_length image places = length-map places (λ (p : Place). image p.disk p.sector)

zeroed_length : (n : ℕ) (values : List (List ℕ)) → length (zeroed n values) ≡ length values
zeroed_length n [] = refl
zeroed_length zero (v ∷ values) = refl
zeroed_length (suc n) (v ∷ values) = ap suc (zeroed_length n values)

zeroed_at : (n : ℕ) (values : List (List ℕ)) (x : ℕ) → x < length values
    → slice_index_or (zeroed n values) x [] ≡ (if nat_lt x n then zero_sector else slice_index_or values x [])
zeroed_at n [] x lt = absurd (omega (arith, lt))
zeroed_at zero (v ∷ values) x lt =
    ap (λ (b : Bool). if b then zero_sector else slice_index_or (v ∷ values) x []) (sym (lt_false x 0 (omega arith)))
zeroed_at (suc n) (v ∷ values) zero lt =
    ap (λ (b : Bool). if b then zero_sector else v) (sym (lt_true 0 (suc n) (omega arith)))
zeroed_at (suc n) (v ∷ values) (suc x) lt =
    zeroed_at n values x (omega (arith, lt))
    ∙ ap (λ (b : Bool). if b then zero_sector else slice_index_or values x []) (same_test x n)
  where
    same_test : (a b : ℕ) → nat_lt a b ≡ nat_lt (suc a) (suc b)
    same_test a b = grind (arith, nat_tests)

no_middle : (a b c : Bool) → b ≡ false → (a && (b && c)) ≡ false
no_middle true true c e = cc
no_middle true false c e = refl
no_middle false b c e = refl

not_le : (a x : ℕ) → x < a → nat_le a x ≡ false
not_le a x lt = grind (arith, nat_tests)

le_true : (a x : ℕ) → a ≤ x → nat_le a x ≡ true
le_true a x le = grind (arith, nat_tests)

-- ---- kind by kind

-- all volumes stay
kept : (kind : CommandKind) (before after : Option Version) (state : PlainState) (image : Image) → IsMachineOf before state
    → volumes_of after ≡ volumes_of before → (made_of kind before after state image).volumes ≡ state.volumes
    → (made_of kind before after state image).next_key ≡ state.next_key
    → ((key x : ℕ) → is_born (open_step kind before after state) state key x ≡ false)
    → group_name after ≡ (made_of kind before after state image).group
    → Remakes kind before after state image
kept kind before after state image machine placed plain next unborn group =
    remade kind before after state image (volumes_of before) state.volumes placed plain
    (come_kept kind before after state image 0 state.next_key (volumes_of before) state.volumes machine.volumes machine.keys
    (λ key le lt. unborn key) (λ key x place value stands. stands)) group
    (subst (λ (n : ℕ). AreKeyed 0 n state.volumes) (sym next) machine.keys)

module _ (before after : Option Version) (state : PlainState) (image : Image) (machine : IsMachineOf before state) where
  -- the volume of a name
  abbrev key_at : List ℕ → ℕ
  key_at name = key_or (key_of state.volumes name)

  named_at : (name : List ℕ) → has_named name (volumes_of before) ≡ true
      → IsNamed name (key_at name) 0 state.next_key (volumes_of before) state.volumes
  named_at name has =
      is_named name (key_at name) 0 state.next_key (volumes_of before) state.volumes machine.volumes machine.keys
      (found_key name (volumes_of before) state.volumes machine.volumes has)

  renamed : (old new : List ℕ) → KindChanges (NextVersion (VolumeNamed old new)) before after
      → Remakes (NextVersion (VolumeNamed old new)) before after state image
  renamed old new is =
      let kind : CommandKind = NextVersion (VolumeNamed old new) in
      let n = named_at old is.1 in
      let p : PlainVolume = record n.p { name = new } in
      remade kind before after state image (n.before ++ named_so new n.v ∷ n.behind) (n.low ++ p ∷ n.high)
      (is.0 ∙ n.changed (named_so new)) (n.with_it (λ (v : PlainVolume). record v { name = new }))
      (come_changed kind before after state image old (key_at old) n (λ other isnt x. refl) (named_so new n.v) p (
        refl,
        n.length_is,
        λ x lt. inr (stays kind before after state image n.v n.behind n.p n.high x lt refl
            (own_among kind before after state image old (key_at old) n (λ other isnt x. refl))),
      ))
      (is.2 ∙ machine.group)
      (keys_changed kind before after state image old (key_at old) n (λ other isnt x. refl) p n.keyed)

  removed : (lv : List ℕ) → KindChanges (NextVersion (VolumeGone lv)) before after
      → Remakes (NextVersion (VolumeGone lv)) before after state image
  removed lv is =
      let kind : CommandKind = NextVersion (VolumeGone lv) in
      let n = named_at lv is.1 in
      remade kind before after state image (n.before ++ n.behind) (n.low ++ n.high) (is.0 ∙ n.without) n.left
      (come_without kind before after state image lv (key_at lv) n (λ other isnt x. refl)) (is.2 ∙ machine.group)
      (keys_without kind before after state image lv (key_at lv) n (λ other isnt x. refl))

  reduced : (lv : List ℕ) → KindChanges (NextVersion (VolumeShorter lv)) before after
      → Remakes (NextVersion (VolumeShorter lv)) before after state image
  reduced lv is =
      let kind : CommandKind = NextVersion (VolumeShorter lv) in
      let n = named_at lv is.2 in
      let left : ℕ = length (places_named (volumes_of after) lv) in
      let p : PlainVolume = record n.p { sectors = take left n.p.sectors } in
      let cut : left ≡ length (take is.0 n.v.places) =
      ap (λ (l : List PlacedVolume). length (places_named l lv)) is.1
      ∙ ap length (places_changed lv (cut_to is.0) (take is.0) (λ v. refl) (λ v. refl) (volumes_of before) is.2)
      ∙ ap (λ (l : List Place). length (take is.0 l)) n.places in
      let short = length-take is.0 n.v.places in
      let many = length-take left n.p.sectors in
      remade kind before after state image (n.before ++ cut_to is.0 n.v ∷ n.behind) (n.low ++ p ∷ n.high)
      (is.1 ∙ n.changed (cut_to is.0)) (n.with_it (λ (v : PlainVolume). record v { sectors = take left v.sectors }))
      (come_changed kind before after state image lv (key_at lv) n (λ other isnt x. refl) (cut_to is.0 n.v) p (
        n.name_is,
        (let same = n.length_is in omega (arith, cut, short, many, same)),
        λ x lt.
            let in_cut : x < is.0 = omega (arith, lt, short) in
            let in_old : x < length n.v.places = omega (arith, lt, short) in
            let in_left : x < left = omega (arith, lt, cut) in
            inr (subst (λ (pl : Place). StaysAt kind before after state n.p.key x pl (slice_index_or (take left n.p.sectors) x []))
            (sym (get_or-take is.0 n.v.places x no_place in_cut))
            (subst (λ (s : List ℕ). StaysAt kind before after state n.p.key x (place_at n.v.places x) s)
            (sym (get_or-take left n.p.sectors x [] in_left))
            (stays kind before after state image n.v n.behind n.p n.high x in_old refl
            (own_among kind before after state image lv (key_at lv) n (λ other isnt x. refl))))),
      ))
      (is.3 ∙ machine.group)
      (keys_changed kind before after state image lv (key_at lv) n (λ other isnt x. refl) p n.keyed)

  extended : (lv : List ℕ) → KindChanges (NextVersion (VolumeLonger lv)) before after
      → Remakes (NextVersion (VolumeLonger lv)) before after state image
  extended lv is =
      let kind : CommandKind = NextVersion (VolumeLonger lv) in
      let n = named_at lv is.2 in
      let old : ℕ = length (sectors_of state.volumes (key_at lv)) in
      let more : Image → List (List ℕ) = λ i. drop old (values_on i (places_named (volumes_of after) lv)) in
      let p : PlainVolume = record n.p { sectors = n.p.sectors ++ more image } in
      let count : old ≡ length n.v.places = ap length n.sectors ∙ sym n.length_is in
      let after_is : places_named (volumes_of after) lv ≡ n.v.places ++ is.0 =
      longer_places lv before after is ∙ ap (λ (l : List Place). l ++ is.0) n.places in
      let more_is : (i : Image) → more i ≡ values_on i is.0 = λ i.
      drop-map (λ (q : Place). i q.disk q.sector) old (places_named (volumes_of after) lv)
      ∙ ap (λ (l : List Place). values_on i (drop old l)) after_is ∙ ap (values_on i) (drop_at n.v.places is.0 old (sym count)) in
      let births_are : born_places kind before after ≡ is.0 = longer_born lv before after is in
      let many : (i : Image) → length (more i) ≡ length is.0 = λ i. ap length (more_is i) ∙ values_length i is.0 in
      let unborn : (other : ℕ) → (key_at lv == other) ≡ false → (x : ℕ)
      → is_born (open_step kind before after state) state other x ≡ false = λ other isnt x.
      ap (λ (b : Bool). b && (nat_le (length (sectors_of state.volumes other)) x
      && nat_lt x (length (sectors_of state.volumes other) + length (more no_image)))) isnt in
      let long = length-append n.v.places is.0 in
      let wide = length-append n.p.sectors (more image) in
      remade kind before after state image (n.before ++ grown_by is.0 n.v ∷ n.behind) (n.low ++ p ∷ n.high)
      (is.1 ∙ n.changed (grown_by is.0)) (n.with_it (λ (v : PlainVolume). record v { sectors = v.sectors ++ more image }))
      (come_changed kind before after state image lv (key_at lv) n unborn (grown_by is.0 n.v) p (
        n.name_is,
        (let a = n.length_is in let b = many image in omega (arith, long, wide, a, b)),
        λ x lt.
            ⊎_elim
            (λ (low : x < length n.v.places). inr
            (subst (λ (pl : Place). StaysAt kind before after state n.p.key x pl (slice_index_or (n.p.sectors ++ more image) x []))
            (sym (get_or_append_left n.v.places is.0 no_place x low))
            (subst (λ (s : List ℕ). StaysAt kind before after state n.p.key x (place_at n.v.places x) s)
            (sym (get_or_append_left n.p.sectors (more image) [] x (let a = n.length_is in omega (arith, low, a))))
            (stays kind before after state image n.v n.behind n.p n.high x low
            (subst (λ (k : ℕ). is_born (open_step kind before after state) state k x ≡ false) (sym n.keyed)
            (no_middle (key_at lv == key_at lv) (nat_le old x) (nat_lt x (old + length (more no_image)))
            (not_le old x (omega (arith, low, count)))))
            (own_among kind before after state image lv (key_at lv) n unborn)))))
            (λ (high : length n.v.places ≤ x). inl
            (subst (λ (k : ℕ). IsBornAt kind before after state image k x (place_at (n.v.places ++ is.0) x)
            (slice_index_or (n.p.sectors ++ more image) x [])) (sym n.keyed)
            (let y : ℕ = x - length n.v.places in
            let inside : y < length is.0 = omega (arith, lt, long, high) in
            let there : place_at (n.v.places ++ is.0) x ≡ place_at is.0 y =
            get_or-append_right n.v.places is.0 (length n.v.places) x no_place refl high in
            record {
              born =
                  and_both (key_at lv == key_at lv) (nat_le old x && nat_lt x (old + length (more no_image)))
                  (eq_to (key_at lv) (key_at lv) refl)
                  (and_both (nat_le old x) (nat_lt x (old + length (more no_image))) (le_true old x (omega (arith, high, count)))
                  (lt_true x (old + length (more no_image)) (let m = many no_image in omega (arith, lt, long, m, count))));
              new =
                  subst (λ (l : List Place). Contains l (place_at (n.v.places ++ is.0) x)) (sym births_are)
                  (subst (λ (pl : Place). Contains is.0 pl) (sym there) (Contains-get_or is.0 y no_place inside));
              zero = λ zero. absurd (true≢false (sym zero));
              value_is =
                  get_or-append_right n.p.sectors (more image) (length n.v.places) x [] (sym n.length_is) high
                  ∙ ap (λ (l : List (List ℕ)). slice_index_or l y []) (more_is image) ∙ value_on image is.0 y inside
                  ∙ ap (λ (pl : Place). image pl.disk pl.sector) (sym there);
            })))
            (cases_lt x (length n.v.places)),
      ))
      (is.3 ∙ machine.group)
      (keys_changed kind before after state image lv (key_at lv) n unborn p n.keyed)

  created : (lv : List ℕ) → KindChanges (VolumeAdded lv) before after → Remakes (VolumeAdded lv) before after state image
  created lv is =
      let kind : CommandKind = VolumeAdded lv in
      let sectors : Image → List (List ℕ) = λ i. zeroed 8 (values_on i (places_named (volumes_of after) lv)) in
      let p : PlainVolume = record { key = state.next_key; name = lv; sectors = sectors image } in
      let places_are : places_named (volumes_of after) lv ≡ is.0.places = added_places lv before after is in
      let many : (i : Image) → length (sectors i) ≡ length is.0.places = λ i.
      zeroed_length 8 (values_on i (places_named (volumes_of after) lv)) ∙ values_length i (places_named (volumes_of after) lv)
      ∙ ap length places_are in
      let old = come_kept kind before after state image 0 state.next_key (volumes_of before) state.volumes machine.volumes machine.keys
      (λ key le lt x. ap (λ (b : Bool). b && nat_lt x (length (sectors no_image))) (above state.next_key key (omega (arith, lt))))
      (λ key x place value stands. stands) in
      remade kind before after state image (volumes_of before ++ is.0 ∷ []) (state.volumes ++ p ∷ []) is.2 refl
      (come_both kind before after state image (volumes_of before) (is.0 ∷ []) state.volumes (p ∷ []) old (
        (
          is.1,
          sym (many image),
          λ x lt. inl (record {
            born =
                and_both (state.next_key == state.next_key) (nat_lt x (length (sectors no_image)))
                (eq_to state.next_key state.next_key refl)
                (lt_true x (length (sectors no_image)) (let m = many no_image in omega (arith, lt, m)));
            new =
                subst (λ (l : List Place). Contains l (place_at is.0.places x)) (sym places_are)
                (Contains-get_or is.0.places x no_place lt);
            zero = λ low.
                let few : x < 8 = ltb-true x 8 low in
                let short = length-take 8 is.0.places in
                subst (λ (l : List Place). Contains (take 8 l) (place_at is.0.places x)) (sym places_are)
                (subst (λ (pl : Place). Contains (take 8 is.0.places) pl) (get_or-take 8 is.0.places x no_place few)
                (Contains-get_or (take 8 is.0.places) x no_place (omega (arith, lt, few, short))));
            value_is =
                zeroed_at 8 (values_on image (places_named (volumes_of after) lv)) x
                (let m = values_length image (places_named (volumes_of after) lv) in
                let a = ap length places_are in omega (arith, lt, m, a))
                ∙ ap (λ (l : List Place). if nat_lt x 8 then zero_sector else slice_index_or (values_on image l) x []) places_are
                ∙ ap (λ (s : List ℕ). if nat_lt x 8 then zero_sector else s) (value_on image is.0.places x lt);
          }),
        ),
        tt,
      ))
      (is.4 ∙ machine.group)
      (keys_both 0 state.next_key (state.next_key + 1) state.volumes (p ∷ []) machine.keys (omega arith, omega arith))

-- where there is no group there is no volume
no_volumes : volumes_of None ≡ []
unfolding volumes_of
no_volumes = refl

-- what a kind of command makes of the volumes by its own rule is what the machine makes, whatever machine of the version it is
pub changes_remake : (kind : CommandKind) (before after : Option Version) → restores kind ≡ false → KindChanges kind before after
    → (state : PlainState) → IsMachineOf before state → (image : Image) → Remakes kind before after state image
changes_remake (NewGroup vg) before after none is state machine image =
    kept (NewGroup vg) before after state image machine is.0 refl refl (λ key x. refl) is.1
changes_remake Joining before after none is state machine image =
    kept Joining before after state image machine is.0 refl refl (λ key x. refl) (is.1 ∙ machine.group)
changes_remake Leaving before after none is state machine image =
    kept Leaving before after state image machine is.0 refl refl (λ key x. refl) (is.1 ∙ machine.group)
changes_remake Removal before after none is state machine image =
    kept Removal before after state image machine (ap volumes_of is.1 ∙ no_volumes ∙ sym is.0) refl refl (λ key x. refl)
    (ap group_name is.1)
changes_remake (NextVersion (GroupNamed new)) before after none is state machine image =
    kept (NextVersion (GroupNamed new)) before after state image machine is.0 refl refl (λ key x. refl) is.1
changes_remake (NextVersion (VolumeNamed old new)) before after none is state machine image =
    renamed before after state image machine old new is
changes_remake (NextVersion (VolumeGone lv)) before after none is state machine image = removed before after state image machine lv is
changes_remake (NextVersion (VolumeShorter lv)) before after none is state machine image =
    reduced before after state image machine lv is
changes_remake (NextVersion (VolumeLonger lv)) before after none is state machine image =
    extended before after state image machine lv is
changes_remake (VolumeAdded lv) before after none is state machine image = created before after state image machine lv is
changes_remake Restore before after none is state machine image = absurd (true≢false none)
changes_remake _ before after none is state machine image = absurd is
