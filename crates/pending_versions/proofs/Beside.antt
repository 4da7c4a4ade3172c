-- What a command creates lies at no place of the version in force.
use Rattle.std.proofs.Common.{◌≡◌, ◌<◌, ◌⊎◌, ℕ, zero, suc, ◌+◌, ◌||◌, All, Bool, true, false, if◌then◌else◌, List, [], ◌∷◌, ◌++◌}
use Rattle.std.proofs.Common.{length}
use Rattle.std.proofs.Common.{Option, Some, get_or, inl, inr, ⊎_elim, refl, sym, ap, subst, ◌∙◌, arith}
use Rattle.std.specs.Prelude.{slice_get}
use Rattle.std.specs.Str.{bytes_eq}
use Rattle.std.proofs.lemmas.List.{get_or-append-add, length-append}
use Rattle.std.proofs.lemmas.List.Elements.{All-nil}
use Rattle.std.proofs.lemmas.Option.{get_or_from_slice_get, same_Some, slice_get-get_or, slice_get_within}
use Rattle.command_table.specs.Commands.{CommandKind, NextVersion, VolumeAdded, VolumeLonger}
use Rattle.vg_scan.specs.Versions.{Version}
use Rattle.volume_history.specs.Changing.{KindChanges, changed_named, grown_by, has_named}
use Rattle.volume_history.specs.Placed.{Place, PlacedVolume, volumes_of}
use Rattle.volume_history.specs.Replay.{places_named}
use Rattle.pending_versions.proofs.BornPlaces.{added_places, longer_born}
use Rattle.pending_versions.specs.Beside.{AreApart, LiesBeside}
use Rattle.pending_versions.specs.Births.{born_places}

-- ---- lists

front_got : {A : Type 0} (xs ys : List A) (i : ℕ) (x : A) → slice_get xs i ≡ Some x → slice_get (xs ++ ys) i ≡ Some x
front_got [] ys i x is = absurd cc
front_got (y ∷ xs) ys zero x is = is
front_got (y ∷ xs) ys (suc i) x is = front_got xs ys i x is

rest_got : {A : Type 0} (xs ys : List A) (i : ℕ) (x : A) → slice_get ys i ≡ Some x → slice_get (xs ++ ys) (length xs + i) ≡ Some x
rest_got xs ys i x is =
    let lt = slice_get_within ys i x is in
    let long = length-append xs ys in
    slice_get-get_or (xs ++ ys) (length xs + i) x (omega (arith, lt, long))
    ∙ ap Some (get_or-append-add xs ys i x ∙ get_or_from_slice_get ys i x x is)

-- ---- the volume of a name

-- it stands at this place of the list
record IsAt (name : List ℕ) (change : PlacedVolume → PlacedVolume) (vs : List PlacedVolume) : Type 0 where
  j : ℕ
  u : PlacedVolume
  there : slice_get vs j ≡ Some u
  places : places_named vs name ≡ u.places
  changed : slice_get (changed_named name change vs) j ≡ Some (change u)
  -- each other one stays
  others :
      (i : ℕ) (v : PlacedVolume) → slice_get vs i ≡ Some v
      → (slice_get (changed_named name change vs) i ≡ Some v) ⊎ (slice_get (changed_named name change vs) i ≡ Some (change v))

is_at : (name : List ℕ) (change : PlacedVolume → PlacedVolume) (vs : List PlacedVolume) → has_named name vs ≡ true → IsAt name change vs
is_at name change [] has = absurd cc
is_at name change (v ∷ vs) has = by (λ more. is_at name change vs more) (bytes_eq v.name name) refl has
  where
    by : (has_named name vs ≡ true → IsAt name change vs) → (b : Bool) → bytes_eq v.name name ≡ b → (b || has_named name vs) ≡ true
        → IsAt name change (v ∷ vs)
    by rest true named h =
        let whole : changed_named name change (v ∷ vs) ≡ change v ∷ vs =
        ap (λ (b : Bool). if b then change v ∷ vs else v ∷ changed_named name change vs) named in
        record {
          j = 0;
          u = v;
          there = refl;
          places = ap (λ (b : Bool). if b then v.places else places_named vs name) named;
          changed = ap (λ (l : List PlacedVolume). slice_get l 0) whole;
          others = λ i w is.
              subst (λ (l : List PlacedVolume). (slice_get l i ≡ Some w) ⊎ (slice_get l i ≡ Some (change w))) (sym whole)
              (first i w is);
        }
      where
        first : (i : ℕ) (w : PlacedVolume) → slice_get (v ∷ vs) i ≡ Some w
            → (slice_get (change v ∷ vs) i ≡ Some w) ⊎ (slice_get (change v ∷ vs) i ≡ Some (change w))
        first zero w is = inr (ap (λ (u : PlacedVolume). Some (change u)) (same_Some v w is))
        first (suc i) w is = inl is
    by rest false named h =
        let r = rest h in
        let whole : changed_named name change (v ∷ vs) ≡ v ∷ changed_named name change vs =
        ap (λ (b : Bool). if b then change v ∷ vs else v ∷ changed_named name change vs) named in
        record {
          j = suc r.j;
          u = r.u;
          there = r.there;
          places = ap (λ (b : Bool). if b then v.places else places_named vs name) named ∙ r.places;
          changed = ap (λ (l : List PlacedVolume). slice_get l (suc r.j)) whole ∙ r.changed;
          others = λ i w is.
              subst (λ (l : List PlacedVolume). (slice_get l i ≡ Some w) ⊎ (slice_get l i ≡ Some (change w))) (sym whole)
              (later r i w is);
        }
      where
        later : IsAt name change vs → (i : ℕ) (w : PlacedVolume) → slice_get (v ∷ vs) i ≡ Some w
            → (slice_get (v ∷ changed_named name change vs) i ≡ Some w) ⊎ (slice_get (v ∷ changed_named name change vs) i ≡ Some (change w))
        later r zero w is = inl is
        later r (suc i) w is = r.others i w is

-- ---- births

added_beside : (lv : List ℕ) (before after : Option Version) → KindChanges (VolumeAdded lv) before after → AreApart (volumes_of after)
    → All (LiesBeside (volumes_of before)) (born_places (VolumeAdded lv) before after)
added_beside lv before after is apart k d lt i x v there got =
    let vs : List PlacedVolume = volumes_of before in
    let new : List Place = places_named (volumes_of after) lv in
    let places_are : new ≡ is.0.places = added_places lv before after is in
    let p : Place = get_or new k d in
    let old : slice_get (volumes_of after) i ≡ Some v =
    ap (λ (l : List PlacedVolume). slice_get l i) is.2 ∙ front_got vs (is.0 ∷ []) i v there in
    let own : slice_get (volumes_of after) (length vs + 0) ≡ Some is.0 =
    ap (λ (l : List PlacedVolume). slice_get l (length vs + 0)) is.2 ∙ rest_got vs (is.0 ∷ []) 0 is.0 refl in
    let born : slice_get is.0.places k ≡ Some p =
    ap (λ (l : List Place). slice_get l k) (sym places_are) ∙ slice_get-get_or new k d lt in
    let same = apart i (length vs + 0) x k v is.0 p old own got born in
    let within = slice_get_within vs i v there in
    absurd (omega (arith, same.0, within))

longer_beside : (lv : List ℕ) (before after : Option Version) → KindChanges (NextVersion (VolumeLonger lv)) before after
    → AreApart (volumes_of after)
    → All (LiesBeside (volumes_of before)) (born_places (NextVersion (VolumeLonger lv)) before after)
longer_beside lv before after is apart k d lt i x v there got =
    let vs : List PlacedVolume = volumes_of before in
    let a : IsAt lv (grown_by is.0) vs = is_at lv (grown_by is.0) vs is.2 in
    let births_are : born_places (NextVersion (VolumeLonger lv)) before after ≡ is.0 = longer_born lv before after is in
    let p : Place = get_or (born_places (NextVersion (VolumeLonger lv)) before after) k d in
    let new : slice_get is.0 k ≡ Some p =
    ap (λ (l : List Place). slice_get l k) (sym births_are)
    ∙ slice_get-get_or (born_places (NextVersion (VolumeLonger lv)) before after) k d lt in
    let born : slice_get (a.u.places ++ is.0) (length a.u.places + k) ≡ Some p = rest_got a.u.places is.0 k p new in
    let own : slice_get (volumes_of after) a.j ≡ Some (grown_by is.0 a.u) =
    ap (λ (l : List PlacedVolume). slice_get l a.j) is.1 ∙ a.changed in
    let same : (i ≡ a.j) × (x ≡ length a.u.places + k) =
    ⊎_elim
    (λ (stays : slice_get (changed_named lv (grown_by is.0) vs) i ≡ Some v).
    apart i a.j x (length a.u.places + k) v (grown_by is.0 a.u) p
    (ap (λ (l : List PlacedVolume). slice_get l i) is.1 ∙ stays) own got born)
    (λ (grows : slice_get (changed_named lv (grown_by is.0) vs) i ≡ Some (grown_by is.0 v)).
    apart i a.j x (length a.u.places + k) (grown_by is.0 v) (grown_by is.0 a.u) p
    (ap (λ (l : List PlacedVolume). slice_get l i) is.1 ∙ grows) own (front_got v.places is.0 x p got) born)
    (a.others i v there) in
    let one : v ≡ a.u = same_Some v a.u (sym there ∙ ap (slice_get vs) same.0 ∙ a.there) in
    let within : x < length a.u.places =
    subst (λ (u : PlacedVolume). x < length u.places) one (slice_get_within v.places x p got) in
    absurd (omega (arith, same.1, within))

pub births_beside : (kind : CommandKind) (before after : Option Version) → KindChanges kind before after → AreApart (volumes_of after)
    → All (LiesBeside (volumes_of before)) (born_places kind before after)
births_beside (VolumeAdded lv) before after is apart = added_beside lv before after is apart
births_beside (NextVersion (VolumeLonger lv)) before after is apart = longer_beside lv before after is apart
births_beside _ before after is apart = All-nil (LiesBeside (volumes_of before))
