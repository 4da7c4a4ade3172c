-- Where a commit makes its version: each of its sectors is tracked at its place, and is what a read gives there.
use Rattle.std.proofs.Common.{◌≡◌, ◌≤◌, ◌<◌, ℕ, ◌+◌, ◌-◌, ◌==◌, ◌&&◌, All, Bool, true, false, if◌then◌else◌, nat_le, nat_lt, Contains}
use Rattle.std.proofs.Common.{List, [], ◌∷◌, length, drop, Option, slice_index_or, inl, inr, ⊎_elim, refl, sym, ap, subst, ◌∙◌, arith}
use Rattle.std.proofs.lemmas.List.{ext_get_or}
use Rattle.std.proofs.lemmas.List.Elements.{All-contains}
use Rattle.list_laws.proofs.Bools.{and_cases, eq_of, true_lt}
use Rattle.command_table.specs.Commands.{CommandKind}
use Rattle.data_lines.specs.DataLines.{in_range, zero_sector}
use Rattle.disk_model.proofs.NowStands.{now_has}
use Rattle.disk_model.specs.Durability.{OnlyLeaves}
use Rattle.disk_model.specs.Steps.{Image, now_after}
use Rattle.line_table.specs.Machine.{PlainState, PlainVolume, plain_after, sector_of, sectors_of}
use Rattle.vg_scan.specs.Versions.{Version}
use Rattle.volume_history.specs.Candidates.{bears, is_born, is_zeroed, no_image, place_at}
use Rattle.volume_history.specs.Chronicles.{Changed, ChronicleEntry, Origin, begun_in, in_force, now_at, piece_covers}
use Rattle.volume_history.specs.Parts.{IsZeroAt}
use Rattle.volume_history.specs.Placed.{Place, PlacedVolume, values_on, volumes_of}
use Rattle.volume_history.specs.Replay.{line_step, plain_state}
use Rattle.volume_history.specs.Reshaping.{born_value}
use Rattle.world_places.specs.Changes.{AreIdle, behind}
use Rattle.world_places.specs.Laws.{BirthsTrack, ChangesKeep}
use Rattle.world_places.specs.Lives.{Live, is_started, writes_now}
use Rattle.world_places.specs.Tracked.{Scene, Tracked}
use Rattle.world_places.specs.Volumes.{AllTracked}
use Rattle.pending_versions.proofs.Keys.{OwnSectors, own_sectors}
use Rattle.pending_versions.proofs.LineKinds.{IsKind, born_new, kind_is}
use Rattle.pending_versions.proofs.Remade.{changes_remake, value_on, values_length}
use Rattle.pending_versions.specs.Births.{born_places, zero_places}
use Rattle.pending_versions.specs.Coming.{EachComes, IsBornAt, Remakes, StandsAt, made_of, open_step}
use Rattle.pending_versions.specs.Machines.{HoldShown, IsShown}
use Rattle.pending_versions.specs.Pending.{HasOneValue}
use Rattle.pending_versions.specs.Taking.{LieWithin, TakesPlace}

-- ---- what stood

stands_tracked : (g : Scene) (vs : List PlacedVolume) (ps : List PlainVolume) → AllTracked g vs ps → (key x : ℕ) (place : Place)
    (value : List ℕ) → StandsAt vs ps key x place value → Tracked g key x place
stands_tracked g [] ps tracked key x place value stands = absurd stands
stands_tracked g (v ∷ vs) [] tracked key x place value stands = absurd stands
stands_tracked g (v ∷ vs) (p ∷ ps) tracked key x place value (inl here) =
    subst (λ (q : Place). Tracked g key x q) here.there
    (subst (λ (k : ℕ). Tracked g k x (place_at v.places x)) here.keyed (tracked.2 x here.inside))
stands_tracked g (v ∷ vs) (p ∷ ps) tracked key x place value (inr later) =
    stands_tracked g vs ps tracked.3 key x place value later

stands_shown : (image : Image) (vs : List PlacedVolume) (ps : List PlainVolume) → HoldShown image vs ps → (key x : ℕ) (place : Place)
    (value : List ℕ) → StandsAt vs ps key x place value → value ≡ image place.disk place.sector
stands_shown image [] ps shown key x place value stands = absurd stands
stands_shown image (v ∷ vs) [] shown key x place value stands = absurd stands
stands_shown image (v ∷ vs) (p ∷ ps) shown key x place value (inl here) =
    sym here.value_is ∙ ap (λ (l : List (List ℕ)). slice_index_or l x []) shown.0 ∙ value_on image v.places x here.inside
    ∙ ap (λ (q : Place). image q.disk q.sector) here.there
stands_shown image (v ∷ vs) (p ∷ ps) shown key x place value (inr later) =
    stands_shown image vs ps shown.1 key x place value later

-- a started piece that writes the sector covers it, within its volume
covers_within : (volumes : List PlainVolume) (lives : List Live) → LieWithin volumes lives → (l : Live) (key x : ℕ) → Contains lives l
    → writes_now l key x ≡ true → x < length (sectors_of volumes key)
covers_within volumes lives within l key x among writing =
    let started = and_cases (is_started l.stage) (l.piece.write && piece_covers l.piece key x) writing in
    let covers = and_cases l.piece.write (piece_covers l.piece key x) started.1 in
    let both = and_cases (l.piece.volume == key) (in_range l.piece.first l.piece.count x) covers.1 in
    let range = and_cases (nat_le l.piece.first x) (nat_lt x (l.piece.first + l.piece.count)) both.1 in
    let lt : x < l.piece.first + l.piece.count = true_lt x (l.piece.first + l.piece.count) range.1 in
    subst (λ (k : ℕ). x < length (sectors_of volumes k)) (eq_of l.piece.volume key both.0)
    (let le = within l among in omega (arith, lt, le))

module _ (g : Scene) (m n : ℕ) (version : Option Version) (t : TakesPlace g m n version) where
  abbrev o : Origin
  o = g.origin

  abbrev es : List ChronicleEntry
  es = g.entries

  abbrev before : Option Version
  before = in_force o es

  abbrev state : PlainState
  state = plain_state o es

  -- what a read gives now
  abbrev now : Image
  now = now_after o.told.opened o.told.steps

  now_is : now_at o m ≡ now
  now_is =
      let none : length o.told.steps - m ≡ 0 = omega (arith, t.now) in ap (λ (k : ℕ). now_after o.told.opened (drop k o.told.steps)) none

  k : IsKind (begun_in es n) before version
  k = kind_is (begun_in es n) before version t.pending.makes

  abbrev kind : CommandKind
  kind = k.kind

  makes : Remakes kind before version state now
  makes = changes_remake kind before version k.keeps k.changes state t.machine now

  abbrev made : PlainState
  made = made_of kind before version state now

  made_is : plain_state o (Changed m n version ∷ es) ≡ made
  made_is =
      ap (λ (i : Image). plain_after state (line_step (begun_in es n) before version state i)) now_is
      ∙ ap (plain_after state) (k.steps state now)

  bears_is : (key x : ℕ) → bears o key x (Changed m n version) es ≡ is_born (open_step kind before version state) state key x
  bears_is key x = ap (λ s. is_born s state key x) (k.steps state no_image)

  -- ---- what is born has one value, and a read gives that

  abbrev born_is : ℕ → Place → List ℕ
  born_is x place = born_value (open_step kind before version state) now x place

  zeros : All (IsZeroAt o) (zero_places kind version)
  zeros = subst (λ (l : List Place). All (IsZeroAt o) l) k.zeros t.pending.zero

  ones : All (HasOneValue o) (born_places kind before version)
  ones = subst (λ (l : List Place). All (HasOneValue o) l) k.births t.settled

  zero_now : (place : Place) → Contains (zero_places kind version) place → now place.disk place.sector ≡ zero_sector
  zero_now place among =
      let zero = All-contains (IsZeroAt o) (zero_places kind version) place zeros among in
      now_has o.told place.disk place.sector (λ v. v ≡ zero_sector) t.is (record { each = zero.each })

  born_now : (x : ℕ) (place : Place) → (is_zeroed (open_step kind before version state) x ≡ true
      → Contains (zero_places kind version) place)
      → born_is x place ≡ now place.disk place.sector
  born_now x place zero = by (is_zeroed (open_step kind before version state) x) zero
    where
      by : (b : Bool) → (b ≡ true → Contains (zero_places kind version) place)
          → (if b then zero_sector else now place.disk place.sector) ≡ now place.disk place.sector
      by true zero = sym (zero_now place (zero refl))
      by false zero = refl

  born_only : (x : ℕ) (place : Place) (value : List ℕ) → Contains (born_places kind before version) place
      → (is_zeroed (open_step kind before version state) x ≡ true → Contains (zero_places kind version) place)
      → value ≡ born_is x place → OnlyLeaves o.told place.disk place.sector (λ v. v ≡ value)
  born_only x place value among zero is =
      let one = All-contains (HasOneValue o) (born_places kind before version) place ones among in
      let same : one.value ≡ value =
      sym (now_has o.told place.disk place.sector (λ v. v ≡ one.value) t.is one.only) ∙ sym (born_now x place zero) ∙ sym is in
      record { each = λ write v may. one.only.each write v may ∙ same }

  -- ---- tracked

  module _ (births : BirthsTrack) (changes : ChangesKeep) (within : LieWithin state.volumes g.lives)
      (tracked : AllTracked g (volumes_of before) state.volumes) where
    abbrev taken : Scene
    taken = behind g (Changed m n version) g.lives g.written

    idle : (key x : ℕ) (place : Place) → length (sectors_of state.volumes key) ≤ x → AreIdle g.lives key x place
    idle key x place new l leg w =
        let lt = covers_within state.volumes g.lives within l key x w.live w.writing in absurd (omega (arith, lt, new))

    born_tracked : (p : PlainVolume) (x : ℕ) (place : Place) → sectors_of made.volumes p.key ≡ p.sectors
        → IsBornAt kind before version state now p.key x place (slice_index_or p.sectors x []) → Tracked taken p.key x place
    born_tracked p x place own born =
        births taken p.key x place (Changed m n version) es refl (bears_is p.key x ∙ born.born)
        (idle p.key x place (born_new kind before version state k.keeps t.machine.keys p.key x born.born))
        (born_only x place (sector_of (plain_state o (Changed m n version ∷ es)) p.key x) born.new born.zero
        (ap (λ (s : PlainState). sector_of s p.key x) made_is ∙ ap (λ (l : List (List ℕ)). slice_index_or l x []) own ∙ born.value_is))

    tracks_from : (vs : List PlacedVolume) (ps : List PlainVolume) → EachComes kind before version state now vs ps
        → OwnSectors made.volumes ps → AllTracked taken vs ps
    tracks_from [] [] come own = tt
    tracks_from [] (p ∷ ps) come own = absurd come
    tracks_from (v ∷ vs) [] come own = absurd come
    tracks_from (v ∷ vs) (p ∷ ps) come own = (
      come.0.0,
      come.0.1,
      λ x lt.
          ⊎_elim (λ born. born_tracked p x (place_at v.places x) own.0 born)
          (λ stays. changes g p.key x (place_at v.places x) m n version (bears_is p.key x ∙ stays.unborn)
          (stands_tracked g (volumes_of before) state.volumes tracked p.key x (place_at v.places x) _ stays.stood))
          (come.0.2 x lt),
      tracks_from vs ps come.1 own.1,
    )

    pub taking_tracks : AllTracked taken (volumes_of version) (plain_state o (Changed m n version ∷ es)).volumes
    taking_tracks =
        subst (λ (s : PlainState). AllTracked taken (volumes_of version) s.volumes) (sym made_is)
        (tracks_from (volumes_of version) made.volumes makes.volumes (own_sectors 0 made.next_key made.volumes makes.machine.keys))

  -- ---- shown

  module _ (shown : HoldShown now (volumes_of before) state.volumes) where
    shows_from : (vs : List PlacedVolume) (ps : List PlainVolume) → EachComes kind before version state now vs ps → HoldShown now vs ps
    shows_from [] [] come = tt
    shows_from [] (p ∷ ps) come = absurd come
    shows_from (v ∷ vs) [] come = absurd come
    shows_from (v ∷ vs) (p ∷ ps) come = (
      ext_get_or [] p.sectors (values_on now v.places) (sym come.0.1 ∙ sym (values_length now v.places))
          (λ x lt. let inside : x < length v.places = omega (arith, lt, come.0.1) in
          ⊎_elim (λ born. born.value_is ∙ born_now x (place_at v.places x) born.zero)
          (λ stays. stands_shown now (volumes_of before) state.volumes shown p.key x (place_at v.places x) _ stays.stood)
          (come.0.2 x inside)
          ∙ sym (value_on now v.places x inside)),
      shows_from vs ps come.1,
    )

  pub taking_shows : IsShown before now state → IsShown version now (plain_state o (Changed m n version ∷ es))
  taking_shows shown =
      subst (λ (s : PlainState). IsShown version now s) (sym made_is)
      (record { machine = makes.machine; holds = shows_from shown.holds (volumes_of version) made.volumes makes.volumes })
