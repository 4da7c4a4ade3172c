-- A volume gets longer while a write of it is under way, and what an lvcreate creates: the premises of all laws can be met.
use Rattle.std.proofs.Common.{◌≡◌, ◌≤◌, ℕ, zero, suc, true, get_or, Contains, List, [], ◌∷◌, None, Some, inl, inr, refl, sym, subst, arith}
use Rattle.std.specs.Prelude.{map}
use Rattle.std.specs.List.{range_with_len}
use Rattle.std.proofs.lemmas.List.Elements.{All-from_recursion, All-nil}
use Rattle.sector_base.specs.declared.places.Piece.{Piece}
use Rattle.data_lines.specs.DataLines.{number_sector}
use Rattle.vg_scan.specs.Versions.{Version}
use Rattle.volume_view.specs.InSegments.{leg_spot, met}
use Rattle.volume_view.specs.Places.{primary}
use Rattle.volume_history.proofs.SmallGroups.{creating, extending, filling, holding, reducing, version_1, version_2, version_5, version_of}
use Rattle.volume_history.proofs.SmallGroups.{volume_5}
use Rattle.volume_history.specs.Chronicles.{Begun, Changed, ChronicleEntry, Opened, Origin}
use Rattle.volume_history.specs.Parts.{IsZeroAt}
use Rattle.volume_history.specs.Placed.{Place, place_of, volumes_of}
use Rattle.volume_history.specs.Replay.{plain_state}
use Rattle.world_places.specs.Changes.{IsTold, behind}
use Rattle.world_places.specs.Laws.{BeginningsKeep, BirthsTrack, ChangesKeep, LivesKeep, OpeningTracks, OpeningsKeep}
use Rattle.world_places.specs.Lives.{IsWriting, Leg, Live, Started, Waiting}
use Rattle.world_places.specs.Tracked.{Scene, Tracked}
use Rattle.world_places.specs.Volumes.{AllTracked}
use Rattle.pending_versions.proofs.Taking.{taking_tracks}
use Rattle.pending_versions.specs.Births.{LineChanges, line_births, line_zeros}
use Rattle.pending_versions.specs.Machines.{LiesWithin}
use Rattle.pending_versions.specs.Pending.{HasOneValue}
use Rattle.pending_versions.specs.Taking.{LieWithin, TakesPlace}

abbrev at_sector : ℕ → Place
at_sector sector = record { disk = 0; sector = sector }

-- ---- what is created, by the two versions

-- a volume of ten sectors: all are born, eight of them as zeros
creates : LineChanges (Some (creating, None)) (Some version_1) (Some version_2)
unfolding volumes_of place_of primary met leg_spot
creates = (
  (record { id = 50 ∷ []; name = 5 ∷ []; places = map at_sector (range_with_len 10 10) }, refl, refl, refl, refl),
  refl,
)

created_places : line_births (Some (creating, None)) (Some version_1) (Some version_2) ≡ map at_sector (range_with_len 10 10)
unfolding volumes_of place_of primary met leg_spot
created_places = refl

created_zeros : line_zeros (Some (creating, None)) (Some version_2) ≡ map at_sector (range_with_len 10 8)
unfolding volumes_of place_of primary met leg_spot
created_zeros = refl

-- one that gets shorter bears none
shortens : LineChanges (Some (reducing, None)) (Some version_2) (Some version_5)
unfolding volumes_of place_of primary met leg_spot
shortens = ((6, refl, refl, refl), refl)

shortened_places : line_births (Some (reducing, None)) (Some version_2) (Some version_5) ≡ []
shortened_places = refl

-- ---- a commit beside a write

-- the volume of one sector has two
abbrev longer : Version
longer = version_of 2 (volume_5 0 2 ∷ [])

-- each sector holds a 9
abbrev origin : Origin
origin =
    record {
      told = record { opened = λ pv sector. 9 ∷ []; steps = [] };
      first = 0;
      start = 0;
      sizes = 99 ∷ [];
      names = (0 ∷ []) ∷ [];
      clock = 0;
      version = Some holding;
    }

-- a line that fills the sector is begun, and then the one that makes the volume longer, whose commit starts
abbrev begun : List ChronicleEntry
begun = Begun 0 0 (filling 0 1 7) (Some 0) ∷ []

abbrev entries : List ChronicleEntry
entries = Opened 0 1 (Some longer) ∷ Begun 0 1 extending None ∷ begun

abbrev piece : Piece
piece = record { volume = 0; first = 0; count = 1; write = true }

abbrev leg : Leg
leg = record { pv = 0; first = 10; primary = true; state = Waiting }

abbrev live : Live
live =
    record {
      number = 0;
      line = 0;
      piece = piece;
      sectors = number_sector 7 ∷ [];
      region = None;
      stage = Started;
      legs = leg ∷ [];
    }

-- what a list of one contains
one : {A : Type 0} (a b : A) → Contains (a ∷ []) b → a ≡ b
one a b (zero, lt, e) = e
one a b (suc i, lt, e) = absurd (omega (arith, lt))

none_in : {A : Type 0} (b : A) → Contains [] b → ⊥
none_in b (i, lt, e) = absurd (omega (arith, lt))

module _ (any : Scene) where
  abbrev scene : List ChronicleEntry → List Live → Scene
  scene es lives = record any { origin = origin; entries = es; lives = lives; written = [] }

  -- it may make its version now
  takes : TakesPlace (scene entries (live ∷ [])) 0 1 (Some longer)
  unfolding volumes_of place_of primary met leg_spot
  takes = record {
    now = refl;
    is = tt;
    machine = record { group = refl; volumes = (refl, refl, tt); keys = (omega arith, omega arith) };
    pending = record { makes = ((at_sector 11 ∷ [], refl, refl, refl), refl); zero = All-nil (IsZeroAt origin) };
    settled =
        All-from_recursion (HasOneValue origin) (at_sector 11 ∷ [])
        (record { value = 9 ∷ []; only = record { each = λ write value may. may.1 } }, tt);
  }

  within : LieWithin (plain_state origin entries).volumes (live ∷ [])
  unfolding volumes_of place_of primary met leg_spot
  within l among = subst (λ (k : Live). LiesWithin (plain_state origin entries).volumes k.piece) (one live l among) (omega arith)

  module _ (opening : OpeningTracks) (begin : BeginningsKeep) (start : LivesKeep) (open_one : OpeningsKeep) where
    told : IsTold (scene begun [])
    told = record { first = omega arith; upto = (omega arith, tt) }

    waits : (l : Live) (g : Leg) → IsWriting (live ∷ []) 0 0 (at_sector 10) l g → leg ≡ g
    waits l g w = one leg g (subst (λ (k : Live). Contains k.legs g) (sym (one live l w.live)) w.leg_of)

    old_tracked : Tracked (scene entries (live ∷ [])) 0 0 (at_sector 10)
    unfolding volumes_of place_of primary met leg_spot
    old_tracked =
        open_one (scene (Begun 0 1 extending None ∷ begun) (live ∷ [])) 0 0 (at_sector 10) 0 1 (Some longer)
        (begin (scene begun (live ∷ [])) 0 0 (at_sector 10) 0 1 extending None refl refl
        (start (scene begun []) 0 0 (at_sector 10) (live ∷ []) [] told (λ n r. absurd cc)
        (λ l g w. inr (inl (subst (λ (k : Leg). k.state ≡ Waiting) (waits l g w) refl))) (λ w kept at. absurd (none_in w kept))
        (begin (scene [] []) 0 0 (at_sector 10) 0 0 (filling 0 1 7) (Some 0) refl refl
        (opening (scene [] []) 0 0 (at_sector 10) refl (λ l g w. absurd (none_in l w.live))
        (record { each = λ write value may. may.1 })))))

    all_tracked : AllTracked (scene entries (live ∷ [])) (volumes_of (Some holding)) (plain_state origin entries).volumes
    unfolding volumes_of place_of primary met leg_spot
    all_tracked = (refl, refl, each, tt)
      where
        each : (x : ℕ) → suc x ≤ 1 → Tracked (scene entries (live ∷ [])) 0 x (get_or (at_sector 10 ∷ []) x (at_sector 0))
        each zero lt = old_tracked
        each (suc x) lt = absurd (omega (arith, lt))

    -- and both sectors of the longer volume are tracked then
    grown_tracked : BirthsTrack → ChangesKeep
        → AllTracked (behind (scene entries (live ∷ [])) (Changed 0 1 (Some longer)) (live ∷ []) []) (volumes_of (Some longer))
        (plain_state origin (Changed 0 1 (Some longer) ∷ entries)).volumes
    grown_tracked births changes =
        taking_tracks (scene entries (live ∷ [])) 0 1 (Some longer) takes births changes within all_tracked
