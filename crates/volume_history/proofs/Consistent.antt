-- The parts make a moment consistent.
use Rattle.std.proofs.Common.{◌≡◌, ℕ, Bool, true, false, if◌then◌else◌, List, [], ◌∷◌, Contains, Option, Some, None, inl, inr, ⊎_elim, refl}
use Rattle.std.proofs.Common.{sym, subst}
use Rattle.std.proofs.lemmas.List.Elements.{Contains-push}
use Rattle.data_lines.specs.DataLines.{zero_sector}
use Rattle.disk_model.specs.CrashValues.{IsImage}
use Rattle.disk_model.specs.Steps.{Image}
use Rattle.vg_scan.specs.Versions.{Version}
use Rattle.line_table.specs.Machine.{PlainStep, PlainVolume, plain_after}
use Rattle.volume_history.proofs.Brought.{source_is_candidate}
use Rattle.volume_history.specs.Candidates.{Anything, IsConsistent, IsConsistentNow, IsIn, OneOf, ShowsPending, ShowsVolumes, candidates}
use Rattle.volume_history.specs.Candidates.{is_born, is_zeroed, pending_candidates, pending_step, place_at}
use Rattle.volume_history.specs.Chronicles.{Chronicle, ChronicleEntry, Origin, in_force, pending}
use Rattle.volume_history.specs.Parts.{FindsPending, IsZeroAt, KeepsAll, NextHolds, NextPart, NextPlaces, PlaceHolds, Primaries, ScansPart}
use Rattle.volume_history.specs.Placed.{Place, PlacedVolume, group_name, volumes_of}
use Rattle.volume_history.specs.Replay.{plain_state}

-- what a sector has at its place is a candidate
place_shows : (o : Origin) (es : List ChronicleEntry) (key x : ℕ) (place : Place) (image : Image) → IsImage o.told image
    → PlaceHolds o es key x place → IsIn (candidates o es key x) (image place.disk place.sector)
place_shows o es key x place image is holds =
    let m = is place.disk place.sector in
    let s = holds.each m.0 (image place.disk place.sector) m.1 in
    subst (IsIn (candidates o es key x)) s.2 (source_is_candidate o es key x s.0 s.1)

-- the volumes are shown
pub primaries_show : (o : Origin) (es : List ChronicleEntry) (image : Image) → IsImage o.told image
    → (vs : List PlacedVolume) (ps : List PlainVolume) → Primaries o es vs ps → ShowsVolumes image (candidates o es) vs ps
primaries_show o es image is [] [] primaries = tt
primaries_show o es image is (v ∷ vs) (p ∷ ps) primaries = (
  primaries.0,
  primaries.1,
  λ x lt. place_shows o es p.key x (place_at v.places x) image is (primaries.2 x lt),
  primaries_show o es image is vs ps primaries.3,
)
primaries_show o es image is [] (p ∷ ps) primaries = absurd primaries
primaries_show o es image is (v ∷ vs) [] primaries = absurd primaries

-- a possible value of the pending version's place is a candidate in it
next_shows : (o : Origin) (es : List ChronicleEntry) (step : PlainStep) (key x : ℕ) (place : Place) (image : Image) → IsImage o.told image
    → NextHolds o es step key x place
    → IsIn (pending_candidates o es step key x) (image place.disk place.sector)
next_shows o es step key x place image is (inl b) =
    subst (λ (t : Bool). IsIn (if t then (if is_zeroed step x then OneOf (zero_sector ∷ []) else Anything) else candidates o es key x)
    (image place.disk place.sector)) (sym b.0) (zero_or (is_zeroed step x) b.1)
  where
    zero_or : (t : Bool) → (t ≡ true → IsZeroAt o place)
        → IsIn (if t then OneOf (zero_sector ∷ []) else Anything) (image place.disk place.sector)
    zero_or true h =
        let m = is place.disk place.sector in subst (λ (v : List ℕ). Contains (zero_sector ∷ []) v)
        (sym ((h refl).each m.0 (image place.disk place.sector) m.1)) (Contains-push [] zero_sector)
    zero_or false h = tt
next_shows o es step key x place image is (inr b) =
    subst (λ (t : Bool). IsIn (if t then (if is_zeroed step x then OneOf (zero_sector ∷ []) else Anything) else candidates o es key x)
    (image place.disk place.sector)) (sym b.0) (place_shows o es key x place image is b.1)

pub next_places_show : (o : Origin) (es : List ChronicleEntry) (step : PlainStep) (image : Image) → IsImage o.told image
    → (vs : List PlacedVolume) (ps : List PlainVolume) → NextPlaces o es step vs ps
    → ShowsVolumes image (pending_candidates o es step) vs ps
next_places_show o es step image is [] [] places = tt
next_places_show o es step image is (v ∷ vs) (p ∷ ps) places = (
  places.0,
  places.1,
  λ x lt. next_shows o es step p.key x (place_at v.places x) image is (places.2 x lt),
  next_places_show o es step image is vs ps places.3,
)
next_places_show o es step image is [] (p ∷ ps) places = absurd places
next_places_show o es step image is (v ∷ vs) [] places = absurd places

pending_consistent : (o : Origin) (es : List ChronicleEntry) (image : Image) → IsImage o.told image → (P : Option (ℕ × Option Version))
    → P ≡ pending es → FindsPending o es image P → NextPart o es P → IsConsistent o es image
pending_consistent o es image is None same scan next = absurd scan
pending_consistent o es image is (Some p) same scan next = record {
  version = p.1;
  scan = scan;
  shows = inr (subst (λ (q : Option (ℕ × Option Version)). ShowsPending o es image p.1 q) same (
    refl,
    next.0,
    next_places_show o es (pending_step o es p.0 p.1) image is (volumes_of p.1)
        (plain_after (plain_state o es) (pending_step o es p.0 p.1)).volumes next.1,
  ));
}

-- a pending command that leaves the volumes as they are has its part from the primaries
next_by_primaries : (o : Origin) (es : List ChronicleEntry) (step : PlainStep)
    → ((key x : ℕ) → is_born step (plain_state o es) key x ≡ false) → (vs : List PlacedVolume) (ps : List PlainVolume)
    → Primaries o es vs ps → NextPlaces o es step vs ps
next_by_primaries o es step births [] [] primaries = tt
next_by_primaries o es step births (v ∷ vs) (p ∷ ps) primaries =
    (primaries.0, primaries.1, λ x lt. inr (births p.key x, primaries.2 x lt), next_by_primaries o es step births vs ps primaries.3)
next_by_primaries o es step births [] (p ∷ ps) primaries = absurd primaries
next_by_primaries o es step births (v ∷ vs) [] primaries = absurd primaries

pub next_by_keeps : (o : Origin) (es : List ChronicleEntry) (P : Option (ℕ × Option Version)) → KeepsAll o es P
    → Primaries o es (volumes_of (in_force o es)) (plain_state o es).volumes → NextPart o es P
next_by_keeps o es None keeps primaries = tt
next_by_keeps o es (Some p) keeps primaries = (
  keeps.name,
  subst (λ (vs : List PlacedVolume). NextPlaces o es (pending_step o es p.0 p.1) vs
      (plain_after (plain_state o es) (pending_step o es p.0 p.1)).volumes) (sym keeps.volumes)
      (subst (λ (ps : List PlainVolume). NextPlaces o es (pending_step o es p.0 p.1) (volumes_of (in_force o es)) ps) (sym keeps.machine)
      (next_by_primaries o es (pending_step o es p.0 p.1) keeps.births (volumes_of (in_force o es)) (plain_state o es).volumes primaries)),
)

-- scans, primaries and the pending version's places make now consistent
pub parts_make_consistent : (c : Chronicle) → ScansPart c.origin c.entries
    → Primaries c.origin c.entries (volumes_of (in_force c.origin c.entries)) (plain_state c.origin c.entries).volumes
    → group_name (in_force c.origin c.entries) ≡ (plain_state c.origin c.entries).group
    → NextPart c.origin c.entries (pending c.entries)
    → IsConsistentNow c
parts_make_consistent c scans primaries named next image is =
    ⊎_elim
    (λ old. record {
      version = in_force c.origin c.entries;
      scan = old;
      shows =
          inl (
            refl,
            named,
            primaries_show c.origin c.entries image is (volumes_of (in_force c.origin c.entries))
                (plain_state c.origin c.entries).volumes primaries,
          );
    })
    (λ new. pending_consistent c.origin c.entries image is (pending c.entries) refl new next)
    (scans image is)
