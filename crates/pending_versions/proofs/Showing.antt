-- While a command is pending its version shows a history beside the one in force.
use Rattle.std.proofs.Common.{◌≡◌, ℕ, All, List, [], ◌∷◌, Option, Some, None, inl, inr, ⊎_elim, sym, subst}
use Rattle.std.proofs.lemmas.List.Elements.{All-contains}
use Rattle.command_table.specs.Commands.{CommandKind}
use Rattle.line_table.specs.Machine.{PlainStep, PlainVolume, plain_after}
use Rattle.vg_scan.specs.Versions.{Version}
use Rattle.volume_history.specs.Candidates.{IsConsistentNow, no_image, place_at}
use Rattle.volume_history.specs.Chronicles.{ChronicleEntry, Origin, begun_in, in_force, pending}
use Rattle.volume_history.specs.Laws.{PartsMakeConsistent}
use Rattle.volume_history.specs.Parts.{IsZeroAt, NextPart, NextPlaces, PlaceHolds, Primaries, ScansPart}
use Rattle.volume_history.specs.Placed.{Place, PlacedVolume, group_name, volumes_of}
use Rattle.volume_history.specs.Replay.{plain_state}
use Rattle.world_places.specs.Laws.{VolumesHold}
use Rattle.world_places.specs.Tracked.{AreLive, Scene}
use Rattle.world_places.specs.Volumes.{AllTracked}
use Rattle.pending_versions.proofs.LineKinds.{IsKind, kind_is}
use Rattle.pending_versions.proofs.Remade.{changes_remake}
use Rattle.pending_versions.specs.Births.{zero_places}
use Rattle.pending_versions.specs.Coming.{EachComes, Remakes, StandsAt, open_step}
use Rattle.pending_versions.specs.Machines.{IsInForce}
use Rattle.pending_versions.specs.Pending.{PendingPart}

-- where a sector stands it has its place
stands_holds : (o : Origin) (es : List ChronicleEntry) (vs : List PlacedVolume) (ps : List PlainVolume) → Primaries o es vs ps
    → (key x : ℕ) (place : Place) (value : List ℕ) → StandsAt vs ps key x place value → PlaceHolds o es key x place
stands_holds o es [] ps primaries key x place value stands = absurd stands
stands_holds o es (v ∷ vs) [] primaries key x place value stands = absurd stands
stands_holds o es (v ∷ vs) (p ∷ ps) primaries key x place value (inl here) =
    subst (λ (q : Place). PlaceHolds o es key x q) here.there
    (subst (λ (k : ℕ). PlaceHolds o es k x (place_at v.places x)) here.keyed (primaries.2 x here.inside))
stands_holds o es (v ∷ vs) (p ∷ ps) primaries key x place value (inr later) =
    stands_holds o es vs ps primaries.3 key x place value later

module _ (o : Origin) (es : List ChronicleEntry) (after : Option Version) (machine : IsInForce o es)
    (primaries : Primaries o es (volumes_of (in_force o es)) (plain_state o es).volumes) where
  module _ (kind : CommandKind) (zero : All (IsZeroAt o) (zero_places kind after)) where
    next_from : (vs : List PlacedVolume) (ps : List PlainVolume)
        → EachComes kind (in_force o es) after (plain_state o es) no_image vs ps
        → NextPlaces o es (open_step kind (in_force o es) after (plain_state o es)) vs ps
    next_from [] [] come = tt
    next_from [] (p ∷ ps) come = absurd come
    next_from (v ∷ vs) [] come = absurd come
    next_from (v ∷ vs) (p ∷ ps) come = (
      come.0.0,
      come.0.1,
      λ x lt.
          ⊎_elim
          (λ born. inl (
            born.born,
            λ zeroed. All-contains (IsZeroAt o) (zero_places kind after) (place_at v.places x) zero (born.zero zeroed),
          ))
          (λ stays. inr (
            stays.unborn,
            stands_holds o es (volumes_of (in_force o es)) (plain_state o es).volumes primaries p.key x (place_at v.places x) _
                stays.stood,
          ))
          (come.0.2 x lt),
      next_from vs ps come.1,
    )

  -- the step of a command shows its version so
  abbrev ShowsBy : PlainStep → Type 0
  ShowsBy step =
      (group_name after ≡ (plain_after (plain_state o es) step).group)
      × NextPlaces o es step (volumes_of after) (plain_after (plain_state o es) step).volumes

  shows_by : (kind : CommandKind) → All (IsZeroAt o) (zero_places kind after)
      → Remakes kind (in_force o es) after (plain_state o es) no_image
      → ShowsBy (open_step kind (in_force o es) after (plain_state o es))
  shows_by kind zero makes = (makes.machine.group, next_from kind zero (volumes_of after) _ makes.volumes)

pub pending_next : (o : Origin) (es : List ChronicleEntry) → IsInForce o es
    → Primaries o es (volumes_of (in_force o es)) (plain_state o es).volumes
    → (P : Option (ℕ × Option Version)) → PendingPart o es P → NextPart o es P
pending_next o es machine primaries None part = tt
pending_next o es machine primaries (Some p) part =
    let k : IsKind (begun_in es p.0) (in_force o es) p.1 = kind_is (begun_in es p.0) (in_force o es) p.1 part.makes in
    subst (λ (s : PlainStep). ShowsBy o es p.1 machine primaries s) (sym (k.steps (plain_state o es) no_image))
    (shows_by o es p.1 machine primaries k.kind (subst (λ (l : List Place). All (IsZeroAt o) l) k.zeros part.zero)
    (changes_remake k.kind (in_force o es) p.1 k.keeps k.changes (plain_state o es) machine no_image))

-- so now is consistent, where each sector in force is tracked
pub tracked_consistent : PartsMakeConsistent → VolumesHold → (g : Scene) → ScansPart g.origin g.entries
    → ((key x : ℕ) → AreLive g key x) → IsInForce g.origin g.entries
    → AllTracked g (volumes_of (in_force g.origin g.entries)) (plain_state g.origin g.entries).volumes
    → PendingPart g.origin g.entries (pending g.entries)
    → IsConsistentNow (record { origin = g.origin; entries = g.entries })
tracked_consistent parts hold g scans live machine tracked part =
    let primaries : Primaries g.origin g.entries (volumes_of (in_force g.origin g.entries)) (plain_state g.origin g.entries).volumes =
    hold g (volumes_of (in_force g.origin g.entries)) (plain_state g.origin g.entries).volumes live tracked in
    parts (record { origin = g.origin; entries = g.entries }) scans primaries machine.group
    (pending_next g.origin g.entries machine primaries (pending g.entries) part)
