-- Now is consistent: scans find the version in force, and each sector of the machine's volumes has its place.
use Rattle.std.proofs.Common.{◌≡◌, ℕ, List, length, Option, None, sym, ap, subst, ◌∙◌}
use Rattle.disk_model.specs.Steps.{Image, Record}
use Rattle.vg_scan.specs.Versions.{Version}
use Rattle.line_table.specs.Machine.{PlainState}
use Rattle.volume_history.specs.Candidates.{IsConsistentNow}
use Rattle.volume_history.specs.Chronicles.{ChronicleEntry, Origin, in_force, pending}
use Rattle.volume_history.specs.Laws.{PartsMakeConsistent}
use Rattle.volume_history.specs.Parts.{NextPart, Primaries, ScansPart}
use Rattle.volume_history.specs.Placed.{group_name, volumes_of}
use Rattle.volume_history.specs.Replay.{plain_state}
use Rattle.world_acts.specs.declared.state.Core.{Core}
use Rattle.world_history.specs.Contents.{origin_with}
use Rattle.world_history.specs.Shown.{Shows}
use Rattle.world_places.specs.Laws.{VolumesHold}
use Rattle.world_places.specs.Lives.{Written}
use Rattle.world_places.specs.Tracked.{AreLive}
use Rattle.world_tracks.specs.Lives.{scene_of}
use Rattle.world_tracks.specs.Moments.{AreBeside, BesideStays, HasBase}
use Rattle.world_tracks.specs.Tracks.{AreTracked}
use Rattle.world_tracks.proofs.AllPlaces.{all_places}
use Rattle.world_tracks.proofs.LeftOut.{none_left_out}
use Rattle.world_tracks.proofs.Scans.{ScanKept, scans_find}

-- the laws that this goes by
pub record MomentLaws : Type 0 where
  pub parts : PartsMakeConsistent
  pub volumes : VolumesHold
  pub scans : ScanKept

-- where no commit is open, by scans and places
pub by_parts : PartsMakeConsistent → (o : Origin) (told : Record) (es : List ChronicleEntry) → Shows (origin_with o told) es
    → pending es ≡ None → ScansPart (origin_with o told) es
    → Primaries (origin_with o told) es (volumes_of o.version) (plain_state (origin_with o told) es).volumes
    → IsConsistentNow (record { origin = origin_with o told; entries = es })
by_parts parts o told es shows committed scans primaries =
    let force : in_force (origin_with o told) es ≡ o.version = shows.so_far.force in
    parts (record { origin = origin_with o told; entries = es }) scans
    (subst (λ (v : Option Version). Primaries (origin_with o told) es (volumes_of v) (plain_state (origin_with o told) es).volumes)
    (sym force) primaries)
    (ap group_name force ∙ sym (ap (λ (s : PlainState). s.group) shows.machine))
    (subst (λ (p : Option (ℕ × Option Version)). NextPart (origin_with o told) es p) (sym committed) tt)

-- by what is tracked
pub consistent_now : MomentLaws → (o : Origin) (base : Image) (told : Record) (c : Core) (es : List ChronicleEntry) (notes : List Written)
    → HasBase o base → Shows (origin_with o told) es → pending es ≡ None → AreBeside es
    → ((key x : ℕ) → AreLive (scene_of (origin_with o told) c es notes) key x) → AreTracked o told c es notes
    → BesideStays o.version base told → IsConsistentNow (record { origin = origin_with o told; entries = es })
consistent_now laws o base told c es notes has shows committed lines live tracked beside =
    by_parts laws.parts o told es shows committed
    (scans_find o base has laws.scans told es beside shows.so_far.force
    (λ pv. none_left_out (origin_with o told) es (length told.steps) pv lines))
    (all_places laws.volumes o told c es notes shows live tracked)
