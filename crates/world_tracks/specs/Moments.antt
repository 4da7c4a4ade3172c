-- Moments at which every image that a crash may leave shows one whole history.
use Rattle.std.specs.Prelude.{◌≡◌, ◌≤◌, ◌<◌, ℕ, true, List, [], ◌∷◌, length, Option, Some, slice_get, IfSome}
use Rattle.data_lines.specs.DataLines.{runs_beside}
use Rattle.disk_model.specs.Durability.{OnlyLeaves}
use Rattle.disk_model.specs.Steps.{Image, Record}
use Rattle.vg_scan.specs.Versions.{Version, version_in}
use Rattle.vg_found.specs.Shape.{HasShape}
use Rattle.vg_found.specs.Whole.{IsWhole}
use Rattle.vg_found.specs.declared.found.Found.{Found}
use Rattle.vg_scan.specs.Scans.{IsScanOf}
use Rattle.volume_history.specs.Candidates.{IsConsistentMoment}
use Rattle.volume_history.specs.Chronicles.{Begun, ChronicleEntry, Origin}
use Rattle.volume_history.specs.Placed.{Place, volumes_of}
use Rattle.volume_rules.specs.Rules.{IsAccepted}
use Rattle.world_history.specs.Contents.{origin_with}
use Rattle.world_history.specs.Shown.{places_keyed}

-- the sector is at no primary place of the version
abbrev pub IsBesideAll : Option Version → ℕ → ℕ → Type 0
IsBesideAll version disk sector =
    (key x : ℕ) (p : Place) → slice_get (places_keyed (volumes_of version) key) x ≡ Some p → p ≡ record { disk = disk; sector = sector } → ⊥

-- each such sector has only what this image has
abbrev pub BesideStays : Option Version → Image → Record → Type 0
BesideStays version base told =
    (disk sector : ℕ) → IsBesideAll version disk sector → OnlyLeaves told disk sector (λ v. v ≡ base disk sector)

-- a scan of the image finds the version of the start, whole
pub record HasBase (o : Origin) (base : Image) : Type 0 where
  pub found : Found
  pub scan : IsScanOf base o.sizes found
  pub shape : HasShape found
  pub whole : IsWhole found
  pub accepted : IfSome found.group IsAccepted
  pub version : version_in found ≡ o.version

-- each line that was begun runs beside others
abbrev pub AreBeside : List ChronicleEntry → Type 0
AreBeside [] = Unit {0}
AreBeside (Begun moment n line key ∷ es) = (runs_beside line.command ≡ true) × AreBeside es
AreBeside (_ ∷ es) = AreBeside es

-- each moment from the hand-in to before now is consistent
abbrev pub ArePast : Origin → Record → List ChronicleEntry → Type 0
ArePast o told es =
    (m : ℕ) → o.first ≤ m → m < length told.steps → IsConsistentMoment (record { origin = origin_with o told; entries = es }) m

-- of what was told and of the entries: the sectors beside all places, the moments before now, and the lines
pub record HasMoments (o : Origin) (base : Image) (told : Record) (es : List ChronicleEntry) : Type 0 where
  pub beside : BesideStays o.version base told
  pub past : ArePast o told es
  pub lines : AreBeside es
