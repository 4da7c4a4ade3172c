-- Sectors beside all primary places stay what they were: no step writes there.
use Rattle.std.proofs.Common.{◌≡◌, ◌≤◌, ◌<◌, ℕ, ◌+◌, ◌-◌, Bool, false, IsTrue, List, Option, refl, ap, ◌∙◌, arith}
use Rattle.std.proofs.lemmas.Bool.{false_from_ne_true}
use Rattle.std.proofs.lemmas.Bool.Decides.{nat_tests}
use Rattle.sector_base.specs.Spans.{covers}
use Rattle.sector_base.specs.declared.places.Piece.{Piece}
use Rattle.sector_base.specs.declared.spans.Span.{Span}
use Rattle.disk_model.proofs.Durable.{only_leaves_on}
use Rattle.disk_model.specs.Brought.{brings}
use Rattle.disk_model.specs.Steps.{Completed, Flushing, Image, Reading, Record, Step, Submitted, Work, Writing, step_on}
use Rattle.vg_scan.specs.Versions.{Version}
use Rattle.volume_history.specs.Placed.{Place}
use Rattle.world_history.specs.Shown.{StandsIn}
use Rattle.world_tracks.specs.Moments.{BesideStays, IsBesideAll}

-- what a span covers is one of its sectors
covered : (span : Span) (disk sector : ℕ) → IsTrue (covers span disk sector)
    → (span.pv ≡ disk) × (span.first ≤ sector) × (sector < span.first + span.count)
covered span disk sector is = (grind (arith, nat_tests), grind (arith, nat_tests), grind (arith, nat_tests))

-- the span of a piece covers no sector beside all places
pub spans_places : (version : Option Version) (piece : Piece) (span : Span) (disk sector : ℕ) → StandsIn version piece span
    → IsBesideAll version disk sector → covers span disk sector ≡ false
spans_places version piece span disk sector stands beside = false_from_ne_true (covers span disk sector) (λ is.
    let on = covered span disk sector is in
    let i : ℕ = sector - span.first in
    let lt : i < piece.count = omega (arith, on.1, on.2, stands.many) in
    let same : span.first + i ≡ sector = omega (arith, on.1) in
    let place : ◌≡◌ {A = Place} (record { disk = span.pv; sector = span.first + i }) (record { disk = disk; sector = sector }) =
    ap {B = Place} (λ (d : ℕ). record { disk = d; sector = span.first + i }) on.0
    ∙ ap {B = Place} (λ (s : ℕ). record { disk = disk; sector = s }) same in
    beside piece.volume (piece.first + i) (record { disk = span.pv; sector = span.first + i }) (stands.there i lt) place)

module _ (version : Option Version) (base : Image) (told : Record) (stays : BesideStays version base told) where
  -- a step that brings nothing there
  pub beside_step : (step : Step) → ((disk sector : ℕ) → IsBesideAll version disk sector → brings step disk sector ≡ false)
      → BesideStays version base (step_on step told)
  beside_step step none disk sector beside =
      only_leaves_on told disk sector (λ v. v ≡ base disk sector) step (none disk sector beside) (stays disk sector beside)

  -- a read is submitted
  pub beside_read : (tag : ℕ) (span : Span) → BesideStays version base (step_on (Submitted tag (Reading span)) told)
  beside_read tag span = beside_step (Submitted tag (Reading span)) (λ disk sector beside. refl)

  -- a flush is
  pub beside_flush : (tag pv : ℕ) → BesideStays version base (step_on (Submitted tag (Flushing pv)) told)
  beside_flush tag pv = beside_step (Submitted tag (Flushing pv)) (λ disk sector beside. refl)

  -- the write of a piece that stands in its span is
  pub beside_write : (tag : ℕ) (piece : Piece) (span : Span) (sectors : List (List ℕ)) → StandsIn version piece span
      → BesideStays version base (step_on (Submitted tag (Writing span sectors)) told)
  beside_write tag piece span sectors stands =
      beside_step (Submitted tag (Writing span sectors)) (λ disk sector beside. spans_places version piece span disk sector stands beside)

  -- an operation completes
  pub beside_done : (tag : ℕ) (work : Work) (well : Bool) (fresh : List Bool)
      → BesideStays version base (step_on (Completed tag work well fresh) told)
  beside_done tag work well fresh = beside_step (Completed tag work well fresh) (λ disk sector beside. refl)
