-- Acts that add no entry and tell nothing, and the end of a flush.
use Rattle.std.proofs.Common.{ℕ, List, Option, refl, ap}
use Rattle.sector_base.specs.declared.places.Piece.{Piece}
use Rattle.line_answers.specs.declared.answer.Answer.{Answer}
use Rattle.disk_model.specs.Operations.{work_of}
use Rattle.disk_model.specs.State.{State}
use Rattle.disk_model.specs.Steps.{Completed, Step, Work as DiskWork, step_on}
use Rattle.disk_model.specs.declared.ops.Done.{Done}
use Rattle.claim_table.specs.declared.claim.Entry.{Entry}
use Rattle.volume_history.specs.Chronicles.{ChronicleEntry, Origin}
use Rattle.volume_history.specs.Laws.{HistoriesGrow}
use Rattle.world_acts.specs.Acts.{Allowed, Awaits, EndsFlush, Enters, Grows, Holds, LineFails, Marks, Readies, Releases, Starts, Wakes}
use Rattle.world_acts.specs.Acts.{World, after}
use Rattle.world_acts.specs.Orderly.{IsOrderly}
use Rattle.world_acts.specs.declared.state.Core.{Core}
use Rattle.world_acts.proofs.Lasting.{lasts_act}
use Rattle.io_core.specs.Rest.{kind_at}
use Rattle.io_core.proofs.LineKinds.{same_added, same_lines}
use Rattle.world_history.specs.Told.{IsTold}
use Rattle.world_history.specs.Contents.{HasContents}
use Rattle.world_history.specs.Shown.{now_of}
use Rattle.world_history.proofs.EndedFlush.{was_flush}
use Rattle.world_history.proofs.Contents.ActsHold.{fails_lines, released_lines}
use Rattle.world_history.proofs.Contents.AloneSteps.{alone_ends}
use Rattle.world_history.proofs.Contents.ClaimsApart.{apart_act}
use Rattle.world_history.proofs.Contents.Quiet.{quiet_holds, stepped_holds}

module _ {w : World} {es : List ChronicleEntry} (b : Origin) (o : IsOrderly w) (c : HasContents b w es) where
  pub line_fails_holds : (line : ℕ) (why : Answer) → Allowed w (LineFails line why) → HasContents b (after w (LineFails line why)) es
  line_fails_holds line why may =
      quiet_holds b w (after w (LineFails line why)) es refl refl refl (fails_lines w line why may)
      (apart_act w (LineFails line why) o may c.holds.apart) c

  pub line_holds_holds : (line : ℕ) → Allowed w (Holds line) → HasContents b (after w (Holds line)) es
  line_holds_holds line may =
      quiet_holds b w (after w (Holds line)) es refl refl refl (same_lines w.core.opens) (apart_act w (Holds line) o may c.holds.apart) c

  pub wakes_holds : Allowed w Wakes → HasContents b (after w Wakes) es
  wakes_holds may =
      quiet_holds b w (after w Wakes) es refl refl refl (same_lines w.core.opens) (apart_act w Wakes o may c.holds.apart) c

  pub starts_holds : (number : ℕ) → Allowed w (Starts number) → HasContents b (after w (Starts number)) es
  starts_holds number may =
      quiet_holds b w (after w (Starts number)) es refl refl refl (same_lines w.core.opens)
      (apart_act w (Starts number) o may c.holds.apart) c

  pub marks_holds : (pv : ℕ) → Allowed w (Marks pv) → HasContents b (after w (Marks pv)) es
  marks_holds pv may =
      quiet_holds b w (after w (Marks pv)) es refl refl refl (same_lines w.core.opens) (apart_act w (Marks pv) o may c.holds.apart) c

  pub enters_holds : (line : ℕ) (piece : Piece) (sectors : List (List ℕ)) (ticket : Option (Unit {0})) (entry : Entry)
      → Allowed w (Enters line piece sectors ticket entry)
      → HasContents b (after w (Enters line piece sectors ticket entry)) es
  enters_holds line piece sectors ticket entry may =
      quiet_holds b w (after w (Enters line piece sectors ticket entry)) es refl refl refl
      (same_added w.core.opens line may.0.opened may.0.is_open)
      (apart_act w (Enters line piece sectors ticket entry) o may c.holds.apart) c

  pub awaits_holds : (line pv : ℕ) → Allowed w (Awaits line pv) → HasContents b (after w (Awaits line pv)) es
  awaits_holds line pv may =
      quiet_holds b w (after w (Awaits line pv)) es refl refl refl (same_added w.core.opens line may.opened may.is_open)
      (apart_act w (Awaits line pv) o may c.holds.apart) c

  pub releases_holds : {start : ℕ} {coming : ℕ → ℕ → ℕ} → IsTold start coming w es → (pv : ℕ) → Allowed w (Releases pv)
      → HasContents b (after w (Releases pv)) es
  releases_holds t pv may =
      quiet_holds b w (after w (Releases pv)) es refl refl (lasts_act w (Releases pv) may).volumes (released_lines t o pv may)
      (apart_act w (Releases pv) o may c.holds.apart) c

  pub readies_holds : (now : State) → Allowed w (Readies now) → HasContents b (after w (Readies now)) es
  readies_holds now may =
      quiet_holds b w (after w (Readies now)) es (ap (λ (s : State). s.told) may.0.same) (ap (λ (s : State). s.in_flight) may.0.same) refl
      (same_lines w.core.opens) (apart_act w (Readies now) o may c.holds.apart) c

  pub grows_holds : (v : World) → Allowed w (Grows v) → HasContents b v es
  grows_holds v may =
      quiet_holds b w v es (ap (λ (s : State). s.told) may.shelf) (ap (λ (s : State). s.in_flight) may.shelf)
      (ap (λ (d : Core). d.volumes) may.core)
      (λ line. ap (λ (d : Core). kind_at d.opens line) may.core) (apart_act w (Grows v) o may c.holds.apart) c

  -- ---- a flush has ended

  module _ (grow : HistoriesGrow) (done : Done) (now : State) (may : Allowed w (EndsFlush done now)) where
    abbrev step : Step
    step = Completed done.tag (work_of done.op) done.well may.0.told.0

    pub ends_flush_holds : HasContents b (after w (EndsFlush done now)) es
    ends_flush_holds =
        stepped_holds grow b w (after w (EndsFlush done now)) es step may.0.told.1
        (λ told. ap (λ (x : DiskWork). now_of (step_on (Completed done.tag x done.well may.0.told.0) told))
        (was_flush w done now o may).does) refl
        (same_lines w.core.opens) (apart_act w (EndsFlush done now) o may c.holds.apart)
        (λ told is alone. alone_ends w.shelf now done told may.0.told.0 may.0 alone) c
