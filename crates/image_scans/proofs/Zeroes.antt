-- The zeros of a line: they lie in free extents, so that a scan of an image on their way finds the same, and volumes have their
-- contents; and they stay where the line's batches are written behind them.
use Rattle.std.proofs.Common.{◌≡◌, ◌≤◌, ◌<◌, ◌⊎◌, ℕ, ◌^◌, ◌+◌, ◌-◌, ◌/◌, ◌||◌, Bool, true, false, cond, List, [], ◌∷◌, get_or, map, Option}
use Rattle.std.proofs.Common.{Some, None, inl, inr, ⊎_elim, refl, sym, ap, subst, ◌∙◌, arith}
use Rattle.std.specs.Prelude.{All, replicate, slice_index, unwrap_or}
use Rattle.std.proofs.lemmas.Bool.{cases_Bool, false≢true}
use Rattle.std.proofs.lemmas.List.{get_or-replicate}
use Rattle.std.proofs.lemmas.Option.{same_Some}
use Rattle.sector_base.specs.Spans.{covers}
use Rattle.sector_base.specs.declared.places.At.{At}
use Rattle.sector_base.specs.declared.spans.Span.{Span}
use Rattle.command_table.specs.declared.command.Command.{Command}
use Rattle.command_table.specs.declared.command.Command.TheVariants.{Lvcreate}
use Rattle.lvm_script.specs.declared.line.Line.{Line}
use Rattle.disk_model.specs.Steps.{Image, value_at}
use Rattle.mda_header.specs.declared.header.Locn.{Locn}
use Rattle.mda_ring.specs.declared.area.Area.{Area}
use Rattle.mda_ring.proofs.SpanLaws.{covers_tells}
use Rattle.meta_model.specs.Standing.{HasTree}
use Rattle.meta_model.specs.declared.group.Group.{Group}
use Rattle.volume_rules.specs.Rules.{IsAccepted}
use Rattle.volume_view.specs.Places.{primary}
use Rattle.volume_view.specs.View.{at_place}
use Rattle.extent_alloc.specs.declared.part.Part.{Part}
use Rattle.disk_batch.specs.InTurn.{HasFirstBatches, with_batches, with_writes, written_on}
use Rattle.disk_batch.proofs.FrontBatches.{KeepsSector, front_kept}
use Rattle.vg_found.specs.declared.found.Found.{Found}
use Rattle.vg_found.specs.Disks.{disks_of}
use Rattle.vg_found.specs.Shape.{HasShape}
use Rattle.vg_found.specs.Whole.{IsWhole}
use Rattle.vg_scan.specs.Scans.{IsScanOf}
use Rattle.vg_commit.specs.Showing.{Names}
use Rattle.group_plan.specs.State.{IsState}
use Rattle.group_plan.specs.declared.state.Change.{Change}
use Rattle.group_plan.specs.declared.backup.Backup.{Backup}
use Rattle.lv_plans.specs.Allocating.{Takes}
use Rattle.group_ops.proofs.NextVersions.{drawn_is}
use Rattle.group_ops.specs.Planning.{IsPlanned, asks_of, change_of, refusal_of, zeroes}
use Rattle.group_ops.proofs.NoZeros.{none_zeroed}
use Rattle.group_ops.specs.Laws.{state_in}
use Rattle.change_batches.specs.Batches.{batch_if, zero_put}
use Rattle.change_batches.specs.Laws.{ShowsEntries}
use Rattle.vg_change.specs.LineBatches.{batches_of, zeros_of}
use Rattle.image_scans.specs.Laws.{CanCarryOut, LiesInExtents, ZeroesLie, in_spans}
use Rattle.image_scans.proofs.BesideAreas.{beside_areas}
use Rattle.image_scans.proofs.BesideScan.{scan_kept}
use Rattle.image_scans.proofs.CommitCommands.{old_whole}
use Rattle.image_scans.proofs.CommitLine.{is_state, settled}
use Rattle.image_scans.proofs.FoundAreas.{IsHeldOn, all_held}
use Rattle.image_scans.proofs.Front.{any_if, front_or, written_of}
use Rattle.image_scans.proofs.NewVolume.{new_lie}
use Rattle.image_scans.proofs.NoWrites.{extent_outside, found_listed, found_placed, found_there}
use Rattle.image_scans.proofs.Placed.{IsPlaceOn, extent_beside}

-- ---- writes of zeros

abbrev zeros : List ℕ
zeros = replicate 512 0

-- one of them brings zeros
zero_there : (span : Span) (pv sector : ℕ) → covers span pv sector ≡ true → value_at span (replicate span.count zeros) sector ≡ zeros
zero_there span pv sector is =
    let t = covers_tells span pv sector is in
    let from : span.first ≤ sector = t.1 in
    let to : sector < span.first + span.count = t.2 in
    get_or-replicate span.count (sector - span.first) zeros [] (omega (arith, from, to))

-- in an image with them, a sector has zeros that they cover, or that has them already
zeros_written : (spans : List Span) (image : Image) (pv sector : ℕ) → (in_spans spans pv sector ≡ true) ⊎ (image pv sector ≡ zeros)
    → with_writes (map zero_put spans) image pv sector ≡ zeros
zeros_written [] image pv sector (inl none) = absurd (false≢true none)
zeros_written [] image pv sector (inr has) = has
zeros_written (span ∷ spans) image pv sector is =
    ⊎_elim
    (λ (here : covers span pv sector ≡ true).
    zeros_written spans (written_on (zero_put span) image) pv sector
    (inr (ap (λ (b : Bool). cond b (value_at span (replicate span.count zeros) sector) (image pv sector)) here
    ∙ zero_there span pv sector here)))
    (λ (beside : covers span pv sector ≡ false).
    zeros_written spans (written_on (zero_put span) image) pv sector
    (⊎_elim
    (λ among. inl (sym (ap (λ (b : Bool). b || in_spans spans pv sector) beside) ∙ among))
    (λ has. inr (ap (λ (b : Bool). cond b (value_at span (replicate span.count zeros) sector) (image pv sector)) beside ∙ has))
    is))
    (cases_Bool (covers span pv sector))

-- as a batch
batch_written : (spans : List Span) (image : Image) (pv sector : ℕ) → in_spans spans pv sector ≡ true
    → with_batches (batch_if (map zero_put spans)) image pv sector ≡ zeros
batch_written [] image pv sector none = absurd (false≢true none)
batch_written (span ∷ spans) image pv sector among = zeros_written (span ∷ spans) image pv sector (inl among)

-- ---- where they lie

-- what the plan of a line stands on, whatever the disks hold
pub record IsPlannedOn (found : Found) (names : List (List ℕ)) (backup : Option Backup) (line : Line) (now : ℕ) (given : List Part) : Type 0
  where
    pub shape : HasShape found
    pub whole : IsWhole found
    pub state : IsState (state_in found names backup)
    pub held : (group : Group) → found.group ≡ Some group → IsAccepted group × HasTree group
    pub planned : IsPlanned line.id line.command
    pub time : now < 2 ^ 48
    pub takes : Takes (asks_of (state_in found names backup) line) given
    pub passes : refusal_of (state_in found names backup) line now given ≡ None

module _ (found : Found) (names : List (List ℕ)) (backup : Option Backup) (line : Line) (now : ℕ) (given : List Part)
    (on : IsPlannedOn found names backup line now given) where
  abbrev change : Change
  change = change_of (state_in found names backup) line now given

  -- in free extents of the group
  pub planned_lie : ZeroesLie found change
  planned_lie = zeroes_by line.command on.planned on.takes on.passes
    where
      line_of : Command → Line
      line_of command = record { number = line.number; id = line.id; command = command }

      -- a command that has none
      none_lie : (command : Command) → IsPlanned line.id command → zeroes command ≡ false
          → ZeroesLie found (change_of (state_in found names backup) (line_of command) now given)
      none_lie command planned other disk sector is =
          absurd (false≢true (ap (λ (spans : List Span). in_spans spans disk sector)
          (sym (none_zeroed (state_in found names backup) line.number line.id command now given planned other)) ∙ is))

      zeroes_by : (command : Command) → IsPlanned line.id command → Takes (asks_of (state_in found names backup) (line_of command)) given
          → refusal_of (state_in found names backup) (line_of command) now given ≡ None
          → ZeroesLie found (change_of (state_in found names backup) (line_of command) now given)
      zeroes_by command planned takes passes = by (zeroes command) refl
        where
          new_lies : (c : Command) → zeroes c ≡ true → IsPlanned line.id c → Takes (asks_of (state_in found names backup) (line_of c)) given
              → refusal_of (state_in found names backup) (line_of c) now given ≡ None
              → ZeroesLie found (change_of (state_in found names backup) (line_of c) now given)
          new_lies (Lvcreate new) one planned takes passes =
              new_lie found names backup (unwrap_or line.id []) new now given on.shape on.whole on.state on.held planned.1 on.time
              (drawn_is line.id planned.0) takes passes
          new_lies c one planned takes passes = absurd cc

          by : (b : Bool) → zeroes command ≡ b → ZeroesLie found (change_of (state_in found names backup) (line_of command) now given)
          by true one = new_lies command one planned takes passes
          by false other = none_lie command planned other

  -- and so behind labels and beside metadata areas
  zeroes_beside : (disk sector : ℕ) → in_spans change.zero disk sector ≡ true → IsPlaceOn found.disks disk sector
  zeroes_beside disk sector is =
      let l = planned_lie disk sector is in
      let lies : LiesInExtents l.0 found.disk_of disk sector = l.2.lies in
      let place : IsPlaceOn found.disks (slice_index (disks_of l.0 found.disks) lies.at.pv) lies.at.sector =
      extent_beside l.0 found.disks (found_placed found on.shape l.0 l.1) (found_there found on.shape on.whole l.0 l.1) lies.at lies.extents
      in
      subst (IsPlaceOn found.disks disk) lies.sector_is
      (subst (λ (n : ℕ). IsPlaceOn found.disks n lies.at.sector)
      (ap (λ (l' : List ℕ). slice_index l' lies.at.pv) (sym (found_listed found on.shape l.0 l.1)) ∙ lies.disk_is) place)

  -- ---- an image on their way

  module _ (base image : Image) (h : HasFirstBatches (zeros_of (state_in found names backup) line now given) base image) where
    -- each sector is as in the base, or is zeroed
    same_or_zeroed : (disk sector : ℕ) → (image disk sector ≡ base disk sector) ⊎ (in_spans change.zero disk sector ≡ true)
    same_or_zeroed disk sector =
        ⊎_elim
        (λ same. inl same)
        (λ by. inr (written_of disk sector zero_put change.zero (image disk sector)
        (any_if (map zero_put change.zero) disk sector (image disk sector) by)))
        (front_or (zeros_of (state_in found names backup) line now given) base image disk sector h)

    same_or_beside : (disk sector : ℕ) → (image disk sector ≡ base disk sector) ⊎ IsPlaceOn found.disks disk sector
    same_or_beside disk sector = ⊎_elim (λ same. inl same) (λ zeroed. inr (zeroes_beside disk sector zeroed)) (same_or_zeroed disk sector)

    -- the headers of metadata areas name what they named
    pub zeroes_show : ShowsEntries found.areas base → ShowsEntries found.areas image
    zeroes_show shows k d within =
        let area : Area × Option Locn = get_or found.areas k d in
        let held : IsHeldOn found.disks area =
        subst (All (IsHeldOn found.disks)) (sym on.shape.areas) (all_held found.disks (λ pv disk there. (on.shape.disks pv disk there).0)) k
        d within
        in
        let first : ℕ = area.0.start / 512 + 0 in
        let ring : 1536 ≤ area.0.size = (on.shape.take k d within).0.has_ring in
        ⊎_elim
        (λ same. subst (Names area.0 area.1) (sym same) (shows k d within))
        (λ place. absurd (beside_areas found.disks (λ pv disk there. (on.shape.disks pv disk there).0) area.0.pv first place area held refl
        (omega arith) (omega (arith, ring))))
        (same_or_beside area.0.pv first)

module _ (base : Image) (sizes : List ℕ) (found : Found) (names : List (List ℕ)) (backup : Option Backup) (line : Line) (now : ℕ)
    (given : List Part) (p : CanCarryOut base sizes found names backup line now given) where
  planned_on : IsPlannedOn found names backup line now given
  planned_on = record {
    shape = p.shape;
    whole = p.whole;
    state = is_state base sizes found names backup line now given p;
    held = old_whole p.scan.readings found (settled base sizes found names backup line now given p);
    planned = p.planned;
    time = p.time;
    takes = p.takes;
    passes = p.passes;
  }

  pub zeroes_lie : ZeroesLie found (change_of (state_in found names backup) line now given)
  zeroes_lie = planned_lie found names backup line now given planned_on

  module _ (image : Image) (h : HasFirstBatches (zeros_of (state_in found names backup) line now given) base image) where
    pub zeroes_scan : IsScanOf image sizes found
    zeroes_scan = scan_kept base image sizes found p.shape (same_or_beside found names backup line now given planned_on base image h) p.scan

    pub zeroes_keep_places : (group : Group) → found.group ≡ Some group → (lv sector : ℕ) (at : At) → primary group lv sector ≡ Some at
        → at_place image found.disk_of at ≡ at_place base found.disk_of at
    zeroes_keep_places group is lv sector at there =
        ⊎_elim
        (λ same. same)
        (λ zeroed.
        let l = zeroes_lie (slice_index found.disk_of at.pv) at.sector zeroed in
        let own : group ≡ l.0 = same_Some group l.0 (sym is ∙ l.1) in
        absurd (l.2.free lv sector at (subst (λ (g : Group). primary g lv sector ≡ Some at) own there) refl refl))
        (same_or_zeroed found names backup line now given planned_on base image h (slice_index found.disk_of at.pv) at.sector)

  -- ---- one on the way of the batches behind them

  module _ (image : Image) (h : HasFirstBatches (batches_of (state_in found names backup) line now given)
      (with_batches (zeros_of (state_in found names backup) line now given) base) image) where
    outside : (disk sector : ℕ) → in_spans (change_of (state_in found names backup) line now given).zero disk sector ≡ true
        → All (KeepsSector disk sector) (batches_of (state_in found names backup) line now given)
    outside disk sector is =
        let l = zeroes_lie disk sector is in
        let lies : LiesInExtents l.0 found.disk_of disk sector = l.2.lies in
        subst (λ (n : ℕ). All (KeepsSector n sector) (batches_of (state_in found names backup) line now given)) lies.disk_is
        (subst (λ (n : ℕ). All (KeepsSector (slice_index found.disk_of lies.at.pv) n)
        (batches_of (state_in found names backup) line now given)) lies.sector_is
        (extent_outside base sizes found names backup line now given p l.0 l.1 lies.at lies.extents))

    pub zeroes_kept : (disk sector : ℕ) → in_spans (change_of (state_in found names backup) line now given).zero disk sector ≡ true
        → image disk sector ≡ zeros
    zeroes_kept disk sector is =
        front_kept (batches_of (state_in found names backup) line now given)
        (with_batches (zeros_of (state_in found names backup) line now given) base) image disk sector (outside disk sector is) h
        ∙ batch_written (change_of (state_in found names backup) line now given).zero base disk sector is
