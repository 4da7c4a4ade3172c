-- What a scan finds of the base, in every image on the way of a line, and once all is written.
use Rattle.std.proofs.Common.{◌≡◌, ◌<◌, ℕ, List, [], ◌++◌, length, map, take, Option, Some, None, refl, sym, subst, ◌∙◌}
use Rattle.lvm_script.specs.declared.line.Line.{Line}
use Rattle.disk_model.specs.Steps.{Image}
use Rattle.meta_model.specs.declared.group.Group.{Group}
use Rattle.extent_alloc.specs.declared.part.Part.{Part}
use Rattle.disk_batch.specs.InTurn.{HasFirstBatches, Put, with_batches}
use Rattle.disk_batch.proofs.FrontBatches.{none_front}
use Rattle.vg_found.specs.declared.found.Found.{Found}
use Rattle.vg_found.specs.Whole.{IsWhole}
use Rattle.vg_scan.specs.Scans.{IsScanOf}
use Rattle.group_plan.specs.declared.state.Change.{Change}
use Rattle.group_plan.specs.declared.state.GroupState.{GroupState}
use Rattle.group_plan.specs.declared.state.NewLabel.{NewLabel}
use Rattle.group_plan.specs.declared.backup.Backup.{Backup}
use Rattle.group_ops.specs.Laws.{state_in}
use Rattle.group_ops.specs.Planning.{change_of}
use Rattle.change_batches.specs.Batches.{areas_of, batch_if, commit_batches, label_put, new_area_puts}
use Rattle.vg_change.specs.LineBatches.{batches_of}
use Rattle.image_scans.specs.Laws.{CanCarryOut, FindsAtEnd, FindsOnTheWay, is_labelled, none_out}
use Rattle.vg_scan.specs.Versions.{FindsVersion, version_in}
use Rattle.image_scans.proofs.CommitLine.{all_written, at_the_end, before_publishing, on_the_way}
use Rattle.image_scans.proofs.CommitScans.{none_unread}
use Rattle.image_scans.proofs.Lines.{LineMakes, line_makes, makes_nothing, makes_pv, makes_version}
use Rattle.image_scans.proofs.NewPv.{without_disk}
use Rattle.image_scans.proofs.NewPvEnd.{with_new_disk}

-- the image that was scanned
pub base_scans : (base : Image) (sizes : List ℕ) (found : Found) → IsScanOf base sizes found → IsWhole found
    → FindsVersion sizes base none_out (version_in found)
base_scans base sizes found scan whole =
    record { found = found; scan = scan; left = λ pv within. none_unread found whole pv; whole = whole.there; version_is = refl }

module _ (base : Image) (sizes : List ℕ) (found : Found) (names : List (List ℕ)) (backup : Option Backup) (line : Line) (now : ℕ)
    (given : List Part) (p : CanCarryOut base sizes found names backup line now given) where
  abbrev state : GroupState
  state = state_in found names backup

  abbrev change : Change
  change = change_of state line now given

  abbrev batches_with : Option Group → List NewLabel → List (List Put)
  batches_with g labels =
      batch_if (new_area_puts g labels) ++ batch_if (map label_put labels) ++ commit_batches g now (areas_of change state.areas)

  -- a line that writes nothing leaves the base
  nothing_written : (image : Image) → HasFirstBatches (batches_of state line now given) base image → change.group ≡ None
      → change.labels ≡ [] → FindsVersion sizes image none_out (version_in found)
  nothing_written image h none labels =
      let front : HasFirstBatches [] base image =
      subst (λ (l : List NewLabel). HasFirstBatches (batches_with None l) base image) labels
      (subst (λ (g : Option Group). HasFirstBatches (batches_with g change.labels) base image) none h)
      in
      subst (λ (i : Image). FindsVersion sizes i none_out (version_in found)) (λ i pv sector. sym (none_front base image front pv sector) i)
      (base_scans base sizes found p.scan p.whole)

  pub images_scan : (image : Image) → HasFirstBatches (batches_of state line now given) base image
      → FindsOnTheWay sizes image found change change.group
  images_scan image h = by (line_makes base sizes found names backup line now given p)
    where
      by : LineMakes found state change → FindsOnTheWay sizes image found change change.group
      by (makes_version c) =
          subst (FindsOnTheWay sizes image found change) (sym c.makes.made)
          (on_the_way base sizes found names backup line now given p c.group c.makes c.next image h)
      by (makes_pv m) =
          subst (FindsOnTheWay sizes image found change) (sym m.none)
          (without_disk base sizes found names backup line now given p m image h)
      by (makes_nothing none labels) =
          subst (FindsOnTheWay sizes image found change) (sym none)
          (subst (λ (l : List NewLabel). FindsVersion sizes image (is_labelled l) (version_in found)) (sym labels)
          (nothing_written image h none labels))

  pub unpublished_scans : (image : Image) (n : ℕ) → n < length (batches_of state line now given)
      → HasFirstBatches (take n (batches_of state line now given)) base image → (group : Group) → change.group ≡ Some group
      → FindsVersion sizes image none_out (version_in found)
  unpublished_scans image n less h group is = by (line_makes base sizes found names backup line now given p)
    where
      by : LineMakes found state change → FindsVersion sizes image none_out (version_in found)
      by (makes_version c) = before_publishing base sizes found names backup line now given p c.group c.makes c.next image n less h
      by (makes_pv m) = absurd (let e : None ≡ Some group = sym m.none ∙ is in cc)
      by (makes_nothing none labels) = absurd (let e : None ≡ Some group = sym none ∙ is in cc)

  pub last_scans : FindsAtEnd sizes (with_batches (batches_of state line now given) base) found change change.group
  last_scans = by (line_makes base sizes found names backup line now given p)
    where
      by : LineMakes found state change → FindsAtEnd sizes (with_batches (batches_of state line now given) base) found change change.group
      by (makes_version c) =
          subst (FindsAtEnd sizes (with_batches (batches_of state line now given) base) found change) (sym c.makes.made)
          (at_the_end base sizes found names backup line now given p c.group c.makes c.next)
      by (makes_pv m) =
          subst (FindsAtEnd sizes (with_batches (batches_of state line now given) base) found change) (sym m.none)
          (with_new_disk base sizes found names backup line now given p m)
      by (makes_nothing none labels) =
          subst (FindsAtEnd sizes (with_batches (batches_of state line now given) base) found change) (sym none)
          (nothing_written (with_batches (batches_of state line now given) base) (all_written (batches_of state line now given) base) none
          labels)
