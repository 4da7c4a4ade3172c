-- A line that commits a group: what is found on its way, and once all is written.
use Rattle.std.proofs.Common.{◌≡◌, ◌<◌, ◌⊎◌, ℕ, ◌+◌, ◌^◌, Bool, true, List, [], ◌++◌, length, get_or, map, take, Option, Some, None, inl}
use Rattle.std.proofs.Common.{sym, ap, subst, ◌∙◌, arith, false}
use Rattle.std.specs.Prelude.{All, slice_get}
use Rattle.std.proofs.lemmas.List.{take_all}
use Rattle.std.proofs.lemmas.List.Elements.{All-filter, filter_passes}
use Rattle.lvm_script.specs.declared.line.Line.{Line}
use Rattle.disk_model.specs.Steps.{Image}
use Rattle.mda_header.specs.declared.header.Locn.{Locn}
use Rattle.mda_ring.specs.declared.area.Area.{Area}
use Rattle.conf_text.specs.Printed.{printed}
use Rattle.meta_model.specs.declared.group.Group.{Group}
use Rattle.meta_print.specs.Layout.{tree_of}
use Rattle.extent_alloc.specs.declared.part.Part.{Part}
use Rattle.scan_rules.specs.Decision.{AreaReading, Copy, Reading, SameHeaders, decide_scan, first_misplaced, is_held, lists}
use Rattle.disk_batch.specs.InTurn.{HasFirstBatches, Put, with_batches}
use Rattle.disk_batch.proofs.InTurn.{of_submitted}
use Rattle.vg_found.specs.declared.disk.Disk.{Disk}
use Rattle.vg_found.specs.declared.found.Found.{Found}
use Rattle.vg_found.specs.Disks.{shapes}
use Rattle.vg_scan.specs.Readings.{IsDiskReading}
use Rattle.vg_scan.specs.Texts.{IsCopyOf}
use Rattle.vg_commit.proofs.Disks.{no_area}
use Rattle.vg_commit.specs.SectorReading.{ShowsBy, new_reading, old_reading}
use Rattle.group_plan.specs.Judging.{lies_on as is_on, set_of}
use Rattle.group_plan.specs.State.{IsState}
use Rattle.group_plan.specs.declared.state.Change.{Change}
use Rattle.group_plan.specs.declared.state.GroupState.{GroupState}
use Rattle.group_plan.specs.declared.backup.Backup.{Backup}
use Rattle.group_ops.proofs.PlacedChanges.{change_is_placed}
use Rattle.group_ops.proofs.WholeState.{whole_is_state}
use Rattle.group_ops.specs.Laws.{ArePlaced, state_in}
use Rattle.group_ops.specs.Planning.{change_of}
use Rattle.change_batches.specs.Batches.{areas_of, batch_if, commit_batches, label_put, new_area_puts}
use Rattle.change_batches.specs.Sound.{sizes_of, CanMake, CanTakeText, LiesOn}
use Rattle.change_batches.specs.Laws.{AreasKeptBy, HasLabel, HoldsAfter, IsKeptOrNew, ShowsEntries, text_in}
use Rattle.change_batches.proofs.DiskSets.{of_set}
use Rattle.vg_change.specs.LineBatches.{batches_of}
use Rattle.vg_change.proofs.Sound.{can_make, lies_on}
use Rattle.image_scans.specs.Laws.{CanCarryOut, none_out, version_of}
use Rattle.vg_scan.specs.Versions.{FindsVersion, version_in}
use Rattle.image_scans.proofs.Again.{again_give, as_before}
use Rattle.image_scans.proofs.AreaAgain.{NotRefused}
use Rattle.image_scans.proofs.BaseEntries.{entries_shown}
use Rattle.image_scans.proofs.CommitOnTheWay.{each_again, each_reads}
use Rattle.image_scans.proofs.CommitScans.{IsNext, either_found, new_found, same_version}
use Rattle.image_scans.proofs.DiskAgain.{AllAgain, DiskAgain, all_again, none_refused}
use Rattle.image_scans.proofs.FoundAreas.{IsHeldOn, all_held}
use Rattle.image_scans.proofs.HeldText.{text_held}
use Rattle.image_scans.proofs.CommittedGroup.{IsListedOn, MakesGroup}
use Rattle.image_scans.proofs.OneArea.{printed_copy}
use Rattle.image_scans.proofs.ReadingShapes.{gives_at, readings_shaped}
use Rattle.image_scans.proofs.SettledBase.{IsSettledScan, settled_read, settled_scan}

-- the image with all batches is the last on the way
pub all_written : (batches : List (List Put)) (base : Image) → HasFirstBatches batches base (with_batches batches base)
all_written batches base = record {
  count = length batches;
  among = omega arith;
  either =
      λ pv sector. inl (sym (ap (λ (l : List (List Put)). with_batches l base pv sector)
      (take_all (length batches) batches (omega arith))));
}

module _ (base : Image) (sizes : List ℕ) (found : Found) (names : List (List ℕ)) (backup : Option Backup) (line : Line) (now : ℕ)
    (given : List Part) (p : CanCarryOut base sizes found names backup line now given) where
  abbrev state : GroupState
  state = state_in found names backup

  abbrev change : Change
  change = change_of state line now given

  pub is_state : IsState state
  is_state = whole_is_state found names backup p.shape p.whole p.named p.names_are

  pub can : CanMake state.areas change now
  can = can_make state line now given is_state p.planned p.takes p.passes

  pub lies : LiesOn (sizes_of state.disks) state.areas change
  lies = lies_on state line now given is_state p.planned p.takes p.passes

  pub settled : IsSettledScan p.scan.readings found
  settled = settled_scan base found.unread found.disks p.scan.readings found p.scan.are.each p.no_stale p.no_strays p.scan.answer

  pub shown : ShowsEntries state.areas base
  shown =
      subst (λ (l : List (Area × Option Locn)). ShowsEntries l base) (sym p.scan.areas)
      (entries_shown base found.unread 0 found.disks p.scan.readings p.scan.are.each)

  pub headers : SameHeaders (shapes found.disks) p.scan.readings
  headers = readings_shaped base found.unread 0 found.disks p.scan.readings p.scan.are.each

  -- the batches, where this group is committed
  abbrev batches_with : Option Group → List (List Put)
  batches_with g =
      batch_if (new_area_puts g change.labels) ++ batch_if (map label_put change.labels)
      ++ commit_batches g now (areas_of change state.areas)

  module _ (group : Group) (makes : MakesGroup state change group) (next : IsNext found.group group) where
    abbrev text : List ℕ
    text = printed (tree_of group now)

    abbrev new : AreaReading
    new = Copy group text []

    abbrev own : List (Area × Option Locn)
    own = areas_of change state.areas

    pub fits : CanTakeText change state.areas text
    fits = can.commit group makes.made

    pub copy : IsCopyOf text group []
    copy = let early : now < 2 ^ 48 = p.time in printed_copy group now (omega (arith, early)) makes.whole.tree makes.whole.accepted

    pub placed : first_misplaced group (shapes found.disks) ≡ None
    placed =
        subst (λ (o : Option Group). ArePlaced state.disks o) makes.made
        (change_is_placed state line now given is_state p.passes p.shape.placed)

    pub ends : All (HasLabel (with_batches (batches_with (Some group)) base)) change.labels
    ends =
        subst (λ (g : Option Group). All (HasLabel (with_batches (batches_with g) base)) change.labels) makes.made
        (p.keeps.found base shown).labels

    -- where the first area of the group shows the text, the new version is found
    pub where_held : (image : Image) (bare : List ℕ → AreaReading → Bool)
        → AllAgain image found.unread 0 (lists group) bare new found.disks p.scan.readings
        → ShowsBy (new_reading text) image (get_or own 0 no_area)
        → FindsVersion sizes image none_out (Some (version_of group change))
    where_held image bare read shows =
        let held : is_held group text read.read ≡ true =
        text_held image group text found.disks read.there read.read read.at
        (again_give NotRefused new tt tt (lists group) bare p.scan.readings read.read read.again
        (settled_read p.scan.readings found settled)) (get_or own 0 no_area)
        (All-filter (is_on (set_of change.disk_of)) (IsHeldOn state.disks) state.areas
        (subst (All (IsHeldOn state.disks)) (sym is_state.areas) (all_held state.disks is_state.disks)) 0 no_area fits.committed.some)
        (of_set (IsListedOn group state.disks) change.disk_of makes.listed (get_or own 0 no_area).0.pv
        (filter_passes (is_on (set_of change.disk_of)) state.areas 0 no_area fits.committed.some))
        shows
        in
        new_found image sizes found p.shape p.whole p.scan.readings p.scan.are.sizes_is headers settled group text copy next placed
        makes.there change.disk_of makes.disks_is bare read held

    module _ (image : Image) (h : HasFirstBatches (batches_of state line now given) base image) where
      pub front : HasFirstBatches (batches_with (Some group)) base image
      front = subst (λ (g : Option Group). HasFirstBatches (batches_with g) base image) makes.made h

      kept : All (IsKeptOrNew text base image) state.areas
      kept =
          subst (λ (g : Option Group). AreasKeptBy g now change state.areas base image) makes.made (p.keeps.kept base image shown h).areas

      -- a disk reads again
      pub disk_reads : (k : ℕ) (disk : Disk) (reading : Reading) → slice_get found.disks k ≡ Some disk
          → slice_get p.scan.readings k ≡ Some reading → IsDiskReading (0 + k) (base (0 + k)) disk reading
          → DiskAgain (0 + k) (image (0 + k)) (lists group) (λ id r. false) new disk reading
      disk_reads k disk reading at_disk at_reading is =
          let zero_less : 0 + k ≡ k = omega arith in
          subst (λ (n : ℕ). DiskAgain n (image n) (lists group) (λ id r. false) new disk reading) (sym zero_less)
          (each_again state is_state change group makes text fits can.labels lies.differ base ends image front [] copy kept k disk reading
          at_disk
          (subst (λ (n : ℕ). IsDiskReading n (base n) disk reading) zero_less is)
          (none_refused (λ id r. false) reading.pv
          (gives_at NotRefused p.scan.readings k reading (settled_read p.scan.readings found settled) at_reading)))

      again : AllAgain image found.unread 0 (lists group) (λ id r. false) new found.disks p.scan.readings
      again = all_again base image found.unread 0 (lists group) (λ id r. false) new found.disks p.scan.readings p.scan.are.each disk_reads

      pub on_the_way : FindsVersion sizes image none_out (version_in found)
          ⊎ FindsVersion sizes image none_out (Some (version_of group change))
      on_the_way =
          either_found image sizes found p.shape p.whole p.scan.readings p.scan.are.sizes_is headers settled group text copy next placed
          makes.there change.disk_of makes.disks_is again p.scan.answer

      pub with_text : All (ShowsBy (new_reading text) image) own → FindsVersion sizes image none_out (Some (version_of group change))
      with_text shows = where_held image (λ id r. false) again (shows 0 no_area fits.committed.some)

    -- until the headers are published each disk reads as it did
    module _ (image : Image) (n : ℕ) (less : n < length (batches_of state line now given))
        (h : HasFirstBatches (take n (batches_of state line now given)) base image) where
      unpublished : HasFirstBatches (batches_with (Some group)) base image
      unpublished =
          subst (λ (g : Option Group). HasFirstBatches (batches_with g) base image) makes.made
          (of_submitted n (batches_of state line now given) base image h)

      stays : All (ShowsBy (old_reading (text_in base)) image) state.areas
      stays = p.keeps.unpublished base image n group shown makes.made less h

      as_it_was : AllAgain image found.unread 0 (λ id. false) (λ id r. false) new found.disks p.scan.readings
      as_it_was =
          all_again base image found.unread 0 (λ id. false) (λ id r. false) new found.disks p.scan.readings p.scan.are.each
          (λ k disk reading at_disk at_reading is.
          let zero_less : 0 + k ≡ k = omega arith in
          subst (λ (n : ℕ). DiskAgain n (image n) (λ id. false) (λ id r. false) new disk reading) (sym zero_less)
          (each_reads state is_state change group makes text fits can.labels lies.differ base ends image unpublished (λ id. false) [] copy
          (λ id listed j d within. inl (stays j d within)) k disk reading at_disk
          (subst (λ (n : ℕ). IsDiskReading n (base n) disk reading) zero_less is)
          (none_refused (λ id r. false) reading.pv
          (gives_at NotRefused p.scan.readings k reading (settled_read p.scan.readings found settled) at_reading))))

      pub before_publishing : FindsVersion sizes image none_out (version_in found)
      before_publishing =
          same_version image sizes found p.whole p.scan.readings p.scan.answer as_it_was.there as_it_was.read
          (as_it_was.sizes_is ∙ p.scan.are.sizes_is) as_it_was.are
          (ap decide_scan (as_before new p.scan.readings as_it_was.read as_it_was.again)) as_it_was.ids

    pub at_the_end : FindsVersion sizes (with_batches (batches_of state line now given) base) none_out (Some (version_of group change))
    at_the_end =
        let image : Image = with_batches (batches_of state line now given) base in
        with_text image (all_written (batches_of state line now given) base)
        (subst (λ (g : Option Group). HoldsAfter g now change state.areas image) makes.made (p.keeps.found base shown).areas)
