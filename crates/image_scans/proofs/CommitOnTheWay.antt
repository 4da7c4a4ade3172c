-- An image on the way of a change that commits a group: each disk reads again, but for areas that give the new text.
use Rattle.std.proofs.Common.{◌≡◌, ◌≢◌, ◌≤◌, ◌<◌, ◌⊎◌, ℕ, ◌+◌, ◌/◌, Bool, true, false, List, [], ◌∷◌, ◌++◌, length, get_or, map, Option}
use Rattle.std.proofs.Common.{Some, None, inl, inr, ⊎_elim, refl, sym, ap, subst, ◌∙◌, arith}
use Rattle.std.specs.Prelude.{All, slice_get}
use Rattle.std.specs.FinSet as set
use Rattle.std.specs.List.{AllByRecursion as Each}
use Rattle.std.proofs.lemmas.Bool.{cases_Bool, true≢false}
use Rattle.std.proofs.lemmas.List.Elements.{All-cons, All-filter, All-map, All-nil, filter_passes, recursion_from_All}
use Rattle.std.proofs.lemmas.Option.{same_Some}
use Rattle.disk_model.specs.Steps.{Image}
use Rattle.pv_header.specs.PvHeader.{IsPvHeader}
use Rattle.pv_header.specs.declared.header.PvHeader.{PvHeader}
use Rattle.mda_header.specs.declared.header.Locn.{Locn}
use Rattle.mda_ring.specs.declared.area.Area.{Area}
use Rattle.mda_ring.specs.Ring.{need, room}
use Rattle.meta_model.specs.declared.group.Group.{Group}
use Rattle.scan_rules.specs.Decision.{AreaReading, Copy, Reading, lists}
use Rattle.disk_batch.specs.InTurn.{HasFirstBatches, Put, with_batches}
use Rattle.disk_batch.specs.Writes.{IsWrittenBy}
use Rattle.disk_batch.proofs.InTurn.{batches_append}
use Rattle.disk_contents.specs.declared.contents.AreaFound.{AreaFound}
use Rattle.disk_contents.specs.declared.contents.PvFound.{PvFound}
use Rattle.disk_contents.specs.declared.contents.PvFound.TheVariants.{NoLabel, NoHeader, Whole}
use Rattle.disk_contents.specs.Standing.{area_on}
use Rattle.vg_found.specs.declared.disk.Disk.{Disk}
use Rattle.vg_found.specs.Disks.{areas_on, held_area, header_on}
use Rattle.vg_found.specs.Shape.{ContentsCanStand}
use Rattle.vg_scan.specs.Readings.{IsDiskReading}
use Rattle.vg_scan.specs.Texts.{IsCopyOf}
use Rattle.vg_commit.proofs.Disks.{no_area}
use Rattle.vg_commit.specs.Written.{area_writes, headers_of, publish_of, texts_of}
use Rattle.vg_commit.proofs.AreasCommit.{rooms}
use Rattle.group_plan.proofs.Passed.{absent}
use Rattle.group_plan.proofs.StateFacts.{areas_take}
use Rattle.group_plan.specs.Added.{disks_added, label_of}
use Rattle.group_plan.specs.Judging.{lies_on, set_of}
use Rattle.group_plan.specs.State.{IsState}
use Rattle.group_plan.specs.declared.added.AddedPv.{AddedPv}
use Rattle.group_plan.specs.declared.state.Change.{Change}
use Rattle.group_plan.specs.declared.state.GroupState.{GroupState}
use Rattle.group_plan.specs.declared.state.NewLabel.{NewLabel}
use Rattle.change_batches.specs.Batches.{areas_of, batch_if, label_bytes, label_put}
use Rattle.change_batches.specs.Laws.{HasLabel, IsKeptOrNew}
use Rattle.change_batches.specs.Sound.{CanLabel, CanTakeText}
use Rattle.change_batches.proofs.DiskSets.{of_set}
use Rattle.change_batches.proofs.FarAreas.{IsFar, areas_far}
use Rattle.change_batches.proofs.LabelPuts.{AreApart, label_where, labels_there, no_label, with_if}
use Rattle.image_scans.proofs.AreaAgain.{HasHeader, IsKeptOrMade, IsKnown, IsOnTheWay, kept_or_made}
use Rattle.image_scans.proofs.CommitWrites.{IsAreaWrite, commit_writes}
use Rattle.image_scans.proofs.DiskAgain.{DiskAgain, LabelStands, PvMayBeRefused, disk_again, disk_same}
use Rattle.image_scans.proofs.FoundAreas.{IsHeldOn, IsPlaced, all_held, areas_placed, entry_kept, of_held}
use Rattle.image_scans.proofs.Front.{AnyWrites, any_append, any_if, batches_or, front_or}
use Rattle.image_scans.proofs.LabelsAgain.{IsLabelOn, label_stands}
use Rattle.image_scans.proofs.CommittedGroup.{IsAddedOn, IsListedOn, MakesGroup}
use Rattle.image_scans.proofs.MetAreas.{header_met}

-- ---- lists

each_back : {X : Type 0} (P : X → Type 0) (xs ys : List X) → Each P (xs ++ ys) → Each P ys
each_back P [] ys all = all
each_back P (x ∷ xs) ys all = each_back P xs ys all.1

-- ---- what stands on a disk

header_whole : (contents : PvFound) (header : PvHeader) → header_on (Some contents) ≡ Some header
    → (label : ℕ) × (areas : List AreaFound) × (contents ≡ Whole label header areas)
header_whole (NoLabel refusal) header is = absurd cc
header_whole (NoHeader label refusal) header is = absurd cc
header_whole (Whole label own areas) header is = (label, areas, ap (λ (h : PvHeader). Whole label h areas) (same_Some own header is))

pub header_read : (contents : Option PvFound) (header : PvHeader) → header_on contents ≡ Some header
    → (label : ℕ) × (areas : List AreaFound) × (contents ≡ Some (Whole label header areas))
header_read None header is = absurd cc
header_read (Some contents) header is = let w = header_whole contents header is in (w.0, w.1, ap (λ (c : PvFound). Some c) w.2)

-- ---- the change

module _ (state : GroupState) (is_state : IsState state) (change : Change) (group : Group) (makes : MakesGroup state change group)
    (text : List ℕ) (fits : CanTakeText change state.areas text) (can : All CanLabel change.labels) (differ : AreApart change.labels)
    (base : Image) where
  abbrev own : List (Area × Option Locn)
  own = areas_of change state.areas

  abbrev label_puts : List Put
  label_puts = map label_put change.labels

  abbrev commit : List (List Put)
  commit = texts_of (map (area_writes text) own) ∷ headers_of (map (area_writes text) own) ∷ publish_of (map (area_writes text) own) ∷ []

  abbrev batches : List (List Put)
  batches = batch_if [] ++ batch_if label_puts ++ commit

  -- ---- what is written

  own_rooms : All (λ (a : Area × Option Locn). need (length text + 1) ≤ room a.0.size a.1) own
  own_rooms = rooms text own fits.room

  own_far : All IsFar own
  own_far = All-filter (lies_on (set_of change.disk_of)) IsFar state.areas (areas_far state is_state)

  own_held : All (IsHeldOn state.disks) own
  own_held =
      All-filter (lies_on (set_of change.disk_of)) (IsHeldOn state.disks) state.areas
      (subst (All (IsHeldOn state.disks)) (sym is_state.areas) (all_held state.disks is_state.disks))

  -- a label, or a sector of an area of the group
  pub writes : (pv sector : ℕ) (value : List ℕ) → AnyWrites batches pv sector value
      → IsWrittenBy label_puts pv sector value ⊎ IsAreaWrite text own pv sector value
  writes pv sector value by =
      ⊎_elim
      (λ first.
      ⊎_elim
      (λ none. absurd none)
      (λ label. inl (any_if label_puts pv sector value label))
      (any_append (batch_if []) (batch_if label_puts) pv sector value first))
      (λ later. inr (commit_writes text own fits.committed.take own_rooms pv sector value later))
      (any_append (batch_if [] ++ batch_if label_puts) commit pv sector value by)

  -- each label is that of the physical volume that was found on its disk
  labels_on : All (IsLabelOn state.disks) change.labels
  labels_on =
      subst (All (IsLabelOn state.disks)) (sym makes.labels_is)
      (All-map (IsLabelOn state.disks) label_of makes.all (λ k d within.
      let on : IsAddedOn state.disks (get_or makes.all k d) = makes.on k d within in
      (on.disk, (get_or makes.all k d).header, on.there, on.found, record { id = refl; held = refl; areas = refl })))

  -- it stays until all is written
  near_kept : (pv sector : ℕ) → sector < 4 → (value : List ℕ) → IsAreaWrite text own pv sector value → ⊥
  near_kept pv sector low value by =
      let begins : 2048 ≤ (get_or own by.number no_area).0.start = own_far by.number no_area by.among in
      omega (arith, low, begins, by.from)

  label_stays : (k : ℕ) (d : NewLabel) → k < length change.labels
      → with_batches batches base (get_or change.labels k d).disk (get_or change.labels k d).sector ≡ label_bytes (get_or change.labels k d)
  label_stays k d within =
      let label : NewLabel = get_or change.labels k d in
      let first : Image = with_batches (batch_if [] ++ batch_if label_puts) base in
      let there : first label.disk label.sector ≡ label_bytes label =
      ap (λ (i : Image). i label.disk label.sector) (with_if label_puts base) ∙ labels_there change.labels base differ k d within
      in
      ap (λ (i : Image). i label.disk label.sector) (batches_append (batch_if [] ++ batch_if label_puts) commit base)
      ∙ ⊎_elim
      (λ same. same ∙ there)
      (λ by. absurd (near_kept label.disk label.sector (can k d within).sector_below (with_batches commit first label.disk label.sector)
      (commit_writes text own fits.committed.take own_rooms label.disk label.sector (with_batches commit first label.disk label.sector)
      by)))
      (batches_or commit first label.disk label.sector)

  -- ---- an image on the way

  module _ (ends : All (HasLabel (with_batches batches base)) change.labels) (image : Image) (h : HasFirstBatches batches base image) where
    -- a disk that isn't one of the group
    pub off_disk : (pv : ℕ) → set.contains (set_of change.disk_of) pv ≡ false → (sector : ℕ) → image pv sector ≡ base pv sector
    off_disk pv off sector =
        ⊎_elim
        (λ same. same)
        (λ by.
        ⊎_elim
        (λ label.
        let w = label_where change.labels no_label pv sector (image pv sector) label in
        let others : Each (λ n. n ≢ pv) (disks_added makes.all) =
        each_back (λ n. n ≢ pv) makes.first (disks_added makes.all)
        (subst (Each (λ n. n ≢ pv)) makes.disk_of_is (absent set.empty change.disk_of pv off).1)
        in
        let apart : All (λ (l : NewLabel). l.disk ≢ pv) change.labels =
        subst (All (λ (l : NewLabel). l.disk ≢ pv)) (sym makes.labels_is)
        (All-map (λ (l : NewLabel). l.disk ≢ pv) label_of makes.all (added_apart pv makes.all others))
        in
        absurd (apart w.0 no_label w.1 w.2))
        (λ area.
        let on : set.contains (set_of change.disk_of) (get_or own area.number no_area).0.pv ≡ true =
        filter_passes (lies_on (set_of change.disk_of)) state.areas area.number no_area area.among in
        absurd (true≢false (sym on ∙ ap (set.contains (set_of change.disk_of)) area.disk ∙ off)))
        (writes pv sector (image pv sector) by))
        (front_or batches base image pv sector h)
      where
        added_apart : (n : ℕ) (all : List AddedPv) → Each (λ m. m ≢ n) (disks_added all) → All (λ (added : AddedPv). added.disk ≢ n) all
        added_apart n [] apart = All-nil (λ (added : AddedPv). added.disk ≢ n)
        added_apart n (added ∷ more) apart = All-cons (λ (a : AddedPv). a.disk ≢ n) added more apart.0 (added_apart n more apart.1)

    -- a disk of the group, with its header
    module _ (pv : ℕ) (disk : Disk) (there : slice_get state.disks pv ≡ Some disk) (label : ℕ) (header : PvHeader) (areas : List AreaFound)
        (is : disk.contents ≡ Some (Whole label header areas)) (low : label < 4) where
      near : (sector : ℕ) → sector < 4 → (image pv sector ≡ base pv sector) ⊎ IsWrittenBy label_puts pv sector (image pv sector)
      near sector below =
          ⊎_elim
          (λ same. inl same)
          (λ by. ⊎_elim (λ at. inr at) (λ area. absurd (near_kept pv sector below (image pv sector) area))
          (writes pv sector (image pv sector) by))
          (front_or batches base image pv sector h)

      own_stands : LabelStands (base pv) (image pv) label header
      own_stands =
          label_stands state.disks change.labels labels_on pv disk there can
          (λ k d within. subst (λ (s : List ℕ). IsPvHeader s (get_or change.labels k d).header []) (label_stays k d within)
          (ends k d within).header) base image near label header areas is low

      headers : All (HasHeader text pv base image) areas
      headers k d within =
          let found : AreaFound = get_or areas k d in
          let sector : ℕ = found.area.offset / 512 in
          let placed : All (IsPlaced areas) areas =
          subst (λ (c : Option PvFound). All (IsPlaced (areas_on c)) (areas_on c)) is
          (areas_placed pv disk.sectors disk.contents (is_state.disks pv disk there).contents) in
          ⊎_elim
          (λ same. inl same)
          (λ by.
          ⊎_elim
          (λ at.
          let w = label_where change.labels no_label pv sector (image pv sector) at in
          absurd (omega (arith, (can w.0 no_label w.1).sector_below, w.3, (placed k d within).far)))
          (λ area. inr (header_met state.disks is_state.disks text own own_held own_rooms pv disk there label header areas is k d within
          (image pv sector) area))
          (writes pv sector (image pv sector) by))
          (front_or batches base image pv sector h)

      module _ (may : Bool) (kept : All (IsKeptOrMade text base image may) state.areas)
          (on_group : set.contains (set_of change.disk_of) pv ≡ true) where
        abbrev OnWay : Area × Option Locn → Type 0
        OnWay held = lies_on (set_of change.disk_of) held ≡ true → IsOnTheWay text base image may held

        ways : All OnWay state.areas
        ways k d within on = record {
          shows = kept k d within;
          take = areas_take state is_state k d within;
        }

        known : All (IsKnown text pv base image may (λ r. false)) areas
        known k d within = inl (
          λ held is_held.
              let here : held.0.pv ≡ pv =
              ap (λ (a : Area). a.pv) (entry_kept (area_on pv (get_or areas k d).area) (get_or areas k d).entry held is_held) in
              let all : All (λ found. (x : Area × Option Locn) → held_area (0 + pv) found ≡ Some x → OnWay x) areas =
              subst (λ (c : Option PvFound). All (λ found. (x : Area × Option Locn) → held_area (0 + pv) found ≡ Some x → OnWay x)
              (areas_on c)) is
              (of_held OnWay 0 state.disks (subst (All OnWay) is_state.areas ways) pv disk there)
              in
              all k d within held (ap (λ (n : ℕ). held_area n (get_or areas k d)) (omega arith) ∙ is_held)
              (ap (set.contains (set_of change.disk_of)) here ∙ on_group),
          headers k d within,
        )

    -- where the areas of a listed physical volume show what they showed, or the new text if it may
    module _ (may : List ℕ → Bool) (passed : List (List ℕ)) (copy : IsCopyOf text group passed)
        (kept : (id : List ℕ) → lists group id ≡ true → All (IsKeptOrMade text base image (may id)) state.areas) where
      abbrev new : AreaReading
      new = Copy group text passed

      disk_on : (pv : ℕ) (disk : Disk) (reading : Reading) → slice_get state.disks pv ≡ Some disk → IsDiskReading pv (base pv) disk reading
          → PvMayBeRefused (λ id r. false) reading.pv → set.contains (set_of change.disk_of) pv ≡ true
          → DiskAgain pv (image pv) may (λ id r. false) new disk reading
      disk_on pv disk reading there read given on =
          let listed : IsListedOn group state.disks pv = of_set (IsListedOn group state.disks) change.disk_of makes.listed pv on in
          let same : disk ≡ listed.disk = same_Some disk listed.disk (sym there ∙ listed.there) in
          let w = header_read disk.contents listed.header (ap (λ (x : Disk). header_on x.contents) same ∙ listed.is) in
          let stands = subst (λ (c : Option PvFound). ContentsCanStand pv disk.sectors c) w.2 (is_state.disks pv disk there).contents in
          subst (λ (n : ℕ). DiskAgain pv (image pv) may (λ id r. false) new disk (record { sectors = n; pv = reading.pv }))
          (sym read.sectors_is)
          (disk_again text group passed copy may (λ id r. false) pv base image disk.sectors disk.contents reading.pv read.contents
          read.pv_is given w.0 listed.header w.1 w.2
          (own_stands pv disk there w.0 listed.header w.1 w.2 stands.0)
          (recursion_from_All (IsKnown text pv base image (may listed.header.id) (λ r. false)) w.1
          (known pv disk there w.0 listed.header w.1 w.2 stands.0 (may listed.header.id) (kept listed.header.id listed.listed) on)))

      pub each_reads : (pv : ℕ) (disk : Disk) (reading : Reading) → slice_get state.disks pv ≡ Some disk
          → IsDiskReading pv (base pv) disk reading → PvMayBeRefused (λ id r. false) reading.pv
          → DiskAgain pv (image pv) may (λ id r. false) new disk reading
      each_reads pv disk reading there read given =
          ⊎_elim
          (λ on. disk_on pv disk reading there read given on)
          (λ off. disk_same pv (base pv) (image pv) may (λ id r. false) new disk reading (off_disk pv off) read)
          (cases_Bool (set.contains (set_of change.disk_of) pv))

    -- where each area shows what it showed, or the new text
    pub each_again : (passed : List (List ℕ)) → IsCopyOf text group passed → All (IsKeptOrNew text base image) state.areas
        → (pv : ℕ) (disk : Disk) (reading : Reading) → slice_get state.disks pv ≡ Some disk → IsDiskReading pv (base pv) disk reading
        → PvMayBeRefused (λ id r. false) reading.pv
        → DiskAgain pv (image pv) (lists group) (λ id r. false) (Copy group text passed) disk reading
    each_again passed copy kept =
        each_reads (lists group) passed copy (λ id listed k d within. kept_or_made text base image (lists group id) listed
        (get_or state.areas k d) (kept k d within))
