-- An image while disks are cleared: each disk reads again, but that an area may hold nothing.
use Rattle.std.proofs.Common.{◌≡◌, ◌≤◌, ◌<◌, ◌⊎◌, ℕ, ◌+◌, ◌/◌, Bool, true, false, List, [], ◌∷◌, length, get_or, map, Option, Some, None}
use Rattle.std.proofs.Common.{inl, inr, ⊎_elim, refl, sym, ap, subst, ◌∙◌, arith}
use Rattle.std.specs.Prelude.{All, slice_get}
use Rattle.std.specs.Option.{option_and_then}
use Rattle.std.specs.Ordering.{nat_cmp}
use Rattle.std.specs.FinSet as set
use Rattle.std.proofs.lemmas.Bool.{false≢true, true≢false}
use Rattle.std.proofs.lemmas.List.Elements.{All-filter, filter_passes, recursion_from_All}
use Rattle.std.proofs.lemmas.Option.{same_Some}
use Rattle.disk_model.specs.Steps.{Image}
use Rattle.pv_header.specs.declared.header.PvHeader.{PvHeader}
use Rattle.mda_header.specs.declared.header.Locn.{Locn}
use Rattle.mda_ring.specs.Areas.{CanTake}
use Rattle.mda_ring.specs.declared.area.Area.{Area}
use Rattle.meta_model.specs.declared.group.Group.{Group}
use Rattle.scan_rules.specs.Decision.{Area as AreaOf, AreaReading, Copy, Found as PvOf, Reading}
use Rattle.disk_batch.specs.InTurn.{HasFirstBatches}
use Rattle.disk_batch.specs.Writes.{IsWrittenBy}
use Rattle.disk_contents.specs.declared.contents.AreaFound.{AreaFound}
use Rattle.disk_contents.specs.declared.contents.PvFound.{PvFound}
use Rattle.disk_contents.specs.declared.contents.PvFound.TheVariants.{NoLabel, NoHeader, Whole}
use Rattle.disk_contents.specs.Standing.{area_on}
use Rattle.vg_found.specs.declared.disk.Disk.{Disk}
use Rattle.vg_found.specs.Disks.{areas_on, held_area, held_areas, header_on}
use Rattle.vg_found.specs.Shape.{ContentsCanStand}
use Rattle.vg_scan.specs.Readings.{IsDiskReading}
use Rattle.vg_scan.specs.Texts.{IsCopyOf}
use Rattle.vg_commit.proofs.Disks.{no_area}
use Rattle.vg_commit.specs.SectorReading.{IsSized, ShowsBy, old_reading}
use Rattle.group_plan.specs.Added.{pv_in}
use Rattle.group_plan.specs.Cleared.{cleared_areas, unused_labels}
use Rattle.group_plan.specs.Judging.{lies_on}
use Rattle.group_plan.specs.declared.state.NewLabel.{NewLabel}
use Rattle.change_batches.specs.Batches.{batch_if, clear_batches, clear_put, label_put}
use Rattle.change_batches.specs.Building.{AreScanned}
use Rattle.change_batches.specs.Laws.{ClearsImages, ShowsEntries, text_in}
use Rattle.change_batches.proofs.BaseShows.{base_shows, base_sized, shows_alike}
use Rattle.change_batches.proofs.ClearedAreas.{cleared_far, cleared_held, each_takes}
use Rattle.change_batches.proofs.LabelPuts.{label_where, no_label}
use Rattle.change_batches.proofs.MarkedLabels.{labels_among, labels_can}
use Rattle.image_scans.proofs.Again.{AreasAgain, GivesAgain, PvAgain}
use Rattle.image_scans.proofs.AreaAgain.{IsCleared, IsKnown, MayBeRefused}
use Rattle.image_scans.proofs.ClearWrites.{IsClearWrite, clear_write}
use Rattle.image_scans.proofs.CommitOnTheWay.{header_read}
use Rattle.image_scans.proofs.DiskAgain.{DiskAgain, LabelStands, PvMayBeRefused, disk_again, disk_same}
use Rattle.image_scans.proofs.FoundAreas.{IsHeldOn, IsPlaced, all_held, entry_kept, of_held}
use Rattle.image_scans.proofs.Front.{AnyWrites, any_append, any_if, front_or}
use Rattle.image_scans.proofs.AreaReadings.{AreasGive, GivenHas}
use Rattle.image_scans.proofs.LabelsAgain.{label_stands, none_written}
use Rattle.image_scans.proofs.MarkedLabels.{labels_on}
use Rattle.image_scans.proofs.MetAreas.{all_placed, area_met}

-- ---- what may hold nothing later

-- any area
abbrev pub any_bare : List ℕ → AreaReading → Bool
any_bare id r = true

any_given : (o : Option AreaReading) → GivenHas (MayBeRefused (λ r. true)) o
any_given None = tt
any_given (Some r) = inl refl

any_areas : (areas : List AreaOf) → AreasGive (MayBeRefused (λ r. true)) areas
any_areas [] = tt
any_areas (area ∷ areas) = (any_given area.reading, any_areas areas)

pub any_pv : (o : Option PvOf) → PvMayBeRefused any_bare o
any_pv None = tt
any_pv (Some own) = any_areas own.areas

-- what reads again where none may reads again where any may
module _ (new : AreaReading) where
  given_bare : (may : Bool) (a b : Option AreaReading) → GivesAgain new may (λ r. false) a b → GivesAgain new may (λ r. true) a b
  given_bare may None b again = again
  given_bare may (Some r) b (inl same) = inl same
  given_bare may (Some r) b (inr (inl made)) = inr (inl made)
  given_bare may (Some r) b (inr (inr none)) = absurd (false≢true none.1)

  areas_bare : (may : Bool) (as' bs : List AreaOf) → AreasAgain new may (λ r. false) as' bs → AreasAgain new may (λ r. true) as' bs
  areas_bare may [] [] again = tt
  areas_bare may [] (b ∷ bs) again = absurd again
  areas_bare may (a ∷ as') [] again = absurd again
  areas_bare may (a ∷ as') (b ∷ bs) again = (again.0, again.1, given_bare may a.reading b.reading again.2, areas_bare may as' bs again.3)

  pv_bare : (may : List ℕ → Bool) (a b : Option PvOf) → PvAgain may (λ id r. false) new a b → PvAgain may any_bare new a b
  pv_bare may None None again = tt
  pv_bare may None (Some b) again = absurd again
  pv_bare may (Some a) None again = absurd again
  pv_bare may (Some a) (Some b) again = (again.0, areas_bare (may a.id) a.areas b.areas again.1)

  pub disk_bare : (pv : ℕ) (sector_at : ℕ → List ℕ) (may : List ℕ → Bool) (disk : Disk) (reading : Reading)
      → DiskAgain pv sector_at may (λ id r. false) new disk reading → DiskAgain pv sector_at may any_bare new disk reading
  disk_bare pv sector_at may disk reading d = record {
    there = d.there;
    read = d.read;
    sectors_is = d.sectors_is;
    unread = d.unread;
    unread_there = d.unread_there;
    is = d.is;
    same_sectors = d.same_sectors;
    again = pv_bare may reading.pv d.read.pv d.again;
    ids = d.ids;
    areas_is = d.areas_is;
  }

-- ---- what stands on a disk without a header

none_in : (contents : Option PvFound) → header_on contents ≡ None → (option_and_then pv_in contents ≡ None) × (areas_on contents ≡ [])
none_in None none = (refl, refl)
none_in (Some (NoLabel refusal)) none = (refl, refl)
none_in (Some (NoHeader label refusal)) none = (refl, refl)
none_in (Some (Whole label header areas)) none = absurd cc

-- ---- the disks

module _ (disks : List Disk) (areas : List (Area × Option Locn)) (scanned : AreScanned disks areas) (cleared : set.FinSet nat_cmp)
    (clears : ClearsImages cleared disks areas) (mid image : Image) (h : HasFirstBatches (clear_batches cleared disks areas) mid image)
  where
    abbrev labels : List NewLabel
    labels = unused_labels cleared disks

    abbrev on : List (Area × Option Locn)
    on = cleared_areas cleared areas

    all_on : All (IsHeldOn disks) areas
    all_on = subst (All (IsHeldOn disks)) (sym scanned.held) (all_held disks scanned.each)

    cleared_on : All (IsHeldOn disks) on
    cleared_on = All-filter (lies_on cleared) (IsHeldOn disks) areas all_on

    -- ---- what is written

    writes : (pv sector : ℕ) (value : List ℕ) → AnyWrites (clear_batches cleared disks areas) pv sector value
        → IsWrittenBy (map label_put labels) pv sector value ⊎ IsClearWrite on pv sector value
    writes pv sector value by =
        ⊎_elim
        (λ label. inl (any_if (map label_put labels) pv sector value label))
        (λ clear. inr (clear_write on pv sector value (any_if (map clear_put on) pv sector value clear)))
        (any_append (batch_if (map label_put labels)) (batch_if (map clear_put on)) pv sector value by)

    sector_in : (pv sector : ℕ) → (image pv sector ≡ mid pv sector)
        ⊎ (IsWrittenBy (map label_put labels) pv sector (image pv sector) ⊎ IsClearWrite on pv sector (image pv sector))
    sector_in pv sector =
        ⊎_elim (λ same. inl same) (λ by. inr (writes pv sector (image pv sector) by))
        (front_or (clear_batches cleared disks areas) mid image pv sector h)

    label_low : (k : ℕ) → k < length labels → (get_or labels k no_label).sector < 4
    label_low k within = (labels_can disks areas scanned false cleared k no_label within).sector_below

    clear_far : (pv sector : ℕ) (value : List ℕ) → IsClearWrite on pv sector value → 4 ≤ sector
    clear_far pv sector value w =
        let begins : 2048 ≤ (get_or on w.number no_area).0.start = cleared_far disks areas scanned cleared w.number no_area w.among in omega
        (arith, begins, w.at)

    clear_takes : (pv sector : ℕ) (value : List ℕ) (w : IsClearWrite on pv sector value) → CanTake (get_or on w.number no_area)
    clear_takes pv sector value w = (cleared_held disks areas scanned cleared).take w.number no_area w.among

    -- another disk stays as it is
    pub others_same : (pv : ℕ) → set.contains cleared pv ≡ false → (sector : ℕ) → image pv sector ≡ mid pv sector
    others_same pv other sector =
        ⊎_elim
        (λ same. same)
        (λ by.
        ⊎_elim
        (λ label.
        let w = label_where labels no_label pv sector (image pv sector) label in
        absurd (true≢false (sym (labels_among false cleared disks w.0 no_label w.1) ∙ ap (set.contains cleared) w.2 ∙ other)))
        (λ clear. absurd (true≢false (sym (filter_passes (lies_on cleared) areas clear.number no_area clear.among)
        ∙ ap (set.contains cleared) clear.disk ∙ other)))
        by)
        (sector_in pv sector)

    -- ---- a disk that the base has too

    module _ (base : Image) (names : ShowsEntries areas base) (text : List ℕ) (group : Group) (passed : List (List ℕ))
        (copy : IsCopyOf text group passed) (may : List ℕ → Bool) (bare : List ℕ → AreaReading → Bool)
        (any : (id : List ℕ) (r : AreaReading) → bare id r ≡ true)
        (pv : ℕ) (same_base : (sector : ℕ) → mid pv sector ≡ base pv sector) (disk : Disk) (there : slice_get disks pv ≡ Some disk) where
      -- without a header nothing of it is written
      bare_same : header_on disk.contents ≡ None → (sector : ℕ) → image pv sector ≡ base pv sector
      bare_same none sector =
          let nothing = none_in disk.contents none in
          ⊎_elim
          (λ same. same ∙ same_base sector)
          (λ by.
          ⊎_elim
          (λ label.
          absurd (none_written disks labels (labels_on false cleared disks) pv disk there nothing.0 sector (image pv sector) label))
          (λ clear.
          let o : IsHeldOn disks (get_or on clear.number no_area) = cleared_on clear.number no_area clear.among in
          let own : disk ≡ o.disk = same_Some disk o.disk (sym there ∙ ap (slice_get disks) (sym clear.disk) ∙ o.there) in
          absurd (let e : ◌≡◌ {A = Option AreaFound} None (Some o.found) = sym (ap (λ (l : List AreaFound). slice_get l o.number) nothing.1)
          ∙ ap (λ (d : Disk). slice_get (areas_on d.contents) o.number) own ∙ o.at in cc))
          by)
          (sector_in pv sector)

      module _ (label : ℕ) (header : PvHeader) (found : List AreaFound) (is : disk.contents ≡ Some (Whole label header found))
          (low : label < 4) where
        near : (sector : ℕ) → sector < 4 → (image pv sector ≡ base pv sector)
            ⊎ IsWrittenBy (map label_put labels) pv sector (image pv sector)
        near sector below =
            ⊎_elim
            (λ same. inl (same ∙ same_base sector))
            (λ by. ⊎_elim (λ own. inr own)
            (λ clear. absurd (omega (arith, below, clear_far pv sector (image pv sector) clear))) by)
            (sector_in pv sector)

        own_stands : LabelStands (base pv) (image pv) label header
        own_stands =
            label_stands disks labels (labels_on false cleared disks) pv disk there (labels_can disks areas scanned false cleared)
            clears.read base image near label header found is low

        -- ---- an area there

        module _ (k : ℕ) (d : AreaFound) (within : k < length found) where
          abbrev area : AreaFound
          area = get_or found k d

          placed : IsPlaced found area
          placed = all_placed disks scanned.each pv disk there label header found is k d within

          -- a cleared area of its sectors is it
          clear_met : (sector : ℕ) (value : List ℕ) (w : IsClearWrite on pv sector value) → area.area.offset / 512 ≤ sector
              → sector < area.area.offset / 512 + area.area.size / 512 → held_area pv area ≡ Some (get_or on w.number no_area)
          clear_met sector value w from to =
              let takes : CanTake (get_or on w.number no_area) = clear_takes pv sector value w in
              area_met disks scanned.each pv disk there label header found is k d within (get_or on w.number no_area)
              (cleared_on w.number no_area w.among) w.disk sector (omega (arith, w.at)) (omega (arith, w.at, takes.0.has_ring)) from to

          header_in : IsCleared pv image (bare header.id) area ⊎ (image pv (area.area.offset / 512) ≡ base pv (area.area.offset / 512))
          header_in =
              let sector : ℕ = area.area.offset / 512 in
              ⊎_elim
              (λ same. inr (same ∙ same_base sector))
              (λ by.
              ⊎_elim
              (λ own.
              let w = label_where labels no_label pv sector (image pv sector) own in
              let near = label_low w.0 w.1 in
              absurd (omega (arith, near, w.3, placed.far)))
              (λ clear. inl (
                get_or on clear.number no_area,
                clear_met sector (image pv sector) clear (omega arith) (omega (arith, placed.some)),
                clear_takes pv sector (image pv sector) clear,
                clear.is,
                any header.id,
              ))
              by)
              (sector_in pv sector)

          -- where its header stays all of it does
          all_same : image pv (area.area.offset / 512) ≡ base pv (area.area.offset / 512) → (sector : ℕ) → area.area.offset / 512 ≤ sector
              → sector < area.area.offset / 512 + area.area.size / 512 → image pv sector ≡ base pv sector
          all_same first sector from to =
              ⊎_elim
              (λ same. same ∙ same_base sector)
              (λ by.
              ⊎_elim
              (λ own.
              let w = label_where labels no_label pv sector (image pv sector) own in
              let near = label_low w.0 w.1 in
              absurd (omega (arith, near, w.3, placed.far, from)))
              (λ clear.
              let c : Area × Option Locn = get_or on clear.number no_area in
              let own : c.0 ≡ area_on pv area.area =
              entry_kept (area_on pv area.area) area.entry c (clear_met sector (image pv sector) clear from to) in
              let starts : c.0.start ≡ area.area.offset = ap (λ (a : Area). a.start) own in
              let at : area.area.offset / 512 ≡ sector = omega (arith, clear.at, starts) in
              subst (λ (n : ℕ). image pv n ≡ base pv n) at first)
              by)
              (sector_in pv sector)

          -- what the base shows of it
          abbrev IsShown : Area × Option Locn → Type 0
          IsShown b = CanTake b × IsSized b.0 b.1 (text_in base b) × ShowsBy (old_reading (text_in base)) base b

          in_base : (b : Area × Option Locn) → held_area pv area ≡ Some b → IsShown b
          in_base b is_held =
              let takes : All CanTake areas = each_takes disks areas scanned in
              let sized = base_sized areas base takes in
              let shows = base_shows areas base names in
              let all : All IsShown (held_areas 0 disks) =
              subst (All IsShown) scanned.held (λ j e in_list. (takes j e in_list, sized j e in_list, shows j e in_list)) in
              let here : All (λ f. (x : Area × Option Locn) → held_area (0 + pv) f ≡ Some x → IsShown x) found =
              subst (λ (c : Option PvFound). All (λ f. (x : Area × Option Locn) → held_area (0 + pv) f ≡ Some x → IsShown x) (areas_on c))
              is
              (of_held IsShown 0 disks all pv disk there)
              in
              here k d within b (ap (λ (n : ℕ). held_area n area) (omega arith) ∙ is_held)

          old_shown : image pv (area.area.offset / 512) ≡ base pv (area.area.offset / 512) → (b : Area × Option Locn)
              → held_area pv area ≡ Some b → ShowsBy (old_reading (text_in base)) image b
          old_shown first b is_held =
              let s : IsShown b = in_base b is_held in
              let own : b.0 ≡ area_on pv area.area = entry_kept (area_on pv area.area) area.entry b is_held in
              let starts : b.0.start ≡ area.area.offset = ap (λ (a : Area). a.start) own in
              let sized : b.0.size ≡ area.area.size = ap (λ (a : Area). a.size) own in
              let here : b.0.pv ≡ pv = ap (λ (a : Area). a.pv) own in
              shows_alike (old_reading (text_in base)) b base image s.0.0 s.1
              (λ sector inside.
              subst (λ (n : ℕ). image n (b.0.start / 512 + sector) ≡ base n (b.0.start / 512 + sector)) (sym here)
              (all_same first (b.0.start / 512 + sector) (omega (arith, starts)) (omega (arith, inside, starts, sized)))) s.2

          known : IsKnown text pv base image (may header.id) (bare header.id) area
          known =
              ⊎_elim
              (λ gone. inr gone)
              (λ first. inl (
                (λ held is_held. record { shows = inl (old_shown first held is_held); take = (in_base held is_held).0 }),
                inl first,
              ))
              header_in

      with_header : (reading : Reading) → IsDiskReading pv (base pv) disk reading → PvMayBeRefused bare reading.pv → (header : PvHeader)
          → header_on disk.contents ≡ Some header → DiskAgain pv (image pv) may bare (Copy group text passed) disk reading
      with_header reading read given header has =
          let w = header_read disk.contents header has in
          let stands = subst (λ (c : Option PvFound). ContentsCanStand pv disk.sectors c) w.2 (scanned.each pv disk there).contents in
          subst (λ (n : ℕ). DiskAgain pv (image pv) may bare (Copy group text passed) disk (record { sectors = n; pv = reading.pv }))
          (sym read.sectors_is)
          (disk_again text group passed copy may bare pv base image disk.sectors disk.contents reading.pv read.contents read.pv_is given w.0
          header w.1 w.2
          (own_stands w.0 header w.1 w.2 stands.0)
          (recursion_from_All (IsKnown text pv base image (may header.id) (bare header.id)) w.1
          (λ k d within. known w.0 header w.1 w.2 stands.0 k d within)))

      -- the disk reads again
      pub disk_cleared : (reading : Reading) → IsDiskReading pv (base pv) disk reading → PvMayBeRefused bare reading.pv
          → DiskAgain pv (image pv) may bare (Copy group text passed) disk reading
      disk_cleared reading read given = by (header_on disk.contents) refl
        where
          by : (o : Option PvHeader) → header_on disk.contents ≡ o → DiskAgain pv (image pv) may bare (Copy group text passed) disk reading
          by None none = disk_same pv (base pv) (image pv) may bare (Copy group text passed) disk reading (bare_same none) read
          by (Some header) has = with_header reading read given header has
