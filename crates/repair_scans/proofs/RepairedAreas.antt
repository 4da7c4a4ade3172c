-- An area once a repair is done: it is found and reads as the repair hands it on.
use Rattle.std.proofs.Common.{◌≡◌, ◌≤◌, ◌<◌, ℕ, ◌+◌, ◌/◌, Bool, true, false, cond, List, length, get_or, Option, Some, None, refl, sym, ap}
use Rattle.std.proofs.Common.{subst, ◌∙◌, arith}
use Rattle.std.specs.Prelude.{All, slice_get}
use Rattle.std.specs.FinSet.{contains}
use Rattle.std.specs.Option.{option_map_or}
use Rattle.disk_model.specs.Steps.{Image}
use Rattle.pv_header.specs.declared.header.PvHeader.{PvHeader}
use Rattle.mda_header.specs.Header.{IsEntry, IsHeader}
use Rattle.mda_header.specs.HeaderBytes.{header_bytes}
use Rattle.mda_header.specs.declared.entry.HeaderEntry.{HeaderEntry}
use Rattle.mda_header.specs.declared.entry.HeaderEntry.TheVariants.{Ignored, Nothing, Text, Refused as RefusedFor}
use Rattle.mda_header.specs.declared.header.Locn.{Locn}
use Rattle.mda_ring.specs.declared.area.Area.{Area}
use Rattle.mda_ring.specs.Areas.{CanTake}
use Rattle.mda_ring.specs.Ring.{need, room}
use Rattle.meta_model.specs.declared.group.Group.{Group}
use Rattle.scan_rules.specs.declared.copy_refusal.CopyRefusal.TheVariants.{HeaderRefused}
use Rattle.scan_rules.specs.Decision.{Area as AreaOf, AreaReading, Copy, HoldsNone, Refused}
use Rattle.disk_batch.specs.InTurn.{with_batches}
use Rattle.disk_contents.specs.declared.contents.AreaFound.{AreaFound}
use Rattle.disk_contents.specs.declared.contents.PvFound.TheVariants.{Whole}
use Rattle.disk_contents.specs.Contents.{IsAreaFound, IsMdaFound}
use Rattle.disk_contents.specs.Standing.{area_on}
use Rattle.vg_found.specs.declared.disk.Disk.{Disk}
use Rattle.vg_found.specs.declared.found.Found.{Found}
use Rattle.vg_found.specs.Disks.{held_area, held_by}
use Rattle.vg_scan.specs.Readings.{IsAreaReading, IsGiven}
use Rattle.vg_scan.specs.Texts.{IsCopyOf, IsStored, stored_bytes}
use Rattle.vg_commit.specs.SectorReading.{IsSized, ShowsBy, new_reading, old_reading}
use Rattle.vg_commit.specs.Showing.{sectors_of}
use Rattle.vg_commit.specs.Written.{header_after, header_of, new_entry, stored}
use Rattle.group_plan.specs.Judging.{lies_on}
use Rattle.change_batches.specs.Laws.{IsEmpty, text_in}
use Rattle.change_batches.proofs.BaseShows.{base_shows, base_sized, shows_alike}
use Rattle.list_laws.proofs.Filtered.{each_of_filtered}
use Rattle.vg_repair.specs.Batches.{repair_batches}
use Rattle.vg_repair.specs.Laws.{IsRight}
use Rattle.vg_repair.specs.Repaired.{repaired_area, repaired_held, with_entry}
use Rattle.vg_repair.specs.Stale.{is_among, text_of}
use Rattle.vg_repair.proofs.HeldAreas.{stale_held}
use Rattle.vg_repair.proofs.RepairedShape.{area_kept}
use Rattle.image_scans.proofs.FoundAreas.{IsPlaced, entry_kept}
use Rattle.image_scans.proofs.MetAreas.{all_placed}
use Rattle.image_scans.proofs.OneArea.{after_read, entry_nothing, entry_text, stored_copy}
use Rattle.repair_scans.specs.Laws.{CanRepair}
use Rattle.repair_scans.proofs.NumberedAreas.{of_all, of_stale}
use Rattle.repair_scans.proofs.PublishedHeaders.{header_published}
use Rattle.repair_scans.proofs.RepairOnTheWay.{are_disks, shown, stale_rooms}
use Rattle.repair_scans.proofs.RepairedReadings.{area_after, given_after}
use Rattle.repair_scans.proofs.UnwrittenAreas.{IsUnwritten, area_at, sectors_kept}

-- an area that isn't ignored gives something, and one that is ignored gives nothing
some_given : (sector_at : ℕ → List ℕ) (area : Area) (entry : HeaderEntry) (held : Area × Option Locn) (reading : Option AreaReading)
    → held_by area entry ≡ Some held → IsGiven sector_at area entry reading → (r : AreaReading) × (reading ≡ Some r)
some_given sector_at area Ignored held reading is given = absurd cc
some_given sector_at area Nothing held reading is given = (HoldsNone, given)
some_given sector_at area (Text locn) held reading is given = (given.0, given.1)
some_given sector_at area (RefusedFor refusal) held reading is given = (Refused (HeaderRefused refusal), given)

none_given : (sector_at : ℕ → List ℕ) (area : Area) (entry : HeaderEntry) (reading : Option AreaReading) → held_by area entry ≡ None
    → IsGiven sector_at area entry reading → reading ≡ None
none_given sector_at area Ignored reading is given = given
none_given sector_at area Nothing reading is given = absurd cc
none_given sector_at area (Text locn) reading is given = absurd cc
none_given sector_at area (RefusedFor refusal) reading is given = absurd cc

module _ (base : Image) (sizes : List ℕ) (found : Found) (p : CanRepair base sizes found) (group : Group) (passed : List (List ℕ))
    (copy : IsCopyOf (text_of found) group passed) (pv : ℕ) (disk : Disk) (there : slice_get found.disks pv ≡ Some disk)
    (label : ℕ) (header : PvHeader) (areas : List AreaFound) (is : disk.contents ≡ Some (Whole label header areas)) (n : ℕ) (d : AreaFound)
    (within : n < length areas) where
  abbrev text : List ℕ
  text = text_of found

  abbrev last : Image
  last = with_batches (repair_batches found) base

  abbrev new : AreaReading
  new = Copy group text passed

  abbrev area : AreaFound
  area = get_or areas n d

  abbrev own : Area
  own = area_on pv area.area

  abbrev sector : ℕ
  sector = area.area.offset / 512

  placed : IsPlaced areas area
  placed = all_placed found.disks (are_disks base sizes found p) pv disk there label header areas is n d within

  right : IsRight found last
  right = p.keeps.right base (shown base sizes found p)

  -- it is found so, and gives this
  abbrev IsThere : AreaFound → Option AreaReading → Type 0
  IsThere then given = IsAreaFound (last pv) then × IsGiven (last pv) (area_on pv then.area) then.entry given

  own_area : (held : Area × Option Locn) → held_area pv area ≡ Some held → held.0 ≡ own
  own_area held is_held = entry_kept own area.entry held is_held

  -- ---- a stray's

  emptied : (held : Area × Option Locn) → held_area pv area ≡ Some held → contains found.strays pv ≡ true
      → IsThere (with_entry area None) (Some HoldsNone)
  emptied held is_held stray =
      let each : All (λ (a : Area × Option Locn). lies_on found.strays a ≡ true → IsEmpty last a) found.areas =
      each_of_filtered (IsEmpty last) (lies_on found.strays) found.areas right.headers in
      let same : held.0 ≡ own = own_area held is_held in
      let lies : lies_on found.strays held ≡ true = ap (λ (a : Area). contains found.strays a.pv) same ∙ stray in
      let empty : IsEmpty last held =
      of_all found p.shape pv disk there (λ (a : Area × Option Locn). lies_on found.strays a ≡ true → IsEmpty last a) each n area held
      (area_at base sizes found p pv disk there label header areas is n d within) is_held lies
      in
      let first : sectors_of own last 0 ≡ last pv sector = ap (last pv) (omega arith) in
      let read : IsHeader (last pv sector) (header_of own None None) =
      subst (λ (s : List ℕ). IsHeader s (header_of own None None)) first
      (subst (λ (a : Area). IsHeader (sectors_of a last 0) (header_of a None None)) same empty)
      in
      (((read, refl, refl), entry_nothing (last pv sector) area.area.offset area.area.size (header_of own None None) read refl refl), refl)

  -- ---- one that was stale

  renewed : (held : Area × Option Locn) → held_area pv area ≡ Some held → is_among found.stale pv n ≡ true
      → IsThere (with_entry area (Some (new_entry text held))) (Some new)
  renewed held is_held old =
      let locn : Locn = new_entry text held in
      let same : held.0 ≡ own = own_area held is_held in
      let at = area_at base sizes found p pv disk there label header areas is n d within in
      let take : CanTake held = of_stale found p.shape pv disk there CanTake (stale_held found p.shape).take n area held at old is_held in
      let fits : need (length text + 1) ≤ room held.0.size held.1 =
      of_stale found p.shape pv disk there (λ (a : Area × Option Locn). need (length text + 1) ≤ room a.0.size a.1)
      (stale_rooms base sizes found p) n area held at old is_held
      in
      let value : last held.0.pv (held.0.start / 512) ≡ header_bytes (header_after text held) =
      of_stale found p.shape pv disk there (λ (a : Area × Option Locn). last a.0.pv (a.0.start / 512) ≡ header_bytes (header_after text a))
      (λ k e inside. header_published base sizes found p k e inside) n area held at old is_held
      in
      let shows : ShowsBy (new_reading text) last held =
      of_stale found p.shape pv disk there (ShowsBy (new_reading text) last) right.stale n area held at old is_held in
      let written : IsHeader (last held.0.pv (held.0.start / 512)) (header_after text held) =
      subst (λ (s : List ℕ). IsHeader s (header_after text held)) (sym value) (after_read text held take fits)
      in
      let read : IsHeader (last pv sector) (header_of own (Some locn) None) =
      subst (λ (a : Area). IsHeader (last a.pv (a.start / 512)) (header_of a (Some locn) None)) same written in
      let bytes : stored_bytes (last pv) own locn ≡ stored text =
      ap (λ (a : Area). stored_bytes (last a.pv) a locn) (sym same) ∙ shows.ring in (
        ((read, refl, refl), entry_text (last pv sector) (header_of own (Some locn) None) locn read refl refl),
        (new, refl, stored_copy text group passed held (stored_bytes (last pv) own locn) copy bytes),
      )

  -- ---- any other

  module _ (before : AreaOf) (stood : IsAreaFound (base pv) area) (reads : IsAreaReading pv (base pv) area before) where
    abbrev IsOther : Type 0
    IsOther = IsUnwritten base sizes found p pv disk there label header areas is n d within

    same_sector : IsOther → last pv sector ≡ base pv sector
    same_sector other =
        sectors_kept base sizes found p pv disk there label header areas is n d within other sector (omega arith)
        (omega (arith, placed.some))

    -- a text has its bytes
    same_text : IsOther → (locn : Locn) → held_area pv area ≡ Some (own, Some locn)
        → stored_bytes (last pv) own locn ≡ stored_bytes (base pv) own locn
    same_text other locn is_held =
        let held : Area × Option Locn = (own, Some locn) in
        let at = area_at base sizes found p pv disk there label header areas is n d within in
        let take : CanTake held = of_all found p.shape pv disk there CanTake p.shape.take n area held at is_held in
        let sized : IsSized own (Some locn) (text_in base held) =
        of_all found p.shape pv disk there (λ (a : Area × Option Locn). IsSized a.0 a.1 (text_in base a))
        (base_sized found.areas base p.shape.take) n area held at is_held
        in
        let was : ShowsBy (old_reading (text_in base)) base held =
        of_all found p.shape pv disk there (ShowsBy (old_reading (text_in base)) base)
        (base_shows found.areas base (shown base sizes found p)) n area held at is_held
        in
        let stays : ShowsBy (old_reading (text_in base)) last held =
        shows_alike (old_reading (text_in base)) held base last take.0 sized
        (λ k inside. sectors_kept base sizes found p pv disk there label header areas is n d within other (sector + k) (omega arith)
        (omega (arith, inside))) was
        in
        stays.ring

    given_kept : IsOther → (entry : HeaderEntry) → area.entry ≡ entry → IsGiven (base pv) own entry before.reading
        → IsGiven (last pv) own entry before.reading
    given_kept other Ignored named given = given
    given_kept other Nothing named given = given
    given_kept other (Text locn) named given = (
      given.0,
      given.1,
      subst (λ (bytes : List ℕ). IsStored locn bytes given.0) (sym (same_text other locn (ap (held_by own) named))) given.2,
    )
    given_kept other (RefusedFor refusal) named given = given

    kept : IsOther → IsThere area before.reading
    kept other =
        let same : base pv sector ≡ last pv sector = sym (same_sector other) in (
          (
            subst (λ (s : List ℕ). IsMdaFound s area.area area.header) same stood.0,
            subst (λ (s : List ℕ). IsEntry s area.area.offset area.area.size area.entry) same stood.1,
          ),
          given_kept other area.entry refl reads.given,
        )

    -- ---- by what it was

    abbrev given : Option AreaReading
    given = given_after (contains found.strays pv) (is_among found.stale pv n) new before.reading

    by_flags : (held : Area × Option Locn) → held_area pv area ≡ Some held → (r : AreaReading) → before.reading ≡ Some r
        → (stray old : Bool) → contains found.strays pv ≡ stray → is_among found.stale pv n ≡ old
        → IsThere (cond stray (with_entry area None) (cond old (with_entry area (Some (new_entry text held))) area))
        (cond stray (Some HoldsNone) (cond old (Some new) (Some r)))
    by_flags held is_held r was true old is_stray is_old = emptied held is_held is_stray
    by_flags held is_held r was false true is_stray is_old = renewed held is_held is_old
    by_flags held is_held r was false false is_stray is_old = subst (IsThere area) was (kept (λ other same. (is_stray, is_old)))

    by_held : (o : Option (Area × Option Locn)) → held_area pv area ≡ o
        → IsThere (option_map_or (repaired_held found.stale found.strays text pv (n, area)) o area) given
    by_held None is_held =
        let none : before.reading ≡ None = none_given (base pv) own area.entry before.reading is_held reads.given in
        subst (IsThere area) (none ∙ ap (given_after (contains found.strays pv) (is_among found.stale pv n) new) (sym none))
        (kept (λ held some. absurd (let e : ◌≡◌ {A = Option (Area × Option Locn)} None (Some held) = sym is_held ∙ some in cc)))
    by_held (Some held) is_held =
        let r = some_given (base pv) own area.entry held before.reading is_held reads.given in
        subst (IsThere (repaired_held found.stale found.strays text pv (n, area) held))
        (ap (given_after (contains found.strays pv) (is_among found.stale pv n) new) (sym r.1))
        (by_flags held is_held r.0 r.1 (contains found.strays pv) (is_among found.stale pv n) refl refl)

    abbrev then : AreaFound
    then = repaired_area found.stale found.strays text pv (n, area)

    -- all of it
    pub area_repaired : IsAreaFound (last pv) then × IsAreaReading pv
        (last pv) then (area_after found.stale found.strays new pv (n, before))
    area_repaired =
        let all : IsThere then given = by_held (held_area pv area) refl in
        let place : then.area ≡ area.area = area_kept found.stale found.strays text pv n area in (
          all.0,
          record {
            start_is = reads.start_is ∙ ap (λ e. e.offset / 512) (sym place);
            sectors_is = reads.sectors_is ∙ ap (λ e. e.size / 512) (sym place);
            given = all.1;
          },
        )
