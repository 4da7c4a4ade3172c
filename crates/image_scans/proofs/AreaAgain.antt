-- One area on the way of a commit: it gives what it gave, or the new text.
use Rattle.std.proofs.Common.{◌≡◌, ◌≤◌, ◌⊎◌, ℕ, ◌+◌, ◌/◌, Bool, true, false, List, length, Option, Some, None, Result, Ok, inl, inr, ⊎_elim}
use Rattle.std.proofs.Common.{refl, sym, ap, subst, ◌∙◌, arith}
use Rattle.std.proofs.lemmas.Option.{same_Some}
use Rattle.disk_model.specs.Steps.{Image}
use Rattle.pv_header.specs.declared.extent_list.Extent.{Extent}
use Rattle.mda_header.specs.declared.entry.HeaderEntry.{HeaderEntry}
use Rattle.mda_header.specs.declared.entry.HeaderEntry.TheVariants.{Ignored, Nothing, Text, Refused as RefusedFor}
use Rattle.mda_header.specs.declared.header.Locn.{Locn}
use Rattle.mda_header.specs.declared.header.MdaHeader.{MdaHeader}
use Rattle.mda_header.specs.declared.refusal.MdaRefusal.{MdaRefusal}
use Rattle.mda_header.specs.Header.{IsEntry, IsHeader}
use Rattle.mda_header.specs.HeaderBytes.{header_bytes}
use Rattle.mda_header.proofs.OneEntry.{one_entry}
use Rattle.mda_ring.specs.declared.area.Area.{Area}
use Rattle.mda_ring.specs.Areas.{CanTake}
use Rattle.mda_ring.specs.Ring.{need, room}
use Rattle.meta_model.specs.declared.group.Group.{Group}
use Rattle.scan_rules.specs.declared.copy_refusal.CopyRefusal.TheVariants.{HeaderRefused}
use Rattle.scan_rules.specs.Decision.{Area as AreaOf, AreaReading, Copy, HoldsNone, Refused}
use Rattle.disk_contents.specs.declared.contents.AreaFound.{AreaFound}
use Rattle.disk_contents.specs.Contents.{IsAreaFound, IsMdaFound}
use Rattle.disk_contents.specs.Standing.{area_on}
use Rattle.vg_found.specs.Disks.{held_area, held_by}
use Rattle.vg_scan.specs.Readings.{IsAreaReading, IsGiven}
use Rattle.vg_scan.specs.Texts.{IsCopyOf, IsStored, stored_bytes}
use Rattle.vg_commit.specs.SectorReading.{ShowsBy, new_reading, old_reading}
use Rattle.vg_commit.specs.Showing.{Names, sectors_of}
use Rattle.vg_commit.specs.Written.{header_after, header_before, header_of, new_entry}
use Rattle.change_batches.specs.Laws.{IsKeptOrNew, text_in}
use Rattle.image_scans.proofs.Again.{GivesAgain}
use Rattle.image_scans.proofs.FoundAreas.{entry_kept}
use Rattle.image_scans.proofs.AreaReadings.{GivenHas}
use Rattle.image_scans.proofs.OneArea.{after_read, before_read, empty_header_read, entry_nothing, entry_text, header_of_text, stored_copy}

-- an area in an image, as it is found and reads there, beside what it gave before
pub record ReadsAgain (pv : ℕ) (sector_at : ℕ → List ℕ) (extent : Extent) (new : AreaReading) (may : Bool) (bare : AreaReading → Bool)
    (before : AreaOf) : Type 0 where
  pub found : AreaFound
  pub area : AreaOf
  pub same : found.area ≡ extent
  pub is : IsAreaFound sector_at found
  pub reads : IsAreaReading pv sector_at found area
  pub start_is : before.start ≡ area.start
  pub sectors_is : before.sectors ≡ area.sectors
  pub again : GivesAgain new may bare before.reading area.reading

-- an area that isn't refused
abbrev pub NotRefused : AreaReading → Type 0
NotRefused HoldsNone = Unit {0}
NotRefused (Copy group text passed) = Unit {0}
NotRefused (Refused why) = ⊥

-- it may be, where such areas may give nothing later
abbrev pub MayBeRefused : (AreaReading → Bool) → AreaReading → Type 0
MayBeRefused bare r = (bare r ≡ true) ⊎ NotRefused r

abbrev pub IsRead : (AreaReading → Bool) → Option AreaReading → Type 0
IsRead bare reading = GivenHas (MayBeRefused bare) reading

-- the area shows, whole, what it showed, or the new text where it may
abbrev pub IsKeptOrMade : List ℕ → Image → Image → Bool → Area × Option Locn → Type 0
IsKeptOrMade text base image may held =
    ShowsBy (old_reading (text_in base)) image held ⊎ (ShowsBy (new_reading text) image held × (may ≡ true))

-- each of them may
pub kept_or_made : (text : List ℕ) (base image : Image) (may : Bool) → may ≡ true → (held : Area × Option Locn)
    → IsKeptOrNew text base image held → IsKeptOrMade text base image may held
kept_or_made text base image may allowed held (inl old) = inl old
kept_or_made text base image may allowed held (inr new) = inr (new, allowed)

-- what is known of an area that isn't ignored
pub record IsOnTheWay (text : List ℕ) (base image : Image) (may : Bool) (held : Area × Option Locn) : Type 0 where
  pub shows : IsKeptOrMade text base image may held
  pub take : CanTake held

-- the header sector has one of the headers of the commit, to an area that has room for the text
abbrev pub IsWritten : List ℕ → ℕ → AreaFound → List ℕ → Type 0
IsWritten text pv found value =
    (held : Area × Option Locn) × (held_area pv found ≡ Some held) × (need (length text + 1) ≤ room held.0.size held.1)
    × ((value ≡ header_bytes (header_before text held)) ⊎ (value ≡ header_bytes (header_after text held)))

-- or it is as in the base
abbrev pub HasHeader : List ℕ → ℕ → Image → Image → AreaFound → Type 0
HasHeader text pv base image found =
    (image pv (found.area.offset / 512) ≡ base pv (found.area.offset / 512)) ⊎ IsWritten text pv found (image pv (found.area.offset / 512))

-- or that of an area in which no text stands
abbrev pub IsCleared : ℕ → Image → (AreaReading → Bool) → AreaFound → Type 0
IsCleared pv image bare found =
    (held : Area × Option Locn) × (held_area pv found ≡ Some held) × CanTake held
    × (image pv (found.area.offset / 512) ≡ header_bytes (header_of held.0 None None)) × ((r : AreaReading) → bare r ≡ true)

-- what is known of an area
abbrev pub IsKnown : List ℕ → ℕ → Image → Image → Bool → (AreaReading → Bool) → AreaFound → Type 0
IsKnown text pv base image may bare found =
    (((held : Area × Option Locn) → held_area pv found ≡ Some held → IsOnTheWay text base image may held)
    × HasHeader text pv base image found) ⊎ IsCleared pv image bare found

module _ (text : List ℕ) (group : Group) (passed : List (List ℕ)) (copy : IsCopyOf text group passed) (may : Bool)
    (bare : AreaReading → Bool) (pv : ℕ) (base image : Image) (extent : Extent) (before : AreaOf)
    (start_is : before.start ≡ extent.offset / 512) (sectors_is : before.sectors ≡ extent.size / 512) where
  abbrev new : AreaReading
  new = Copy group text passed

  abbrev own : Area
  own = area_on pv extent

  abbrev sector : List ℕ
  sector = image pv (extent.offset / 512)

  abbrev Reads : Type 0
  Reads = ReadsAgain pv (image pv) extent new may bare before

  first_sector : sectors_of own image 0 ≡ sector
  first_sector = ap (image pv) (omega arith)

  make : (header : Result MdaHeader MdaRefusal) (entry : HeaderEntry) (reading : Option AreaReading) → IsMdaFound sector extent header
      → IsEntry sector extent.offset extent.size entry → IsGiven (image pv) own entry reading
      → GivesAgain new may bare before.reading reading → Reads
  make header entry reading found names given again = record {
    found = record { area = extent; header = header; entry = entry };
    area = record { start = extent.offset / 512; sectors = extent.size / 512; reading = reading };
    same = refl;
    is = (found, names);
    reads = record { start_is = refl; sectors_is = refl; given = given };
    start_is = start_is;
    sectors_is = sectors_is;
    again = again;
  }

  again_same : (reading : Option AreaReading) → before.reading ≡ reading → GivesAgain new may bare before.reading reading
  again_same reading is = subst (λ (o : Option AreaReading). GivesAgain new may bare o reading) (sym is) (itself reading)
    where
      itself : (o : Option AreaReading) → GivesAgain new may bare o o
      itself None = refl
      itself (Some r) = inl refl

  -- the new text stands there
  of_new : (entry : Option Locn) (r : AreaReading) → may ≡ true → before.reading ≡ Some r → ShowsBy (new_reading text) image (own, entry)
      → Reads
  of_new entry r allowed was shows =
      let locn : Locn = new_entry text (own, entry) in
      let names : IsEntry sector extent.offset extent.size (Text locn) =
      subst (λ (s : List ℕ). IsEntry s extent.offset extent.size (Text locn)) first_sector shows.header in
      let header = header_of_text sector extent.offset extent.size locn names in
      make (Ok header.0) (Text locn) (Some new) (header.1, header.2, header.3) names
      (new, refl, stored_copy text group passed (own, entry) (stored_bytes (image pv) own locn) copy shows.ring)
      (subst (λ (o : Option AreaReading). GivesAgain new may bare o (Some new)) (sym was) (inr (inl (refl, allowed))))

  -- the text that stood there
  of_text : (locn : Locn) (given : AreaReading) → before.reading ≡ Some given → IsStored locn (stored_bytes (base pv) own locn) given
      → ShowsBy (old_reading (text_in base)) image (own, Some locn) → Reads
  of_text locn given was stored shows =
      let names : IsEntry sector extent.offset extent.size (Text locn) =
      subst (λ (s : List ℕ). IsEntry s extent.offset extent.size (Text locn)) first_sector shows.header in
      let header = header_of_text sector extent.offset extent.size locn names in
      make (Ok header.0) (Text locn) (Some given) (header.1, header.2, header.3) names
      (given, refl, subst (λ (bytes : List ℕ). IsStored locn bytes given) (sym shows.ring) stored) (again_same (Some given) was)

  -- none, by a header that names none
  of_none : (header : MdaHeader) → GivesAgain new may bare before.reading (Some HoldsNone) → IsHeader sector header
      → header.start ≡ extent.offset → header.size ≡ extent.size → header.committed ≡ None → header.ignored ≡ false → Reads
  of_none header again is starts sized none seen =
      make (Ok header) Nothing (Some HoldsNone) (is, starts, sized) (entry_nothing sector extent.offset extent.size header is none seen)
      refl again

  may_hold_none : (r : AreaReading) → before.reading ≡ Some r → bare r ≡ true → GivesAgain new may bare before.reading (Some HoldsNone)
  may_hold_none r was is_bare =
      subst (λ (o : Option AreaReading). GivesAgain new may bare o (Some HoldsNone)) (sym was) (inr (inr (refl, is_bare)))

  -- a header that names the new text, where none is said to be named
  not_both : (locn : Locn) → IsEntry sector extent.offset extent.size (Text locn) → Names own None (sectors_of own image 0) → ⊥
  not_both locn is names =
      ⊎_elim
      (λ (nothing : IsEntry (sectors_of own image 0) extent.offset extent.size Nothing).
      let e : ◌≡◌ {A = HeaderEntry} (Text locn) Nothing =
      one_entry sector extent.offset extent.size (Text locn) Nothing is
      (subst (λ (s : List ℕ). IsEntry s extent.offset extent.size Nothing) first_sector nothing) in
      absurd cc)
      (λ refused.
      let e : ◌≡◌ {A = HeaderEntry} (Text locn) (RefusedFor refused.0) =
      one_entry sector extent.offset extent.size (Text locn) (RefusedFor refused.0) is
      (subst (λ (s : List ℕ). IsEntry s extent.offset extent.size (RefusedFor refused.0)) first_sector refused.1) in absurd cc)
      names

  module _ (header : Result MdaHeader MdaRefusal) where
    abbrev found_with : HeaderEntry → AreaFound
    found_with entry = record { area = extent; header = header; entry = entry }

    -- as in the base
    of_base : (entry : HeaderEntry) → sector ≡ base pv (extent.offset / 512) → IsMdaFound (base pv (extent.offset / 512)) extent header
        → IsEntry (base pv (extent.offset / 512)) extent.offset extent.size entry
        → IsGiven (image pv) own entry before.reading → Reads
    of_base entry same found names given =
        make header entry before.reading (subst (λ (s : List ℕ). IsMdaFound s extent header) (sym same) found)
        (subst (λ (s : List ℕ). IsEntry s extent.offset extent.size entry) (sym same) names) given (again_same before.reading refl)

    -- no text was committed there, or the header was refused
    of_nothing : (entry : HeaderEntry) (r : AreaReading) → held_by own entry ≡ Some (own, None) → before.reading ≡ Some r
        → GivesAgain new may bare before.reading (Some HoldsNone) → IsMdaFound (base pv (extent.offset / 512)) extent header
        → IsEntry (base pv (extent.offset / 512)) extent.offset extent.size entry → IsGiven (image pv) own entry before.reading
        → IsOnTheWay text base image may (own, None) → HasHeader text pv base image (found_with entry) → Reads
    of_nothing entry r held was again found names given way has =
        ⊎_elim
        (λ old.
        ⊎_elim
        (λ same. of_base entry same found names given)
        (λ written.
        let is : (own, None) ≡ written.0 = same_Some (own, None) written.0 (sym held ∙ written.1) in
        let fits : need (length text + 1) ≤ room own.size None =
        subst (λ (h : Area × Option Locn). need (length text + 1) ≤ room h.0.size h.1) (sym is) written.2 in
        ⊎_elim
        (λ first.
        let here : sector ≡ header_bytes (header_before text (own, None)) =
        first ∙ ap (λ (h : Area × Option Locn). header_bytes (header_before text h)) (sym is) in
        of_none (header_before text (own, None)) again
        (subst (λ (s : List ℕ). IsHeader s (header_before text (own, None))) (sym here) (before_read text (own, None) way.take fits))
        refl refl refl refl)
        (λ last.
        let here : sector ≡ header_bytes (header_after text (own, None)) =
        last ∙ ap (λ (h : Area × Option Locn). header_bytes (header_after text h)) (sym is) in
        let read : IsHeader sector (header_after text (own, None)) =
        subst (λ (s : List ℕ). IsHeader s (header_after text (own, None))) (sym here) (after_read text (own, None) way.take fits) in
        absurd (not_both (new_entry text (own, None))
        (entry_text sector (header_after text (own, None)) (new_entry text (own, None)) read refl refl) old.header))
        written.3)
        has)
        (λ made. of_new None r made.1 was made.0)
        way.shows

    -- a text was
    of_some : (locn : Locn) (given : AreaReading) → before.reading ≡ Some given → IsStored locn (stored_bytes (base pv) own locn) given
        → IsOnTheWay text base image may (own, Some locn) → Reads
    of_some locn given was stored way =
        ⊎_elim (λ old. of_text locn given was stored old) (λ made. of_new (Some locn) given made.1 was made.0) way.shows

    by_entry : (entry : HeaderEntry) → IsMdaFound (base pv (extent.offset / 512)) extent header
        → IsEntry (base pv (extent.offset / 512)) extent.offset extent.size entry → IsGiven (base pv) own entry before.reading
        → IsRead bare before.reading
        → ((held : Area × Option Locn) → held_by own entry ≡ Some held → IsOnTheWay text base image may held)
        → HasHeader text pv base image (found_with entry) → Reads
    by_entry Ignored found names given read way has =
        ⊎_elim (λ same. of_base Ignored same found names given)
        (λ written. absurd (let e : ◌≡◌ {A = Option (Area × Option Locn)} None (Some written.0) = written.1 in cc)) has
    by_entry Nothing found names given read way has =
        of_nothing Nothing HoldsNone refl given (again_same (Some HoldsNone) given) found names given (way (own, None) refl) has
    by_entry (Text locn) found names given read way has = of_some locn given.0 given.1 given.2 (way (own, Some locn) refl)
    by_entry (RefusedFor refusal) found names given read way has =
        ⊎_elim
        (λ is_bare. of_nothing (RefusedFor refusal) (Refused (HeaderRefused refusal)) refl given
        (may_hold_none (Refused (HeaderRefused refusal)) given is_bare) found names given (way (own, None) refl) has)
        (λ none. absurd none)
        (subst (IsRead bare) given read)

    -- an area that was cleared
    by_clearing : (entry : HeaderEntry) (o : Option Locn) → held_by own entry ≡ Some (own, o) → IsGiven (base pv) own entry before.reading
        → CanTake (own, o) → sector ≡ header_bytes (header_of own None None) → ((r : AreaReading) → bare r ≡ true) → Reads
    by_clearing entry o held given take here is_bare =
        let r = some_given entry o held given in
        of_none (header_of own None None) (may_hold_none r.0 r.1 (is_bare r.0))
        (subst (λ (s : List ℕ). IsHeader s (header_of own None None)) (sym here) (empty_header_read own take.0)) refl refl refl refl
      where
        some_given : (e : HeaderEntry) (x : Option Locn) → held_by own e ≡ Some (own, x) → IsGiven (base pv) own e before.reading
            → (r : AreaReading) × (before.reading ≡ Some r)
        some_given Ignored x is g = absurd cc
        some_given Nothing x is g = (HoldsNone, g)
        some_given (Text locn) x is g = (g.0, g.1)
        some_given (RefusedFor refusal) x is g = (Refused (HeaderRefused refusal), g)

-- the area reads again
pub area_again : (text : List ℕ) (group : Group) (passed : List (List ℕ)) → IsCopyOf text group passed
    → (may : Bool) (bare : AreaReading → Bool) (pv : ℕ) (base image : Image) (found : AreaFound) (before : AreaOf)
    → IsAreaFound (base pv) found → IsAreaReading pv (base pv) found before → IsRead bare before.reading
    → IsKnown text pv base image may bare found
    → ReadsAgain pv (image pv) found.area (Copy group text passed) may bare before
area_again text group passed copy may bare pv base image found before is reads read (inl known) =
    by_entry text group passed copy may bare pv base image found.area before reads.start_is reads.sectors_is found.header found.entry is.0
    is.1 reads.given read known.0 known.1
area_again text group passed copy may bare pv base image found before is reads read (inr cleared) =
    let same : cleared.0.0 ≡ area_on pv found.area = entry_kept (area_on pv found.area) found.entry cleared.0 cleared.1 in
    let held : held_by (area_on pv found.area) found.entry ≡ Some (area_on pv found.area, cleared.0.1) =
    cleared.1 ∙ ap (λ (a : Area). Some (a, cleared.0.1)) same in
    by_clearing text group passed copy may bare pv base image found.area before reads.start_is reads.sectors_is found.header found.entry
    cleared.0.1 held reads.given
    (subst (λ (a : Area). CanTake (a, cleared.0.1)) same cleared.2)
    (cleared.3 ∙ ap (λ (a : Area). header_bytes (header_of a None None)) same) cleared.4
