-- A disk of the committed group: each area that is read shows the new text, and gives no copy but the group's.
use Rattle.std.proofs.Common.{◌≡◌, ℕ, ◌/◌, Bool, List, [], ◌∷◌, map, Option, Some, None, refl, sym, ap, subst, ◌∙◌, arith}
use Rattle.std.specs.List.{AllByRecursion as Each}
use Rattle.std.proofs.lemmas.List.Elements.{recursion_from_All}
use Rattle.disk_model.specs.Steps.{Image}
use Rattle.disk_contents.specs.Contents.{IsAreaFound}
use Rattle.disk_contents.specs.Standing.{area_on}
use Rattle.disk_contents.specs.declared.contents.AreaFound.{AreaFound}
use Rattle.disk_contents.specs.declared.contents.PvFound.{PvFound}
use Rattle.disk_contents.specs.declared.contents.PvFound.TheVariants.{NoLabel, NoHeader, Whole}
use Rattle.mda_header.proofs.OneEntry.{one_entry}
use Rattle.mda_header.specs.Header.{IsEntry}
use Rattle.mda_header.specs.declared.entry.HeaderEntry.{HeaderEntry}
use Rattle.mda_header.specs.declared.entry.HeaderEntry.TheVariants.{Ignored, Nothing, Text, Refused as RefusedFor}
use Rattle.mda_header.specs.declared.header.Locn.{Locn}
use Rattle.mda_ring.proofs.TextBytes.{without_zero-zero}
use Rattle.mda_ring.specs.Texts.{without_zero}
use Rattle.mda_ring.specs.declared.area.Area.{Area}
use Rattle.meta_model.specs.declared.group.Group.{Group}
use Rattle.scan_rules.specs.Decision.{Area as AreaOf, AreaReading, Copy, Found as PvOf, HoldsNone, Refused}
use Rattle.vg_commit.specs.SectorReading.{ShowsBy, new_reading}
use Rattle.vg_commit.specs.Showing.{sectors_of}
use Rattle.vg_commit.specs.Written.{new_entry, stored}
use Rattle.vg_found.specs.Disks.{areas_on, held_area, held_by}
use Rattle.vg_scan.specs.Readings.{AreAreaReadings, IsAreaReading, IsContents, IsGiven, IsPvReading}
use Rattle.vg_scan.specs.Texts.{IsCopyOf, IsStored, stored_bytes}
use Rattle.image_scans.proofs.Again.{AreasAgain, GivesAgain, PvAgain}
use Rattle.image_scans.proofs.AreaReadings.{AreasGive, CopyHas, GivenHas, PvGives}
use Rattle.image_scans.proofs.SettledBase.{one_copy}

-- a copy of this group
abbrev pub IsOf : Group → Group → List ℕ → List (List ℕ) → Type 0
IsOf group other text passed = other ≡ group

-- an area gives no copy of another
abbrev pub GivesOnly : Group → AreaReading → Type 0
GivesOnly group r = CopyHas (IsOf group) r

-- an area of this disk shows the text, where it is read
abbrev pub IsShown : List ℕ → ℕ → Image → AreaFound → Type 0
IsShown text pv image found = (held : Area × Option Locn) → held_area pv found ≡ Some held → ShowsBy (new_reading text) image held

-- ---- the areas that are found on a disk

areas_read : (pv : ℕ) (sector_at : ℕ → List ℕ) (contents : Option PvFound) (own : PvOf) → IsPvReading pv sector_at contents (Some own)
    → AreAreaReadings pv sector_at (areas_on contents) own.areas
areas_read pv sector_at None own is = absurd cc
areas_read pv sector_at (Some (NoLabel refusal)) own is = absurd cc
areas_read pv sector_at (Some (NoHeader label refusal)) own is = absurd cc
areas_read pv sector_at (Some (Whole label header areas)) own is = is.1

areas_stand : (sector_at : ℕ → List ℕ) (sectors : ℕ) (contents : Option PvFound) → IsContents sector_at sectors contents
    → Each (IsAreaFound sector_at) (areas_on contents)
areas_stand sector_at sectors None is = tt
areas_stand sector_at sectors (Some (NoLabel refusal)) is = tt
areas_stand sector_at sectors (Some (NoHeader label refusal)) is = tt
areas_stand sector_at sectors (Some (Whole label header areas)) is = recursion_from_All (IsAreaFound sector_at) areas is.2.each

-- ---- one area

module _ (text : List ℕ) (group : Group) (copy : IsCopyOf text group []) where
  -- the text that is stored is the new one
  of_stored : (locn : Locn) (bytes : List ℕ) (given : AreaReading) → IsStored locn bytes given → bytes ≡ stored text → GivesOnly group given
  of_stored locn bytes HoldsNone is shown = tt
  of_stored locn bytes (Copy other others passed) is shown =
      let same : others ≡ text = is.0.text_is ∙ ap without_zero shown ∙ without_zero-zero text in
      one_copy text other group passed [] (subst (λ (t : List ℕ). IsCopyOf t other passed) same is.1) copy
  of_stored locn bytes (Refused why) is shown = tt

  module _ (pv : ℕ) (base last : Image) where
    of_shown : (found : AreaFound) (area : AreaOf) (held : Area × Option Locn) → IsAreaFound (last pv) found
        → IsAreaReading pv (last pv) found area → held.0 ≡ area_on pv found.area → ShowsBy (new_reading text) last held
        → GivenHas (GivesOnly group) area.reading
    of_shown found area held is reads same shows =
        let own : Area = area_on pv found.area in
        let locn : Locn = new_entry text held in
        let sector : List ℕ = last pv (found.area.offset / 512) in
        let first : sectors_of own last 0 ≡ sector = ap (last pv) (omega arith) in
        let names : IsEntry sector found.area.offset found.area.size (Text locn) =
        subst (λ (s : List ℕ). IsEntry s found.area.offset found.area.size (Text locn)) first
        (subst (λ (a : Area). IsEntry (sectors_of a last 0) a.start a.size (Text locn)) same shows.header)
        in
        let entry : found.entry ≡ Text locn = one_entry sector found.area.offset found.area.size found.entry (Text locn) is.1 names in
        let given : IsGiven (last pv) own (Text locn) area.reading =
        subst (λ (e : HeaderEntry). IsGiven (last pv) own e area.reading) entry reads.given in
        let bytes : stored_bytes (last pv) own locn ≡ stored text =
        ap (λ (a : Area). stored_bytes (last a.pv) a locn) (sym same) ∙ shows.ring in
        subst (GivenHas (GivesOnly group)) (sym given.1) (of_stored locn (stored_bytes (last pv) own locn) given.0 given.2 bytes)

    module _ (may : Bool) (bare : AreaReading → Bool) (new : AreaReading) where
      one_only : (before : AreaFound) (old : AreaOf) (found : AreaFound) (area : AreaOf) → IsAreaReading pv (base pv) before old
          → GivesAgain new may bare old.reading area.reading → found.area ≡ before.area
          → IsAreaFound (last pv) found → IsAreaReading pv (last pv) found area → IsShown text pv last before
          → GivenHas (GivesOnly group) area.reading
      one_only before old found area was again same is reads shows = by before.entry was.given shows
        where
          of_held : (o : Option Locn) → ShowsBy (new_reading text) last (area_on pv before.area, o)
              → GivenHas (GivesOnly group) area.reading
          of_held o shown = of_shown found area (area_on pv before.area, o) is reads (ap (area_on pv) (sym same)) shown

          by : (entry : HeaderEntry) → IsGiven (base pv) (area_on pv before.area) entry old.reading
              → ((held : Area × Option Locn) → held_by (area_on pv before.area) entry ≡ Some held → ShowsBy (new_reading text) last held)
              → GivenHas (GivesOnly group) area.reading
          by Ignored given all =
              let none : area.reading ≡ None = subst (λ (o : Option AreaReading). GivesAgain new may bare o area.reading) given again in
              subst (GivenHas (GivesOnly group)) (sym none) tt
          by Nothing given all = of_held None (all (area_on pv before.area, None) refl)
          by (Text locn) given all = of_held (Some locn) (all (area_on pv before.area, Some locn) refl)
          by (RefusedFor refusal) given all = of_held None (all (area_on pv before.area, None) refl)

      -- ---- areas in their order

      areas_only : (befores : List AreaFound) (olds : List AreaOf) (founds : List AreaFound) (areas : List AreaOf)
          → AreAreaReadings pv (base pv) befores olds → AreasAgain new may bare olds areas
          → map (λ (f : AreaFound). f.area) founds ≡ map (λ (f : AreaFound). f.area) befores → Each (IsAreaFound (last pv)) founds
          → AreAreaReadings pv (last pv) founds areas → Each (IsShown text pv last) befores
          → AreasGive (GivesOnly group) areas
      areas_only [] [] founds [] was again same is reads shows = tt
      areas_only [] [] founds (area ∷ areas) was again same is reads shows = absurd again
      areas_only [] (old ∷ olds) founds areas was again same is reads shows = absurd was
      areas_only (before ∷ befores) [] founds areas was again same is reads shows = absurd was
      areas_only (before ∷ befores) (old ∷ olds) founds [] was again same is reads shows = absurd again
      areas_only (before ∷ befores) (old ∷ olds) [] (area ∷ areas) was again same is reads shows = absurd reads
      areas_only (before ∷ befores) (old ∷ olds) (found ∷ founds) (area ∷ areas) was again same is reads shows = (
        one_only before old found area was.0 again.2 (head found before founds befores same) is.0 reads.0 shows.0,
        areas_only befores olds founds areas was.1 again.3 (tail found before founds befores same) is.1 reads.1 shows.1,
      )
        where
          head : (a b : AreaFound) (as' bs : List AreaFound)
              → map (λ (f : AreaFound). f.area) (a ∷ as') ≡ map (λ (f : AreaFound). f.area) (b ∷ bs) → a.area ≡ b.area
          head a b as' bs e = cc

          tail : (a b : AreaFound) (as' bs : List AreaFound)
              → map (λ (f : AreaFound). f.area) (a ∷ as') ≡ map (λ (f : AreaFound). f.area) (b ∷ bs)
              → map (λ (f : AreaFound). f.area) as' ≡ map (λ (f : AreaFound). f.area) bs
          tail a b as' bs e = cc

    -- ---- the disk

    pub pv_only : (may : List ℕ → Bool) (bare : List ℕ → AreaReading → Bool) (new : AreaReading) (before contents : Option PvFound)
        (sectors : ℕ) (old read : Option PvOf) → IsPvReading pv (base pv) before old → PvAgain may bare new old read
        → map (λ (f : AreaFound). f.area) (areas_on contents) ≡ map (λ (f : AreaFound). f.area) (areas_on before)
        → IsContents (last pv) sectors contents → IsPvReading pv (last pv) contents read → Each (IsShown text pv last) (areas_on before)
        → PvGives (GivesOnly group) read
    pv_only may bare new before contents sectors None None was again same is reads shows = tt
    pv_only may bare new before contents sectors None (Some own) was again same is reads shows = absurd again
    pv_only may bare new before contents sectors (Some old) None was again same is reads shows = absurd again
    pv_only may bare new before contents sectors (Some old) (Some own) was again same is reads shows =
        areas_only (may old.id) (bare old.id) new (areas_on before) old.areas (areas_on contents) own.areas
        (areas_read pv (base pv) before old was) again.1 same (areas_stand (last pv) sectors contents is)
        (areas_read pv (last pv) contents own reads) shows
