-- What an area shows in an image is what each of its sectors reads as.
use Rattle.std.proofs.Common.{◌≡◌, ◌≤◌, ◌<◌, ◌⊎◌, ℕ, ◌+◌, ◌-◌, ◌/◌, ◌%◌, Bool, true, false, IsTrue, List, length, get_or, Option, None}
use Rattle.std.proofs.Common.{Some, IfSome, inl, inr, refl, sym, ap, subst, ◌∙◌, arith}
use Rattle.std.specs.Prelude.{All}
use Rattle.std.proofs.Math.Nat.{mod-lt}
use Rattle.std.proofs.lemmas.List.FromFn.{fill_by_all, get_or-map-range_with_len, length-map-range_with_len}
use Rattle.sector_base.specs.Spans.{covers}
use Rattle.disk_model.specs.Steps.{Image, Record, now_after}
use Rattle.disk_model.specs.Record.{IsRecord}
use Rattle.disk_model.specs.Durability.{EachOnlyLeaves}
use Rattle.disk_model.specs.Moments.{EachImage}
use Rattle.disk_model.proofs.NowStands.{now_image}
use Rattle.disk_model.proofs.SectorImages.{leaves_by_images}
use Rattle.mda_header.specs.declared.header.Locn.{Locn}
use Rattle.mda_header.specs.Header.{IsInside}
use Rattle.mda_ring.specs.declared.area.Area.{Area}
use Rattle.mda_ring.specs.Areas.{CanTake, IsArea}
use Rattle.mda_ring.specs.Ring.{byte_place}
use Rattle.mda_ring.specs.Texts.{text_byte}
use Rattle.mda_ring.proofs.SpanLaws.{covers_from, covers_tells}
use Rattle.vg_commit.specs.Written.{area_span}
use Rattle.vg_commit.specs.Showing.{Names, Shows, sectors_of}
use Rattle.vg_commit.specs.SectorReading.{AllRead, AllShow, AreSized, EachShows, IsSized, Reading, Reads, ShowsBy}
use Rattle.vg_commit.specs.Commits.{Published}

-- what is shown is read in each sector
pub shows_reads : (area : Area) (entry : Option Locn) (bytes : List ℕ) (image : Image) → Shows area entry bytes image → (sector : ℕ)
    → Reads area entry bytes sector (sectors_of area image sector)
shows_reads area None bytes image s sector =
    record { header = λ e. subst (λ (k : ℕ). Names area None (sectors_of area image k)) (sym e) s.header; ring = tt }
shows_reads area (Some locn) bytes image s sector = record {
  header = λ e. subst (λ (k : ℕ). Names area (Some locn) (sectors_of area image k)) (sym e) s.header;
  ring = λ j within at.
      ap (λ (k : ℕ). get_or (sectors_of area image k) (byte_place area.size locn.offset j % 512) 0) (sym at)
      ∙ sym (get_or-map-range_with_len (text_byte (sectors_of area image) area.size locn.offset) 0 locn.size j j 0 within (omega arith))
      ∙ ap (λ (l : List ℕ). get_or l j 0) s.ring;
}

-- what is read in each sector is shown
pub reads_shows : (area : Area) (entry : Option Locn) (bytes : List ℕ) (image : Image) → IsArea area → IsSized area entry bytes
    → ((sector : ℕ) → sector < area.size / 512 → Reads area entry bytes sector (sectors_of area image sector))
    → Shows area entry bytes image
reads_shows area None bytes image good sized reads =
    let big : 1536 ≤ area.size = good.has_ring in record { header = (reads 0 (omega arith)).header refl; ring = tt }
reads_shows area (Some locn) bytes image good sized reads =
    let big : 1536 ≤ area.size = good.has_ring in
    let whole : area.size % 512 ≡ 0 = good.size_is_whole in
    let f : ℕ → ℕ = text_byte (sectors_of area image) area.size locn.offset in
    record {
      header = (reads 0 (omega arith)).header refl;
      ring = sym (fill_by_all f bytes locn.size 0 sized.1
          (λ k within.
          let below : (locn.offset - 512 + k) % (area.size - 512) < area.size - 512 = mod-lt (locn.offset - 512 + k) (omega arith) in
          sym ((reads (byte_place area.size locn.offset k / 512) (omega arith)).ring k within refl)));
    }

-- what every image shows is read in each sector, whatever a crash leaves
pub images_read : (reading : Reading) (areas : List (Area × Option Locn)) (told : Record) → IsRecord told.steps
    → EachImage (AllShow reading areas) told → EachOnlyLeaves (AllRead reading areas) told
images_read reading areas told is shows pv sector =
    leaves_by_images told pv sector (AllRead reading areas pv sector) is
    (λ image im k d within inside.
    let a : Area × Option Locn = get_or areas k d in
    let t : (a.0.pv ≡ pv) × (a.0.start / 512 ≤ sector) × (sector < a.0.start / 512 + a.0.size / 512) =
    covers_tells (area_span a.0) pv sector inside in
    let back : a.0.start / 512 + (sector - a.0.start / 512) ≡ sector = omega (arith, t.1) in
    subst (λ (p : ℕ). Reads a.0 (reading a).0 (reading a).1 (sector - a.0.start / 512) (image p sector)) t.0
    (subst (λ (s : ℕ). Reads a.0 (reading a).0 (reading a).1 (sector - a.0.start / 512) (image a.0.pv s)) back
    (shows_reads a.0 (reading a).0 (reading a).1 image (shows image im k d within) (sector - a.0.start / 512))))

-- an area of which each sector is read so shows it
area_shows : (reading : Reading) (a : Area × Option Locn) (image : Image) → IsArea a.0 → IsSized a.0 (reading a).0 (reading a).1
    → ((sector : ℕ) → IsTrue (covers (area_span a.0) a.0.pv sector)
    → Reads a.0 (reading a).0 (reading a).1 (sector - a.0.start / 512) (image a.0.pv sector)) → ShowsBy reading image a
area_shows reading a image good sized reads =
    reads_shows a.0 (reading a).0 (reading a).1 image good sized
    (λ sector inside.
    let back : (a.0.start / 512 + sector) - a.0.start / 512 ≡ sector = omega arith in
    subst (λ (s : ℕ). Reads a.0 (reading a).0 (reading a).1 s (image a.0.pv (a.0.start / 512 + sector))) back
    (reads (a.0.start / 512 + sector) (covers_from (area_span a.0) a.0.pv (a.0.start / 512 + sector) refl (omega arith) (omega arith))))

-- an image of values that are read so shows it
pub image_shows : (reading : Reading) (areas : List (Area × Option Locn)) (image : Image) → All CanTake areas → AreSized reading areas
    → ((pv sector : ℕ) → AllRead reading areas pv sector (image pv sector)) → AllShow reading areas image
image_shows reading areas image take sized reads k d within =
    let a : Area × Option Locn = get_or areas k d in
    area_shows reading a image (take k d within).0 (sized k d within) (λ sector inside. reads a.0.pv sector k d within inside)

-- in every image
pub images_show : (reading : Reading) (areas : List (Area × Option Locn)) → All CanTake areas → AreSized reading areas → (told : Record)
    → EachOnlyLeaves (AllRead reading areas) told → EachImage (AllShow reading areas) told
images_show reading areas take sized told leaves image im =
    image_shows reading areas image take sized (λ pv sector. (leaves pv sector).each (im pv sector).0 (image pv sector) (im pv sector).1)

-- of an area only the header's sector is written by headers
abbrev pub HasOneHeader : (ℕ → ℕ → Bool) → List (Area × Option Locn) → Type 0
HasOneHeader header areas =
    All (λ (a : Area × Option Locn). (sector : ℕ) → IsTrue (covers (area_span a.0) a.0.pv sector) → header a.0.pv sector ≡ true
    → sector ≡ a.0.start / 512) areas

module _ (old new : Reading) (areas : List (Area × Option Locn)) (header : ℕ → ℕ → Bool) (take : All CanTake areas)
    (fits_old : AreSized old areas) (fits_new : AreSized new areas) (one : HasOneHeader header areas) where
  -- the header's value decides which reading the whole area shows
  module _ (image : Image) (reads : (pv sector : ℕ) → Published header (AllRead old areas) (AllRead new areas) pv sector (image pv sector))
      (k : ℕ) (d : Area × Option Locn) (within : k < length areas) where
    abbrev a : Area × Option Locn
    a = get_or areas k d

    abbrev At : Reading → ℕ → Type 0
    At reading sector = Reads a.0 (reading a).0 (reading a).1 (sector - a.0.start / 512) (image a.0.pv sector)

    at_old : At old (a.0.start / 512) → (sector : ℕ) → IsTrue (covers (area_span a.0) a.0.pv sector) → (b : Bool) → header a.0.pv sector ≡ b
        → At old sector
    at_old h sector inside true is = subst (λ (s : ℕ). At old s) (sym (one k d within sector inside is)) h
    at_old h sector inside false is = ((reads a.0.pv sector).1 is).0 k d within inside

    at_new : At new (a.0.start / 512) → (sector : ℕ) → IsTrue (covers (area_span a.0) a.0.pv sector) → (b : Bool) → header a.0.pv sector ≡ b
        → At new sector
    at_new h sector inside true is = subst (λ (s : ℕ). At new s) (sym (one k d within sector inside is)) h
    at_new h sector inside false is = ((reads a.0.pv sector).1 is).1 k d within inside

    own : IsTrue (covers (area_span a.0) a.0.pv (a.0.start / 512))
    own =
        let big : 1536 ≤ a.0.size = (take k d within).0.has_ring in covers_from (area_span a.0) a.0.pv (a.0.start / 512) refl (omega arith)
        (omega arith)

    decides : AllRead old areas a.0.pv (a.0.start / 512) (image a.0.pv (a.0.start / 512))
        ⊎ AllRead new areas a.0.pv (a.0.start / 512) (image a.0.pv (a.0.start / 512)) → ShowsBy old image a ⊎ ShowsBy new image a
    decides (inl h) =
        inl (area_shows old a image (take k d within).0 (fits_old k d within)
        (λ sector inside. at_old (h k d within own) sector inside (header a.0.pv sector) refl))
    decides (inr h) =
        inr (area_shows new a image (take k d within).0 (fits_new k d within)
        (λ sector inside. at_new (h k d within own) sector inside (header a.0.pv sector) refl))

  -- each area shows one of the readings, whole
  pub images_show_either : (told : Record) → EachOnlyLeaves (Published header (AllRead old areas) (AllRead new areas)) told
      → EachImage (EachShows old new areas) told
  images_show_either told leaves image im k d within =
      let reads : (pv sector : ℕ) → Published header (AllRead old areas) (AllRead new areas) pv sector (image pv sector) =
      λ pv sector. (leaves pv sector).each (im pv sector).0 (image pv sector) (im pv sector).1 in
      decides image reads k d within (reads (get_or areas k d).0.pv ((get_or areas k d).0.start / 512)).0

-- what an area shows has as many bytes as its entry says
sized_shown : (area : Area) (entry : Option Locn) (bytes : List ℕ) (image : Image) → IfSome entry (IsInside area.size)
    → Shows area entry bytes image → IsSized area entry bytes
sized_shown area None bytes image inside s = tt
sized_shown area (Some locn) bytes image inside s =
    (inside, sym (ap length s.ring) ∙ length-map-range_with_len (text_byte (sectors_of area image) area.size locn.offset) 0 locn.size)

pub sized_old : (bytes : Area × Option Locn → List ℕ) (areas : List (Area × Option Locn)) (told : Record) → IsRecord told.steps
    → All CanTake areas → EachImage (AllShow (λ (a : Area × Option Locn). (a.1, bytes a)) areas) told
    → AreSized (λ (a : Area × Option Locn). (a.1, bytes a)) areas
sized_old bytes areas told is take shows k d within =
    let a : Area × Option Locn = get_or areas k d in
    sized_shown a.0 a.1 (bytes a) (now_after told.opened told.steps) (take k d within).1
    (shows (now_after told.opened told.steps) (now_image told is) k d within)
