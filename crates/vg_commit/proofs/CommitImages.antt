-- What areas show in an image on the way of the three batches of a commit, and once all are written.
use Rattle.std.proofs.Common.{◌≡◌, ◌≤◌, ◌<◌, ℕ, ◌+◌, ◌-◌, ◌/◌, Bool, false, List, [], ◌∷◌, map, get_or, Option, None, inl, ⊎_elim, refl}
use Rattle.std.proofs.Common.{sym, subst, ◌∙◌, arith}
use Rattle.std.specs.Prelude.{All}
use Rattle.std.specs.Ordering.{nat_cmp}
use Rattle.std.specs.FinSet.{FinSet}
use Rattle.std.proofs.lemmas.Bool.{true≢false}
use Rattle.std.proofs.lemmas.List.Elements.{All-cons, All-nil}
use Rattle.sector_base.specs.Spans.{covers}
use Rattle.disk_model.specs.Steps.{Image}
use Rattle.disk_batch.specs.InTurn.{HasFirstBatches, Put, with_batches}
use Rattle.disk_batch.specs.Writes.{disks_in}
use Rattle.disk_batch.proofs.FrontBatches.{KeepsSector, keeps_sector}
use Rattle.mda_header.specs.declared.header.Locn.{Locn}
use Rattle.mda_ring.specs.declared.area.Area.{Area}
use Rattle.mda_ring.specs.Areas.{CanTake}
use Rattle.mda_ring.proofs.SpanLaws.{covers_tells}
use Rattle.vg_commit.specs.Written.{area_span, area_writes, headers_of, publish_of, texts_of}
use Rattle.vg_commit.specs.SectorReading.{AllRead, AllShow, AreSized, EachShows, Reading, Reads, new_reading, old_reading}
use Rattle.vg_commit.specs.Commits.{MakeCommit, Published, written_at}
use Rattle.vg_commit.specs.Plans.{HeadersRead}
use Rattle.vg_commit.specs.Preparing.{AreCommitted, area_disks}
use Rattle.vg_commit.specs.TooLarge.{first_too_large}
use Rattle.vg_commit.proofs.AreaPuts.{entry_inside, is_placed}
use Rattle.vg_commit.proofs.AreasCommit.{header_area, make_commit, one_header, publish_area, rooms, text_area}
use Rattle.vg_commit.proofs.CommitInTurn.{all_new, in_turn, unpublished}
use Rattle.vg_commit.proofs.Disks.{headers_on, no_area, texts_on}
use Rattle.vg_commit.proofs.ShownSectors.{HasOneHeader, image_shows, images_show_either, shows_reads}

-- what an image shows is read in each of its sectors
pub image_reads : (reading : Reading) (areas : List (Area × Option Locn)) (image : Image) → AllShow reading areas image → (pv sector : ℕ)
    → AllRead reading areas pv sector (image pv sector)
image_reads reading areas image shows pv sector k d within inside =
    let a : Area × Option Locn = get_or areas k d in
    let t : (a.0.pv ≡ pv) × (a.0.start / 512 ≤ sector) × (sector < a.0.start / 512 + a.0.size / 512) =
    covers_tells (area_span a.0) pv sector inside in
    let back : a.0.start / 512 + (sector - a.0.start / 512) ≡ sector = omega (arith, t.1) in
    subst (λ (p : ℕ). Reads a.0 (reading a).0 (reading a).1 (sector - a.0.start / 512) (image p sector)) t.0
    (subst (λ (s : ℕ). Reads a.0 (reading a).0 (reading a).1 (sector - a.0.start / 512) (image a.0.pv s)) back
    (shows_reads a.0 (reading a).0 (reading a).1 image (shows k d within) (sector - a.0.start / 512)))

-- an image of values that are read since the headers are published shows one of the readings, whole, in each area
pub image_shows_either : (old new : Reading) (areas : List (Area × Option Locn)) (header : ℕ → ℕ → Bool) → All CanTake areas
    → AreSized old areas → AreSized new areas → HasOneHeader header areas
    → (image : Image) → ((pv sector : ℕ) → Published header (AllRead old areas) (AllRead new areas) pv sector (image pv sector))
    → EachShows old new areas image
image_shows_either old new areas header take fits_old fits_new one image reads =
    images_show_either old new areas header take fits_old fits_new one (record { opened = image; steps = [] })
    (λ pv sector. record {
      each = λ write value may. subst (Published header (AllRead old areas) (AllRead new areas) pv sector) (sym may.1)
          (reads pv sector);
    })
    image (λ pv sector. (None, (refl, refl)))

module _ (text : List ℕ) (areas : List (Area × Option Locn)) (flush : FinSet nat_cmp) (committed : AreCommitted areas flush)
    (room : first_too_large text areas ≡ None) (read : All (HeadersRead text) areas) where
  abbrev texts : List Put
  texts = texts_of (map (area_writes text) areas)

  abbrev headers : List Put
  headers = headers_of (map (area_writes text) areas)

  abbrev publish : List Put
  publish = publish_of (map (area_writes text) areas)

  abbrev batches : List (List Put)
  batches = texts ∷ headers ∷ publish ∷ []

  some_bytes : Area × Option Locn → List ℕ
  some_bytes a = []

  -- a sector that is none of the areas' isn't written
  pub commit_keeps : (pv sector : ℕ) → All (λ (a : Area × Option Locn). covers (area_span a.0) pv sector ≡ false) areas
      → All (KeepsSector pv sector) batches
  commit_keeps pv sector out =
      All-cons (KeepsSector pv sector) texts (headers ∷ publish ∷ [])
      (keeps_sector texts pv sector (λ value by.
      let w = text_area text areas some_bytes committed.take committed.apart room read no_area pv sector value by in
      true≢false (sym w.2 ∙ out w.0 no_area w.1)))
      (All-cons (KeepsSector pv sector) headers (publish ∷ [])
      (keeps_sector headers pv sector (λ value by.
      let w = header_area text areas some_bytes committed.take committed.apart room read no_area pv sector value by in
      true≢false (sym w.2 ∙ out w.0 no_area w.1)))
      (All-cons (KeepsSector pv sector) publish []
      (keeps_sector publish pv sector (λ value by.
      let w = publish_area text areas some_bytes committed.take committed.apart room read no_area pv sector value by in
      true≢false (sym w.2 ∙ out w.0 no_area w.1)))
      (All-nil (KeepsSector pv sector))))

  -- over a base in which each area shows its entry and these bytes
  module _ (bytes : Area × Option Locn → List ℕ) (base : Image) (shows : AllShow (old_reading bytes) areas base)
      (sized : AreSized (old_reading bytes) areas) where
    abbrev Old : ℕ → ℕ → List ℕ → Type 0
    Old = AllRead (old_reading bytes) areas

    abbrev New : ℕ → ℕ → List ℕ → Type 0
    New = AllRead (new_reading text) areas

    make : MakeCommit Old New texts headers publish (disks_in flush) (disks_in (area_disks areas))
    make =
        make_commit text areas bytes committed.take committed.apart room read (disks_in flush) (disks_in (area_disks areas))
        (texts_on areas flush committed.on_disks) (headers_on areas flush committed.on_disks) no_area

    olds : (pv sector : ℕ) → Old pv sector (base pv sector)
    olds = image_reads (old_reading bytes) areas base shows

    sized_new : AreSized (new_reading text) areas
    sized_new k d within =
        entry_inside text (get_or areas k d) (is_placed text (get_or areas k d) (committed.take k d within)
        (rooms text areas room k d within))

    one : HasOneHeader (written_at headers) areas
    one k d within sector inside is = one_header text areas bytes committed.take committed.apart room read k d within sector inside is

    -- each shows, whole, these or the new entry with the text
    pub commit_shows : (image : Image) → HasFirstBatches batches base image → EachShows (old_reading bytes) (new_reading text) areas image
    commit_shows image h =
        ⊎_elim
        (λ all k d within. inl (image_shows (old_reading bytes) areas image committed.take sized all k d within))
        (λ all. image_shows_either (old_reading bytes) (new_reading text) areas (written_at headers) committed.take sized sized_new one
        image all)
        (in_turn Old New texts headers publish (disks_in flush) (disks_in (area_disks areas)) make base olds image h)

    -- before the headers are published each shows these
    pub commit_unpublished : (image : Image) → HasFirstBatches (texts ∷ headers ∷ []) base image → AllShow (old_reading bytes) areas image
    commit_unpublished image h =
        image_shows (old_reading bytes) areas image committed.take sized
        (unpublished Old New texts headers publish (disks_in flush) (disks_in (area_disks areas)) make base olds image h)

    -- and the new one once all is written
    pub commit_shown : AllShow (new_reading text) areas (with_batches batches base)
    commit_shown =
        image_shows (new_reading text) areas (with_batches batches base) committed.take sized_new
        (all_new Old New texts headers publish (disks_in flush) (disks_in (area_disks areas)) make base olds)
