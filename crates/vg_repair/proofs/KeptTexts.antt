-- What the batches of the text keep, and what the stale areas show on the way and once they are written.
use Rattle.std.proofs.Common.{◌≡◌, ◌≤◌, ◌<◌, ℕ, ◌+◌, ◌/◌, false, List, [], ◌∷◌, length, get_or, Option, None, arith}
use Rattle.std.specs.Prelude.{All}
use Rattle.std.proofs.lemmas.List.Elements.{All-nil}
use Rattle.sector_base.specs.Spans.{covers}
use Rattle.disk_model.specs.Steps.{Image}
use Rattle.mda_header.specs.declared.header.Locn.{Locn}
use Rattle.mda_ring.specs.declared.area.Area.{Area}
use Rattle.disk_batch.specs.InTurn.{HasFirstBatches, with_batches}
use Rattle.disk_batch.proofs.FrontBatches.{KeepsSector}
use Rattle.vg_commit.specs.Plans.{HeadersRead}
use Rattle.vg_commit.specs.Preparing.{area_disks}
use Rattle.vg_commit.specs.SectorReading.{AllShow, AreSized, EachShows, new_reading, old_reading}
use Rattle.vg_commit.specs.Written.{area_span}
use Rattle.vg_commit.proofs.AreaPuts.{entry_inside, is_placed}
use Rattle.vg_commit.proofs.CommitImages.{commit_keeps, commit_shows, commit_shown}
use Rattle.change_batches.specs.Laws.{ShowsEntries, text_in}
use Rattle.change_batches.proofs.BaseShows.{base_shows, base_sized, shows_alike}
use Rattle.change_batches.specs.Building.{AreHeld}
use Rattle.vg_repair.specs.Batches.{stale_batches}
use Rattle.vg_repair.specs.Stale.{too_large_among}
use Rattle.vg_repair.proofs.RepairedShape.{rooms}
use Rattle.vg_repair.proofs.TextBatches.{all_fit, held_committed}

-- each area is outside of the sector
abbrev pub AreOutside : ℕ → ℕ → List (Area × Option Locn) → Type 0
AreOutside pv sector areas = All (λ (area : Area × Option Locn). covers (area_span area.0) pv sector ≡ false) areas

module _ (text : List ℕ) where
  -- the text has room, and what is written is read again
  pub record Fit (areas : List (Area × Option Locn)) : Type 0 where
    pub held : AreHeld areas
    pub room : too_large_among text areas ≡ None
    pub read : All (HeadersRead text) areas

  new_sized : (areas : List (Area × Option Locn)) → Fit areas → AreSized (new_reading text) areas
  new_sized areas fit k d within =
      entry_inside text (get_or areas k d) (is_placed text (get_or areas k d) (fit.held.take k d within)
      (rooms text areas fit.room k d within))

  -- sectors of other places stay
  pub texts_keep : (areas : List (Area × Option Locn)) → Fit areas → (pv sector : ℕ) → AreOutside pv sector areas
      → All (KeepsSector pv sector) (stale_batches text areas)
  texts_keep [] fit pv sector out = All-nil (KeepsSector pv sector)
  texts_keep (area ∷ areas) fit pv sector out =
      let all : List (Area × Option Locn) = area ∷ areas in
      commit_keeps text all (area_disks all) (held_committed all (omega arith) fit.held) (all_fit text all fit.room) fit.read pv sector out

  module _ (base : Image) where
    -- on the way each shows what it shows in the base, or the text
    pub texts_shows : (areas : List (Area × Option Locn)) → Fit areas → ShowsEntries areas base → (image : Image)
        → HasFirstBatches (stale_batches text areas) base image → EachShows (old_reading (text_in base)) (new_reading text) areas image
    texts_shows [] fit names image h k d within = absurd (omega (arith, within))
    texts_shows (area ∷ areas) fit names image h k d within =
        let all : List (Area × Option Locn) = area ∷ areas in
        commit_shows text all (area_disks all) (held_committed all (omega arith) fit.held) (all_fit text all fit.room) fit.read
        (text_in base) base (base_shows all base names) (base_sized all base fit.held.take) image h k d within

    -- and once they are written the text
    texts_shown : (areas : List (Area × Option Locn)) → Fit areas → ShowsEntries areas base
        → AllShow (new_reading text) areas (with_batches (stale_batches text areas) base)
    texts_shown [] fit names k d within = absurd (omega (arith, within))
    texts_shown (area ∷ areas) fit names k d within =
        let all : List (Area × Option Locn) = area ∷ areas in
        commit_shown text all (area_disks all) (held_committed all (omega arith) fit.held) (all_fit text all fit.room) fit.read
        (text_in base) base (base_shows all base names) (base_sized all base fit.held.take) k d within

    -- also in images whose sectors are the same there
    pub texts_there : (areas : List (Area × Option Locn)) → Fit areas → ShowsEntries areas base → (image : Image)
        → ((k : ℕ) (d : Area × Option Locn) → k < length areas → (sector : ℕ) → (get_or areas k d).0.start / 512 ≤ sector
        → image (get_or areas k d).0.pv sector ≡ with_batches (stale_batches text areas) base (get_or areas k d).0.pv sector)
        → AllShow (new_reading text) areas image
    texts_there areas fit names image same k d within =
        let a : Area × Option Locn = get_or areas k d in
        shows_alike (new_reading text) a (with_batches (stale_batches text areas) base) image (fit.held.take k d within).0
        (new_sized areas fit k d within)
        (λ sector inside. same k d within (a.0.start / 512 + sector) (omega arith)) (texts_shown areas fit names k d within)
