-- What areas show in a base whose headers name their entries, and in images that are alike there.
use Rattle.std.proofs.Common.{◌≡◌, ◌<◌, ℕ, ◌/◌, List, get_or, Option, None, Some, IfSome, refl, sym, subst}
use Rattle.std.specs.Prelude.{All}
use Rattle.std.proofs.lemmas.List.FromFn.{length-map-range_with_len}
use Rattle.disk_model.specs.Steps.{Image}
use Rattle.mda_header.specs.declared.header.Locn.{Locn}
use Rattle.mda_header.specs.Header.{IsInside}
use Rattle.mda_ring.specs.declared.area.Area.{Area}
use Rattle.mda_ring.specs.Areas.{CanTake, IsArea}
use Rattle.mda_ring.specs.Texts.{text_byte}
use Rattle.vg_commit.specs.SectorReading.{AllShow, AreSized, IsSized, Reading, Reads, ShowsBy, old_reading}
use Rattle.vg_commit.specs.Showing.{Names, sectors_of}
use Rattle.vg_commit.proofs.ShownSectors.{reads_shows, shows_reads}
use Rattle.change_batches.specs.Laws.{ShowsEntries, text_in}

-- an area shows its entry, and the bytes that stand there
shown : (base : Image) (area : Area) (entry : Option Locn) → Names area entry (sectors_of area base 0)
    → ShowsBy (old_reading (text_in base)) base (area, entry)
shown base area None names = record { header = names; ring = tt }
shown base area (Some locn) names = record { header = names; ring = refl }

pub base_shows : (areas : List (Area × Option Locn)) (base : Image) → ShowsEntries areas base
    → AllShow (old_reading (text_in base)) areas base
base_shows areas base names k d within = let a : Area × Option Locn = get_or areas k d in shown base a.0 a.1 (names k d within)

-- as many as it says
pub sized : (base : Image) (area : Area) (entry : Option Locn) → IfSome entry (IsInside area.size)
    → IsSized area entry (text_in base (area, entry))
sized base area None inside = tt
sized base area (Some locn) inside =
    (inside, length-map-range_with_len (text_byte (sectors_of area base) area.size locn.offset) 0 locn.size)

pub base_sized : (areas : List (Area × Option Locn)) (base : Image) → All CanTake areas → AreSized (old_reading (text_in base)) areas
base_sized areas base can k d within = let a : Area × Option Locn = get_or areas k d in sized base a.0 a.1 (can k d within).1

-- an area whose sectors are as in another image shows what it shows there
pub shows_alike : (reading : Reading) (a : Area × Option Locn) (old new : Image) → IsArea a.0 → IsSized a.0 (reading a).0 (reading a).1
    → ((sector : ℕ) → sector < a.0.size / 512 → sectors_of a.0 new sector ≡ sectors_of a.0 old sector) → ShowsBy reading old a
    → ShowsBy reading new a
shows_alike reading a old new good fits same shows =
    reads_shows a.0 (reading a).0 (reading a).1 new good fits
    (λ sector inside. subst (Reads a.0 (reading a).0 (reading a).1 sector) (sym (same sector inside))
    (shows_reads a.0 (reading a).0 (reading a).1 old shows sector))
