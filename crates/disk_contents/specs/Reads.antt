-- Which sectors a report reads, each span once and in this order: those where the label may be, and then the header
-- sector of each metadata area.
use Rattle.std.specs.Prelude.{◌≡◌, ◌⊎◌, ℕ, ◌*◌, ◌/◌, List, [], ◌∷◌, ◌++◌, map}
use Rattle.sector_base.specs.declared.spans.Span.{Span}
use Rattle.disk_model.specs.Puts.{one_sector}
use Rattle.disk_model.specs.Since.{HoldsOfDisk, ReadsTold}
use Rattle.disk_model.specs.State.{State}
use Rattle.pv_header.specs.declared.extent_list.Extent.{Extent}
use Rattle.pv_header.specs.declared.header.PvHeader.{PvHeader}
use Rattle.pv_header.specs.PvRefusal.{Reads}
use Rattle.pv_label.specs.Label.{IsFirstLabel}
use Rattle.disk_contents.specs.declared.contents.PvFound.{PvFound}
use Rattle.disk_contents.specs.declared.contents.PvFound.TheVariants.{NoLabel, NoHeader, Whole}
use Rattle.pv_label.specs.LabelSectors.{first_four, label_span}
use Rattle.disk_contents.specs.Contents.{IsFound}

-- the header sectors of these metadata areas
abbrev pub area_spans : ℕ → List Extent → List Span
area_spans pv areas = map (λ (area : Extent). one_sector pv (area.offset / 512)) areas

-- the metadata areas of what was found
abbrev pub areas_found : PvFound → List Extent
areas_found (NoLabel refusal) = []
areas_found (NoHeader label refusal) = []
areas_found (Whole label header areas) = header.areas

-- these are the metadata areas that the header in the label sector names, or none
abbrev pub AreAreasOf : (ℕ → List ℕ) → ℕ → List Extent → Type 0
AreAreasOf sector_at disk areas =
    (areas ≡ []) ⊎ ((label : ℕ) × (header : PvHeader) × IsFirstLabel (first_four sector_at) label
    × Reads (sector_at label) (disk * 512) header × (areas ≡ header.areas))

-- all sectors were read that a report on this disk reads
pub record ReadsAllOf (pv disk : ℕ) (old new : State) : Type 0 where
  pub found : PvFound
  pub is : HoldsOfDisk old.told pv (λ sector_at. IsFound sector_at disk found)
  pub reads : ReadsTold old.told (label_span pv ∷ area_spans pv (areas_found found)) new.told

-- the first so many of them were read, and nothing else
pub record ReadsFirstOf (pv disk : ℕ) (old new : State) : Type 0 where
  pub areas : List Extent
  pub are : HoldsOfDisk old.told pv (λ sector_at. AreAreasOf sector_at disk areas)
  pub read : List Span
  pub rest : List Span
  pub front : read ++ rest ≡ label_span pv ∷ area_spans pv areas
  pub reads : ReadsTold old.told read new.told
