-- What a metadata area shows in an image: which text its header names, and the text's bytes in its ring.
use Rattle.std.specs.Prelude.{◌≡◌, ◌⊎◌, ℕ, ◌+◌, ◌/◌, List, Option, None, Some}
use Rattle.disk_model.specs.Steps.{Image}
use Rattle.mda_header.specs.declared.entry.HeaderEntry.TheVariants.{Nothing, Text, Refused}
use Rattle.mda_header.specs.declared.header.Locn.{Locn}
use Rattle.mda_header.specs.declared.refusal.MdaRefusal.{MdaRefusal}
use Rattle.mda_header.specs.Header.{IsEntry}
use Rattle.mda_ring.specs.declared.area.Area.{Area}
use Rattle.mda_ring.specs.Texts.{text_at}

-- the sectors of the area in an image, the header as sector 0
abbrev pub sectors_of : Area → Image → ℕ → List ℕ
sectors_of area image sector = image area.pv (area.start / 512 + sector)

-- the header says that this text is committed, or that none is; one that is refused says none
abbrev pub Names : Area → Option Locn → List ℕ → Type 0
Names area (Some locn) header = IsEntry header area.start area.size (Text locn)
Names area None header =
    IsEntry header area.start area.size Nothing ⊎ ((refusal : MdaRefusal) × IsEntry header area.start area.size (Refused refusal))

-- the ring has these bytes at the entry
abbrev pub HasBytes : Area → Option Locn → List ℕ → (ℕ → List ℕ) → Type 0
HasBytes area (Some locn) bytes sector_at = text_at sector_at area.size locn.offset locn.size ≡ bytes
HasBytes area None bytes sector_at = Unit {0}

-- the area shows this entry and these bytes of its text in the image
pub record Shows (area : Area) (entry : Option Locn) (bytes : List ℕ) (image : Image) : Type 0 where
  pub header : Names area entry (sectors_of area image 0)
  pub ring : HasBytes area entry bytes (sectors_of area image)
