-- The label of lvm2's on-disk format, `struct label_header`, and why a sector or the four first sectors have none.
use Rattle.std.specs.Prelude.{◌≡◌, ◌≢◌, ℕ, ◌<◌, List, [], take, drop, slice_index_or, codes}
use Rattle.sector_base.specs.Fields.{field}
use Rattle.sector_base.specs.Checksum.{checksum, lvm_crc_start}
use Rattle.pv_label.specs.declared.refusal.LabelRefusal.{LabelRefusal}
use Rattle.pv_label.specs.declared.refusal.LabelRefusal.TheVariants.{NoLabel, WrongSector, BadSum, BadOffset, BadType}

-- lvm2's label header stands in the sector, for the sector of this number
pub record IsLabel (sector : List ℕ) (number : ℕ) : Type 0 where
  pub id : take 8 sector ≡ codes "LABELONE"
  pub sector_is : field 8 sector 8 ≡ number
  pub crc_is : field 4 sector 16 ≡ checksum lvm_crc_start (drop 20 sector)
  pub offset_is : field 4 sector 20 ≡ 32
  pub kind : take 8 (drop 24 sector) ≡ codes "LVM2 001"

-- the sector begins as a label does
abbrev pub BeginsLikeLabel : List ℕ → Type 0
BeginsLikeLabel sector = take 8 sector ≡ codes "LABELONE"

-- the sector of this number isn't a label, and this is the first test that it fails, with the values that differ
abbrev pub IsRefused : List ℕ → ℕ → LabelRefusal → Type 0
IsRefused sector number NoLabel = ¬ BeginsLikeLabel sector
IsRefused sector number (WrongSector said found) =
    BeginsLikeLabel sector × (field 8 sector 8 ≡ said) × (found ≡ number) × (said ≢ number)
IsRefused sector number (BadSum at) =
    BeginsLikeLabel sector × (field 8 sector 8 ≡ number) × (at ≡ number) × (field 4 sector 16 ≢ checksum lvm_crc_start (drop 20 sector))
IsRefused sector number (BadOffset said) =
    BeginsLikeLabel sector × (field 8 sector 8 ≡ number) × (field 4 sector 16 ≡ checksum lvm_crc_start (drop 20 sector))
    × (field 4 sector 20 ≡ said) × (said ≢ 32)
IsRefused sector number BadType =
    BeginsLikeLabel sector × (field 8 sector 8 ≡ number) × (field 4 sector 16 ≡ checksum lvm_crc_start (drop 20 sector))
    × (field 4 sector 20 ≡ 32)
    × (take 8 (drop 24 sector) ≢ codes "LVM2 001")

-- the sector of this number
abbrev pub sector_at : List (List ℕ) → ℕ → List ℕ
sector_at sectors number = slice_index_or sectors number []

-- the first of the four sectors that is a label for its own number
pub record IsFirstLabel (sectors : List (List ℕ)) (number : ℕ) : Type 0 where
  pub among : number < 4
  pub label : IsLabel (sector_at sectors number) number
  pub first : (k : ℕ) → k < number → ¬ IsLabel (sector_at sectors k) k

-- the refusal of the first of so many sectors that begins like a label, or that none does
abbrev pub IsFirstRefusal : List (List ℕ) → ℕ → LabelRefusal → Type 0
IsFirstRefusal sectors count NoLabel = (k : ℕ) → k < count → ¬ BeginsLikeLabel (sector_at sectors k)
IsFirstRefusal sectors count refusal =
    (number : ℕ) × (number < count) × BeginsLikeLabel (sector_at sectors number)
    × ((k : ℕ) → k < number → ¬ BeginsLikeLabel (sector_at sectors k))
    × IsRefused (sector_at sectors number) number refusal

-- no sector of the four is a label, and this is why
pub record IsLabelRefusal (sectors : List (List ℕ)) (refusal : LabelRefusal) : Type 0 where
  pub none : (k : ℕ) → k < 4 → ¬ IsLabel (sector_at sectors k) k
  pub cause : IsFirstRefusal sectors 4 refusal
