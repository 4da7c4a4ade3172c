-- A label sector is read as the label and the header behind it, and the header of a new area as that of an empty one.
use Rattle.std.proofs.Common.{◌≡◌, ◌≢◌, ◌<◌, ℕ, ◌^◌, false, List, [], ◌++◌, replicate, codes, None, refl, sym, ap, subst, arith}
use Rattle.std.specs.Prelude.{All}
use Rattle.std.proofs.lemmas.List.{drop_at}
use Rattle.sector_base.specs.Checksum.{checksum, lvm_crc_start}
use Rattle.sector_base.specs.Fields.{little_bytes}
use Rattle.lvm_id.specs.LvmId.{IsId}
use Rattle.disk_model.specs.Steps.{Image}
use Rattle.pv_label.specs.Label.{IsLabel}
use Rattle.pv_label.specs.LabelBytes.{summed_bytes}
use Rattle.pv_label.proofs.LabelBytes.{IsLabel-with_label}
use Rattle.pv_header.specs.declared.extent_list.Extent.{Extent}
use Rattle.pv_header.specs.declared.header.PvHeader.{PvHeader}
use Rattle.pv_header.specs.Extents.{Fits64}
use Rattle.pv_header.specs.PvHeader.{IsPvHeader, header_bytes as pv_bytes}
use Rattle.pv_header.proofs.WrittenHeader.{IsPvHeader-written}
use Rattle.mda_header.specs.Header.{IsHeader}
use Rattle.mda_header.specs.HeaderBytes.{header_bytes as mda_bytes, summed_bytes as mda_summed}
use Rattle.mda_header.proofs.ReadAgain.{header_read}
use Rattle.group_plan.specs.declared.state.NewLabel.{NewLabel}
use Rattle.change_batches.specs.Batches.{empty_area, label_bytes}
use Rattle.change_batches.specs.Laws.{HasLabel}
use Rattle.change_batches.specs.Sound.{CanLabel, FitsFields}
use Rattle.change_batches.proofs.ChecksumBound.{checksum_below}

-- the header can be read where it is written, but for its two numbers
pub record CanBeFound (header : PvHeader) : Type 0 where
  pub id : IsId header.id
  pub version : header.version ≡ 2
  pub data_fit : All Fits64 header.data_areas
  pub areas_fit : All Fits64 header.areas
  pub offsets : All (λ (area : Extent). area.offset ≢ 0) (header.data_areas ++ header.areas)

module _ (label : NewLabel) where
  abbrev contents : List ℕ
  contents = replicate 32 0 ++ pv_bytes label.header

  -- the label itself
  abbrev front : List ℕ
  front =
      codes "LABELONE" ++ (little_bytes 8 label.sector
      ++ (little_bytes 4 (checksum lvm_crc_start (summed_bytes contents)) ++ (little_bytes 4 32 ++ codes "LVM2 001")))

  parts : label_bytes label ≡ front ++ pv_bytes label.header
  parts = ap (λ (back : List ℕ). front ++ back) (drop_at (replicate 32 0) (pv_bytes label.header) 32 refl)

  pub label_read : CanLabel label → IsLabel (label_bytes label) label.sector
  label_read can =
      let low : label.sector < 4 = can.sector_below in
      let below : checksum lvm_crc_start (summed_bytes contents) < 2 ^ 32 = checksum_below lvm_crc_start (summed_bytes contents) in
      IsLabel-with_label contents label.sector (omega (arith, low)) (omega (arith, below))

  same_version : (header : PvHeader) → header.version ≡ 2 → record header { version = 2 } ≡ header
  same_version header two = λ i. record header { version = sym two i }

  pub header_found : CanLabel label → FitsFields label → CanBeFound label.header → IsPvHeader (label_bytes label) label.header []
  header_found can fits found =
      subst (λ (h : PvHeader). IsPvHeader (label_bytes label) h []) (same_version label.header found.version)
      (IsPvHeader-written (label_bytes label) front label.header refl parts found.id fits.device fits.flags can.fits found.data_fit
      found.areas_fit found.offsets)

  -- so both are found in an image that has its bytes
  pub has_label : (image : Image) → CanLabel label → FitsFields label → CanBeFound label.header
      → image label.disk label.sector ≡ label_bytes label → HasLabel image label
  has_label image can fits found there = record {
    label = subst (λ (sector : List ℕ). IsLabel sector label.sector) (sym there) (label_read can);
    header = subst (λ (sector : List ℕ). IsPvHeader sector label.header []) (sym there) (header_found can fits found);
  }

-- the header of an empty area of at most 2^63 bytes
pub empty_read : (area : Extent) → area.offset < 2 ^ 63 → area.size < 2 ^ 63 → IsHeader (mda_bytes (empty_area area)) (empty_area area)
empty_read area starts sized =
    let below : checksum lvm_crc_start (mda_summed (empty_area area)) < 2 ^ 32 =
    checksum_below lvm_crc_start (mda_summed (empty_area area)) in
    header_read area.offset area.size None None false (omega (arith, starts)) (omega (arith, sized)) tt tt (omega (arith, below)) tt tt
