-- What is sealed is a label, and the rest of the sector stays.
use Rattle.std.proofs.Common.{◌≡◌, ◌<◌, ℕ, List, drop, ◌++◌, refl, ◌^◌}
use Rattle.sector_base.specs.Checksum.{checksum, lvm_crc_start}
use Rattle.sector_base.specs.Fields.{little_bytes}
use Rattle.sector_base.proofs.Puts.{field-front}
use Rattle.pv_label.specs.Label.{IsLabel}
use Rattle.pv_label.specs.LabelBytes.{summed_bytes, with_label}

pub IsLabel-with_label : (contents : List ℕ) (number : ℕ) → number < 256 ^ 8 → checksum lvm_crc_start (summed_bytes contents) < 256 ^ 4
    → IsLabel (with_label contents number) number
IsLabel-with_label contents number fits sum_fits = record {
  id = refl;
  sector_is = field-front 8 number (little_bytes 4 (checksum lvm_crc_start (summed_bytes contents)) ++ summed_bytes contents) fits;
  crc_is = field-front 4 (checksum lvm_crc_start (summed_bytes contents)) (summed_bytes contents) sum_fits;
  offset_is = refl;
  kind = refl;
}

pub drop-with_label : (contents : List ℕ) (number : ℕ) → drop 32 (with_label contents number) ≡ drop 32 contents
drop-with_label contents number = refl
