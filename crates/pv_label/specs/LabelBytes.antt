-- What is written of a label, byte for byte.
use Rattle.std.specs.Prelude.{ℕ, List, drop, ◌++◌, codes}
use Rattle.sector_base.specs.Fields.{little_bytes}
use Rattle.sector_base.specs.Checksum.{checksum, lvm_crc_start}

-- the bytes of the label header that its checksum covers, and what follows them in the sector
abbrev pub summed_bytes : List ℕ → List ℕ
summed_bytes contents = little_bytes 4 32 ++ (codes "LVM2 001" ++ drop 32 contents)

-- the sector with these contents and the label header of the sector of this number
abbrev pub with_label : List ℕ → ℕ → List ℕ
with_label contents number =
    codes "LABELONE" ++ (little_bytes 8 number
    ++ (little_bytes 4 (checksum lvm_crc_start (summed_bytes contents)) ++ summed_bytes contents))
